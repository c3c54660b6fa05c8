use Rattle.std.proofs.Common.{◌≡◌, ◌∙◌, ap, sym, Some, rules}
use Rattle.std.specs.FinMap as finite
use Rattle.ks_zset.proofs.Ranked.{insert_same}
use Rattle.ks_zset.proofs.zset.Zset.insert.Goals as goal

pub returns-then-get-number-clause-ok : goal.returns-then-get-number-clause-ok
returns-then-get-number-clause-ok c =
    let same : c.in-Some.old ≡ c.args.score = search rules in
    insert_same c.args.self.now c.args.member c.args.score (ap (λ z. finite.get z c.args.member) (sym c.self.view_is)
    ∙ ap (finite.get c.self.inside.scores) (sym c.as_slice.ensures.value) ∙ sym c.get.ensures ∙ c.in-Some.is
    ∙ ap Some same)
