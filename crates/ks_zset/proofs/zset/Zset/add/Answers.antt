use Rattle.std.proofs.Common.{◌∙◌, ap, ap₂, sym, subst}
use Rattle.std.specs.BTreeSet.{insert_key}
use Rattle.std.specs.FinMap as finite
use Rattle.ks_zset.specs.Zset.{HasWholeScores, by_score, ranking_of}
use Rattle.ks_zset.proofs.Ranked.{lacks_absent, ranking-insert_new}
use Rattle.ks_zset.proofs.WholeScores.{whole-insert}
use Rattle.ks_zset.proofs.zset.Zset.add.Goals as goal

pub insert-requires : goal.insert-requires
insert-requires c = rw (c.in_ok-clone.ensures.cases, c.self.invariant.0, c.self.view_is)
    (lacks_absent c.args.self.now c.args.member c.args.score c.requires.absent)

pub invariant_of-self-in-Ok : goal.invariant_of-self-in-Ok
invariant_of-self-in-Ok c = (
  c.in_ok-place.ensures.ok
      ∙ ap₂ (λ l m. insert_key by_score l (m, c.args.score)) (c.self.invariant.0
      ∙ ap ranking_of c.self.view_is) c.in_ok-clone.ensures.cases
      ∙ sym (ranking-insert_new c.args.self.now c.args.member c.args.score c.requires.absent)
      ∙ ap ranking_of (ap (λ z. finite.insert z c.args.member c.args.score) (sym c.self.view_is)
      ∙ sym c.in-Ok.ensures.ok),
  subst HasWholeScores (sym c.in-Ok.ensures.ok)
      (whole-insert c.self.inside.scores c.args.member c.args.score c.self.invariant.1 c.requires.whole),
)

pub returns-in-Ok-clause-whole : goal.returns-in-Ok-clause-whole
returns-in-Ok-clause-whole c =
    subst HasWholeScores (sym c.in-Ok.ensures.ok)
    (whole-insert c.self.inside.scores c.args.member c.args.score c.self.invariant.1 c.requires.whole)
