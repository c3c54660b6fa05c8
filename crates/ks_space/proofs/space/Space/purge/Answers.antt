use Rattle.std.proofs.Common.{◌∙◌, ◌∷◌, [], ◌++◌, ap, sym, append_assoc}
use Rattle.ks_space.specs.Purge.{gone}
use Rattle.ks_space.proofs.Gone.{purged-first, purged-none}
use Rattle.ks_space.proofs.space.Space.purge.Goals as goal

pub loop-key-preserved : goal.loop-key-preserved
loop-key-preserved c =
    let after = c.pop_gone.new.self in
    let time = c.args.now in (
      ap (λ ks. ks ++ gone after time) c.in_ok-push.ensures.ok
          ∙ append_assoc c.loop-key.keys (c.in-Some.key ∷ []) (gone after time)
          ∙ ap (λ l. c.loop-key.keys ++ l) (sym c.in-Some.ensures.first) ∙ c.loop-key.invariant.0,
      sym (purged-first c.loop-key.self after time c.in-Some.key c.in-Some.ensures.first c.in-Some.ensures.left)
          ∙ c.loop-key.invariant.1,
    )

pub returns-clause-ok : goal.returns-clause-ok
returns-clause-ok c = c.in_default.ensures.none
    ∙ sym (purged-none c.loop-key.self c.args.now c.in_default.ensures.all) ∙ c.loop-key.invariant.1
