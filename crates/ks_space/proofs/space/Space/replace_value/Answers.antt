use Rattle.std.proofs.Common.{◌∙◌, ap, sym, subst}
use Rattle.std.specs.Option.{IfSome}
use Rattle.ks_space.specs.Store.{IsValue, IsStore}
use Rattle.ks_space.specs.Purge.{dues}
use Rattle.ks_space.proofs.Dues.{dues-with_value}
use Rattle.ks_space.proofs.Stores.{IsStore-with_value, value_kept}
use Rattle.ks_space.proofs.space.Space.replace_value.Goals as goal

pub invariant_of-self : goal.invariant_of-self
invariant_of-self c =
    let table = c.self.inside.table in (
      subst IsStore (sym c.replace_value.ensures.changed)
          (IsStore-with_value table c.args.key.now c.args.value c.self.invariant.0 c.requires),
      dues-with_value table c.args.key.now c.args.value c.self.inside.deadlines c.self.invariant.1
          ∙ ap dues (sym c.replace_value.ensures.changed),
    )

pub returns-clause-kept : goal.returns-clause-kept
returns-clause-kept c =
    subst (λ old. IfSome old IsValue) (sym c.replace_value.ensures.old)
    (value_kept c.self.inside.table c.args.key.now c.self.invariant.0)
