use Rattle.std.proofs.Common.{◌∙◌, sym, subst, ap}
use Rattle.ks_space.specs.Store.{IsStore}
use Rattle.ks_space.specs.Purge.{dues}
use Rattle.ks_space.proofs.Dues.{dues-empty}
use Rattle.ks_space.proofs.Stores.{IsStore-empty}
use Rattle.ks_space.proofs.space.Space.new.Goals as goal

pub invariant_of-result : goal.invariant_of-result
invariant_of-result c = (
  subst IsStore (sym c.new.ensures) IsStore-empty,
  c.new-2.ensures ∙ dues-empty
      ∙ ap dues (sym c.new.ensures),
)
