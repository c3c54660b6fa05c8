use Rattle.std.proofs.Common.{◌∙◌, sym, subst, ap}
use Rattle.ks_space.specs.Store.{IsStore}
use Rattle.ks_space.specs.Purge.{dues}
use Rattle.ks_space.proofs.Dues.{dues-empty}
use Rattle.ks_space.proofs.Stores.{IsStore-empty}
use Rattle.ks_space.proofs.space.Space.clear.Goals as goal

pub invariant_of-self : goal.invariant_of-self
invariant_of-self c = (
  subst IsStore (sym c.clear.ensures) IsStore-empty,
  c.clear-2.ensures ∙ dues-empty
      ∙ ap dues (sym c.clear.ensures),
)
