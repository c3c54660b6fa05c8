use Rattle.std.proofs.Common.{◌∙◌, ap, sym, subst}
use Rattle.ks_space.specs.Store.{IsStore}
use Rattle.ks_space.specs.Purge.{dues}
use Rattle.ks_space.proofs.space.Space.snapshot.Goals as goal

pub invariant_of-result : goal.invariant_of-result
invariant_of-result c = (
  subst IsStore (sym c.in_ok-table.ensures.cases) c.self.invariant.0,
  c.in_ok-deadlines.ensures.cases ∙ c.self.invariant.1 ∙ ap dues (sym c.in_ok-table.ensures.cases),
)
