use Rattle.std.proofs.Common.{◌∙◌, sym, ap}
use Rattle.std.specs.Cmp.{nat_cmp_total}
use Rattle.std.specs.FinMap as finite
use Rattle.std.specs.FinMap.{nat_cmp-IsAntisymmetric}
use Rattle.cl_core.proofs.MapLaws.{get_entries, left}
use Rattle.cl_core.proofs.client.Clients.take.Goals as goal

pub returns-clause-client : goal.returns-clause-client
returns-clause-client c = c.remove.ensures.value
    ∙ sym (get_entries nat_cmp_total c.self.inside.open.entries c.args.number)
    ∙ ap (λ m. finite.get m c.args.number) c.self.view_is

pub returns-clause-others : goal.returns-clause-others
returns-clause-others c =
    left nat_cmp_total nat_cmp-IsAntisymmetric c.self.inside.open.entries c.remove.new.self.entries c.args.self.now
    c.args.number c.self.view_is c.remove.ensures.updates.0
