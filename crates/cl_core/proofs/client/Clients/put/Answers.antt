use Rattle.std.specs.Cmp.{nat_cmp_total}
use Rattle.std.specs.FinMap.{nat_cmp-IsAntisymmetric}
use Rattle.cl_core.proofs.MapLaws.{inserted}
use Rattle.cl_core.proofs.client.Clients.put.Goals as goal

pub returns : goal.returns
returns c =
    inserted nat_cmp_total nat_cmp-IsAntisymmetric c.self.inside.open.entries c.insert.new.self.entries
    c.args.self.now c.args.number c.args.client c.self.view_is
    c.in_ok-insert.ensures.updates.0
