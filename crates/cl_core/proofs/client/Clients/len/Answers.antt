use Rattle.std.proofs.Common.{◌∙◌, sym, ap}
use Rattle.std.specs.Cmp.{nat_cmp_total}
use Rattle.std.specs.FinMap as finite
use Rattle.std.specs.FinMap.{nat_cmp-IsAntisymmetric}
use Rattle.cl_core.proofs.MapLaws.{len_rising}
use Rattle.cl_core.proofs.client.Clients.len.Goals as goal

pub returns : goal.returns
returns c = c.len.ensures.len ∙ sym
    (len_rising nat_cmp_total nat_cmp-IsAntisymmetric c.self.inside.open.entries c.len.ensures.ordered)
    ∙ ap finite.len c.self.view_is
