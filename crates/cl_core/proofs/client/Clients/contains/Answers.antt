use Rattle.std.proofs.Common.{◌∙◌, sym, ap, is_some}
use Rattle.std.specs.Cmp.{nat_cmp_total}
use Rattle.std.specs.FinMap as finite
use Rattle.cl_core.proofs.MapLaws.{get_entries}
use Rattle.cl_core.proofs.client.Clients.contains.Goals as goal

pub returns : goal.returns
returns c = c.contains_key.ensures
    ∙ ap is_some (sym (get_entries nat_cmp_total c.self.inside.open.entries c.args.number))
    ∙ ap (λ m. finite.contains_key m c.args.number) c.self.view_is
