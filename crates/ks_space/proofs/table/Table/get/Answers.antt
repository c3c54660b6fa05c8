use Rattle.std.proofs.Common.{◌∙◌}
use Rattle.ks_space.proofs.EntriesSeen.{get_seen}
use Rattle.ks_space.proofs.table.Table.get.Goals as goal

pub returns : goal.returns
returns c = c.get.ensures.value
    ∙ get_seen (λ k. k.items) c.self.inside.entries.entries c.args.self.now c.args.key.now c.self.view_is
