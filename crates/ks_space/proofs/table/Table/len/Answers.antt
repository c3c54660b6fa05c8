use Rattle.std.proofs.Common.{◌∙◌}
use Rattle.ks_space.proofs.EntriesSeen.{len_seen}
use Rattle.ks_space.proofs.table.Table.len.Goals as goal

pub returns : goal.returns
returns c = c.len.ensures.len ∙ len_seen
    (λ k. k.items) c.self.inside.entries.entries c.args.self.now c.len.ensures.unique c.self.view_is
