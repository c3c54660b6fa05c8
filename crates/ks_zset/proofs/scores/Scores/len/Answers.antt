use Rattle.std.proofs.Common.{◌∙◌}
use Rattle.ks_tree.specs.Order.{bytes_cmp}
use Rattle.ks_tree.proofs.ByteOrder.{bytes_total, bytes_exact}
use Rattle.ks_tree.proofs.MapLaws.{len_seen}
use Rattle.ks_zset.proofs.scores.Scores.len.Goals as goal

pub returns : goal.returns
returns c = c.len.ensures.len ∙ len_seen bytes_cmp
    (λ k. k.items) bytes_total bytes_exact c.self.inside.scores.entries c.args.self.now c.len.ensures.ordered
    c.self.view_is
