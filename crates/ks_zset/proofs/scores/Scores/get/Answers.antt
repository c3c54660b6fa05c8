use Rattle.std.proofs.Common.{◌∙◌}
use Rattle.ks_tree.specs.Order.{bytes_cmp}
use Rattle.ks_tree.proofs.ByteOrder.{bytes_total, bytes_exact}
use Rattle.ks_tree.proofs.MapLaws.{get_seen}
use Rattle.ks_zset.proofs.scores.Scores.get.Goals as goal

pub returns : goal.returns
returns c = c.copied.ensures ∙ c.get.ensures.value
    ∙ get_seen bytes_cmp (λ k. k.items) bytes_total bytes_exact c.self.inside.scores.entries c.args.self.now
    c.args.member.now c.self.view_is
