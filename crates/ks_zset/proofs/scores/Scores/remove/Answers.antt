use Rattle.std.proofs.Common.{◌∙◌}
use Rattle.ks_tree.specs.Order.{bytes_cmp}
use Rattle.ks_tree.proofs.ByteOrder.{bytes_total, bytes_exact}
use Rattle.ks_tree.proofs.MapLaws.{get_seen, take_seen}
use Rattle.ks_zset.proofs.scores.Scores.remove.Goals as goal

pub returns-clause-old : goal.returns-clause-old
returns-clause-old c = c.remove.ensures.value
    ∙ get_seen bytes_cmp (λ k. k.items) bytes_total bytes_exact c.self.inside.scores.entries c.args.self.now
    c.args.member.now c.self.view_is

pub returns-clause-rest : goal.returns-clause-rest
returns-clause-rest c = take_seen bytes_cmp
    (λ k. k.items) bytes_total bytes_exact c.self.inside.scores.entries c.remove.new.self.entries c.args.member.now
    c.args.self.now c.remove.ensures.entries c.remove.ensures.updates.1 c.self.view_is
