use Rattle.ks_tree.proofs.Order.{sorted_nil}
use Rattle.ks_zset.proofs.ScoreOrder.{score_total}
use Rattle.ks_zset.proofs.ranking.Ranking.new.Goals as goal

pub invariant_of-result : goal.invariant_of-result
invariant_of-result c = rw c.new.ensures (sorted_nil score_total)
