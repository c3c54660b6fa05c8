use Rattle.ks_tree.proofs.Places.{sorted-remove}
use Rattle.ks_zset.proofs.ScoreOrder.{score_total}
use Rattle.ks_zset.proofs.ranking.Ranking.remove_at.Goals as goal

pub invariant_of-self : goal.invariant_of-self
invariant_of-self c = rw c.remove.ensures.rest
    (sorted-remove score_total c.self.inside.members c.args.place c.self.invariant)
