use Rattle.std.proofs.Common.{◌∙◌, ap, count_by, rules}
use Rattle.std.proofs.lemmas.Fn.{always_returns_same}
use Rattle.ks_tree.proofs.Places.{parted_by_order}
use Rattle.ks_zset.specs.Zset.{is_below}
use Rattle.ks_zset.proofs.ScoreOrder.{score_total, below_falls}
use Rattle.ks_zset.proofs.ranking.Ranking.below.Goals as goal

pub returns : goal.returns
returns c =
    c.partition_point.ensures.count (λ scored. is_below c.args.or_equal c.args.score scored.1)
    (always_returns_same _ _ _ (λ a r q k. search rules))
    (parted_by_order score_total (λ scored. is_below c.args.or_equal c.args.score scored.1)
    (below_falls c.args.or_equal c.args.score) c.self.inside.members c.self.invariant)
    ∙ ap (count_by (λ scored. is_below c.args.or_equal c.args.score scored.1)) c.self.view_is
