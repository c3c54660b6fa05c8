use Rattle.std.proofs.Common.{◌∙◌, ap, count_by, rules}
use Rattle.std.specs.Ordering.{is_lt}
use Rattle.std.proofs.lemmas.Fn.{always_returns_same}
use Rattle.ks_tree.proofs.Places.{parted_before}
use Rattle.ks_zset.specs.Zset.{by_score}
use Rattle.ks_zset.proofs.ScoreOrder.{score_total}
use Rattle.ks_zset.proofs.ranking.Ranking.place.Goals as goal

pub returns : goal.returns
returns c =
    c.partition_point.ensures.count (λ scored. is_lt (by_score scored (c.args.member.now, c.args.score)))
    (always_returns_same _ _ _ (λ a r q k. search rules))
    (parted_before score_total (c.args.member.now, c.args.score) c.self.inside.members c.self.invariant)
    ∙ ap (count_by (λ scored. is_lt (by_score scored (c.args.member.now, c.args.score)))) c.self.view_is
