use Rattle.ks_zset.proofs.Ranked.{sorted-ranking, ranked_from_score, score_from_ranked}
use Rattle.ks_zset.proofs.laws.the_ranking_is_the_members_in_order.Goals as goal

pub returns : goal.returns
returns c = record { members = λ z m s. (score_from_ranked z m s, ranked_from_score z m s); order = sorted-ranking }
