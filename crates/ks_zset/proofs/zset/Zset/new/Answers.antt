use Rattle.std.proofs.Common.{◌∙◌, ap, sym, subst}
use Rattle.ks_zset.specs.Zset.{HasWholeScores, ranking_of}
use Rattle.ks_zset.proofs.Ranked.{ranking-empty}
use Rattle.ks_zset.proofs.WholeScores.{whole-empty}
use Rattle.ks_zset.proofs.zset.Zset.new.Goals as goal

pub invariant_of-result : goal.invariant_of-result
invariant_of-result c = (
  c.new-2.ensures ∙ sym ranking-empty ∙ ap ranking_of (sym c.new.ensures),
  subst HasWholeScores (sym c.new.ensures) whole-empty,
)
