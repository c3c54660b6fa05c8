use Rattle.unit_cases.proofs.ShortTexts.{AreShort}
use Rattle.unit_cases.proofs.log.values.sorted.Given as goal

abbrev pub invariant-loop-scored : goal.invariant-loop-scored
invariant-loop-scored l = AreShort l.scores
