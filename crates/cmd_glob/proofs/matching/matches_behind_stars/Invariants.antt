use Rattle.cmd_glob.proofs.SearchLemmas.{Searches, work}
use Rattle.cmd_glob.proofs.matching.matches_behind_stars.Given as goal

abbrev pub invariant-loop-byte : goal.invariant-loop-byte
invariant-loop-byte l = Searches l.parts l.text l.star.parts.now l.star.text.now l.here.parts.now l.here.text.now

abbrev pub decreases-loop-byte : goal.decreases-loop-byte
decreases-loop-byte l = work l.parts l.star.text.now l.here.parts.now
