use Rattle.std.proofs.Common.{◌↔◌, length}
use Rattle.cmd_glob.specs.Matching.{Matches}
use Rattle.cmd_glob.proofs.matching.matches_from.Given as goal

abbrev pub invariant-loop-parts : goal.invariant-loop-parts
invariant-loop-parts l = Matches l.parts l.text ↔ Matches l.here.parts.now l.here.text.now

abbrev pub decreases-loop-parts : goal.decreases-loop-parts
decreases-loop-parts l = length l.here.parts.now
