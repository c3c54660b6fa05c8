use Rattle.std.proofs.Common.{◌≡◌, ℕ, List, ◌++◌, length}
use Rattle.rs_whole.specs.Numerals.{AreSpaces}
use Rattle.rs_whole.proofs.numerals.trim_start.Given as goal

abbrev pub invariant-loop-first : goal.invariant-loop-first
invariant-loop-first l = (before : List ℕ) × AreSpaces before × (l.fn.text ≡ before ++ l.rest)

abbrev pub decreases-loop-first : goal.decreases-loop-first
decreases-loop-first l = length l.rest
