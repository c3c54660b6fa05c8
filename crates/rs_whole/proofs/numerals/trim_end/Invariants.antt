use Rattle.std.proofs.Common.{◌≡◌, ℕ, List, ◌++◌, length}
use Rattle.rs_whole.specs.Numerals.{AreSpaces}
use Rattle.rs_whole.proofs.numerals.trim_end.Given as goal

abbrev pub invariant-loop-last : goal.invariant-loop-last
invariant-loop-last l = (after : List ℕ) × AreSpaces after × (l.fn.text ≡ l.rest ++ after)

abbrev pub decreases-loop-last : goal.decreases-loop-last
decreases-loop-last l = length l.rest
