-- Parts of strings, and strings that are written over (Redis manual, GETRANGE and SETRANGE).
use Rattle.std.specs.Prelude.{ℕ, suc, ◌+◌, ◌-◌, nat_lt, Bool, false, if◌then◌else◌, ℤ, pos, negsuc, List, [], ◌++◌}
use Rattle.std.specs.Prelude.{length, take, drop, replicate}

-- a place counted from 0, or from the end where it is negative: what would be before the beginning is the beginning
abbrev pub place_in : ℕ → ℤ → ℕ
place_in count (pos place) = place
place_in count (negsuc place) = count - suc place

-- both places are counted from the end, and the first is past the last
abbrev pub is_backward : ℤ → ℤ → Bool
is_backward (negsuc first) (negsuc last) = nat_lt first last
is_backward _ _ = false

-- the bytes from the one place on to the other, that one too
abbrev pub between : List ℕ → ℕ → ℕ → List ℕ
between text first last = take (last + 1 - first) (drop first text)

abbrev pub part : List ℕ → ℤ → ℤ → List ℕ
part text first last =
    if is_backward first last then [] else between text (place_in (length text) first) (place_in (length text) last)

-- the string in which the value stands from the offset on, with zero bytes up to there where the string is shorter
abbrev pub written_over : List ℕ → ℕ → List ℕ → List ℕ
written_over text offset value =
    take offset text ++ replicate (offset - length text) 0 ++ value ++ drop (offset + length value) text
