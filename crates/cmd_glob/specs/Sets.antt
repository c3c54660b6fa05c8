-- The sets `[..]` of a pattern.
use Rattle.std.specs.Prelude.{ℕ, Bool, true, false, nat_le, not, ◌&&◌, if◌then◌else◌, List, [], ◌∷◌, min, max, Option}
use Rattle.std.specs.Prelude.{Some, None}
use Rattle.std.specs.List.{list_any}
use Rattle.cmd_glob.specs.declared.symbol.Symbol.{Symbol}
use Rattle.cmd_glob.specs.declared.byte_set.ByteRange.{ByteRange}
use Rattle.cmd_glob.specs.declared.byte_set.ByteSet.{ByteSet}
use Rattle.cmd_glob.specs.Symbols.{is_mark}

-- the bytes from one end to the other, the ends in either order
abbrev pub range : ℕ → ℕ → ByteRange
range a b = record { low = min a b; high = max a b }

abbrev pub single : ℕ → ByteRange
single b = range b b

-- what is listed in a set, from the left: a byte, a `-` and a byte are a range, and each other byte is itself
abbrev pub ranges_of : List Symbol → List ByteRange
ranges_of [] = []
ranges_of (a ∷ []) = single a.byte ∷ []
ranges_of (a ∷ b ∷ []) = single a.byte ∷ single b.byte ∷ []
ranges_of (a ∷ b ∷ c ∷ rest) = if is_mark 45 b then range a.byte c.byte ∷ ranges_of rest else single a.byte ∷
    ranges_of (b ∷ c ∷ rest)

-- behind a byte: the other end of a range, where a `-` and a byte follow, and what stands behind it
abbrev pub range_end : List Symbol → Option (ℕ × List Symbol)
range_end [] = None
range_end (b ∷ []) = None
range_end (b ∷ c ∷ rest) = if is_mark 45 b then Some (c.byte, rest) else None

-- what stands between the brackets: a `^` first makes it the set of all other bytes
abbrev pub set_of : List Symbol → ByteSet
set_of [] = record { negated = false; ranges = [] }
set_of (s ∷ rest) = if is_mark 94 s then record { negated = true; ranges = ranges_of rest } else record {
  negated = false;
  ranges = ranges_of (s ∷ rest);
}

abbrev pub is_within : ByteRange → ℕ → Bool
is_within r b = nat_le r.low b && nat_le b r.high

abbrev pub is_in : ByteSet → ℕ → Bool
is_in set b = if set.negated then not (list_any (λ r. is_within r b) set.ranges) else list_any
    (λ r. is_within r b) set.ranges
