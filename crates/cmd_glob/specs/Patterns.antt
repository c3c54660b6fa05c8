-- The parts of a pattern.
use Rattle.std.specs.Prelude.{ℕ, Bool, true, false, not, if◌then◌else◌, List, [], ◌∷◌}
use Rattle.std.specs.List.{before_first}
use Rattle.cmd_glob.specs.declared.symbol.Symbol.{Symbol}
use Rattle.cmd_glob.specs.declared.part.Part.{Part}
use Rattle.cmd_glob.specs.declared.part.Part.TheVariants.{Any, Stars, Byte, OneOf}
use Rattle.cmd_glob.specs.Symbols.{symbols_of, is_mark}
use Rattle.cmd_glob.specs.Sets.{set_of}

-- `*`, `?`, or a byte that is itself
abbrev pub part_of : Symbol → Part
part_of symbol = if is_mark 42 symbol then Stars else (if is_mark 63 symbol then Any else Byte symbol.byte)

-- a `[` begins a set, which has what stands before the next `]`, or all the rest where there is none. `true` is
-- within a
-- set: up to its `]` there is no part of its own
abbrev pub parts_from : Bool → List Symbol → List Part
parts_from within [] = []
parts_from true (s ∷ rest) = parts_from (not (is_mark 93 s)) rest
parts_from false (s ∷ rest) = if is_mark 91 s then OneOf
    (set_of (before_first (is_mark 93) rest)) ∷ parts_from true rest else part_of s ∷ parts_from false rest

abbrev pub parts_of : List ℕ → List Part
parts_of pattern = parts_from false (symbols_of pattern)
