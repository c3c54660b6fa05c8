-- Line breaks: CR, LF, CR LF and LF CR are each one.
use Rattle.std.specs.Prelude.{ℕ, ◌+◌, Bool, ◌==◌, ◌&&◌, ◌||◌, not, if◌then◌else◌, List, [], ◌∷◌}
use Rattle.std.specs.List.{fold}
use Rattle.lua_lex.specs.declared.lines.Lines.{Lines}

abbrev pub is_break : ℕ → Bool
is_break b = b == 10 || b == 13

-- CR LF or LF CR
abbrev pub is_pair : ℕ → ℕ → Bool
is_pair b c = is_break b && (is_break c && not (b == c))

-- how many line breaks the text has
abbrev pub breaks : List ℕ → ℕ
breaks [] = 0
breaks (b ∷ []) = if is_break b then 1 else 0
breaks (b ∷ c ∷ text) = if is_pair b c then 1
    + breaks text else (if is_break b then 1 + breaks (c ∷ text) else breaks (c ∷ text))

-- the same, byte by byte: the count, and the break that may still begin a pair
abbrev pub pass_byte : Lines → ℕ → Lines
pass_byte lines b = if is_break b && not (is_pair lines.pending b) then record
    { breaks = lines.breaks + 1; pending = b } else record { breaks = lines.breaks; pending = 0 }

abbrev pub pass : Lines → List ℕ → Lines
pass lines bytes = fold pass_byte lines bytes
