-- A pattern read byte by byte: each byte, and whether a backslash stands before it.
use Rattle.std.specs.Prelude.{ℕ, Bool, true, false, ◌==◌, not, ◌&&◌, if◌then◌else◌, List, [], ◌∷◌}
use Rattle.cmd_glob.specs.declared.symbol.Symbol.{Symbol}

abbrev pub plain : ℕ → Symbol
plain b = record { byte = b; escaped = false }

abbrev pub escaped : ℕ → Symbol
escaped b = record { byte = b; escaped = true }

-- the symbols of a text that stands behind a backslash, or does not; a last backslash is itself
abbrev pub symbols_from : Bool → List ℕ → List Symbol
symbols_from false [] = []
symbols_from true [] = plain 92 ∷ []
symbols_from false (b ∷ text) = if b == 92 then symbols_from true text else plain b ∷ symbols_from false text
symbols_from true (b ∷ text) = escaped b ∷ symbols_from false text

abbrev pub symbols_of : List ℕ → List Symbol
symbols_of text = symbols_from false text

-- this byte, without a backslash before it
abbrev pub is_mark : ℕ → Symbol → Bool
is_mark mark symbol = not symbol.escaped && (symbol.byte == mark)
