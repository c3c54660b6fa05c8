-- Which texts a pattern matches.
use Rattle.std.specs.Prelude.{◌≡◌, ℕ, List, [], ◌∷◌, ◌++◌, IsTrue}
use Rattle.cmd_glob.specs.declared.part.Part.{Part}
use Rattle.cmd_glob.specs.declared.part.Part.TheVariants.{Any, Stars, Byte, OneOf}
use Rattle.cmd_glob.specs.Sets.{is_in}

-- the piece of a text that a part can stand for: `?` for any one byte, `*` for any row of bytes, a byte for itself,
-- and a
-- set for one of its bytes
abbrev pub StandsFor : Part → List ℕ → Type 0
StandsFor Any piece = (b : ℕ) × (piece ≡ b ∷ [])
StandsFor Stars piece = Unit {0}
StandsFor (Byte b) piece = piece ≡ b ∷ []
StandsFor (OneOf set) piece = (b : ℕ) × (piece ≡ b ∷ []) × IsTrue (is_in set b)

-- the whole text is one piece for each part, in order
abbrev pub Matches : List Part → List ℕ → Type 0
Matches [] text = text ≡ []
Matches (part ∷ parts) text = (piece rest : List ℕ) × (text ≡ piece ++ rest) × StandsFor part piece × Matches parts rest
