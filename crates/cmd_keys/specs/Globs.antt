-- Which keys a pattern matches, as a test.
use Rattle.std.specs.Prelude.{ℕ, Bool, true, false, ◌&&◌, List, [], ◌∷◌}
use Rattle.std.specs.List.{list_any}
use Rattle.cmd_glob.specs.declared.part.Part.{Part}
use Rattle.cmd_glob.specs.declared.part.Part.TheVariants.{Any, Stars, Byte, OneOf}
use Rattle.cmd_glob.specs.Places.{fits}

-- the text, and what is left of it byte after byte
abbrev pub ends_of : List ℕ → List (List ℕ)
ends_of [] = [] ∷ []
ends_of (b ∷ text) = (b ∷ text) ∷ ends_of text

abbrev pub is_empty_text : List ℕ → Bool
is_empty_text [] = true
is_empty_text (b ∷ text) = false

-- the first byte passes the one test, and what follows it the other
abbrev pub begins : (ℕ → Bool) → (List ℕ → Bool) → List ℕ → Bool
begins first rest [] = false
begins first rest (b ∷ text) = first b && rest text

-- the parts match the whole text
abbrev pub is_match : List Part → List ℕ → Bool
is_match [] text = is_empty_text text
is_match (Stars ∷ parts) text = list_any (is_match parts) (ends_of text)
is_match (Any ∷ parts) text = begins (fits Any) (is_match parts) text
is_match (Byte b ∷ parts) text = begins (fits (Byte b)) (is_match parts) text
is_match (OneOf set ∷ parts) text = begins (fits (OneOf set)) (is_match parts) text
