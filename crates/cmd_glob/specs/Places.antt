-- The first part of a pattern and the first byte of a text, for the functions that compare them.
use Rattle.std.specs.Prelude.{ℕ, Bool, true, false, ◌==◌, if◌then◌else◌, List, [], ◌∷◌, Option, Some, None}
use Rattle.cmd_glob.specs.declared.part.Part.{Part}
use Rattle.cmd_glob.specs.declared.part.Part.TheVariants.{Any, Stars, Byte, OneOf}
use Rattle.cmd_glob.specs.Sets.{is_in}

abbrev pub is_stars : Part → Bool
is_stars Stars = true
is_stars Any = false
is_stars (Byte b) = false
is_stars (OneOf set) = false

-- the part can stand for one byte, this one
abbrev pub fits : Part → ℕ → Bool
fits Any b = true
fits Stars b = false
fits (Byte c) b = b == c
fits (OneOf set) b = is_in set b

-- the parts behind a `*`
abbrev pub behind_stars : List Part → Option (List Part)
behind_stars [] = None
behind_stars (part ∷ parts) = if is_stars part then Some parts else None

-- the parts behind the first one, where that can stand for this one byte
abbrev pub behind_byte : ℕ → List Part → Option (List Part)
behind_byte b [] = None
behind_byte b (part ∷ parts) = if fits part b then Some parts else None
