-- Where white space ends.
use Rattle.std.specs.Prelude.{◌≡◌, ℕ, false, List, [], ◌∷◌}
use Rattle.rs_whole.specs.Numerals.{is_space}

-- the text does not begin with white space
abbrev pub NoSpaceFirst : List ℕ → Type 0
NoSpaceFirst [] = Unit {0}
NoSpaceFirst (b ∷ text) = is_space b ≡ false

-- nor end with it
abbrev pub NoSpaceLast : List ℕ → Type 0
NoSpaceLast [] = Unit {0}
NoSpaceLast (b ∷ []) = is_space b ≡ false
NoSpaceLast (b ∷ c ∷ text) = NoSpaceLast (c ∷ text)
