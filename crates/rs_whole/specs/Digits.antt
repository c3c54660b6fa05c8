-- Where digits end, and numbers that are looked for.
use Rattle.std.specs.Prelude.{◌≢◌, ℕ, ◌^◌, ◌≤◌, List, [], ◌∷◌, Option, MatchOption}
use Rattle.std.specs.Char.{digit_value}

-- the text does not go on with a digit
abbrev pub NoDigitFirst : ℕ → List ℕ → Type 0
NoDigitFirst radix [] = Unit {0}
NoDigitFirst radix (b ∷ text) = radix ≤ digit_value b

-- the text goes on neither with a digit nor with a point
abbrev pub NoFractionFirst : List ℕ → Type 0
NoFractionFirst [] = Unit {0}
NoFractionFirst (b ∷ text) = (10 ≤ digit_value b) × (b ≢ 46)

-- the result is a number up to 2^53 of which `Is` holds; none, where there is none
abbrev pub Finds : (ℕ → Type 0) → Option ℕ → Type 0
Finds Is result = MatchOption result ((n : ℕ) → n ≤ 2 ^ 53 → Is n → ⊥) (λ n. (n ≤ 2 ^ 53) × Is n)
