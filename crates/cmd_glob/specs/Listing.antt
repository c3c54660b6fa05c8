-- What is written in a pattern and in a set of it, for the laws.
use Rattle.std.specs.Prelude.{◌≡◌, ◌≢◌, ℕ, ◌≤◌, ◌⊎◌, false, if◌then◌else◌, List, [], ◌∷◌, IsTrue}
use Rattle.std.specs.List.{list_any, flat_map}
use Rattle.cmd_glob.specs.declared.symbol.Symbol.{Symbol}
use Rattle.cmd_glob.specs.Symbols.{is_mark}
use Rattle.cmd_glob.specs.Sets.{ranges_of, is_within}

-- a byte that stands for itself in a pattern
abbrev pub IsPlain : ℕ → Type 0
IsPlain b = (b ≢ 42) × (b ≢ 63) × (b ≢ 91) × (b ≢ 92)

-- the text of these symbols
abbrev pub spelling : List Symbol → List ℕ
spelling symbols = flat_map (λ s. if s.escaped then 92 ∷ s.byte ∷ [] else s.byte ∷ []) symbols

-- it does not end a set, and is no backslash that stands before another byte
abbrev pub StandsInside : Symbol → Type 0
StandsInside s = (is_mark 92 s ≡ false) × (is_mark 93 s ≡ false)

-- a set that has these symbols lists the byte
abbrev pub Lists : List Symbol → ℕ → Type 0
Lists symbols b = IsTrue (list_any (λ r. is_within r b) (ranges_of symbols))

-- between two bytes that stand in either order, or one of them
abbrev pub IsBetween : ℕ → ℕ → ℕ → Type 0
IsBetween a c b = ((a ≤ b) × (b ≤ c)) ⊎ ((c ≤ b) × (b ≤ a))
