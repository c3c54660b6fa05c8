-- Arithmetic on whole numbers of at most 53 bits, over the integers (Lua 5.1 manual, 2.5.1).
use Rattle.std.specs.Prelude.{◌≡◌, ◌≢◌, suc, ◌^◌, ◌≤◌, ◌⊎◌, ℤ, pos, negsuc, ◌+ℤ◌, ◌-ℤ◌, ◌*ℤ◌, ◌≤ℤ◌, ◌<ℤ◌}
use Rattle.std.specs.Prelude.{unsigned_abs, Result, MatchResult}
use Rattle.std.specs.Int.{int_pow}

-- of magnitude at most 2^53
abbrev pub IsWhole : ℤ → Type 0
IsWhole z = unsigned_abs z ≤ 2 ^ 53

-- the result is a number that `Means` speaks of; an error, where no number within 53 bits is one
abbrev pub Computes : {E : Type 0} → (ℤ → Type 0) → Result ℤ E → Type 0
Computes Means result = MatchResult result Means (λ _. (z : ℤ) → IsWhole z → Means z → ⊥)

-- z times b is a, and b is not 0
abbrev pub IsQuotient : ℤ → ℤ → ℤ → Type 0
IsQuotient a b z = (b ≢ pos 0) × (z *ℤ b ≡ a)

-- q is floor(a / b): q is not above a / b, and q + 1 is
abbrev pub IsFloor : ℤ → ℤ → ℤ → Type 0
IsFloor a b q = ((pos 0 <ℤ b) × ((q *ℤ b) ≤ℤ a) × (a <ℤ ((q +ℤ pos 1) *ℤ b)))
    ⊎ ((b <ℤ pos 0) × (a ≤ℤ (q *ℤ b)) × (((q +ℤ pos 1) *ℤ b) <ℤ a))

-- a - floor(a / b) * b
abbrev pub IsModulo : ℤ → ℤ → ℤ → Type 0
IsModulo a b z = (q : ℤ) × IsFloor a b q × (z ≡ a -ℤ (q *ℤ b))

-- a to the power of b: below 0 the reciprocal of the power of -b
abbrev pub IsPower : ℤ → ℤ → ℤ → Type 0
IsPower a (pos n) z = z ≡ int_pow a n
IsPower a (negsuc n) z = z *ℤ int_pow a (suc n) ≡ pos 1
