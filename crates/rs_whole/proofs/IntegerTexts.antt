-- Texts of integers that begin with a minus.
use Rattle.std.proofs.Common.{◌≡◌, ℕ, suc, ◌^◌, ◌<◌, true, ℤ, pos, negsuc, List, ◌∷◌, FitsSigned, w64, refl, ap, ◌∙◌}
use Rattle.std.proofs.Common.{arith, decimal}
use Rattle.std.specs.Str.{all_ascii_digits}
use Rattle.std.proofs.lemmas.Str.Parse.{numerals_by_value, tells_all_ascii_digits}
use Rattle.std.proofs.lemmas.Fmt.{digits_decimal}
use Rattle.rs_whole.specs.Integers.{integer_text}
use Rattle.rs_whole.proofs.Heads.{same_tail}

digits_of_decimal : (n : ℕ) → n < 2 ^ 64 → all_ascii_digits (decimal n) ≡ true
digits_of_decimal n small =
    digits_decimal (numerals_by_value (λ ds. all_ascii_digits ds ≡ true) tells_all_ascii_digits) n small

no_minus : (n : ℕ) (digits : List ℕ) → n < 2 ^ 64 → 45 ∷ digits ≡ decimal n → ⊥
no_minus n digits small e = let no = ap all_ascii_digits e ∙ digits_of_decimal n small in absurd (cc)

-- the number is below 0, and its digits are those of its magnitude
pub below_zero : (z : ℤ) (digits : List ℕ) → FitsSigned w64 z → 45 ∷ digits ≡ integer_text z
    → (m : ℕ) × (m < 2 ^ 63) × (digits ≡ decimal (suc m)) × (z ≡ negsuc m)
below_zero (pos n) digits fits e = absurd (no_minus n digits (omega (arith, fits.sfits)) e)
below_zero (negsuc m) digits fits e = (m, fits.sfits, same_tail 45 45 digits (decimal (suc m)) e, refl)
