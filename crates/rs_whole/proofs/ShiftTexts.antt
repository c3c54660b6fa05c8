-- Exponents and their texts.
use Rattle.std.proofs.Common.{◌≡◌, ℕ, ◌-◌, ◌<◌, ◌^◌, min, Bool, true, false, ◌&&◌, ◌==◌, nat_lt, cond, Option, Some}
use Rattle.std.proofs.Common.{None, option_map, IfSome, List, [], ◌∷◌, ◌++◌, length, refl, sym, ap, ◌∙◌, arith, ◌⊎◌}
use Rattle.std.proofs.Common.{append-nil}
use Rattle.std.specs.Char.{digit_value, is_digit}
use Rattle.std.specs.List.{list_all}
use Rattle.std.specs.Str.Parse.{AllDigits, IsNumeral as AreDigits, digits_value}
use Rattle.std.proofs.lemmas.Bool.Decides.{nat_tests}
use Rattle.rs_whole.specs.declared.shifts.Shift.{Shift}
use Rattle.rs_whole.specs.declared.shifts.Shift.TheVariants.{Rises, Falls}
use Rattle.rs_whole.specs.Numerals.{Sign, Exponent, exponent_text, IsExponent}
use Rattle.rs_whole.specs.Shifts.{up_to_last, are_digits, places, signed_shift, shift_of}
use Rattle.rs_whole.proofs.Heads.{same_tail}

is_digit_true : (b : ℕ) → digit_value b < 10 → is_digit b 10 ≡ true
is_digit_true b small = grind (arith, nat_tests)

digit_from : (b : ℕ) → is_digit b 10 ≡ true → digit_value b < 10
digit_from b is = grind (arith, nat_tests)

all_tests : (ds : List ℕ) → AllDigits 10 ds → list_all (λ b. is_digit b 10) ds ≡ true
all_tests [] all = refl
all_tests (b ∷ ds) all = rw (is_digit_true b all.0) (all_tests ds all.1)

both : (a b : Bool) → (a && b) ≡ true → (a ≡ true) × (b ≡ true)
both true b e = (refl, e)
both false b e = absurd (cc)

from_tests : (ds : List ℕ) → list_all (λ b. is_digit b 10) ds ≡ true → AllDigits 10 ds
from_tests [] e = tt
from_tests (b ∷ ds) e = let parts = both (is_digit b 10) (list_all (λ b. is_digit b 10) ds) e in
    (digit_from b parts.0, from_tests ds parts.1)

longer : (n : ℕ) → 0 < n → nat_lt 0 n ≡ true
longer n some = grind (arith, nat_tests)

pub places-of : (ds : List ℕ) → AreDigits 10 ds → places ds ≡ Some (up_to_last ds)
places-of ds are = rw (longer (length ds) are.0, all_tests ds are.1)

pub places_from : (ds : List ℕ) (v : ℕ) → places ds ≡ Some v → AreDigits 10 ds
places_from ds v e = by_test (are_digits ds) refl e
  where
    by_test : (t : Bool) → are_digits ds ≡ t → cond t (Some (up_to_last ds)) None ≡ Some v → AreDigits 10 ds
    by_test true is f = let parts = both (nat_lt 0 (length ds)) (list_all (λ b. is_digit b 10) ds) is in
        let some : 0 < length ds = grind (arith, nat_tests, parts.0) in (some, from_tests ds parts.1)
    by_test false is f = absurd (cc)

-- the code's places
pub places_made : (text digits rest : List ℕ) (n : ℕ) → text ≡ digits ++ rest → AllDigits 10 digits → rest ≡ []
    → 0 < length digits → n ≡ min (digits_value 10 digits) (2 ^ 64 - 1) → Some n ≡ places text
places_made text digits rest n joined all none some n_is =
    let same : text ≡ digits = joined ∙ ap (λ t. digits ++ t) none ∙ append-nil digits in
    ap Some n_is ∙ sym (places-of digits (some, all)) ∙ ap places (sym same)

mapped : (F : ℕ → Shift) (ds : List ℕ) (s : Shift) → option_map F (places ds) ≡ Some s → AreDigits 10 ds
mapped F ds s e = by_value (places ds) refl e
  where
    by_value : (o : Option ℕ) → places ds ≡ o → option_map F o ≡ Some s → AreDigits 10 ds
    by_value None is f = absurd (cc)
    by_value (Some v) is f = places_from ds v is

-- what is read behind the letter is an exponent
pub shift_found : (letter : ℕ) (rest : List ℕ) (r : Option Shift) → (letter ≡ 101) ⊎ (letter ≡ 69)
    → r ≡ signed_shift rest
    → IfSome r (λ s. (e : Exponent) × IsExponent e × (letter ∷ rest ≡ exponent_text e))
shift_found letter rest None is r_is = tt
shift_found letter [] (Some s) is r_is = absurd (cc)
shift_found letter (b ∷ ds) (Some s) is r_is = by_minus (b == 45) refl (sym r_is)
  where
    by_plus : (t : Bool) → (b == 43) ≡ t → cond t (option_map Rises (places ds)) (option_map Rises (places (b ∷ ds)))
        ≡ Some s → (e : Exponent) × IsExponent e × (letter ∷ b ∷ ds ≡ exponent_text e)
    by_plus true here e =
        let at : b ≡ 43 = grind (arith, nat_tests) in
        (Exponent.power letter Sign.plus ds, (is, mapped Rises ds s e), ap (λ x. letter ∷ x ∷ ds) at)
    by_plus false other e = (Exponent.power letter Sign.none (b ∷ ds), (is, mapped Rises (b ∷ ds) s e), refl)

    by_minus : (t : Bool) → (b == 45) ≡ t → cond t (option_map Falls (places ds))
        (cond (b == 43) (option_map Rises (places ds)) (option_map Rises (places (b ∷ ds)))) ≡ Some s
        → (e : Exponent) × IsExponent e × (letter ∷ b ∷ ds ≡ exponent_text e)
    by_minus true here e = let at : b ≡ 45 = grind (arith, nat_tests) in
        (Exponent.power letter Sign.minus ds, (is, mapped Falls ds s e), ap (λ x. letter ∷ x ∷ ds) at)
    by_minus false other e = by_plus (b == 43) refl e

plain_digits : (b : ℕ) → digit_value b < 10 → ((b == 45) ≡ false) × ((b == 43) ≡ false)
plain_digits b small = (grind (arith, nat_tests), grind (arith, nat_tests))

-- an exponent is read as its shift
shift_read : (letter : ℕ) (rest : List ℕ) (e : Exponent) → IsExponent e → letter ∷ rest ≡ exponent_text e
    → signed_shift rest ≡ Some (shift_of e)
shift_read letter rest Exponent.absent is text = absurd (cc)
shift_read letter rest (Exponent.power l Sign.none []) is text = absurd (omega (arith, is.1.0))
shift_read letter rest (Exponent.power l Sign.none (b ∷ ds)) is text =
    let other = plain_digits b is.1.1.0 in
    ap signed_shift (same_tail letter l rest (b ∷ ds) text)
    ∙ rw (other.0, other.1) (ap (option_map Rises) (places-of (b ∷ ds) is.1))
shift_read letter rest (Exponent.power l Sign.plus ds) is text =
    ap signed_shift (same_tail letter l rest (43 ∷ ds) text) ∙ ap (option_map Rises) (places-of ds is.1)
shift_read letter rest (Exponent.power l Sign.minus ds) is text =
    ap signed_shift (same_tail letter l rest (45 ∷ ds) text) ∙ ap (option_map Falls) (places-of ds is.1)

pub shift_only : (letter : ℕ) (rest : List ℕ) (r : Option Shift) → r ≡ signed_shift rest → (e : Exponent) → IsExponent e
    → letter ∷ rest ≡ exponent_text e → r ≡ Some (shift_of e)
shift_only letter rest r r_is e is text = r_is ∙ shift_read letter rest e is text
