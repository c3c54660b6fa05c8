-- Words as integers.
use Rattle.std.proofs.Common.{◌≡◌, ◌↔◌, ℕ, suc, ◌^◌, ◌<◌, Bool, true, false, cond, ◌&&◌, eqb, ℤ, pos, negsuc, neg_ℤ}
use Rattle.std.proofs.Common.{List, [], ◌∷◌, Result, Ok, Err, FitsSigned, w64, refl, ap, sym, subst, ◌∙◌, arith}
use Rattle.std.proofs.Common.{decimal}
use Rattle.std.specs.Char.{digit_value}
use Rattle.std.specs.Str.{bytes_eq}
use Rattle.std.specs.Str.Parse.{AllDigits, digits_value}
use Rattle.std.proofs.lemmas.Bool.Decides.{Decides-eqb, Decides-ltb}
use Rattle.std.proofs.lemmas.Fmt.{decimal_is_IsNumeral}
use Rattle.std.proofs.lemmas.Slice.Eq.{bytes_eq-Decides}
use Rattle.rs_whole.specs.Integers.{integer_text}
use Rattle.cmd_args.specs.declared.refusal.Refusal.{Refusal}
use Rattle.cmd_args.specs.declared.refusal.Refusal.TheVariants.{NotInteger}
use Rattle.cmd_rows.specs.Numbers.{is_within_64, read_digits, number}

by_test : (P : Bool → Type 0) (b : Bool) → (b ≡ true → P true) → (b ≡ false → P false) → P b
by_test P true yes_case no_case = yes_case refl
by_test P false yes_case no_case = no_case refl

both : (a b : Bool) → (a && b) ≡ true → (a ≡ true) × (b ≡ true)
both true b e = (refl, e)
both false b e = absurd (cc)

pub within-true : (z : ℤ) → FitsSigned w64 z → is_within_64 z ≡ true
within-true (pos n) fits = (Decides-ltb n (2 ^ 63)).1 fits.sfits
within-true (negsuc n) fits = (Decides-ltb n (2 ^ 63)).1 fits.sfits

pub within-is : (z : ℤ) → is_within_64 z ≡ true → FitsSigned w64 z
within-is (pos n) e = record { sfits = (Decides-ltb n (2 ^ 63)).0 e }
within-is (negsuc n) e = record { sfits = (Decides-ltb n (2 ^ 63)).0 e }

-- a digit is no minus
no_minus : (c : ℕ) → digit_value c < 10 → eqb c 45 ≡ false
no_minus c digit =
    by_test (λ t. t ≡ false) (eqb c 45) (λ yes. absurd (no ((Decides-eqb c 45).0 yes))) (λ other. refl)
  where
    no : c ≡ 45 → ⊥
    no is = let low : 36 < 10 = subst (λ x. digit_value x < 10) is digit in absurd (omega arith)

digits_read : (digits : List ℕ) → AllDigits 10 digits → read_digits digits ≡ pos (digits_value 10 digits)
digits_read [] all = refl
digits_read (c ∷ digits) all = ap
    (λ t. cond t (neg_ℤ (pos (digits_value 10 digits))) (pos (digits_value 10 (c ∷ digits)))) (no_minus c all.0)

-- the text of an integer spells it
read-text : (z : ℤ) → FitsSigned w64 z → read_digits (integer_text z) ≡ z
read-text (pos n) fits =
    let small : n < 2 ^ 64 = omega (arith, fits.sfits) in
    let written = decimal_is_IsNumeral n small in
    digits_read (decimal n) written.0.1 ∙ ap pos written.1
read-text (negsuc m) fits =
    let small : suc m < 2 ^ 64 = omega (arith, fits.sfits) in
    ap (λ n. neg_ℤ (pos n)) (decimal_is_IsNumeral (suc m) small).1

-- what a test of the text makes of an integer
abbrev told : Bool → ℤ → Result ℤ Refusal
told test z = cond test (Ok z) (Err NotInteger)

held : (test : Bool) (x z : ℤ) → told test x ≡ Ok z → (test ≡ true) × (x ≡ z)
held true x z e = (refl, cc)
held false x z e = absurd (cc)

pub number-is : (word : List ℕ) (z : ℤ) → word ≡ integer_text z → FitsSigned w64 z → number word ≡ Ok z
number-is word z e fits =
    let read : read_digits word ≡ z = ap read_digits e ∙ read-text z fits in
    subst (λ (x : ℤ). told (bytes_eq word (integer_text x) && is_within_64 x) x ≡ Ok z) (sym read)
    (ap (λ t. told (t && is_within_64 z) z) ((bytes_eq-Decides word (integer_text z)).1 e)
    ∙ ap (λ t. told t z) (within-true z fits))

pub number-only : (word : List ℕ) (z : ℤ) → number word ≡ Ok z → (word ≡ integer_text z) × FitsSigned w64 z
number-only word z e =
    let x = read_digits word in
    let out = held (bytes_eq word (integer_text x) && is_within_64 x) x z e in
    let tests = both (bytes_eq word (integer_text x)) (is_within_64 x) out.0 in
    subst (λ (y : ℤ). (word ≡ integer_text y) × FitsSigned w64 y) out.1
    ((bytes_eq-Decides word (integer_text x)).0 tests.0, within-is x tests.1)

pub number-exactly : (word : List ℕ) (z : ℤ) → (number word ≡ Ok z) ↔ ((word ≡ integer_text z) × FitsSigned w64 z)
number-exactly word z = (number-only word z, λ h. number-is word z h.0 h.1)

pub number-none : (word : List ℕ) → ((z : ℤ) → FitsSigned w64 z → word ≡ integer_text z → ⊥)
    → number word ≡ Err NotInteger
number-none word none =
    let x = read_digits word in
    by_test (λ t. told t x ≡ Err NotInteger) (bytes_eq word (integer_text x) && is_within_64 x)
    (λ yes.
    let tests = both (bytes_eq word (integer_text x)) (is_within_64 x) yes in
    absurd (none x (within-is x tests.1) ((bytes_eq-Decides word (integer_text x)).0 tests.0)))
    (λ no. refl)
