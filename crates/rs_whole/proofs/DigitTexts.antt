-- Texts of digits.
use Rattle.std.proofs.Common.{◌≡◌, ℕ, suc, ◌+◌, ◌*◌, ◌^◌, ◌<◌, ◌≤◌, Bool, true, false, not, ◌&&◌, ◌==◌, Option}
use Rattle.std.proofs.Common.{unwrap_or, List, [], ◌∷◌, length, take, drop, get_or, refl, ap, subst, ◌∙◌, arith}
use Rattle.std.specs.Char.{digit_value, is_digit}
use Rattle.std.specs.List.{position, position_or_len, list_all}
use Rattle.std.specs.Str.Parse.{AllDigits, digits_value, digits_value_after}
use Rattle.std.proofs.Math.Nat.{le-mul_of_pos_right}
use Rattle.std.proofs.lemmas.Bool.Decides.{nat_tests}
use Rattle.std.proofs.lemmas.List.{at_drop_more}
use Rattle.std.proofs.lemmas.List.Sums.{prefix_len-le-length}
use Rattle.rs_whole.specs.Digits.{NoDigitFirst}

abbrev is_other : ℕ → ℕ → Bool
is_other radix b = not (is_digit b radix)

place_is : (radix : ℕ) (text : List ℕ)
    → unwrap_or (position (is_other radix) text) (length text) ≡ position_or_len (is_other radix) text
place_is radix text =
    let within = prefix_len-le-length (λ b. not (is_other radix b)) text in
    grind (arith, nat_tests)

one_more : (i b : ℕ) (text : List ℕ)
    → (take (1 + i) (b ∷ text) ≡ b ∷ take i text) × (drop (1 + i) (b ∷ text) ≡ drop i text)
one_more i b text = let next : 1 + i ≡ suc i = omega arith in
    (ap (λ k. take k (b ∷ text)) next, ap (λ k. drop k (b ∷ text)) next)

digit_below : (radix b : ℕ) → is_digit b radix ≡ true → digit_value b < radix
digit_below radix b is = grind (arith, nat_tests)

no_digit_above : (radix b : ℕ) → is_digit b radix ≡ false → radix ≤ digit_value b
no_digit_above radix b is = grind (arith, nat_tests)

-- a text is cut at its first byte that is no digit
cut_at_other : (radix : ℕ) (text : List ℕ) → AllDigits radix (take (position_or_len (is_other radix) text) text)
    × NoDigitFirst radix (drop (position_or_len (is_other radix) text) text)
cut_at_other radix [] = (tt, tt)
cut_at_other radix (b ∷ text) = by_test (is_digit b radix) refl (cut_at_other radix text)
  where
    by_test : (t : Bool) → is_digit b radix ≡ t → AllDigits radix (take (position_or_len (is_other radix) text) text)
        × NoDigitFirst radix (drop (position_or_len (is_other radix) text) text)
        → AllDigits radix (take (position_or_len (is_other radix) (b ∷ text)) (b ∷ text))
        × NoDigitFirst radix (drop (position_or_len (is_other radix) (b ∷ text)) (b ∷ text))
    by_test true is after =
        let more = one_more (position_or_len (is_other radix) text) b text in
        rw is (rw (more.0, more.1) ((digit_below radix b is, after.0), after.1))
    by_test false is after = rw is (tt, no_digit_above radix b is)

pub cut_is : (radix : ℕ) (text front back : List ℕ) (place : Option ℕ) (at : ℕ) → place ≡ position (is_other radix) text
    → at ≡ unwrap_or place (length text)
    → front ≡ take at text → back ≡ drop at text → AllDigits radix front × NoDigitFirst radix back
cut_is radix text front back place at place_found at_is front_is back_is =
    let here : at ≡ position_or_len (is_other radix) text =
    at_is ∙ ap (λ p. unwrap_or p (length text)) place_found ∙ place_is radix text in
    let cut = cut_at_other radix text in
    (rw (front_is, here) cut.0, rw (back_is, here) cut.1)

-- digits behind a number make it no smaller
pub value_after-ge : (radix n : ℕ) (ds : List ℕ) → 1 ≤ radix → n ≤ digits_value_after radix n ds
value_after-ge radix n [] some = omega arith
value_after-ge radix n (c ∷ ds) some =
    let after = value_after-ge radix (n * radix + digit_value c) ds some in
    let product : n ≤ n * radix = le-mul_of_pos_right n some in
    omega arith

digit_is_zero : (c : ℕ) → (c == 48) ≡ true → digit_value c ≡ 0
digit_is_zero c is = grind (arith, nat_tests)

other_digit : (c : ℕ) → digit_value c < 10 → (c == 48) ≡ false → 0 < digit_value c
other_digit c small other = grind (arith, nat_tests)

pub value_after-zeros : (ds : List ℕ) → list_all (λ b. b == 48) ds ≡ true → digits_value 10 ds ≡ 0
value_after-zeros [] zeros = refl
value_after-zeros (c ∷ ds) zeros = by_test (c == 48) refl zeros (value_after-zeros ds)
  where
    by_test : (t : Bool) → (c == 48) ≡ t → t && list_all (λ b. b == 48) ds ≡ true
        → (list_all (λ b. b == 48) ds ≡ true → digits_value 10 ds ≡ 0) → digits_value 10 (c ∷ ds) ≡ 0
    by_test true is rest after = let d : 0 * 10 + digit_value c ≡ 0 = omega (arith, digit_is_zero c is) in
        ap (λ x. digits_value_after 10 x ds) d ∙ after rest
    by_test false is rest after = absurd (cc)

pub value_after-some : (n : ℕ) (ds : List ℕ) → AllDigits 10 ds → list_all (λ b. b == 48) ds ≡ false
    → 0 < digits_value_after 10 n ds
value_after-some n [] all some = absurd (cc)
value_after-some n (c ∷ ds) all some = by_test (c == 48) refl some (value_after-some (n * 10 + digit_value c) ds all.1)
  where
    by_test : (t : Bool) → (c == 48) ≡ t → t && list_all (λ b. b == 48) ds ≡ false
        → (list_all (λ b. b == 48) ds ≡ false → 0 < digits_value_after 10 (n * 10 + digit_value c) ds)
        → 0 < digits_value_after 10 n (c ∷ ds)
    by_test true is rest after = after rest
    by_test false is rest after =
        let digit = other_digit c all.0 is in
        let from = value_after-ge 10 (n * 10 + digit_value c) ds (omega arith) in
        omega arith

-- the next digit of what is left
pub next_digit : (radix n : ℕ) (ds : List ℕ) (i : ℕ) → i < length ds → AllDigits radix (drop i ds)
    → (digit_value (get_or ds i 0) < radix) × AllDigits radix (drop (i + 1) ds)
    × (digits_value_after radix n (drop i ds)
    ≡ digits_value_after radix (n * radix + digit_value (get_or ds i 0)) (drop (i + 1) ds))
next_digit radix n ds i within all =
    let split = subst (λ (t : List ℕ). AllDigits radix t) (at_drop_more (λ (t : List ℕ). t) ds i 0 within) all in
    (split.0, split.1, at_drop_more (digits_value_after radix n) ds i 0 within)

-- a number past 2^53 stays so
pub past : (radix n r d : ℕ) (ds : List ℕ) (i : ℕ) → 1 ≤ radix → i < length ds → AllDigits radix (drop i ds) → r ≡ radix
    → d ≡ digit_value (get_or ds i 0) → 2 ^ 53 < n * r + d
    → digits_value_after radix n (drop i ds) ≤ 2 ^ 53 → ⊥
past radix n r d ds i some within all r_is d_is far near =
    let next = next_digit radix n ds i within all in
    let same : n * r + d ≡ n * radix + digit_value (get_or ds i 0) =
    ap (λ x. n * x + d) r_is ∙ ap (λ x. n * radix + x) d_is in
    omega (arith, next.2, value_after-ge radix (n * radix + digit_value (get_or ds i 0)) (drop (i + 1) ds) some, same)
