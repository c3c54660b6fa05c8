-- The digits that a text begins with.
use Rattle.std.proofs.Common.{◌≡◌, ℕ, suc, ◌+◌, ◌<◌, ◌^◌, Bool, true, false, not, ◌&&◌, Option, unwrap_or, List, []}
use Rattle.std.proofs.Common.{◌∷◌, ◌++◌, length, take, drop, refl, sym, ap, subst, ◌∙◌, arith}
use Rattle.std.specs.Char.{is_ascii_digit}
use Rattle.std.specs.Fmt.{decimal}
use Rattle.std.specs.List.{position, position_or_len}
use Rattle.std.specs.Str.{all_ascii_digits}
use Rattle.std.proofs.Math.Seq.{take-append_seam, drop-append_seam}
use Rattle.std.proofs.lemmas.Bool.Decides.{nat_tests}
use Rattle.std.proofs.lemmas.List.Sums.{prefix_len-le-length}
use Rattle.std.proofs.lemmas.Str.Parse.{numerals_by_value, tells_all_ascii_digits}
use Rattle.std.proofs.lemmas.Fmt.{digits_decimal}
use Rattle.rs_base.specs.Decimals.{NoDigitFirst}

digits_of_decimal : (n : ℕ) → n < 2 ^ 64 → all_ascii_digits (decimal n) ≡ true
digits_of_decimal n small =
    digits_decimal (numerals_by_value (λ ds. all_ascii_digits ds ≡ true) tells_all_ascii_digits) n small

abbrev is_other : ℕ → Bool
is_other b = not (is_ascii_digit b)

both : (a b : Bool) → (a && b) ≡ true → (a ≡ true) × (b ≡ true)
both true b e = (refl, e)
both false b e = absurd (cc)

-- the digits end at the first byte that is none
place-digits : (ds rest : List ℕ) → all_ascii_digits ds ≡ true → NoDigitFirst rest
    → position_or_len is_other (ds ++ rest) ≡ length ds
place-digits [] [] all stop = refl
place-digits [] (end ∷ rest) all stop = rw stop
place-digits (d ∷ ds) rest all stop =
    let parts = both (is_ascii_digit d) (all_ascii_digits ds) all in
    rw (parts.0, place-digits ds rest parts.1 stop) (omega arith)

place_is : (text : List ℕ) → unwrap_or (position is_other text) (length text) ≡ position_or_len is_other text
place_is text =
    let within = prefix_len-le-length (λ b. not (is_other b)) text in
    grind (arith, nat_tests)

drop-next : (i b : ℕ) (text : List ℕ) → drop (1 + i) (b ∷ text) ≡ drop i text
drop-next i b text = let next : 1 + i ≡ suc i = omega arith in ap (λ k. drop k (b ∷ text)) next

-- what is cut off behind the digits does not begin with one
pub NoDigitFirst-drop : (text : List ℕ) → NoDigitFirst (drop (position_or_len is_other text) text)
NoDigitFirst-drop [] = tt
NoDigitFirst-drop (b ∷ text) = by_test (is_ascii_digit b) refl (NoDigitFirst-drop text)
  where
    by_test : (t : Bool) → is_ascii_digit b ≡ t → NoDigitFirst (drop (position_or_len is_other text) text)
        → NoDigitFirst (drop (position_or_len is_other (b ∷ text)) (b ∷ text))
    by_test true digit after =
        rw digit (subst NoDigitFirst (sym (drop-next (position_or_len is_other text) b text)) after)
    by_test false other after = rw other other

-- a text that begins with a number's digits is cut right behind them
pub cut-decimal : (n : ℕ) (rest text front back : List ℕ) (place : Option ℕ) (at : ℕ) → n < 2 ^ 64 → NoDigitFirst rest
    → text ≡ decimal n ++ rest
    → place ≡ position is_other text → at ≡ unwrap_or place (length text) → front ≡ take at text → back ≡ drop at text
    → (front ≡ decimal n) × (back ≡ rest)
cut-decimal n rest text front back place at small stop text_is place_found at_is front_is back_is =
    let here : at ≡ length (decimal n) =
    at_is ∙ ap (λ p. unwrap_or p (length text)) place_found ∙ place_is text ∙ ap (position_or_len is_other) text_is
    ∙ place-digits (decimal n) rest (digits_of_decimal n small) stop in (
      front_is ∙ ap (take at) text_is ∙ ap (λ i. take i (decimal n ++ rest)) here ∙ take-append_seam (decimal n) rest,
      back_is ∙ ap (drop at) text_is ∙ ap (λ i. drop i (decimal n ++ rest)) here ∙ drop-append_seam (decimal n) rest,
    )

pub cut_off : (text back : List ℕ) (place : Option ℕ) (at : ℕ) → place ≡ position is_other text
    → at ≡ unwrap_or place (length text) → back ≡ drop at text → NoDigitFirst back
cut_off text back place at place_found at_is back_is =
    let here : at ≡ position_or_len is_other text =
    at_is ∙ ap (λ p. unwrap_or p (length text)) place_found ∙ place_is text in
    rw (back_is, here) (NoDigitFirst-drop text)
