-- Texts with white space round them.
use Rattle.std.proofs.Common.{◌≡◌, ℕ, ◌<◌, ◌≤◌, false, Option, Some, None, List, [], ◌∷◌, ◌++◌, length, refl, sym, ap}
use Rattle.std.proofs.Common.{subst, ◌∙◌, arith, ◌⊎◌, inl, inr, append_assoc}
use Rattle.std.specs.Char.{digit_value}
use Rattle.std.specs.List.{AllByRecursion}
use Rattle.std.specs.Str.Parse.{AllDigits}
use Rattle.std.proofs.lemmas.Bool.Decides.{nat_tests}
use Rattle.rs_whole.specs.Numerals.{is_space, AreSpaces, Sign, sign_text, Exponent, IsExponent, exponent_text}
use Rattle.rs_whole.specs.Numerals.{fraction_text, fraction_digits, Numeral, numeral_text, IsProper}
use Rattle.rs_whole.specs.Spaces.{NoSpaceFirst, NoSpaceLast}
use Rattle.rs_whole.proofs.Heads.{same_head, same_tail}

pub spaces-append : (xs ys : List ℕ) → AreSpaces xs → AreSpaces ys → AreSpaces (xs ++ ys)
spaces-append [] ys front back = back
spaces-append (b ∷ xs) ys front back = (front.0, spaces-append xs ys front.1 back)

spaces_front : (xs ys : List ℕ) → AreSpaces (xs ++ ys) → AreSpaces xs
spaces_front [] ys all = tt
spaces_front (b ∷ xs) ys all = (all.0, spaces_front xs ys all.1)

-- no byte is white space
abbrev pub AreDark : List ℕ → Type 0
AreDark text = AllByRecursion (λ b. is_space b ≡ false) text

dark-append : (xs ys : List ℕ) → AreDark xs → AreDark ys → AreDark (xs ++ ys)
dark-append [] ys front back = back
dark-append (b ∷ xs) ys front back = (front.0, dark-append xs ys front.1 back)

dark_digit : (radix b : ℕ) → radix ≤ 16 → digit_value b < radix → is_space b ≡ false
dark_digit radix b most small = let below : digit_value b < 16 = omega arith in grind (arith, nat_tests)

dark_digits : (radix : ℕ) (ds : List ℕ) → radix ≤ 16 → AllDigits radix ds → AreDark ds
dark_digits radix [] most all = tt
dark_digits radix (b ∷ ds) most all = (dark_digit radix b most all.0, dark_digits radix ds most all.1)

dark_sign : (sign : Sign) → AreDark (sign_text sign)
dark_sign Sign.none = tt
dark_sign Sign.plus = (refl, tt)
dark_sign Sign.minus = (refl, tt)

dark_letter : (letter : ℕ) → (letter ≡ 101) ⊎ (letter ≡ 69) → is_space letter ≡ false
dark_letter letter (inl e) = ap is_space e
dark_letter letter (inr e) = ap is_space e

dark_exponent : (e : Exponent) → IsExponent e → AreDark (exponent_text e)
dark_exponent Exponent.absent is = tt
dark_exponent (Exponent.power letter sign ds) is =
    (dark_letter letter is.0, dark-append (sign_text sign) ds (dark_sign sign) (dark_digits 10 ds (omega arith) is.1.1))

dark_fraction : (f : Option (List ℕ)) → AllDigits 10 (fraction_digits f) → AreDark (fraction_text f)
dark_fraction None all = tt
dark_fraction (Some ds) all = (refl, dark_digits 10 ds (omega arith) all)

dark_numeral : (numeral : Numeral) → IsProper numeral → AreDark (numeral_text numeral)
dark_numeral (Numeral.by_tens w f e) is =
    dark-append w (fraction_text f ++ exponent_text e) (dark_digits 10 w (omega arith) is.0)
    (dark-append (fraction_text f) (exponent_text e) (dark_fraction f is.1) (dark_exponent e is.3))
dark_numeral (Numeral.by_sixteens ds) is = (refl, (refl, dark_digits 16 ds (omega arith) is.1))

pub dark_text : (sign : Sign) (numeral : Numeral) → IsProper numeral → AreDark (sign_text sign ++ numeral_text numeral)
dark_text sign numeral is =
    dark-append (sign_text sign) (numeral_text numeral) (dark_sign sign) (dark_numeral numeral is)

some_numeral : (numeral : Numeral) → IsProper numeral → 0 < length (numeral_text numeral)
some_numeral (Numeral.by_tens [] None e) is = absurd (omega (arith, is.2))
some_numeral (Numeral.by_tens [] (Some ds) e) is = omega arith
some_numeral (Numeral.by_tens (b ∷ w) f e) is = omega arith
some_numeral (Numeral.by_sixteens ds) is = omega arith

pub some_text : (sign : Sign) (numeral : Numeral) → IsProper numeral
    → 0 < length (sign_text sign ++ numeral_text numeral)
some_text Sign.none numeral is = some_numeral numeral is
some_text Sign.plus numeral is = omega arith
some_text Sign.minus numeral is = omega arith

-- what stands behind white space at the front
front_same : (before r before' : List ℕ) (text : List ℕ) → AreSpaces before → NoSpaceFirst r → AreSpaces before'
    → NoSpaceFirst text → before ++ r ≡ before' ++ text → r ≡ text
front_same [] r [] text all ends all' ends' e = e
front_same [] r (c ∷ before') text all ends all' ends' e = let no : is_space c ≡ false = subst NoSpaceFirst e ends in
    let yes = all'.0 in absurd (cc)
front_same (b ∷ before) r [] text all ends all' ends' e = let no : is_space b ≡ false =
    subst NoSpaceFirst (sym e) ends' in let yes = all.0 in absurd (cc)
front_same (b ∷ before) r (c ∷ before') text all ends all' ends' e =
    front_same before r before' text all.1 ends all'.1 ends' (same_tail b c (before ++ r) (before' ++ text) e)

no_space_after : (b : ℕ) (q : List ℕ) → NoSpaceLast (b ∷ q) → NoSpaceLast q
no_space_after b [] ends = tt
no_space_after b (c ∷ q) ends = ends

no_spaces : (q : List ℕ) → AreSpaces q → NoSpaceLast q → q ≡ []
no_spaces [] all ends = refl
no_spaces (b ∷ []) all ends = let yes = all.0 in absurd (cc)
no_spaces (b ∷ c ∷ q) all ends = let none = no_spaces (c ∷ q) all.1 ends in absurd (cc)

-- and what stands before white space at the end
end_same : (q after mid after' : List ℕ) → AreSpaces after → NoSpaceLast q → AreSpaces after' → AreDark mid
    → q ++ after ≡ mid ++ after' → q ≡ mid
end_same [] after [] after' all ends all' dark e = refl
end_same [] after (m ∷ mid) after' all ends all' dark e = let yes = (subst AreSpaces e all).0 in let no = dark.0 in
    absurd (cc)
end_same (b ∷ q) after [] after' all ends all' dark e =
    no_spaces (b ∷ q) (spaces_front (b ∷ q) after (subst AreSpaces (sym e) all')) ends
end_same (b ∷ q) after (m ∷ mid) after' all ends all' dark e =
    ap (λ x. x ∷ q) (same_head b m (q ++ after) (mid ++ after') e)
    ∙ ap (λ x. m ∷ x)
    (end_same q after mid after' all (no_space_after b q ends) all' dark.1
    (same_tail b m (q ++ after) (mid ++ after') e))

dark_first : (mid after : List ℕ) → AreDark mid → 0 < length mid → NoSpaceFirst (mid ++ after)
dark_first [] after dark some = absurd (omega arith)
dark_first (m ∷ mid) after dark some = dark.0

-- what is left of a text without the white space round it
pub trimmed_same : (text r q before after before' after' mid : List ℕ) → AreSpaces before → text ≡ before ++ r
    → NoSpaceFirst r → AreSpaces after → r ≡ q ++ after → NoSpaceLast q
    → AreSpaces before' → AreSpaces after' → AreDark mid → 0 < length mid → text ≡ before' ++ mid ++ after' → q ≡ mid
trimmed_same text r q before after before' after' mid all_before text_is first all_after r_is last all_before'
    all_after' dark some is =
    let middle = front_same before r before' (mid ++ after') all_before first all_before'
    (dark_first mid after' dark some) (sym text_is ∙ is ∙ append_assoc before' mid after') in
    end_same q after mid after' all_after last all_after' dark (sym r_is ∙ middle)

-- the last byte of a text that was cut there
pub NoSpaceLast-push : (front : List ℕ) (b : ℕ) → is_space b ≡ false → NoSpaceLast (front ++ b ∷ [])
NoSpaceLast-push [] b dark = dark
NoSpaceLast-push (c ∷ []) b dark = dark
NoSpaceLast-push (c ∷ d ∷ front) b dark = NoSpaceLast-push (d ∷ front) b dark
