-- Numerals and their texts.
use Rattle.std.proofs.Common.{◌≡◌, ◌≢◌, ℕ, ◌+◌, ◌*◌, ◌^◌, ◌<◌, ◌≤◌, ℤ, pos, Option, Some, None, Result, Ok, Err}
use Rattle.std.proofs.Common.{IsErr, MatchOption, OnSome, IsSomeAnd, List, [], ◌∷◌, ◌++◌, length, refl, sym, ap}
use Rattle.std.proofs.Common.{subst, ◌∙◌, arith, ◌⊎◌, inl, inr, length-append, append-nil}
use Rattle.std.specs.Char.{digit_value}
use Rattle.std.specs.Str.Parse.{AllDigits, IsNumeral as AreDigits, digits_value}
use Rattle.std.proofs.lemmas.Int.Digits.{digits_value-lt}
use Rattle.rs_whole.specs.Wholes.{IsWhole, Computes}
use Rattle.rs_whole.specs.Digits.{Finds, NoDigitFirst, NoFractionFirst}
use Rattle.rs_whole.specs.Numerals.{Exponent, IsExponent, exponent_text, fraction_text, fraction_digits, Numeral}
use Rattle.rs_whole.specs.Numerals.{numeral_text, IsProper, IsValue, StandsFor}
use Rattle.rs_whole.specs.declared.shifts.Shift.{Shift}
use Rattle.rs_whole.specs.Shifts.{shift_of, rises_by, falls_by}
use Rattle.rs_whole.proofs.Places.{all-append}
use Rattle.rs_whole.proofs.Caps.{shift_says}
use Rattle.rs_whole.proofs.Heads.{same_head, same_tail}

-- a text begins with digits in one way
pub one_row : (radix : ℕ) (a b a' b' : List ℕ) → AllDigits radix a → NoDigitFirst radix b → AllDigits radix a'
    → NoDigitFirst radix b' → a ++ b ≡ a' ++ b' → (a ≡ a') × (b ≡ b')
one_row radix [] b [] b' all ends all' ends' e = (refl, e)
one_row radix [] b (c ∷ a') b' all ends all' ends' e = let no : radix ≤ digit_value c =
    subst (NoDigitFirst radix) e ends in absurd (omega (arith, all'.0))
one_row radix (c ∷ a) b [] b' all ends all' ends' e = let no : radix ≤ digit_value c =
    subst (NoDigitFirst radix) (sym e) ends' in absurd (omega (arith, all.0))
one_row radix (c ∷ a) b (c' ∷ a') b' all ends all' ends' e =
    let rest = one_row radix a b a' b' all.1 ends all'.1 ends' (same_tail c c' (a ++ b) (a' ++ b') e) in
    (ap (λ x. x ∷ a) (same_head c c' (a ++ b) (a' ++ b') e) ∙ ap (λ x. c' ∷ x) rest.0, rest.1)

no_digit : (text : List ℕ) → NoFractionFirst text → NoDigitFirst 10 text
no_digit [] h = tt
no_digit (b ∷ text) h = h.0

pub fraction_only : (text digits ds rest' : List ℕ) (f : Option (List ℕ)) (rest : List ℕ) → text ≡ 46 ∷ digits
    → digits ≡ ds ++ rest' → AllDigits 10 ds → NoDigitFirst 10 rest' → AllDigits 10 (fraction_digits f)
    → NoFractionFirst rest
    → text ≡ fraction_text f ++ rest → (ds ≡ fraction_digits f) × (rest' ≡ rest)
fraction_only text digits ds rest' None rest point joined all ends all_f ends_f e =
    let no : (10 ≤ digit_value 46) × (46 ≢ 46) = subst NoFractionFirst (sym e ∙ point) ends_f in absurd (no.1 refl)
fraction_only text digits ds rest' (Some fs) rest point joined all ends all_f ends_f e =
    one_row 10 ds rest' fs rest all ends all_f (no_digit rest ends_f) (sym joined
    ∙ same_tail 46 46 digits (fs ++ rest) (sym point ∙ e))

letter_no_digit : (letter : ℕ) → (letter ≡ 101) ⊎ (letter ≡ 69) → (10 ≤ digit_value letter) × (letter ≢ 46)
letter_no_digit letter (inl e) = (subst (λ l. 10 ≤ digit_value l) (sym e) (omega arith), λ p. omega arith)
letter_no_digit letter (inr e) = (subst (λ l. 10 ≤ digit_value l) (sym e) (omega arith), λ p. omega arith)

pub exponent_ends : (e : Exponent) → IsExponent e → NoFractionFirst (exponent_text e)
exponent_ends Exponent.absent is = tt
exponent_ends (Exponent.power letter sign ds) is = letter_no_digit letter is.0

pub fraction_ends : (f : Option (List ℕ)) (e : Exponent) → IsExponent e
    → NoDigitFirst 10 (fraction_text f ++ exponent_text e)
fraction_ends None e is = no_digit (exponent_text e) (exponent_ends e is)
fraction_ends (Some ds) e is = let far : 10 ≤ digit_value 46 = omega arith in far

-- no number in sixteens is one in tens
pub no_tens : (ds w : List ℕ) (f : Option (List ℕ)) (e : Exponent) → IsProper (Numeral.by_tens w f e)
    → 48 ∷ 120 ∷ ds ≡ numeral_text (Numeral.by_tens w f e) → ⊥
no_tens ds w f e is text =
    let zero_digit : digit_value 48 < 10 = omega arith in
    let far : 10 ≤ digit_value 120 = omega arith in
    let parts = one_row 10 (48 ∷ []) (120 ∷ ds) w (fraction_text f ++ exponent_text e) (zero_digit, tt) far is.0
    (fraction_ends f e is.3) text in
    by_fraction f e is.3 parts.1
  where
    by_exponent : (e : Exponent) → IsExponent e → 120 ∷ ds ≡ exponent_text e → ⊥
    by_exponent Exponent.absent is' rest = absurd (cc)
    by_exponent (Exponent.power letter sign es) (inl l, digits) rest = let h = same_head 120 letter ds _ rest in
        omega arith
    by_exponent (Exponent.power letter sign es) (inr l, digits) rest = let h = same_head 120 letter ds _ rest in
        omega arith

    by_fraction : (f : Option (List ℕ)) (e : Exponent) → IsExponent e → 120 ∷ ds ≡ fraction_text f ++ exponent_text e
        → ⊥
    by_fraction None e is' rest = by_exponent e is' rest
    by_fraction (Some fs) e is' rest = let h = same_head 120 46 ds (fs ++ exponent_text e) rest in omega arith

pub by_sixteens_same : (ds es : List ℕ) → 48 ∷ 120 ∷ ds ≡ 48 ∷ 120 ∷ es → ds ≡ es
by_sixteens_same ds es e = same_tail 120 120 ds es (same_tail 48 48 (120 ∷ ds) (120 ∷ es) e)

-- how a numeral in tens is read
record IsRead (text w rest f rest' : List ℕ) : Type 0 where
  joined : text ≡ w ++ rest
  all : AllDigits 10 w
  ends : NoDigitFirst 10 rest
  found : (g : Option (List ℕ)) × (rest ≡ fraction_text g ++ rest') × (f ≡ fraction_digits g) × AllDigits 10 f
  only : (g : Option (List ℕ)) (r : List ℕ) → AllDigits 10 (fraction_digits g) → NoFractionFirst r
      → rest ≡ fraction_text g ++ r → (f ≡ fraction_digits g) × (rest' ≡ r)

-- the parts that are read are those of any numeral that the text is
parts_same : (text w rest f rest' : List ℕ) → IsRead text w rest f rest'
    → (v : List ℕ) (g : Option (List ℕ)) (e : Exponent) → IsProper (Numeral.by_tens v g e)
    → text ≡ numeral_text (Numeral.by_tens v g e)
    → (w ≡ v) × (f ≡ fraction_digits g) × (rest' ≡ exponent_text e)
parts_same text w rest f rest' h v g e is t =
    let first = one_row 10 w rest v (fraction_text g ++ exponent_text e) h.all h.ends is.0 (fraction_ends g e is.3)
    (sym h.joined ∙ t) in
    let second = h.only g (exponent_text e) is.1 (exponent_ends e is.3) first.1 in
    (first.0, second.0, second.1)

pub no_digits_none : (text w rest f rest' : List ℕ) → text ≡ w ++ rest → AllDigits 10 w → NoDigitFirst 10 rest
    → ((g : Option (List ℕ)) × (rest ≡ fraction_text g ++ rest') × (f ≡ fraction_digits g) × AllDigits 10 f)
    → ((g : Option (List ℕ)) (r : List ℕ) → AllDigits 10 (fraction_digits g) → NoFractionFirst r
    → rest ≡ fraction_text g ++ r → (f ≡ fraction_digits g) × (rest' ≡ r))
    → w ≡ [] → f ≡ [] → (v : List ℕ) (g : Option (List ℕ)) (e : Exponent) → IsProper (Numeral.by_tens v g e)
    → text ≡ numeral_text (Numeral.by_tens v g e) → ⊥
no_digits_none text w rest f rest' joined all ends found only no_w no_f v g e is t =
    let same = parts_same text w rest f rest'
    (record { joined = joined; all = all; ends = ends; found = found; only = only }) v g e is t in
    let none : length (v ++ fraction_digits g) ≡ 0 =
    ap (λ x. length (x ++ fraction_digits g)) (sym same.0 ∙ no_w) ∙ ap length (sym same.1 ∙ no_f) in
    let some = is.2 in omega arith

pub no_shift_none : (text w rest f rest' : List ℕ) (r : Option Shift) → text ≡ w ++ rest → AllDigits 10 w
    → NoDigitFirst 10 rest
    → ((g : Option (List ℕ)) × (rest ≡ fraction_text g ++ rest') × (f ≡ fraction_digits g) × AllDigits 10 f)
    → ((g : Option (List ℕ)) (s : List ℕ) → AllDigits 10 (fraction_digits g) → NoFractionFirst s
    → rest ≡ fraction_text g ++ s → (f ≡ fraction_digits g) × (rest' ≡ s))
    → ((e : Exponent) → IsExponent e → rest' ≡ exponent_text e → r ≡ Some (shift_of e)) → r ≡ None
    → (v : List ℕ) (g : Option (List ℕ)) (e : Exponent) → IsProper (Numeral.by_tens v g e)
    → text ≡ numeral_text (Numeral.by_tens v g e) → ⊥
no_shift_none text w rest f rest' r joined all ends found only shifts none v g e is t =
    let same = parts_same text w rest f rest'
    (record { joined = joined; all = all; ends = ends; found = found; only = only }) v g e is t in
    let some = shifts e is.3 same.2 in absurd (cc)

-- a number that was found is what is computed
pub Computes-found : {E : Type 0} (Is : ℕ → Type 0) (o : Option ℕ) (r : Result ℤ E) → Finds Is o
    → MatchOption o (IsErr r) (λ n. r ≡ Ok (pos n)) → Computes (λ z. (n : ℕ) × (z ≡ pos n) × Is n) r
Computes-found Is None (Ok z) found is = absurd (cc)
Computes-found Is None (Err e) found is =
    λ z small h. found h.0 (let w : IsWhole (pos h.0) = subst IsWhole h.1 small in w) h.2
Computes-found Is (Some n) r found is = rw is (n, refl, found.1)

pub read_value : {E : Type 0} (text w rest f rest' : List ℕ) (s : Shift) (o : Option ℕ) (r : Result ℤ E)
    → length text < 2 ^ 64 → text ≡ w ++ rest → AllDigits 10 w → NoDigitFirst 10 rest
    → ((g : Option (List ℕ)) × (rest ≡ fraction_text g ++ rest') × (f ≡ fraction_digits g) × AllDigits 10 f)
    → ((g : Option (List ℕ)) (t : List ℕ) → AllDigits 10 (fraction_digits g) → NoFractionFirst t
    → rest ≡ fraction_text g ++ t → (f ≡ fraction_digits g) × (rest' ≡ t))
    → ((e : Exponent) → IsExponent e → rest' ≡ exponent_text e → Some s ≡ Some (shift_of e))
    → Finds (λ n. n * 10 ^ (length f + falls_by s) ≡ digits_value 10 (w ++ f) * 10 ^ rises_by s) o
    → MatchOption o (IsErr r) (λ n. r ≡ Ok (pos n))
    → (v : List ℕ) (g : Option (List ℕ)) (e : Exponent) → IsProper (Numeral.by_tens v g e)
    → text ≡ numeral_text (Numeral.by_tens v g e) → Computes (StandsFor (Numeral.by_tens v g e)) r
read_value text w rest f rest' s o r short joined all ends found only shifts finds is_found v g e is t =
    Computes-found (IsValue (Numeral.by_tens v g e)) o r (by_shift o finds) is_found
  where
    same : (w ≡ v) × (f ≡ fraction_digits g) × (rest' ≡ exponent_text e)
    same = parts_same text w rest f rest'
        (record { joined = joined; all = all; ends = ends; found = found; only = only }) v g e is t

    shift_is : s ≡ shift_of e
    shift_is = let h = shifts e is.3 same.2 in cc

    below : digits_value 10 (v ++ fraction_digits g) < 10 ^ (length v + length (fraction_digits g))
    below = subst (λ k. digits_value 10 (v ++ fraction_digits g) < 10 ^ k) (length-append v (fraction_digits g))
        (digits_value-lt 10 (v ++ fraction_digits g) (all-append 10 v (fraction_digits g) is.0 is.1))

    fraction_shorter : (g : Option (List ℕ)) → length (fraction_digits g) ≤ length (fraction_text g)
    fraction_shorter None = omega arith
    fraction_shorter (Some ds) = omega arith

    room : length v + (length (fraction_digits g) + length (exponent_text e)) < 2 ^ 64
    room =
        let long = ap length t in
        let first = length-append v (fraction_text g ++ exponent_text e) in
        let second = length-append (fraction_text g) (exponent_text e) in
        let fewer = fraction_shorter g in omega arith

    says : (n : ℕ) → n ≤ 2 ^ 53
        → (n * 10 ^ (length f + falls_by s) ≡ digits_value 10 (w ++ f) * 10 ^ rises_by s
        → IsValue (Numeral.by_tens v g e) n)
        × (IsValue (Numeral.by_tens v g e) n
        → n * 10 ^ (length f + falls_by s) ≡ digits_value 10 (w ++ f) * 10 ^ rises_by s)
    says n small =
        let ways = shift_says n (digits_value 10 (v ++ fraction_digits g)) (length v) (length (fraction_digits g)) e
        is.3 small below room in
        rw (same.0, same.1, shift_is) ways

    by_shift : (o : Option ℕ) → Finds (λ n. n * 10 ^ (length f + falls_by s)
        ≡ digits_value 10 (w ++ f) * 10 ^ rises_by s) o → Finds (IsValue (Numeral.by_tens v g e)) o
    by_shift None h = λ n small value. h n small ((says n small).1 value)
    by_shift (Some n) h = (h.0, (says n h.0).0 h.1)

-- the parts that were read make a numeral
pub read_numeral : (text w rest f rest' : List ℕ) → text ≡ w ++ rest → AllDigits 10 w
    → ((g : Option (List ℕ)) × (rest ≡ fraction_text g ++ rest') × (f ≡ fraction_digits g) × AllDigits 10 f)
    → 0 < length (w ++ f) → ((e : Exponent) × IsExponent e × (rest' ≡ exponent_text e))
    → (numeral : Numeral) × IsProper numeral × (text ≡ numeral_text numeral)
read_numeral text w rest f rest' joined all found some exponent = (
  Numeral.by_tens w found.0 exponent.0,
  (all, subst (AllDigits 10) found.2 found.3, subst (λ d. 0 < length (w ++ d)) found.2 some, exponent.1),
  joined ∙ ap (λ x. w ++ x) (found.1 ∙ ap (λ x. fraction_text found.0 ++ x) exponent.2),
)

-- a text of digits alone is read to its end
pub sixteens_read : (text ds rest : List ℕ) → text ≡ ds ++ rest → AllDigits 16 ds → NoDigitFirst 16 rest
    → AreDigits 16 text → (ds ≡ text) × (rest ≡ [])
sixteens_read text ds rest joined all ends are =
    one_row 16 ds rest text [] all ends are.1 tt (sym joined ∙ sym (append-nil text))

pub sixteens_found : {X : Type 0} (text ds : List ℕ) (r : Option X) → text ≡ 48 ∷ 120 ∷ ds → OnSome r (AreDigits 16 ds)
    → OnSome r ((numeral : Numeral) × IsProper numeral × (text ≡ numeral_text numeral))
sixteens_found text ds None t found = tt
sixteens_found text ds (Some x) t found = (Numeral.by_sixteens ds, found, t)

pub sixteens_only : {E : Type 0} (text ds : List ℕ) (r : Option (Result ℤ E)) → text ≡ 48 ∷ 120 ∷ ds
    → (AreDigits 16 ds → IsSomeAnd r (Computes (λ z. (n : ℕ) × (z ≡ pos n) × (n ≡ digits_value 16 ds))))
    → (numeral : Numeral) → IsProper numeral → text ≡ numeral_text numeral → IsSomeAnd r (Computes (StandsFor numeral))
sixteens_only text ds r t only (Numeral.by_tens w f e) is text_is = absurd (no_tens ds w f e is (sym t ∙ text_is))
sixteens_only text ds r t only (Numeral.by_sixteens es) is text_is =
    let same = by_sixteens_same ds es (sym t ∙ text_is) in
    subst (λ d. IsSomeAnd r (Computes (λ z. (n : ℕ) × (z ≡ pos n) × (n ≡ digits_value 16 d)))) same
    (only (subst (AreDigits 16) (sym same) is))
