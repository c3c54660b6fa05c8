-- Digits moved by powers of ten.
use Rattle.std.proofs.Common.{◌≡◌, ℕ, suc, ◌+◌, ◌-◌, ◌*◌, ◌^◌, ◌<◌, ◌≤◌, min, true, false, ◌==◌, Option, Some, None}
use Rattle.std.proofs.Common.{List, [], ◌∷◌, ◌++◌, length, take, drop, refl, sym, ap, subst, ◌∙◌, arith, ◌⊎◌, inl}
use Rattle.std.proofs.Common.{inr, length-append, length-take, length-drop, append_assoc}
use Rattle.std.specs.Char.{digit_value}
use Rattle.std.specs.List.{list_all}
use Rattle.std.specs.Str.Parse.{AllDigits, digits_value, digits_value_after}
use Rattle.std.proofs.Math.Nat.{pow-zero, pow-suc, one-le-pow, le-mul_of_pos_right, mul-le-mul_left, pow-le-pow_right}
use Rattle.std.proofs.Math.Nat.{eq_of_mul-eq-mul_right, mul_assoc}
use Rattle.std.proofs.lemmas.Nat.{pow-add, same_from_place}
use Rattle.std.proofs.lemmas.Int.Digits.{digits_value-lt}
use Rattle.std.proofs.lemmas.List.{take-append-drop}
use Rattle.std.proofs.lemmas.Bool.{cases_lt}
use Rattle.rs_whole.specs.Digits.{Finds}
use Rattle.rs_whole.proofs.DigitTexts.{value_after-ge, value_after-zeros, value_after-some}

pub ten_pow : (k : ℕ) → 0 < 10 ^ k
ten_pow k = omega (arith, one-le-pow k 10 (omega arith))

pub value_after-append : (radix n : ℕ) (xs ys : List ℕ)
    → digits_value_after radix n (xs ++ ys) ≡ digits_value_after radix (digits_value_after radix n xs) ys
value_after-append radix n [] ys = refl
value_after-append radix n (c ∷ xs) ys = value_after-append radix (n * radix + digit_value c) xs ys

pub value_after-is : (n : ℕ) (ds : List ℕ) → digits_value_after 10 n ds ≡ n * 10 ^ length ds + digits_value 10 ds
value_after-is n [] = omega (arith, pow-zero 10)
value_after-is n (c ∷ ds) =
    let first = value_after-is (n * 10 + digit_value c) ds in
    let second = value_after-is (0 * 10 + digit_value c) ds in
    let power = pow-suc 10 (length ds) in
    spread n (digit_value c) (10 ^ length ds) (10 ^ suc (length ds)) _ _ _ power first second
  where
    spread : (n d p q a b v : ℕ) → q ≡ p * 10 → a ≡ (n * 10 + d) * p + v → b ≡ (0 * 10 + d) * p + v → a ≡ n * q + b
    spread n d p q a b v e f g = let r : n * q ≡ n * (p * 10) = ap (λ x. n * x) e in omega arith

pub value-append : (xs ys : List ℕ)
    → digits_value 10 (xs ++ ys) ≡ digits_value 10 xs * 10 ^ length ys + digits_value 10 ys
value-append xs ys = value_after-append 10 0 xs ys ∙ value_after-is (digits_value 10 xs) ys

pub all-append : (radix : ℕ) (xs ys : List ℕ) → AllDigits radix xs → AllDigits radix ys → AllDigits radix (xs ++ ys)
all-append radix [] ys front back = back
all-append radix (c ∷ xs) ys front back = (front.0, all-append radix xs ys front.1 back)

pub all_front : (radix : ℕ) (xs ys : List ℕ) → AllDigits radix (xs ++ ys) → AllDigits radix xs
all_front radix [] ys all = tt
all_front radix (c ∷ xs) ys all = (all.0, all_front radix xs ys all.1)

pub all_back : (radix : ℕ) (xs ys : List ℕ) → AllDigits radix (xs ++ ys) → AllDigits radix ys
all_back radix [] ys all = all
all_back radix (c ∷ xs) ys all = all_back radix xs ys all.1

pub all_cut : (radix k : ℕ) (ds front back : List ℕ) → AllDigits radix ds → front ≡ take k ds → back ≡ drop k ds
    → AllDigits radix front × AllDigits radix back
all_cut radix k ds front back all front_is back_is =
    let whole : AllDigits radix (take k ds ++ drop k ds) =
    subst (AllDigits radix) (sym (take-append-drop k ds)) all in (
      rw front_is (all_front radix (take k ds) (drop k ds) whole),
      rw back_is (all_back radix (take k ds) (drop k ds) whole),
    )

-- the digits, cut into those that are kept and those behind them
pub value_cut : (whole kept cut fraction : List ℕ) → whole ≡ kept ++ cut
    → digits_value 10 (whole ++ fraction)
    ≡ digits_value 10 kept * 10 ^ (length cut + length fraction) + digits_value 10 (cut ++ fraction)
value_cut whole kept cut fraction e =
    ap (λ w. digits_value 10 (w ++ fraction)) e ∙ ap (digits_value 10) (append_assoc kept cut fraction)
    ∙ value-append kept (cut ++ fraction)
    ∙ ap (λ k. digits_value 10 kept * 10 ^ k + digits_value 10 (cut ++ fraction)) (length-append cut fraction)

-- n moved by x + by places is a number of whole places m + x with a rest below them: there is no rest, and the number
-- is
-- n moved by the places that are left
pub fallen_place : (n a f m x by : ℕ) → m ≤ by → f < 10 ^ (m + x) → n * 10 ^ (x + by) ≡ a * 10 ^ (m + x) + f
    → (n * 10 ^ (by - m) ≡ a) × (f ≡ 0)
fallen_place n a f m x by le small e =
    let split : 10 ^ (x + by) ≡ 10 ^ (by - m) * 10 ^ (m + x) = ap (λ k. 10 ^ k) sum ∙ pow-add 10 (by - m) (m + x) in
    let left : n * 10 ^ (x + by) ≡ n * 10 ^ (by - m) * 10 ^ (m + x) + 0 =
    ap (λ p. n * p) split ∙ sym (mul_assoc n (10 ^ (by - m)) (10 ^ (m + x))) ∙ omega arith in
    let same = same_from_place (n * 10 ^ (by - m)) 0 a f (10 ^ (m + x)) (ten_pow (m + x)) small (sym left ∙ e) in
    (same.0, sym same.1)
  where
    sum : x + by ≡ by - m + (m + x)
    sum = omega arith

pub fallen_back : (a m x by : ℕ) → (m ≡ by) ⊎ (a ≡ 0) → a * 10 ^ (x + by) ≡ a * 10 ^ (m + x) + 0
fallen_back a m x by (inl e) = let sum : x + by ≡ m + x = omega arith in ap (λ k. a * 10 ^ k) sum ∙ omega arith
fallen_back a m x by (inr e) = ap (λ z. z * 10 ^ (x + by)) e ∙ omega (arith, ap (λ z. z * 10 ^ (m + x)) e)

pub rises : (n v d k x by : ℕ) → k ≤ by → k ≤ x → d ≡ 0 → (v * 10 ^ (x - k) + d) * 10 ^ by ≡ v * 10 ^ (by - k) * 10 ^ x
rises n v d k x by le_by le_x none =
    let sum : x - k + by ≡ by - k + x = omega arith in
    ap (λ z. (v * 10 ^ (x - k) + z) * 10 ^ by) none ∙ ap (λ z. z * 10 ^ by) (omega arith)
    ∙ mul_assoc v (10 ^ (x - k)) (10 ^ by)
    ∙ ap (λ p. v * p) (sym (pow-add 10 (x - k) by) ∙ ap (λ p. 10 ^ p) sum ∙ pow-add 10 (by - k) x)
    ∙ sym (mul_assoc v (10 ^ (by - k)) (10 ^ x))

-- the same, where the digits are raised by places, of which `by - k` are left behind the digits that are kept
pub risen_place : (n v d k x by : ℕ) → k ≤ by → k ≤ x → d < 10 ^ (x - k) → (k ≡ by) ⊎ (d ≡ 0)
    → n * 10 ^ x ≡ (v * 10 ^ (x - k) + d) * 10 ^ by
    → (n ≡ v * 10 ^ (by - k)) × (d ≡ 0)
risen_place n v d k x by le_by le_x small (inl same) e =
    let sum : 10 ^ x ≡ 10 ^ (x - k) * 10 ^ by = ap (λ p. 10 ^ p) there ∙ pow-add 10 (x - k) by in
    let left : n * 10 ^ x ≡ (n * 10 ^ (x - k) + 0) * 10 ^ by =
    ap (λ p. n * p) sum ∙ sym (mul_assoc n (10 ^ (x - k)) (10 ^ by)) ∙ omega arith in
    let cancelled =
    eq_of_mul-eq-mul_right (10 ^ by) (ten_pow by) (n * 10 ^ (x - k) + 0) (v * 10 ^ (x - k) + d) (sym left ∙ e) in
    let place = same_from_place n 0 v d (10 ^ (x - k)) (ten_pow (x - k)) small cancelled in
    let none : by - k ≡ 0 = omega arith in
    (place.0 ∙ omega (arith, ap (λ p. v * 10 ^ p) none, pow-zero 10), sym place.1)
  where
    there : x ≡ x - k + by
    there = omega arith
risen_place n v d k x by le_by le_x small (inr none) e =
    let right : (v * 10 ^ (x - k) + d) * 10 ^ by ≡ v * 10 ^ (by - k) * 10 ^ x = rises n v d k x by le_by le_x none in
    (eq_of_mul-eq-mul_right (10 ^ x) (ten_pow x) n (v * 10 ^ (by - k)) (e ∙ right), none)

pub Finds-along : (P Q : ℕ → Type 0) (r : Option ℕ) → ((n : ℕ) → P n → Q n) → ((n : ℕ) → Q n → P n) → Finds P r
    → Finds Q r
Finds-along P Q None forth back h = λ n small q. h n small (back n q)
Finds-along P Q (Some n) forth back h = (h.0, forth n h.1)

-- how the code cuts digits
record IsCut (k : ℕ) (ds kept cut : List ℕ) : Type 0 where
  front : kept ≡ take k ds
  back : cut ≡ drop k ds

cut_joined : (k : ℕ) (ds kept cut : List ℕ) → IsCut k ds kept cut → ds ≡ kept ++ cut
cut_joined k ds kept cut h = sym (ap (λ t. t ++ cut) h.front ∙ ap (λ t. take k ds ++ t) h.back ∙ take-append-drop k ds)

cut_len : (k : ℕ) (ds kept cut : List ℕ) → IsCut k ds kept cut → length cut ≡ length ds - k
cut_len k ds kept cut h = ap length h.back ∙ length-drop k ds

empty_value : (ds : List ℕ) → length ds ≡ 0 → digits_value 10 ds ≡ 0
empty_value [] e = refl
empty_value (c ∷ ds) e = absurd (omega arith)

-- what is kept is nothing, or all places are cut that are to go
fallen_kept : (whole kept cut : List ℕ) (k by : ℕ) → IsCut k whole kept cut → k ≡ length whole - by
    → (length cut ≤ by) × ((length cut ≡ by) ⊎ (digits_value 10 kept ≡ 0))
fallen_kept whole kept cut k by h e = let n = cut_len k whole kept cut h in
    (omega arith, by_order (cases_lt (length whole) by))
  where
    by_order : ((length whole) < by) ⊎ (by ≤ length whole) → (length cut ≡ by) ⊎ (digits_value 10 kept ≡ 0)
    by_order (inl short) = inr (empty_value kept (ap length h.front ∙ length-take k whole ∙ omega arith))
    by_order (inr long) = let n = cut_len k whole kept cut h in inl (omega arith)

fallen_value : (whole kept cut fraction : List ℕ) (k by n : ℕ) → AllDigits 10 whole → AllDigits 10 fraction
    → IsCut k whole kept cut → k ≡ length whole - by
    → n * 10 ^ (length fraction + by) ≡ digits_value 10 (whole ++ fraction)
    → (n * 10 ^ (by - length cut) ≡ digits_value 10 kept) × (digits_value 10 (cut ++ fraction) ≡ 0)
fallen_value whole kept cut fraction k by n all_whole all_fraction h e is =
    let all = (all_cut 10 k whole kept cut all_whole h.front h.back).1 in
    let small : digits_value 10 (cut ++ fraction) < 10 ^ (length cut + length fraction) =
    subst (λ p. digits_value 10 (cut ++ fraction) < 10 ^ p) (length-append cut fraction)
    (digits_value-lt 10 (cut ++ fraction) (all-append 10 cut fraction all all_fraction)) in
    fallen_place n (digits_value 10 kept) (digits_value 10 (cut ++ fraction)) (length cut) (length fraction) by
    (fallen_kept whole kept cut k by h e).0 small (is
    ∙ value_cut whole kept cut fraction (cut_joined k whole kept cut h))

pub fallen_none : (whole kept cut fraction : List ℕ) (k by : ℕ) → AllDigits 10 whole → AllDigits 10 fraction
    → kept ≡ take k whole → cut ≡ drop k whole → k ≡ length whole - by
    → list_all (λ b. b == 48) (cut ++ fraction) ≡ false → (n : ℕ) → n ≤ 2 ^ 53
    → n * 10 ^ (length fraction + by) ≡ digits_value 10 (whole ++ fraction) → ⊥
fallen_none whole kept cut fraction k by all_whole all_fraction front back e some n small is =
    let h : IsCut k whole kept cut = record { front = front; back = back } in
    let all = (all_cut 10 k whole kept cut all_whole front back).1 in
    let none = (fallen_value whole kept cut fraction k by n all_whole all_fraction h e is).1 in
    let positive = value_after-some 0 (cut ++ fraction) (all-append 10 cut fraction all all_fraction) some in
    omega arith

pub fallen_found : (whole kept cut fraction : List ℕ) (k by : ℕ) (r : Option ℕ) → AllDigits 10 whole
    → AllDigits 10 fraction → kept ≡ take k whole → cut ≡ drop k whole → k ≡ length whole - by
    → list_all (λ b. b == 48) (cut ++ fraction) ≡ true → Finds (λ n. n ≡ digits_value 10 kept) r
    → Finds (λ n. n * 10 ^ (length fraction + by) ≡ digits_value 10 (whole ++ fraction)) r
fallen_found whole kept cut fraction k by r all_whole all_fraction front back e zeros found =
    Finds-along (λ n. n ≡ digits_value 10 kept)
    (λ n. n * 10 ^ (length fraction + by) ≡ digits_value 10 (whole ++ fraction)) r forth backward found
  where
    h : IsCut k whole kept cut
    h = record { front = front; back = back }

    kept_or_none : (length cut ≤ by) × ((length cut ≡ by) ⊎ (digits_value 10 kept ≡ 0))
    kept_or_none = fallen_kept whole kept cut k by h e

    forth : (n : ℕ) → n ≡ digits_value 10 kept → n * 10 ^ (length fraction + by) ≡ digits_value 10 (whole ++ fraction)
    forth n is =
        ap (λ v. v * 10 ^ (length fraction + by)) is
        ∙ fallen_back (digits_value 10 kept) (length cut) (length fraction) by kept_or_none.1
        ∙ ap (λ v. digits_value 10 kept * 10 ^ (length cut + length fraction) + v)
        (sym (value_after-zeros (cut ++ fraction) zeros))
        ∙ sym (value_cut whole kept cut fraction (cut_joined k whole kept cut h))

    backward : (n : ℕ) → n * 10 ^ (length fraction + by) ≡ digits_value 10 (whole ++ fraction)
        → n ≡ digits_value 10 kept
    backward n is = by_kept kept_or_none.1 (fallen_value whole kept cut fraction k by n all_whole all_fraction h e is).0
      where
        by_kept : (length cut ≡ by) ⊎ (digits_value 10 kept ≡ 0) → n * 10 ^ (by - length cut) ≡ digits_value 10 kept
            → n ≡ digits_value 10 kept
        by_kept (inl same) f = let none : by - length cut ≡ 0 = omega arith in
            omega (arith, f, ap (λ p. n * 10 ^ p) none, pow-zero 10)
        by_kept (inr zero_kept) f = let power = le-mul_of_pos_right n (ten_pow (by - length cut)) in omega (arith, f)

risen_digits : (whole fraction kept cut : List ℕ) (k : ℕ) → IsCut k fraction kept cut
    → digits_value 10 (whole ++ fraction) ≡ digits_value 10 (whole ++ kept) * 10 ^ length cut + digits_value 10 cut
risen_digits whole fraction kept cut k h =
    ap (λ f. digits_value 10 (whole ++ f)) (cut_joined k fraction kept cut h)
    ∙ ap (digits_value 10) (sym (append_assoc whole kept cut)) ∙ value-append (whole ++ kept) cut

risen_cut : (fraction kept cut : List ℕ) (k by : ℕ) → IsCut k fraction kept cut → k ≡ min by (length fraction)
    → (length cut ≡ length fraction - k) × ((k ≡ by) ⊎ (digits_value 10 cut ≡ 0))
risen_cut fraction kept cut k by h e = (cut_len k fraction kept cut h, by_order (cases_lt (length fraction) by))
  where
    by_order : ((length fraction) < by) ⊎ (by ≤ length fraction) → (k ≡ by) ⊎ (digits_value 10 cut ≡ 0)
    by_order (inl short) = let n = cut_len k fraction kept cut h in inr (empty_value cut (omega arith))
    by_order (inr long) = inl (omega arith)

risen_value : (whole fraction kept cut : List ℕ) (k by n : ℕ) → AllDigits 10 fraction → IsCut k fraction kept cut
    → k ≡ min by (length fraction)
    → n * 10 ^ length fraction ≡ digits_value 10 (whole ++ fraction) * 10 ^ by
    → (n ≡ digits_value 10 (whole ++ kept) * 10 ^ (by - k)) × (digits_value 10 cut ≡ 0)
risen_value whole fraction kept cut k by n all h e is =
    let parts = risen_cut fraction kept cut k by h e in
    let small : digits_value 10 cut < 10 ^ (length fraction - k) =
    subst (λ p. digits_value 10 cut < 10 ^ p) parts.0
    (digits_value-lt 10 cut (all_cut 10 k fraction kept cut all h.front h.back).1) in
    let digits : digits_value 10 (whole ++ fraction) ≡ digits_value 10
    (whole ++ kept) * 10 ^ (length fraction - k) + digits_value 10 cut =
    risen_digits whole fraction kept cut k h
    ∙ ap (λ p. digits_value 10 (whole ++ kept) * 10 ^ p + digits_value 10 cut) parts.0 in
    risen_place n (digits_value 10 (whole ++ kept)) (digits_value 10 cut) k (length fraction) by (omega arith)
    (omega arith) small parts.1 (is ∙ ap (λ v. v * 10 ^ by) digits)

pub risen_none : (whole fraction kept cut : List ℕ) (k by : ℕ) → AllDigits 10 fraction → kept ≡ take k fraction
    → cut ≡ drop k fraction → k ≡ min by (length fraction)
    → list_all (λ b. b == 48) cut ≡ false → (n : ℕ) → n ≤ 2 ^ 53
    → n * 10 ^ length fraction ≡ digits_value 10 (whole ++ fraction) * 10 ^ by → ⊥
risen_none whole fraction kept cut k by all front back e some n small is =
    let h : IsCut k fraction kept cut = record { front = front; back = back } in
    let none = (risen_value whole fraction kept cut k by n all h e is).1 in
    let positive = value_after-some 0 cut (all_cut 10 k fraction kept cut all front back).1 some in
    omega arith

pub risen_too_long : (whole fraction kept cut : List ℕ) (k by : ℕ) → AllDigits 10 fraction → kept ≡ take k fraction
    → cut ≡ drop k fraction → k ≡ min by (length fraction)
    → ((n : ℕ) → n ≤ 2 ^ 53 → n ≡ digits_value 10 (whole ++ kept) → ⊥) → (n : ℕ) → n ≤ 2 ^ 53
    → n * 10 ^ length fraction ≡ digits_value 10 (whole ++ fraction) * 10 ^ by → ⊥
risen_too_long whole fraction kept cut k by all front back e far n small is =
    let h : IsCut k fraction kept cut = record { front = front; back = back } in
    let value = (risen_value whole fraction kept cut k by n all h e is).0 in
    let more = le-mul_of_pos_right (digits_value 10 (whole ++ kept)) (ten_pow (by - k)) in
    far (digits_value 10 (whole ++ kept)) (omega arith) refl

pub risen_found : (whole fraction kept cut : List ℕ) (k by v : ℕ) (r : Option ℕ) → AllDigits 10 fraction
    → kept ≡ take k fraction → cut ≡ drop k fraction → k ≡ min by (length fraction)
    → list_all (λ b. b == 48) cut ≡ true → v ≡ digits_value 10 (whole ++ kept) → Finds (λ n. n ≡ v * 10 ^ (by - k)) r
    → Finds (λ n. n * 10 ^ length fraction ≡ digits_value 10 (whole ++ fraction) * 10 ^ by) r
risen_found whole fraction kept cut k by v r all front back e zeros v_is found =
    Finds-along (λ n. n ≡ v * 10 ^ (by - k))
    (λ n. n * 10 ^ length fraction ≡ digits_value 10 (whole ++ fraction) * 10 ^ by) r forth backward found
  where
    h : IsCut k fraction kept cut
    h = record { front = front; back = back }

    none : digits_value 10 cut ≡ 0
    none = value_after-zeros cut zeros

    forth : (n : ℕ) → n ≡ v * 10 ^ (by - k) → n * 10 ^ length fraction ≡ digits_value 10 (whole ++ fraction) * 10 ^ by
    forth n is =
        let parts = risen_cut fraction kept cut k by h e in
        ap (λ z. z * 10 ^ length fraction) (is ∙ ap (λ z. z * 10 ^ (by - k)) v_is)
        ∙ sym (rises n (digits_value 10 (whole ++ kept)) (digits_value 10 cut) k (length fraction) by (omega arith)
        (omega arith) none)
        ∙ ap (λ p. (digits_value 10 (whole ++ kept) * 10 ^ p + digits_value 10 cut) * 10 ^ by) (sym parts.0)
        ∙ ap (λ z. z * 10 ^ by) (sym (risen_digits whole fraction kept cut k h))

    backward : (n : ℕ) → n * 10 ^ length fraction ≡ digits_value 10 (whole ++ fraction) * 10 ^ by
        → n ≡ v * 10 ^ (by - k)
    backward n is = (risen_value whole fraction kept cut k by n all h e is).0 ∙ ap (λ z. z * 10 ^ (by - k)) (sym v_is)

-- digits that begin with digits that are too long are too long
pub too_long : (front back : List ℕ) → ((n : ℕ) → n ≤ 2 ^ 53 → n ≡ digits_value 10 front → ⊥) → (n : ℕ) → n ≤ 2 ^ 53
    → n ≡ digits_value 10 (front ++ back) → ⊥
too_long front back far n small is =
    let after = value_after-ge 10 (digits_value 10 front) back (omega arith) in
    let joined = value_after-append 10 0 front back in
    far (digits_value 10 front) (omega arith) refl

pub number_found : (front back : List ℕ) (start : ℕ) (r : Option ℕ) → start ≡ digits_value 10 front
    → Finds (λ n. n ≡ digits_value_after 10 start back) r → Finds (λ n. n ≡ digits_value 10 (front ++ back)) r
number_found front back start r is found =
    let same : digits_value_after 10 start back ≡ digits_value 10 (front ++ back) =
    ap (λ s. digits_value_after 10 s back) is ∙ sym (value_after-append 10 0 front back) in
    Finds-along (λ n. n ≡ digits_value_after 10 start back) (λ n. n ≡ digits_value 10 (front ++ back)) r (λ n e. e
    ∙ same) (λ n e. e ∙ sym same) found

-- a number that zeros have brought past 2^53 stays there
pub raised_too_far : (n r k zeros : ℕ) → r ≡ n * 10 ^ k → k < zeros → 2 ^ 53 < r * 10 → (m : ℕ) → m ≤ 2 ^ 53
    → m ≡ n * 10 ^ zeros → ⊥
raised_too_far n r k zeros is more far m small e =
    let power : n * 10 ^ suc k ≡ r * 10 =
    ap (λ p. n * p) (pow-suc 10 k) ∙ sym (mul_assoc n (10 ^ k) 10) ∙ ap (λ p. p * 10) (sym is) in
    let longer = mul-le-mul_left n (pow-le-pow_right {n = 10} (omega arith) {i = suc k} {j = zeros} (omega arith)) in
    omega arith

pub raised_more : (n r k : ℕ) → r ≡ n * 10 ^ k → r * 10 ≡ n * 10 ^ (k + 1)
raised_more n r k is = let next : k + 1 ≡ suc k = omega arith in
    ap (λ p. p * 10) is ∙ mul_assoc n (10 ^ k) 10 ∙ ap (λ p. n * p) (sym (pow-suc 10 k) ∙ ap (λ p. 10 ^ p) (sym next))
