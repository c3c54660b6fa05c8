-- What an edit, a look-up or a search of a list does, where the list is a left side, an item and a right side.
use Rattle.std.proofs.Common.{◌≡◌, ℕ, zero, suc, ◌+◌, ◌-◌, ◌<◌, ◌≤◌, Bool, true, false, cond, List, [], ◌∷◌, ◌++◌}
use Rattle.std.proofs.Common.{length, take, drop, get_or, Some, refl, sym, ap, ap₂, subst, ◌∙◌, arith, append_assoc}
use Rattle.std.proofs.Common.{length-append, length-drop}
use mathlib.Core.Bool.{true≢false}
use Rattle.std.specs.List.{insert, remove, slice_get, slice_range, count_by, AllZip}
use Rattle.std.specs.List.Sorted.{IsPartitionedBy}
use Rattle.std.proofs.lemmas.List.{get_or_append_left, get_or-append-add}
use Rattle.std.proofs.lemmas.List.Sums.{sum_by-append, sum_by-cons}
use Rattle.std.proofs.Math.Seq.{get_or-append_seam}

-- an item's place behind the left side is its place in the right side, k
pub insert_right : {A : Type 0} (xs ys : List A) (x y : A) (i k : ℕ) → i ≡ length xs + suc k
    → insert (xs ++ x ∷ ys) i y ≡ xs ++ x ∷ insert ys k y
insert_right [] ys x y i k is = let e : i ≡ suc k = omega arith in rw e
insert_right (a ∷ xs) ys x y zero k is = absurd (omega arith)
insert_right (a ∷ xs) ys x y (suc i) k is = ap (λ l. a ∷ l) (insert_right xs ys x y i k (omega arith))

pub remove_right : {A : Type 0} (xs ys : List A) (x : A) (i k : ℕ) → i ≡ length xs + suc k
    → remove (xs ++ x ∷ ys) i ≡ xs ++ x ∷ remove ys k
remove_right [] ys x i k is = let e : i ≡ suc k = omega arith in rw e
remove_right (a ∷ xs) ys x zero k is = absurd (omega arith)
remove_right (a ∷ xs) ys x (suc i) k is = ap (λ l. a ∷ l) (remove_right xs ys x i k (omega arith))

pub remove_here : {A : Type 0} (xs ys : List A) (x : A) (i : ℕ) → i ≡ length xs → remove (xs ++ x ∷ ys) i ≡ xs ++ ys
remove_here [] ys x i is = let e : i ≡ 0 = omega arith in rw e
remove_here (a ∷ xs) ys x zero is = absurd (omega arith)
remove_here (a ∷ xs) ys x (suc i) is = ap (λ l. a ∷ l) (remove_here xs ys x i (omega arith))

pub slice_get_right : {A : Type 0} (xs ys : List A) (x : A) (i k : ℕ) → i ≡ length xs + suc k
    → slice_get (xs ++ x ∷ ys) i ≡ slice_get ys k
slice_get_right [] ys x i k is = let e : i ≡ suc k = omega arith in rw e
slice_get_right (a ∷ xs) ys x zero k is = absurd (omega arith)
slice_get_right (a ∷ xs) ys x (suc i) k is = slice_get_right xs ys x i k (omega arith)

pub slice_get_here : {A : Type 0} (xs ys : List A) (x : A) (i : ℕ) → i ≡ length xs → slice_get (xs ++ x ∷ ys) i ≡ Some x
slice_get_here [] ys x i is = let e : i ≡ 0 = omega arith in rw e
slice_get_here (a ∷ xs) ys x zero is = absurd (omega arith)
slice_get_here (a ∷ xs) ys x (suc i) is = slice_get_here xs ys x i (omega arith)

-- a range of two lists in a row
take-append : {A : Type 0} (xs ys : List A) (n : ℕ) → take n (xs ++ ys) ≡ take n xs ++ take (n - length xs) ys
take-append [] ys zero = refl
take-append [] ys (suc n) = let e : suc n - 0 ≡ suc n = omega arith in rw e
take-append (x ∷ xs) ys zero = let e : 0 - suc (length xs) ≡ 0 = omega arith in rw e
take-append (x ∷ xs) ys (suc n) = let e : suc n - suc (length xs) ≡ n - length xs = omega arith in
    rw e (ap (λ l. x ∷ l) (take-append xs ys n))

drop-append : {A : Type 0} (xs ys : List A) (n : ℕ) → drop n (xs ++ ys) ≡ drop n xs ++ drop (n - length xs) ys
drop-append [] ys zero = refl
drop-append [] ys (suc n) = let e : suc n - 0 ≡ suc n = omega arith in rw e
drop-append (x ∷ xs) ys zero = let e : 0 - suc (length xs) ≡ 0 = omega arith in rw e
drop-append (x ∷ xs) ys (suc n) = let e : suc n - suc (length xs) ≡ n - length xs = omega arith in
    rw e (drop-append xs ys n)

pub slice_range-append : {A : Type 0} (xs ys : List A) (from to : ℕ)
    → slice_range (xs ++ ys) from to ≡ slice_range xs from to ++ slice_range ys (from - length xs) (to - length xs)
slice_range-append xs ys from to =
    let e : (to - from) - length (drop from xs) ≡ (to - length xs) - (from - length xs) =
    omega (arith, length-drop from xs) in
    ap (take (to - from)) (drop-append xs ys from)
    ∙ take-append (drop from xs) (drop (from - length xs) ys) (to - from)
    ∙ ap (λ n. take (to - from) (drop from xs) ++ take n (drop (from - length xs) ys)) e

pub slice_range-one : {A : Type 0} (x : A) (from to : ℕ) → from ≡ 0 → 0 < to → slice_range (x ∷ []) from to ≡ x ∷ []
slice_range-one x zero zero is lt = absurd (omega arith)
slice_range-one x zero (suc to) is lt = let e : suc to - 0 ≡ suc to = omega arith in rw e (take-nil to)
  where
    take-nil : (n : ℕ) → x ∷ take n [] ≡ x ∷ []
    take-nil zero = refl
    take-nil (suc n) = refl
slice_range-one x (suc from) to is lt = absurd (omega arith)

-- clones of the parts of a range, in a row, are clones of the range
pub range_copied : {A : Type 0} (R : A → A → Type 0) (xs ys : List A) (x : A) (from to n : ℕ) (before copies : List A)
    → n ≡ length xs
    → AllZip R (before ++ slice_range xs from to ++ slice_range (x ∷ []) (from - length xs) (to - length xs)
    ++ slice_range ys (from - (n + 1)) (to - (n + 1))) copies
    → AllZip R (before ++ slice_range (xs ++ x ∷ ys) from to) copies
range_copied {A} R xs ys x from to n before copies is all =
    let a : from - length xs - 1 ≡ from - (n + 1) = omega arith in
    let b : to - length xs - 1 ≡ to - (n + 1) = omega arith in
    let front = slice_range xs from to in
    let middle = slice_range (x ∷ []) (from - length xs) (to - length xs) in
    let back = slice_range ys (from - (n + 1)) (to - (n + 1)) in
    let whole : slice_range (xs ++ x ∷ ys) from to ≡ front ++ (middle ++ back) =
    slice_range-append xs (x ∷ ys) from to
    ∙ ap (λ l. front ++ l) (slice_range-append (x ∷ []) ys (from - length xs) (to - length xs)
    ∙ ap₂ (λ i j. middle ++ slice_range ys i j) a b) in
    let row : before ++ front ++ middle ++ back ≡ before ++ (front ++ (middle ++ back)) =
    append_assoc (before ++ front) middle back ∙ append_assoc before front (middle ++ back) in
    subst (λ (l : List A). AllZip R l copies) (row ∙ ap (λ l. before ++ l) (sym whole)) all

-- each left item with its right one, in two lists in a row
pub AllZip-append : {A B : Type 0} (R : A → B → Type 0) (xs us : List A) (ys vs : List B) → AllZip R xs ys
    → AllZip R us vs → AllZip R (xs ++ us) (ys ++ vs)
AllZip-append R [] us [] vs a b = b
AllZip-append R [] us (y ∷ ys) vs a b = absurd a
AllZip-append R (x ∷ xs) us [] vs a b = absurd a
AllZip-append R (x ∷ xs) us (y ∷ ys) vs a b = (a.0, AllZip-append R xs us ys vs a.1 b)

not_true : (b : Bool) → (b ≡ true → ⊥) → b ≡ false
not_true true h = absurd (h refl)
not_true false h = refl

module _ {A : Type 0} (p : A → Bool) where
  pub count_pass : (x : A) (xs : List A) → p x ≡ true → count_by p (x ∷ xs) ≡ suc (count_by p xs)
  count_pass x xs passes = sum_by-cons (λ v. cond (p v) 1 0) x xs ∙ rw passes (omega arith)

  pub count_fail : (x : A) (xs : List A) → p x ≡ false → count_by p (x ∷ xs) ≡ count_by p xs
  count_fail x xs fails = sum_by-cons (λ v. cond (p v) 1 0) x xs ∙ rw fails (omega arith)

  count_all : (xs : List A) → ((i : ℕ) (d : A) → i < length xs → p (get_or xs i d) ≡ true) → count_by p xs ≡ length xs
  count_all [] all = refl
  count_all (x ∷ xs) all = let here : p x ≡ true = all 0 x (omega arith) in count_pass x xs here
      ∙ ap suc (count_all xs (λ i d lt. all (suc i) d (omega arith)))

  count_none : (xs : List A) → ((i : ℕ) (d : A) → i < length xs → p (get_or xs i d) ≡ false) → count_by p xs ≡ 0
  count_none [] none = refl
  count_none (x ∷ xs) none = let here : p x ≡ false = none 0 x (omega arith) in count_fail x xs here
      ∙ count_none xs (λ i d lt. none (suc i) d (omega arith))

  module _ (xs ys : List A) (x : A) (parted : IsPartitionedBy p (xs ++ x ∷ ys)) where
    length_is : length (xs ++ x ∷ ys) ≡ length xs + suc (length ys)
    length_is = length-append xs (x ∷ ys)

    at_left : (i : ℕ) (d : A) → i < length xs → get_or (xs ++ x ∷ ys) i d ≡ get_or xs i d
    at_left i d lt = get_or_append_left xs (x ∷ ys) d i lt

    at_right : (i : ℕ) (d : A) → get_or (xs ++ x ∷ ys) (length xs + suc i) d ≡ get_or ys i d
    at_right i d = get_or-append-add xs (x ∷ ys) (suc i) d

    at_here : (d : A) → get_or (xs ++ x ∷ ys) (length xs) d ≡ x
    at_here d = get_or-append_seam xs x ys d

    pub parted_left : IsPartitionedBy p xs
    parted_left i j d le lt passes =
        subst (λ (v : A). p v ≡ true) (at_left i d (omega arith))
        (parted i j d le (omega (arith, length_is)) (subst (λ (v : A). p v ≡ true) (sym (at_left j d lt)) passes))

    pub parted_right : IsPartitionedBy p ys
    parted_right i j d le lt passes =
        subst (λ (v : A). p v ≡ true) (at_right i d)
        (parted (length xs + suc i) (length xs + suc j) d (omega arith) (omega (arith, length_is))
        (subst (λ (v : A). p v ≡ true) (sym (at_right j d)) passes))

    -- an item that passes has only such items before it, and one that fails only such items behind it
    left_passes : p x ≡ true → (i : ℕ) (d : A) → i < length xs → p (get_or xs i d) ≡ true
    left_passes passes i d lt = subst (λ (v : A). p v ≡ true) (at_left i d lt)
        (parted i (length xs) d (omega arith) (omega (arith, length_is))
        (subst (λ (v : A). p v ≡ true) (sym (at_here d)) passes))

    right_fails : p x ≡ false → (i : ℕ) (d : A) → i < length ys → p (get_or ys i d) ≡ false
    right_fails fails i d lt = not_true (p (get_or ys i d)) (λ passes.
        true≢false (sym (subst (λ (v : A). p v ≡ true) (at_here d)
        (parted (length xs) (length xs + suc i) d (omega arith) (omega (arith, length_is))
        (subst (λ (v : A). p v ≡ true) (sym (at_right i d)) passes))) ∙ fails))

    pub count_passed : p x ≡ true → count_by p (xs ++ x ∷ ys) ≡ length xs + 1 + count_by p ys
    count_passed passes =
        let all = count_all xs (left_passes passes) in
        let both = sum_by-append (λ v. cond (p v) 1 0) xs (x ∷ ys) in
        let one = count_pass x ys passes in
        omega arith

    pub count_failed : p x ≡ false → count_by p (xs ++ x ∷ ys) ≡ count_by p xs
    count_failed fails =
        let none = count_none ys (right_fails fails) in
        let both = sum_by-append (λ v. cond (p v) 1 0) xs (x ∷ ys) in
        let same = count_fail x ys fails in
        omega arith

    -- `count` less the items left out of xs ++ x ∷ ys is the count of all, where the search goes on in ys or in xs
    pub count_behind : (count total : ℕ) → p x ≡ true
        → count + count_by p (xs ++ x ∷ ys) ≡ total + length (xs ++ x ∷ ys) → count + count_by p ys ≡ total + length ys
    count_behind count total passes is = omega (arith, length_is, count_passed passes)

    pub count_before : (count total : ℕ) → p x ≡ false → length (xs ++ x ∷ ys) ≤ count
        → count + count_by p (xs ++ x ∷ ys) ≡ total + length (xs ++ x ∷ ys)
        → (count - (length ys + 1)) + count_by p xs ≡ total + length xs
    count_before count total fails room is = omega (arith, length_is, count_failed fails)
