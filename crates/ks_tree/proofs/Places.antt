-- Places in lists that strictly rise: as many items come before one as its place says, where it stands or is put.
use Rattle.std.proofs.Common.{◌≡◌, ℕ, zero, suc, ◌+◌, ◌<◌, ◌≤◌, Bool, true, false, cond, not, ◌||◌, Ordering, List}
use Rattle.std.proofs.Common.{[], ◌∷◌, length, get_or, Some, None, inl, inr, refl, sym, ap, subst, ◌∙◌, arith}
use mathlib.Core.Bool.{true≢false}
use Rattle.std.specs.List.{AllByRecursion, insert, remove, count_by, prefix_len, position}
use Rattle.std.specs.List.Sorted.{IsStrictlySortedBy, IsPartitionedBy}
use Rattle.std.specs.Ordering.{is_eq, is_lt, eq_by_cmp, match_ordering, ordering_reverse}
use Rattle.std.specs.Cmp.{IsTotalOrder}
use Rattle.std.specs.declared.cmp.Ordering.TheVariants.{Less, Equal, Greater}
use Rattle.std.specs.BTreeSet.{insert_key}
use Rattle.std.specs.Set.{remove_key}
use Rattle.std.proofs.lemmas.Bool.{cases_lt}
use Rattle.std.proofs.lemmas.Bool.Decides.{nat_tests}
use Rattle.std.proofs.lemmas.Map.Keys.{sorted_head, sorted_tail, Less-from_sorted}
use Rattle.ks_tree.proofs.Order.{has, sorted_cons, lacks_first}
use Rattle.ks_tree.proofs.Sides.{count_pass, count_fail}

-- an item that is put in and taken out again
pub removed_again : {A : Type 0} (xs : List A) (i : ℕ) (x : A) → i ≤ length xs → remove (insert xs i x) i ≡ xs
removed_again xs zero x le = refl
removed_again [] (suc i) x le = absurd (omega arith)
removed_again (y ∷ ys) (suc i) x le = ap (λ l. y ∷ l) (removed_again ys i x (omega arith))

-- whether an item comes before k
abbrev pub is_before : {A : Type 0} → (A → A → Ordering) → A → A → Bool
is_before R k x = is_lt (R x k)

-- how many items come before k
abbrev pub place_of : {A : Type 0} → (A → A → Ordering) → List A → A → ℕ
place_of R xs k = count_by (λ x. is_lt (R x k)) xs

module _ {A : Type 0} {R : A → A → Ordering} (o : IsTotalOrder R) where
  -- a test that an item passes wherever a later one does
  pub parted_by_order : (p : A → Bool) → ((x y : A) → R x y ≡ Less → p y ≡ true → p x ≡ true) → (xs : List A)
      → IsStrictlySortedBy R xs → IsPartitionedBy p xs
  parted_by_order p falls xs h i j d le lt passes =
      elim (cases_lt i j) [
        | inl below ↦ falls (get_or xs i d) (get_or xs j d) (Less-from_sorted R xs i j d h below lt) passes
        | inr above ↦ let e : j ≡ i = omega arith in subst (λ (k : ℕ). p (get_or xs k d) ≡ true) e passes
      ]

  less_from_test : (x y : A) → is_lt (R x y) ≡ true → R x y ≡ Less
  less_from_test x y e =
      elim (R x y) as (λ r. is_lt r ≡ true → r ≡ Less) [
        | Less ↦ λ t. refl
        | Equal ↦ λ t. absurd (true≢false (sym t))
        | Greater ↦ λ t. absurd (true≢false (sym t))
      ] e

  pub parted_before : (k : A) (xs : List A) → IsStrictlySortedBy R xs → IsPartitionedBy (λ x. is_lt (R x k)) xs
  parted_before k xs h = parted_by_order (λ x. is_lt (R x k))
      (λ x y e passes. ap is_lt (o.trans x y k e (less_from_test y k passes))) xs h

  back : (k x : A) (r : Ordering) → R k x ≡ r → R x k ≡ ordering_reverse r
  back k x r e = o.antisymm x k ∙ ap ordering_reverse e

  none_before : (k : A) (xs : List A) → AllByRecursion (λ y. R k y ≡ Less) xs → place_of R xs k ≡ 0
  none_before k [] above = refl
  none_before k (x ∷ xs) above = count_fail (λ y. is_lt (R y k)) x xs (ap is_lt (back k x Less above.0))
      ∙ none_before k xs above.1

  above_less : (k x : A) (xs : List A) → R k x ≡ Less → AllByRecursion (λ y. R x y ≡ Less) xs
      → AllByRecursion (λ y. R k y ≡ Less) xs
  above_less k x [] e above = tt
  above_less k x (y ∷ ys) e above = (o.trans k x y e above.0, above_less k x ys e above.1)

  above_equal : (k x : A) (xs : List A) → R k x ≡ Equal → AllByRecursion (λ y. R x y ≡ Less) xs
      → AllByRecursion (λ y. R k y ≡ Less) xs
  above_equal k x [] e above = tt
  above_equal k x (y ∷ ys) e above = (o.congr k x y e ∙ above.0, above_equal k x ys e above.1)

  place_first : (k x : A) (xs : List A) → IsStrictlySortedBy R (x ∷ xs) → R k x ≡ Less → place_of R (x ∷ xs) k ≡ 0
  place_first k x xs h e = none_before k (x ∷ xs) (e, above_less k x xs e (sorted_head R x xs h))

  place_here : (k x : A) (xs : List A) → IsStrictlySortedBy R (x ∷ xs) → R k x ≡ Equal → place_of R (x ∷ xs) k ≡ 0
  place_here k x xs h e = count_fail (λ y. is_lt (R y k)) x xs (ap is_lt (back k x Equal e))
      ∙ none_before k xs (above_equal k x xs e (sorted_head R x xs h))

  place_later : (k x : A) (xs : List A) → R k x ≡ Greater → place_of R (x ∷ xs) k ≡ suc (place_of R xs k)
  place_later k x xs e = count_pass (λ y. is_lt (R y k)) x xs (ap is_lt (back k x Greater e))

  -- an item that is not there, put at its place
  pub insert_at_place : (k : A) (xs : List A) → IsStrictlySortedBy R xs → has R xs k ≡ false
      → insert xs (place_of R xs k) k ≡ insert_key R xs k
  insert_at_place k [] h absent = refl
  insert_at_place k (x ∷ xs) h absent =
      elim (R k x) as (λ r. R k x ≡ r → (is_eq r || has R xs k) ≡ false
      → insert (x ∷ xs) (place_of R (x ∷ xs) k) k
      ≡ match_ordering r (k ∷ x ∷ xs) (x ∷ xs) (x ∷ insert_key R xs k)) [
        | Less ↦ λ e t. ap (λ i. insert (x ∷ xs) i k) (place_first k x xs h e)
        | Equal ↦ λ e t. absurd (true≢false t)
        | Greater ↦ λ e t. ap (λ i. insert (x ∷ xs) i k) (place_later k x xs e)
            ∙ ap (λ l. x ∷ l) (insert_at_place k xs (sorted_tail R x xs h) t)
      ] refl absent

  -- an item that is there, taken away from its place
  pub remove_at_place : (k : A) (xs : List A) → IsStrictlySortedBy R xs → has R xs k ≡ true
      → remove xs (place_of R xs k) ≡ remove_key (eq_by_cmp R k) xs
  remove_at_place k [] h present = absurd (true≢false (sym present))
  remove_at_place k (x ∷ xs) h present =
      elim (R k x) as (λ r. R k x ≡ r → (is_eq r || has R xs k) ≡ true
      → remove (x ∷ xs) (place_of R (x ∷ xs) k) ≡ cond (is_eq r) xs (x ∷ remove_key (eq_by_cmp R k) xs)) [
        | Less ↦ λ e t. absurd (true≢false (sym present ∙ lacks_first o k x xs h e))
        | Equal ↦ λ e t. ap (λ i. remove (x ∷ xs) i) (place_here k x xs h e)
        | Greater ↦ λ e t. ap (λ i. remove (x ∷ xs) i) (place_later k x xs e)
            ∙ ap (λ l. x ∷ l) (remove_at_place k xs (sorted_tail R x xs h) t)
      ] refl present

  pub place_within : (k : A) (xs : List A) → IsStrictlySortedBy R xs → has R xs k ≡ true → place_of R xs k < length xs
  place_within k [] h present = absurd (true≢false (sym present))
  place_within k (x ∷ xs) h present =
      elim (R k x) as (λ r. R k x ≡ r → (is_eq r || has R xs k) ≡ true → place_of R (x ∷ xs) k < length (x ∷ xs)) [
        | Less ↦ λ e t. absurd (true≢false (sym present ∙ lacks_first o k x xs h e))
        | Equal ↦ λ e t. let first = place_here k x xs h e in omega arith
        | Greater ↦ λ e t. let later = place_later k x xs e in let within = place_within k xs (sorted_tail R x xs h) t
            in omega arith
      ] refl present

  above-remove : (x : A) (xs : List A) (i : ℕ) → AllByRecursion (λ y. R x y ≡ Less) xs
      → AllByRecursion (λ y. R x y ≡ Less) (remove xs i)
  above-remove x [] zero above = tt
  above-remove x [] (suc i) above = tt
  above-remove x (y ∷ ys) zero above = above.1
  above-remove x (y ∷ ys) (suc i) above = (above.0, above-remove x ys i above.1)

  pub sorted-remove : (xs : List A) (i : ℕ) → IsStrictlySortedBy R xs → IsStrictlySortedBy R (remove xs i)
  sorted-remove [] zero h = h
  sorted-remove [] (suc i) h = h
  sorted-remove (x ∷ xs) zero h = sorted_tail R x xs h
  sorted-remove (x ∷ xs) (suc i) h =
      sorted_cons o x (remove xs i) (above-remove x xs i (sorted_head R x xs h))
      (sorted-remove xs i (sorted_tail R x xs h))

  -- the first item that passes a test that k alone passes
  module _ (p : A → Bool) where
    first_place : (k : A) (xs : List A) → IsStrictlySortedBy R xs → has R xs k ≡ true
        → AllByRecursion (λ x. p x ≡ eq_by_cmp R k x) xs → prefix_len (λ x. not (p x)) xs ≡ place_of R xs k
    first_place k [] h present only = absurd (true≢false (sym present))
    first_place k (x ∷ xs) h present only =
        ap (λ b. cond (not b) (1 + prefix_len (λ y. not (p y)) xs) 0) only.0
        ∙ elim (R k x) as (λ r. R k x ≡ r → (is_eq r || has R xs k) ≡ true
        → cond (not (is_eq r)) (1 + prefix_len (λ y. not (p y)) xs) 0 ≡ place_of R (x ∷ xs) k) [
          | Less ↦ λ e t. absurd (true≢false (sym present ∙ lacks_first o k x xs h e))
          | Equal ↦ λ e t. sym (place_here k x xs h e)
          | Greater ↦ λ e t. let rest = first_place k xs (sorted_tail R x xs h) t only.1 in let later =
              place_later k x xs e in omega arith
        ] refl present

    pub position_found : (k : A) (xs : List A) → IsStrictlySortedBy R xs → has R xs k ≡ true
        → AllByRecursion (λ x. p x ≡ eq_by_cmp R k x) xs → position p xs ≡ Some (place_of R xs k)
    position_found k xs h present only =
        let first = first_place k xs h present only in
        let within = place_within k xs h present in
        grind (arith, nat_tests)

    none_first : (xs : List A) → AllByRecursion (λ x. p x ≡ false) xs → prefix_len (λ x. not (p x)) xs ≡ length xs
    none_first [] none = refl
    none_first (x ∷ xs) none = ap (λ b. cond (not b) (1 + prefix_len (λ y. not (p y)) xs) 0) none.0
        ∙ (let rest = none_first xs none.1 in omega arith)

    pub position_none : (xs : List A) → AllByRecursion (λ x. p x ≡ false) xs → position p xs ≡ None
    position_none xs none = let all = none_first xs none in grind (arith, nat_tests)
