-- Lists that strictly rise in an order that is total and tells all items apart: what they hold, and that they hold it
-- in
-- one way alone.
use Rattle.std.proofs.Common.{◌≡◌, Bool, true, false, cond, ◌||◌, Ordering, List, [], ◌∷◌, refl, sym, ap, subst, ◌∙◌}
use mathlib.Core.Bool.{true≢false}
use Rattle.std.specs.List.{AllByRecursion, list_any}
use Rattle.std.specs.List.Sorted.{IsStrictlySortedBy}
use Rattle.std.specs.Ordering.{is_eq, eq_by_cmp, match_ordering, ordering_reverse}
use Rattle.std.specs.Cmp.{IsTotalOrder, tied_itself, alike_right, Equal-is}
use Rattle.std.specs.declared.cmp.Ordering.TheVariants.{Less, Equal, Greater}
use Rattle.std.specs.BTreeSet.{insert_key}
use Rattle.std.specs.Set.{remove_key}
use Rattle.std.specs.FinMap.{IsAntisymmetric}
use Rattle.std.proofs.lemmas.Map.Keys.{sorted_head, sorted_tail}
use Rattle.ks_tree.specs.Order.{in_order}

-- whether the list has the item
abbrev pub has : {A : Type 0} → (A → A → Ordering) → List A → A → Bool
has R xs x = list_any (eq_by_cmp R x) xs

or_none : (a : Bool) → (a || false) ≡ a
or_none true = refl
or_none false = refl

or_twice : (a b : Bool) → (a || b) ≡ (a || (a || b))
or_twice true b = refl
or_twice false b = refl

or_turned : (a b c : Bool) → (a || (b || c)) ≡ (b || (a || c))
or_turned true true c = refl
or_turned true false c = refl
or_turned false true c = refl
or_turned false false c = refl

or_left : (a b : Bool) → (a || b) ≡ true → (a ≡ false) → b ≡ true
or_left true b e f = absurd (true≢false f)
or_left false b e f = e

never : (b : Bool) → cond b false false ≡ false
never true = refl
never false = refl

-- what holds of each item that the list has, holds of all
pub all_by_has : {A : Type 0} {R : A → A → Ordering} → IsTotalOrder R → (P : A → Type 0) (xs : List A)
    → ((x : A) → has R xs x ≡ true → P x) → AllByRecursion P xs
all_by_has o P [] each = tt
all_by_has {R = R} o P (x ∷ xs) each = (
  each x (ap (λ r. is_eq r || has R xs x) (tied_itself o x)),
  all_by_has o P xs (λ y h. each y (later (eq_by_cmp R y x) (has R xs y) h)),
)
  where
    later : (a b : Bool) → b ≡ true → (a || b) ≡ true
    later true b h = refl
    later false b h = h

module _ {A : Type 0} {R : A → A → Ordering} (o : IsTotalOrder R) where
  flipped : (x y : A) → R x y ≡ Greater → R y x ≡ Less
  flipped x y e = o.antisymm y x ∙ ap ordering_reverse e

  pub sorted_cons : (x : A) (xs : List A) → AllByRecursion (λ y. R x y ≡ Less) xs → IsStrictlySortedBy R xs
      → IsStrictlySortedBy R (x ∷ xs)
  unfolding IsStrictlySortedBy
  sorted_cons x xs above h = (above, h)

  pub sorted_nil : IsStrictlySortedBy R []
  unfolding IsStrictlySortedBy
  sorted_nil = tt

  all_above : (k x : A) (xs : List A) → R k x ≡ Less → AllByRecursion (λ y. R x y ≡ Less) xs
      → AllByRecursion (λ y. R k y ≡ Less) xs
  all_above k x [] e above = tt
  all_above k x (y ∷ ys) e above = (o.trans k x y e above.0, all_above k x ys e above.1)

  above-insert_key : (x k : A) (xs : List A) → R x k ≡ Less → AllByRecursion (λ y. R x y ≡ Less) xs
      → AllByRecursion (λ y. R x y ≡ Less) (insert_key R xs k)
  above-insert_key x k [] e above = (e, tt)
  above-insert_key x k (y ∷ ys) e above =
      elim (R k y) as (λ r. AllByRecursion (λ z. R x z ≡ Less)
      (match_ordering r (k ∷ y ∷ ys) (y ∷ ys) (y ∷ insert_key R ys k))) [
        | Less ↦ (e, above)
        | Equal ↦ above
        | Greater ↦ (above.0, above-insert_key x k ys e above.1)
      ]

  pub sorted-insert_key : (k : A) (xs : List A) → IsStrictlySortedBy R xs → IsStrictlySortedBy R (insert_key R xs k)
  sorted-insert_key k [] h = sorted_cons k [] tt h
  sorted-insert_key k (x ∷ xs) h =
      let above = sorted_head R x xs h in
      elim (R k x) as (λ r. R k x ≡ r
      → IsStrictlySortedBy R (match_ordering r (k ∷ x ∷ xs) (x ∷ xs) (x ∷ insert_key R xs k))) [
        | Less ↦ λ e. sorted_cons k (x ∷ xs) (e, all_above k x xs e above) h
        | Equal ↦ λ e. h
        | Greater ↦ λ e. sorted_cons x (insert_key R xs k) (above-insert_key x k xs (flipped k x e) above)
            (sorted-insert_key k xs (sorted_tail R x xs h))
      ] refl

  above-remove_key : (test : A → Bool) (x : A) (xs : List A) → AllByRecursion (λ y. R x y ≡ Less) xs
      → AllByRecursion (λ y. R x y ≡ Less) (remove_key test xs)
  above-remove_key test x [] above = tt
  above-remove_key test x (y ∷ ys) above =
      elim (test y) as (λ b. AllByRecursion (λ z. R x z ≡ Less) (cond b ys (y ∷ remove_key test ys))) [
        | true ↦ above.1
        | false ↦ (above.0, above-remove_key test x ys above.1)
      ]

  pub sorted-remove_key : (test : A → Bool) (xs : List A) → IsStrictlySortedBy R xs
      → IsStrictlySortedBy R (remove_key test xs)
  sorted-remove_key test [] h = h
  sorted-remove_key test (x ∷ xs) h =
      elim (test x) as (λ b. IsStrictlySortedBy R (cond b xs (x ∷ remove_key test xs))) [
        | true ↦ sorted_tail R x xs h
        | false ↦ sorted_cons x (remove_key test xs) (above-remove_key test x xs (sorted_head R x xs h))
            (sorted-remove_key test xs (sorted_tail R x xs h))
      ]

  -- an item below all of a list is not in it
  pub lacks_above : (k : A) (xs : List A) → AllByRecursion (λ y. R k y ≡ Less) xs → has R xs k ≡ false
  lacks_above k [] above = refl
  lacks_above k (x ∷ xs) above = ap (λ r. is_eq r || has R xs k) above.0 ∙ lacks_above k xs above.1

  pub lacks_first : (k x : A) (xs : List A) → IsStrictlySortedBy R (x ∷ xs) → R k x ≡ Less → has R (x ∷ xs) k ≡ false
  lacks_first k x xs h e = lacks_above k (x ∷ xs) (e, all_above k x xs e (sorted_head R x xs h))

  pub has-insert_key : (k : A) (xs : List A) (q : A) → has R (insert_key R xs k) q ≡ (eq_by_cmp R q k || has R xs q)
  has-insert_key k [] q = refl
  has-insert_key k (x ∷ xs) q =
      elim (R k x) as (λ r. R k x ≡ r
      → has R (match_ordering r (k ∷ x ∷ xs) (x ∷ xs) (x ∷ insert_key R xs k)) q
      ≡ (eq_by_cmp R q k || (eq_by_cmp R q x || has R xs q))) [
        | Less ↦ λ e. refl
        | Equal ↦ λ e. or_twice (eq_by_cmp R q x) (has R xs q)
            ∙ ap (λ r. is_eq r || (eq_by_cmp R q x || has R xs q)) (sym (alike_right o k x q e))
        | Greater ↦ λ e. ap (λ b. eq_by_cmp R q x || b) (has-insert_key k xs q)
            ∙ or_turned (eq_by_cmp R q x) (eq_by_cmp R q k) (has R xs q)
      ] refl

  pub sorted-in_order : (xs : List A) → IsStrictlySortedBy R (in_order R xs)
  sorted-in_order [] = sorted_nil
  sorted-in_order (x ∷ xs) = sorted-insert_key x (in_order R xs) (sorted-in_order xs)

  pub has-in_order : (xs : List A) (q : A) → has R (in_order R xs) q ≡ has R xs q
  has-in_order [] q = refl
  has-in_order (x ∷ xs) q = has-insert_key x (in_order R xs) q ∙ ap (λ b. eq_by_cmp R q x || b) (has-in_order xs q)

  module _ (same : IsAntisymmetric R) where
    same_by_test : (x y : A) → eq_by_cmp R x y ≡ true → x ≡ y
    same_by_test x y e = same x y ((Equal-is (R x y)).0 e)

    pub has-remove_key : (k : A) (xs : List A) (q : A) → IsStrictlySortedBy R xs
        → has R (remove_key (eq_by_cmp R k) xs) q ≡ cond (eq_by_cmp R k q) false (has R xs q)
    has-remove_key k [] q h = sym (never (eq_by_cmp R k q))
    has-remove_key k (x ∷ xs) q h =
        elim (eq_by_cmp R k x) as (λ b. eq_by_cmp R k x ≡ b
        → has R (cond b xs (x ∷ remove_key (eq_by_cmp R k) xs)) q
        ≡ cond (eq_by_cmp R k q) false (eq_by_cmp R q x || has R xs q)) [
          | true ↦ λ here. elim (eq_by_cmp R k q) as (λ b. eq_by_cmp R k q ≡ b
              → has R xs q ≡ cond b false (eq_by_cmp R q x || has R xs q)) [
                | true ↦ λ there. ap (has R xs) (sym (same_by_test k q there) ∙ same_by_test k x here)
                    ∙ lacks_above x xs (sorted_head R x xs h)
                | false ↦ λ there. ap (λ b. b || has R xs q) (sym (apart q x k here there))
              ] refl
          | false ↦ λ here. elim (eq_by_cmp R k q) as (λ b. eq_by_cmp R k q ≡ b
              → (eq_by_cmp R q x || has R (remove_key (eq_by_cmp R k) xs) q)
              ≡ cond b false (eq_by_cmp R q x || has R xs q)) [
                | true ↦ λ there. ap (λ k'. eq_by_cmp R k' x || has R (remove_key (eq_by_cmp R k) xs) q)
                    (sym (same_by_test k q there))
                    ∙ ap (λ b. b || has R (remove_key (eq_by_cmp R k) xs) q) here
                    ∙ has-remove_key k xs q (sorted_tail R x xs h) ∙ ap (λ b. cond b false (has R xs q)) there
                | false ↦ λ there. ap (λ b. eq_by_cmp R q x || b) (has-remove_key k xs q (sorted_tail R x xs h)
                    ∙ ap (λ b. cond b false (has R xs q)) there)
              ] refl
        ] refl
      where
        apart : (q x k : A) → eq_by_cmp R k x ≡ true → eq_by_cmp R k q ≡ false → eq_by_cmp R q x ≡ false
        apart q x k here there = subst (λ x'. eq_by_cmp R q x' ≡ false) (same_by_test k x here) (turned q k there)
          where
            turned : (q k : A) → eq_by_cmp R k q ≡ false → eq_by_cmp R q k ≡ false
            turned q k e = ap is_eq (o.antisymm q k) ∙ reversed (R k q) ∙ e
              where
                reversed : (r : Ordering) → is_eq (ordering_reverse r) ≡ is_eq r
                reversed Less = refl
                reversed Equal = refl
                reversed Greater = refl

    -- two strictly sorted lists that have the same items are equal
    pub same_items : (xs ys : List A) → IsStrictlySortedBy R xs → IsStrictlySortedBy R ys
        → ((q : A) → has R xs q ≡ has R ys q) → xs ≡ ys
    same_items [] [] h g is = refl
    same_items [] (y ∷ ys) h g is = absurd (true≢false (sym (is y ∙ ap (λ r. is_eq r || has R ys y) (tied_itself o y))))
    same_items (x ∷ xs) [] h g is = absurd (true≢false (sym (ap (λ r. is_eq r || has R xs x) (tied_itself o x)) ∙ is x))
    same_items (x ∷ xs) (y ∷ ys) h g is =
        elim (R x y) as (λ r. R x y ≡ r → x ∷ xs ≡ y ∷ ys) [
          | Less ↦ λ e. absurd (true≢false (sym (ap (λ r. is_eq r || has R xs x) (tied_itself o x)) ∙ is x
              ∙ lacks_first x y ys g e))
          | Equal ↦ λ e. let first = same x y e in
              λ i. first i ∷ same_items xs ys (sorted_tail R x xs h) (sorted_tail R y ys g) (rest first) i
          | Greater ↦ λ e. absurd (true≢false (sym (ap (λ r. is_eq r || has R ys y) (tied_itself o y)) ∙ sym (is y)
              ∙ lacks_first y x xs h (flipped x y e)))
        ] refl
      where
        rest : x ≡ y → (q : A) → has R xs q ≡ has R ys q
        rest first q =
            elim (eq_by_cmp R q x) as (λ b. eq_by_cmp R q x ≡ b → has R xs q ≡ has R ys q) [
              | true ↦ λ e. let q_is = same_by_test q x e in
                  ap (has R xs) q_is ∙ lacks_above x xs (sorted_head R x xs h)
                  ∙ sym (ap (has R ys) (q_is ∙ first) ∙ lacks_above y ys (sorted_head R y ys g))
              | false ↦ λ e. ap (λ b. b || has R xs q) (sym e) ∙ is q
                  ∙ ap (λ k. eq_by_cmp R q k || has R ys q) (sym first) ∙ ap (λ b. b || has R ys q) e
            ] refl
