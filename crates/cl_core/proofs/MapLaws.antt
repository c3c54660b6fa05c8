-- The entries of an ordered map as the entries of a finite map, for any order that is total and tells all keys apart.
use Rattle.std.proofs.Common.{◌≡◌, Bool, true, false, cond, Ordering, List, [], ◌∷◌, Some, None, length, map, T, ◌&&◌}
use Rattle.std.proofs.Common.{refl, sym, ap, subst, ◌∙◌}
use Rattle.std.specs.List.{AllByRecursion}
use Rattle.std.specs.List.Sorted.{IsStrictlySortedBy}
use Rattle.std.specs.Ordering.{is_eq, is_lt, eq_by_cmp}
use Rattle.std.specs.Cmp.{IsTotalOrder, eq_by_cmp_equiv}
use Rattle.std.specs.declared.cmp.Ordering.TheVariants.{Less, Equal, Greater}
use Rattle.std.specs.Map.{lookup}
use Rattle.std.specs.FinMap as finite
use Rattle.std.specs.FinMap.{IsAntisymmetric}
use Rattle.std.specs.FinMap.Entries.{find, below_all, is_sorted}
use Rattle.std.proofs.lemmas.Map.Keys.{sorted_head, sorted_tail}

both : (a b : Bool) → T a → T b → T (a && b)
both true b p q = q
both false b p q = absurd p

shadowed : {A : Type 0} (b : Bool) (x y z : A) → cond b x (cond b y z) ≡ cond b x z
shadowed true x y z = refl
shadowed false x y z = refl

module _ {K X : Type 0} {R : K → K → Ordering} (o : IsTotalOrder R) where
  find_lookup : (es : List (K × X)) (q : K) → find R q es ≡ lookup (λ k. is_eq (R q k)) es
  find_lookup [] q = refl
  find_lookup (e ∷ es) q = ap (cond (is_eq (R q e.0)) (Some e.1)) (find_lookup es q)

  pub get_entries : (es : List (K × X)) (q : K)
      → finite.get (finite.from_entries {R = R} es) q ≡ lookup (λ k. is_eq (R q k)) es
  get_entries es q = finite.get-from_entries o es q ∙ find_lookup es q

  absent_at : (m : finite.FinMap R X) (k q : K) (r : Ordering) → R q k ≡ r → finite.get m k ≡ None
      → cond (is_eq (R q k)) None (finite.get m q) ≡ finite.get m q
  absent_at m k q Less e none = ap (λ r. cond (is_eq r) None (finite.get m q)) e
  absent_at m k q Equal e none = ap (λ r. cond (is_eq r) None (finite.get m q)) e ∙ sym none ∙ finite.get_tied o m q k e
  absent_at m k q Greater e none = ap (λ r. cond (is_eq r) None (finite.get m q)) e

  module _ (same : IsAntisymmetric R) where
    -- entries that answer as the map with a key more
    pub inserted : (es fs : List (K × X)) (m : finite.FinMap R X) (k : K) (v : X) → finite.from_entries {R = R} es ≡ m
        → ((q : K) → lookup (λ x. is_eq (R q x)) fs ≡ cond (is_eq (R k q)) (Some v) (lookup (λ x. is_eq (R q x)) es))
        → finite.from_entries {R = R} fs ≡ finite.insert m k v
    inserted es fs m k v is updates =
        finite.same_map o same _ _ (λ q. get_entries fs q ∙ updates q
        ∙ ap (λ b. cond b (Some v) (lookup (λ x. is_eq (R q x)) es)) ((eq_by_cmp_equiv o).symm k q)
        ∙ ap (cond (eq_by_cmp R q k) (Some v)) (sym (get_entries es q) ∙ ap (λ n. finite.get n q) is)
        ∙ sym (finite.get-insert o m k v q))

    -- entries that answer as the map without a key
    pub left : (es fs : List (K × X)) (m : finite.FinMap R X) (k : K) → finite.from_entries {R = R} es ≡ m
        → ((q : K) → lookup (λ x. is_eq (R q x)) fs ≡ cond (is_eq (R k q)) None (lookup (λ x. is_eq (R q x)) es))
        → finite.from_entries {R = R} fs ≡ finite.remove m k
    left es fs m k is updates =
        finite.same_map o same _ _ (λ q. get_entries fs q ∙ updates q
        ∙ ap (λ b. cond b None (lookup (λ x. is_eq (R q x)) es)) ((eq_by_cmp_equiv o).symm k q)
        ∙ ap (cond (eq_by_cmp R q k) None) (sym (get_entries es q) ∙ ap (λ n. finite.get n q) is)
        ∙ sym (finite.get-remove o m k q))

    below_test : (k : K) (xs : List (K × X)) → AllByRecursion (λ y. R k y ≡ Less) (map (λ e. e.0) xs)
        → T (below_all R k xs)
    below_test k [] h = tt
    below_test k (x ∷ xs) h = both (is_lt (R k x.0)) (below_all R k xs) (subst (λ r. T (is_lt r)) (sym h.0) tt)
        (below_test k xs h.1)

    sorted_test : (xs : List (K × X)) → IsStrictlySortedBy R (map (λ e. e.0) xs) → T (is_sorted R xs)
    sorted_test [] h = tt
    sorted_test (x ∷ xs) h =
        both (below_all R x.0 xs) (is_sorted R xs) (below_test x.0 xs (sorted_head R x.0 (map (λ e. e.0) xs) h))
        (sorted_test xs (sorted_tail R x.0 (map (λ e. e.0) xs) h))

    -- the map of entries whose keys rise has just these
    pub entries_rising : (xs : List (K × X)) → IsStrictlySortedBy R (map (λ e. e.0) xs)
        → finite.entries (finite.from_entries {R = R} xs) ≡ xs
    entries_rising xs h =
        let test = sorted_test xs h in
        let is = finite.same_map o same (finite.from_entries {R = R} xs) (finite.from_sorted xs)
        (λ q. finite.get-from_entries o xs q ∙ sym (finite.get-from_sorted R xs q test)) in
        ap finite.entries is ∙ finite.entries-from_sorted R xs test

    pub len_rising : (xs : List (K × X)) → IsStrictlySortedBy R (map (λ e. e.0) xs)
        → finite.len (finite.from_entries {R = R} xs) ≡ length xs
    len_rising xs h = finite.len-entries (finite.from_entries {R = R} xs) ∙ ap length (entries_rising xs h)

    -- a key set or removed twice
    pub insert-remove : (m : finite.FinMap R X) (k : K) (v : X)
        → finite.insert (finite.remove m k) k v ≡ finite.insert m k v
    insert-remove m k v =
        finite.same_map o same _ _ (λ q. finite.get-insert o (finite.remove m k) k v q
        ∙ ap (cond (eq_by_cmp R q k) (Some v)) (finite.get-remove o m k q)
        ∙ shadowed (eq_by_cmp R q k) (Some v) None (finite.get m q) ∙ sym (finite.get-insert o m k v q))

    pub remove_absent : (m : finite.FinMap R X) (k : K) → finite.get m k ≡ None → finite.remove m k ≡ m
    remove_absent m k none =
        finite.same_map o same _ _ (λ q. finite.get-remove o m k q ∙ absent_at m k q (R q k) refl none)

    pub insert-insert : (m : finite.FinMap R X) (k : K) (u v : X)
        → finite.insert (finite.insert m k u) k v ≡ finite.insert m k v
    insert-insert m k u v =
        finite.same_map o same _ _ (λ q. finite.get-insert o (finite.insert m k u) k v q
        ∙ ap (cond (eq_by_cmp R q k) (Some v)) (finite.get-insert o m k u q)
        ∙ shadowed (eq_by_cmp R q k) (Some v) (Some u) (finite.get m q) ∙ sym (finite.get-insert o m k v q))

    pub remove-insert : (m : finite.FinMap R X) (k : K) (u : X)
        → finite.remove (finite.insert m k u) k ≡ finite.remove m k
    remove-insert m k u =
        finite.same_map o same _ _ (λ q. finite.get-remove o (finite.insert m k u) k q
        ∙ ap (cond (eq_by_cmp R q k) None) (finite.get-insert o m k u q)
        ∙ shadowed (eq_by_cmp R q k) None (Some u) (finite.get m q) ∙ sym (finite.get-remove o m k q))
