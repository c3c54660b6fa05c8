-- The entries of an ordered map whose keys are seen through a function, as the entries of a finite map in an order that
-- is total and tells all keys apart.
use Rattle.std.proofs.Common.{◌≡◌, suc, Bool, true, false, cond, Ordering, List, [], ◌∷◌, Some, None, length, map, T}
use Rattle.std.proofs.Common.{◌&&◌, refl, sym, ap, subst, ◌∙◌}
use Rattle.std.specs.List.{AllByRecursion, AllZip}
use Rattle.std.specs.List.Sorted.{IsStrictlySortedBy}
use Rattle.std.specs.Ordering.{is_eq, is_lt, match_ordering}
use Rattle.std.specs.Cmp.{IsTotalOrder, eq_by_cmp_equiv, Equal-is}
use Rattle.std.specs.declared.cmp.Ordering.TheVariants.{Less, Equal, Greater}
use Rattle.std.specs.BTreeMap.{insert_entry}
use Rattle.std.specs.Map.{lookup, remove_entry}
use Rattle.std.specs.FinMap as finite
use Rattle.std.specs.FinMap.{IsAntisymmetric}
use Rattle.std.specs.FinMap.Entries.{put, find, by_order, below_all, is_sorted}
use Rattle.std.proofs.lemmas.Bool.{false≢true}
use Rattle.std.proofs.lemmas.Map.Keys.{sorted_head, sorted_tail}
use Rattle.std.proofs.lemmas.Map.Lookups.{map_keys}

both : (a b : Bool) → T a → T b → T (a && b)
both true b p q = q
both false b p q = absurd p

module _ {Q X : Type 0} (R : Q → Q → Ordering) where
  below_test : (k : Q) (xs : List (Q × X)) → AllByRecursion (λ y. R k y ≡ Less) (map (λ e. e.0) xs)
      → T (below_all R k xs)
  below_test k [] h = tt
  below_test k (x ∷ xs) h = both (is_lt (R k x.0)) (below_all R k xs) (subst (λ r. T (is_lt r)) (sym h.0) tt)
      (below_test k xs h.1)

  sorted_test : (xs : List (Q × X)) → IsStrictlySortedBy R (map (λ e. e.0) xs) → T (is_sorted R xs)
  sorted_test [] h = tt
  sorted_test (x ∷ xs) h =
      both (below_all R x.0 xs) (is_sorted R xs) (below_test x.0 xs (sorted_head R x.0 (map (λ e. e.0) xs) h))
      (sorted_test xs (sorted_tail R x.0 (map (λ e. e.0) xs) h))

  find_lookup : (es : List (Q × X)) (q : Q) → find R q es ≡ lookup (λ k. is_eq (R q k)) es
  find_lookup [] q = refl
  find_lookup (e ∷ es) q = ap (cond (is_eq (R q e.0)) (Some e.1)) (find_lookup es q)

  module _ (o : IsTotalOrder R) (same : IsAntisymmetric R) where
    -- the map of entries whose keys rise has just these
    pub entries-from_rising : (xs : List (Q × X)) → IsStrictlySortedBy R (map (λ e. e.0) xs)
        → finite.entries (finite.from_entries {R = R} xs) ≡ xs
    entries-from_rising xs h =
        let test = sorted_test xs h in
        let is = finite.same_map o same (finite.from_entries {R = R} xs) (finite.from_sorted xs)
        (λ q. finite.get-from_entries o xs q ∙ sym (finite.get-from_sorted R xs q test)) in
        ap finite.entries is ∙ finite.entries-from_sorted R xs test

    -- another key is found as before
    lookup_other : (k q : Q) → (is_eq (R k q) ≡ true → ⊥) → (xs : List (Q × X))
        → lookup (λ x. is_eq (R q x)) (remove_entry (λ x. is_eq (R k x)) xs) ≡ lookup (λ x. is_eq (R q x)) xs
    lookup_other k q apart [] = refl
    lookup_other k q apart (e ∷ xs) =
        let equiv = eq_by_cmp_equiv o in
        elim (is_eq (R k e.0)) as (λ b. is_eq (R k e.0) ≡ b
        → lookup (λ x. is_eq (R q x)) (cond b xs (e ∷ remove_entry (λ x. is_eq (R k x)) xs))
        ≡ cond (is_eq (R q e.0)) (Some e.1) (lookup (λ x. is_eq (R q x)) xs)) [
          | true ↦ λ here. elim (is_eq (R q e.0)) as (λ b. is_eq (R q e.0) ≡ b
              → lookup (λ x. is_eq (R q x)) xs ≡ cond b (Some e.1) (lookup (λ x. is_eq (R q x)) xs)) [
                | true ↦ λ there. absurd (apart (equiv.congr k e.0 q here ∙ equiv.symm e.0 q ∙ there))
                | false ↦ λ there. refl
              ] refl
          | false ↦ λ here. ap (cond (is_eq (R q e.0)) (Some e.1)) (lookup_other k q apart xs)
        ] refl

    -- entries of which the one at a key is left out, and no other is there
    pub from_entries-remove_entry : (xs : List (Q × X)) (k : Q)
        → lookup (λ x. is_eq (R k x)) (remove_entry (λ x. is_eq (R k x)) xs) ≡ None
        → finite.from_entries {R = R} (remove_entry (λ x. is_eq (R k x)) xs)
        ≡ finite.remove (finite.from_entries {R = R} xs) k
    from_entries-remove_entry xs k gone =
        let ys = remove_entry (λ x. is_eq (R k x)) xs in
        let m = finite.from_entries {R = R} xs in
        let left : (q : Q) → lookup (λ x. is_eq (R q x)) ys
        ≡ cond (is_eq (R k q)) None (lookup (λ x. is_eq (R q x)) xs) =
        λ q. elim (is_eq (R k q)) as (λ b. is_eq (R k q) ≡ b
        → lookup (λ x. is_eq (R q x)) ys ≡ cond b None (lookup (λ x. is_eq (R q x)) xs)) [
          | true ↦ λ here. ap (λ k'. lookup (λ x. is_eq (R k' x)) ys) (sym (same k q ((Equal-is (R k q)).0 here)))
              ∙ gone
          | false ↦ λ here. lookup_other k q (λ e. false≢true (sym here ∙ e)) xs
        ] refl in
        finite.same_map o same _ _ (λ q. finite.get-from_entries o ys q ∙ find_lookup ys q ∙ left q
        ∙ ap (cond (is_eq (R k q)) None) (sym (find_lookup xs q) ∙ sym (finite.get-from_entries o xs q))
        ∙ ap (λ b. cond b None (finite.get m q)) ((eq_by_cmp_equiv o).symm k q)
        ∙ sym (finite.get-remove o m k q))

-- keys in the order of what is seen of them
abbrev pub cmp_by : {K Q : Type 0} → (Q → Q → Ordering) → (K → Q) → K → K → Ordering
cmp_by R f a b = R (f a) (f b)

module _ {K Q X : Type 0} (R : Q → Q → Ordering) (f : K → Q) where
  find_seen : (es : List (K × X)) (q : Q) → find R q (map_keys f es) ≡ lookup (λ k. is_eq (R q (f k))) es
  find_seen [] q = refl
  find_seen (e ∷ es) q = ap (cond (is_eq (R q (f e.0))) (Some e.1)) (find_seen es q)

  insert_seen : (es : List (K × X)) (k : K) (v : X)
      → map_keys f (insert_entry (cmp_by R f) es k v) ≡ put R (f k) v (map_keys f es)
  insert_seen [] k v = refl
  insert_seen (e ∷ es) k v =
      elim (cmp_by R f k e.0) as (λ o.
      map_keys f (match_ordering o ((k, v) ∷ e ∷ es) ((e.0, v) ∷ es) (e ∷ insert_entry (cmp_by R f) es k v))
      ≡ by_order o ((f k, v) ∷ map_keys f (e ∷ es)) ((f e.0, v) ∷ map_keys f es)
      ((f e.0, e.1) ∷ put R (f k) v (map_keys f es))) [
        | Less ↦ refl
        | Equal ↦ refl
        | Greater ↦ ap (λ es'. (f e.0, e.1) ∷ es') (insert_seen es k v)
      ]

  remove_seen : (es : List (K × X)) (q : Q)
      → map_keys f (remove_entry (λ k. is_eq (R q (f k))) es) ≡ remove_entry (λ x. is_eq (R q x)) (map_keys f es)
  remove_seen [] q = refl
  remove_seen (e ∷ es) q =
      elim (is_eq (R q (f e.0))) as (λ b. map_keys f (cond b es (e ∷ remove_entry (λ k. is_eq (R q (f k))) es))
      ≡ cond b (map_keys f es) ((f e.0, e.1) ∷ remove_entry (λ x. is_eq (R q x)) (map_keys f es))) [
        | true ↦ refl
        | false ↦ ap (λ es'. (f e.0, e.1) ∷ es') (remove_seen es q)
      ]

  rising_above : (k : K) (es : List (K × X)) → AllByRecursion (λ y. cmp_by R f k y ≡ Less) (map (λ e. e.0) es)
      → AllByRecursion (λ y. R (f k) y ≡ Less) (map (λ e. e.0) (map_keys f es))
  rising_above k [] h = h
  rising_above k (e ∷ es) h = (h.0, rising_above k es h.1)

  rising_seen : (es : List (K × X)) → IsStrictlySortedBy (cmp_by R f) (map (λ e. e.0) es)
      → IsStrictlySortedBy R (map (λ e. e.0) (map_keys f es))
  unfolding IsStrictlySortedBy
  rising_seen [] h = h
  rising_seen (e ∷ es) h = (rising_above e.0 es h.0, rising_seen es h.1)

  len_map : (es : List (K × X)) → length (map_keys f es) ≡ length es
  len_map [] = refl
  len_map (e ∷ es) = ap suc (len_map es)

  pub keys_map : (es : List (K × X)) → map (λ e. e.0) (map_keys f es) ≡ map f (map (λ e. e.0) es)
  keys_map [] = refl
  keys_map (e ∷ es) = ap (λ ks. f e.0 ∷ ks) (keys_map es)

  module _ (o : IsTotalOrder R) (same : IsAntisymmetric R) where
    pub get_seen : (es : List (K × X)) (m : finite.FinMap R X) (q : Q)
        → finite.from_entries {R = R} (map_keys f es) ≡ m → lookup (λ k. is_eq (R q (f k))) es ≡ finite.get m q
    get_seen es m q is = sym (find_seen es q) ∙ sym (finite.get-from_entries o (map_keys f es) q)
        ∙ ap (λ m. finite.get m q) is

    pub entries_seen : (es : List (K × X)) (m : finite.FinMap R X)
        → IsStrictlySortedBy (cmp_by R f) (map (λ e. e.0) es) → finite.from_entries {R = R} (map_keys f es) ≡ m
        → map_keys f es ≡ finite.entries m
    entries_seen es m h is = sym (entries-from_rising R o same (map_keys f es) (rising_seen es h))
        ∙ ap finite.entries is

    pub keys_seen : (es : List (K × X)) (m : finite.FinMap R X) → IsStrictlySortedBy (cmp_by R f) (map (λ e. e.0) es)
        → finite.from_entries {R = R} (map_keys f es) ≡ m → map f (map (λ e. e.0) es) ≡ finite.keys m
    keys_seen es m h is = sym (keys_map es) ∙ ap (map (λ e. e.0)) (entries_seen es m h is)

    pub len_seen : (es : List (K × X)) (m : finite.FinMap R X) → IsStrictlySortedBy (cmp_by R f) (map (λ e. e.0) es)
        → finite.from_entries {R = R} (map_keys f es) ≡ m → length es ≡ finite.len m
    len_seen es m h is = sym (len_map es) ∙ ap length (entries_seen es m h is) ∙ sym (finite.len-entries m)

    -- an entry more, among entries whose keys rise
    pub put_seen : (es fs : List (K × X)) (k : K) (key : Q) (v : X) (m : finite.FinMap R X)
        → IsStrictlySortedBy (cmp_by R f) (map (λ e. e.0) es) → IsStrictlySortedBy (cmp_by R f) (map (λ e. e.0) fs)
        → fs ≡ insert_entry (cmp_by R f) es k v → f k ≡ key → finite.from_entries {R = R} (map_keys f es) ≡ m
        → finite.from_entries {R = R} (map_keys f fs) ≡ finite.insert m key v
    put_seen es fs k key v m rise rise' fs_is key_is m_is =
        finite.same_entries_map _ _ (sym (entries_seen fs _ rise' refl) ∙ ap (map_keys f) fs_is ∙ insert_seen es k v
        ∙ ap (put R (f k) v) (entries_seen es m rise m_is)
        ∙ ap (λ q. put R q v (finite.entries m)) key_is ∙ sym (finite.entries-insert o m key v))

    -- an entry less
    pub take_seen : (es fs : List (K × X)) (key : Q) (m : finite.FinMap R X)
        → fs ≡ remove_entry (λ k. is_eq (R key (f k))) es → lookup (λ k. is_eq (R key (f k))) fs ≡ None
        → finite.from_entries {R = R} (map_keys f es) ≡ m
        → finite.from_entries {R = R} (map_keys f fs) ≡ finite.remove m key
    take_seen es fs key m fs_is gone m_is =
        let seen = ap (map_keys f) fs_is ∙ remove_seen es key in
        let none = sym (find_lookup R (remove_entry (λ x. is_eq (R key x)) (map_keys f es)) key)
        ∙ ap (find R key) (sym seen) ∙ find_seen fs key ∙ gone in
        ap (λ l. finite.from_entries {R = R} l) seen ∙ from_entries-remove_entry R o same (map_keys f es) key none
        ∙ ap (λ m. finite.remove m key) m_is

-- entries of a clone, where clones of keys are seen as the keys are, and clones of values are equal to them
pub keys_cloned : {K Q X : Type 0} (f : K → Q) (C : K → K → Type 0) (D : X → X → Type 0)
    → ((k l : K) → C k l → f l ≡ f k) → ((x y : X) → D x y → y ≡ x) → (es fs : List (K × X))
    → AllZip (λ p q. C p.0 q.0 × D p.1 q.1) es fs → map_keys f fs ≡ map_keys f es
keys_cloned f C D keys values [] [] all = refl
keys_cloned f C D keys values [] (q ∷ fs) all = absurd all
keys_cloned f C D keys values (p ∷ es) [] all = absurd all
keys_cloned f C D keys values (p ∷ es) (q ∷ fs) all =
    λ i. (keys p.0 q.0 all.0.0 i, values p.1 q.1 all.0.1 i) ∷ keys_cloned f C D keys values es fs all.1 i
