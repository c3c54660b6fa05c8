-- The keys of a store in any order, which the order of their bytes makes the keys in order.
use Rattle.std.proofs.Common.{◌≡◌, ℕ, ◌+◌, ◌<◌, T, ◌&&◌, Bool, true, false, List, [], ◌∷◌, map, length, get_or}
use Rattle.std.proofs.Common.{is_some, bytes_eq, Ordering, Less, Equal, Greater, is_eq, is_lt, IsPermutation}
use Rattle.std.proofs.Common.{IsSorted, refl, sym, ap, subst, ◌∙◌, true≢false, arith}
use Rattle.std.specs.Ordering.{eq_by_cmp, ordering_reverse}
use Rattle.std.specs.Cmp.Lexicographic.{texts_ties}
use Rattle.std.specs.List.{IsDistinct, AllByRecursion, list_any}
use Rattle.std.specs.List.Sorted.{IsStrictlySortedBy}
use Rattle.std.specs.Map.{keys_of}
use Rattle.std.specs.FinMap as finite
use Rattle.std.specs.FinMap.Entries.{is_sorted, below_all, is_some-find}
use Rattle.std.proofs.lemmas.Cmp.{nat_list_eq_equiv}
use Rattle.std.proofs.lemmas.List.Sorted.{list_any-IsPermutation}
use Rattle.std.proofs.lemmas.Map.Keys.{apart_from_distinct, IsDistinct-IsPermutation, sorted_from_all_adjacent}
use Rattle.std.proofs.lemmas.Map.Lookups.{map_keys}
use Rattle.ks_tree.proofs.ByteOrder.{bytes_total, bytes_exact}
use Rattle.ks_tree.proofs.MapLaws.{keys_map}
use Rattle.ks_tree.proofs.Order.{same_items}
use Rattle.ks_value.proofs.Seen.{eq_by, distinct-seen}
use Rattle.ks_space.specs.declared.entry.Entry.{Entry}
use Rattle.ks_space.specs.Store.{bytes_cmp, Store}

-- each key of the store, once
pub record IsKeyList (store : Store) (keys : List (List ℕ)) : Type 0 where
  pub distinct : IsDistinct bytes_eq keys
  pub has : (q : List ℕ) → list_any (eq_by_cmp bytes_cmp q) keys ≡ finite.contains_key store q

pub keys_listed : {K : Type 0} (f : K → List ℕ) (es : List (K × Entry)) (store : Store)
    → IsDistinct (eq_by f) (keys_of es) → finite.from_entries {R = bytes_cmp} (map_keys f es) ≡ store
    → IsKeyList store (map f (keys_of es))
keys_listed f es store distinct is =
    subst (IsKeyList store) (keys_map bytes_cmp f es) (record {
      distinct = distinct-seen f es distinct;
      has = λ q. sym (is_some-find bytes_cmp q (map_keys f es))
          ∙ ap is_some (sym (finite.get-from_entries bytes_total (map_keys f es) q) ∙ ap (λ m. finite.get m q) is);
    })

-- the keys of a store ascend
first_of : (a b : Bool) → T (a && b) → T a
first_of true b h = tt
first_of false b h = absurd h

second_of : (a b : Bool) → T (a && b) → T b
second_of true b h = h
second_of false b h = absurd h

less_from : (r : Ordering) → T (is_lt r) → r ≡ Less
less_from Less h = refl
less_from Equal h = absurd h
less_from Greater h = absurd h

all_above : (x : List ℕ) (es : List (List ℕ × Entry)) → T (below_all bytes_cmp x es)
    → AllByRecursion (λ y. bytes_cmp x y ≡ Less) (map (λ e. e.0) es)
all_above x [] h = tt
all_above x (e ∷ es) h = (
  less_from (bytes_cmp x e.0) (first_of (is_lt (bytes_cmp x e.0)) (below_all bytes_cmp x es) h),
  all_above x es (second_of (is_lt (bytes_cmp x e.0)) (below_all bytes_cmp x es) h),
)

pub keys_sorted : (es : List (List ℕ × Entry)) → T (is_sorted bytes_cmp es)
    → IsStrictlySortedBy bytes_cmp (map (λ e. e.0) es)
unfolding IsStrictlySortedBy
keys_sorted [] h = tt
keys_sorted (e ∷ es) h = (
  all_above e.0 es (first_of (below_all bytes_cmp e.0 es) (is_sorted bytes_cmp es) h),
  keys_sorted es (second_of (below_all bytes_cmp e.0 es) (is_sorted bytes_cmp es) h),
)

-- so does a sorted list of keys that differ
rises : (a b : List ℕ) → is_lt (bytes_cmp b a) ≡ false → bytes_eq a b ≡ false → bytes_cmp a b ≡ Less
rises a b not_below apart =
    elim (bytes_cmp a b) as (λ r. bytes_cmp a b ≡ r → r ≡ Less) [
      | Less ↦ λ e. refl
      | Equal ↦ λ e. absurd (true≢false (sym (ap is_eq e) ∙ sym (texts_ties a b) ∙ apart))
      | Greater ↦ λ e. absurd (true≢false (sym (ap is_lt (bytes_total.antisymm b a ∙ ap ordering_reverse e))
          ∙ not_below))
    ] refl

sorted_rise : (keys : List (List ℕ)) → IsSorted bytes_cmp keys → IsDistinct bytes_eq keys
    → IsStrictlySortedBy bytes_cmp keys
sorted_rise keys sorted distinct = sorted_from_all_adjacent bytes_total keys [] step
  where
    step : (k : ℕ) → k + 1 < length keys → bytes_cmp (get_or keys k []) (get_or keys (k + 1) []) ≡ Less
    step k within = rises (get_or keys k []) (get_or keys (k + 1) []) (sorted k [] (omega arith) within)
        (apart_from_distinct bytes_eq keys k (k + 1) [] distinct (omega arith) within)

pub in_byte_order : (store : Store) (keys sorted : List (List ℕ)) → IsKeyList store keys → IsPermutation keys sorted
    → IsSorted bytes_cmp sorted → sorted ≡ finite.keys store
in_byte_order store keys sorted listed moved ordered =
    same_items bytes_total bytes_exact sorted (finite.keys store)
    (sorted_rise sorted ordered (IsDistinct-IsPermutation bytes_eq nat_list_eq_equiv.symm keys sorted moved
    listed.distinct))
    (keys_sorted (finite.entries store) (finite.entries_sorted store))
    (λ q. sym (list_any-IsPermutation (eq_by_cmp bytes_cmp q) keys sorted moved) ∙ listed.has q
    ∙ finite.contains_key-keys store q)
