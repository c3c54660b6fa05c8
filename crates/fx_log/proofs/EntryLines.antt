-- The lines of a dump, key by key.
use Rattle.std.proofs.Common.{◌≡◌, ℕ, cond, List, [], ◌∷◌, ◌++◌, Some, map, Less, is_eq, refl, ap, ◌∙◌}
use Rattle.std.specs.Cmp.{tied_itself}
use Rattle.std.specs.FinMap as finite
use Rattle.std.specs.FinMap.Entries.{find}
use Rattle.std.specs.List.{AllByRecursion, flat_map}
use Rattle.std.specs.List.Sorted.{IsStrictlySortedBy}
use Rattle.std.specs.Option.{option_map_or}
use Rattle.std.specs.Ordering.{ordering_reverse}
use Rattle.std.proofs.lemmas.Map.Keys.{sorted_head, sorted_tail}
use Rattle.ks_tree.proofs.ByteOrder.{bytes_total}
use Rattle.ks_space.specs.declared.entry.Entry.{Entry}
use Rattle.ks_space.specs.Store.{bytes_cmp, Store}
use Rattle.ks_space.proofs.KeyLists.{keys_sorted}
use Rattle.fx_log.specs.Dump.{entry_line, line_at, dump}

-- each of these is found in the entries
AreFound : List (List ℕ × Entry) → List (List ℕ × Entry) → Type 0
AreFound es ys = AllByRecursion (λ e. find bytes_cmp e.0 es ≡ Some e.1) ys

found_behind : (x : List ℕ × Entry) (es ys : List (List ℕ × Entry))
    → AllByRecursion (λ y. bytes_cmp x.0 y ≡ Less) (map (λ e. e.0) ys) → AreFound es ys → AreFound (x ∷ es) ys
unfolding AreFound
found_behind x es [] above all = tt
found_behind x es (y ∷ ys) above all =
    let after = ap is_eq (bytes_total.antisymm y.0 x.0 ∙ ap ordering_reverse above.0) in
    (ap (λ b. cond b (Some x.1) (find bytes_cmp y.0 es)) after ∙ all.0, found_behind x es ys above.1 all.1)

all_found : (es : List (List ℕ × Entry)) → IsStrictlySortedBy bytes_cmp (map (λ e. e.0) es) → AreFound es es
unfolding AreFound
all_found [] h = tt
all_found (x ∷ es) h =
    let keys = map (λ (e : List ℕ × Entry). e.0) es in (
      ap (λ r. cond (is_eq r) (Some x.1) (find bytes_cmp x.0 es)) (tied_itself bytes_total x.0),
      found_behind x es es (sorted_head bytes_cmp x.0 keys h) (all_found es (sorted_tail bytes_cmp x.0 keys h)),
    )

lines : (store : Store) (es : List (List ℕ × Entry)) → AreFound (finite.entries store) es
    → flat_map (line_at store) (map (λ e. e.0) es) ≡ flat_map entry_line es
unfolding AreFound
lines store [] h = refl
lines store (e ∷ es) h =
    let line = ap (λ o. option_map_or (λ (x : Entry). entry_line (e.0, x)) o []) (finite.get-entries store e.0 ∙ h.0) in
    λ i. line i ++ lines store es h.1 i

pub lines_by_key : (store : Store) → flat_map (line_at store) (finite.keys store) ≡ dump store
lines_by_key store = lines store (finite.entries store)
    (all_found (finite.entries store) (keys_sorted (finite.entries store) (finite.entries_sorted store)))
