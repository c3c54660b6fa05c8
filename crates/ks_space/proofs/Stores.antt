-- What a store may hold stays so.
use Rattle.std.proofs.Common.{◌≡◌, ℕ, Bool, true, false, cond, List, Option, Some, None, refl, sym, ap, subst, ◌∙◌}
use Rattle.std.proofs.Common.{unwrap_or}
use Rattle.std.specs.Option.{IfSome, option_map, option_map_or}
use Rattle.std.specs.Ordering.{eq_by_cmp}
use Rattle.std.specs.Cmp.{Equal-is}
use Rattle.std.specs.FinMap as finite
use Rattle.ks_space.specs.declared.entry.Entry.{Entry}
use Rattle.ks_space.specs.declared.entry.Value.{Value}
use Rattle.ks_space.specs.Store.{bytes_cmp, Store, IsKey, IsValue, IsKept, IsStore, with_deadline, with_value}
use Rattle.ks_tree.proofs.ByteOrder.{bytes_total, bytes_exact}

same_Some : {A : Type 0} (x y : A) → Some x ≡ Some y → x ≡ y
same_Some x y e = ap (λ o. unwrap_or o x) e

pub IsStore-empty : IsStore finite.empty
IsStore-empty key entry e = none (sym (finite.get-empty bytes_cmp key) ∙ e)
  where
    none : None ≡ Some entry → IsKey key × IsKept entry
    none e = absurd (cc)

pub IsStore-insert : (store : Store) (k : List ℕ) (e : Entry) → IsStore store → IsKey k → IsKept e
    → IsStore (finite.insert store k e)
IsStore-insert store k e h key kept q x is =
    by_key (eq_by_cmp bytes_cmp q k) refl (sym (finite.get-insert bytes_total store k e q) ∙ is)
  where
    by_key : (b : Bool) → eq_by_cmp bytes_cmp q k ≡ b → cond b (Some e) (finite.get store q) ≡ Some x → IsKey q
        × IsKept x
    by_key true same found = (
      subst IsKey (sym (bytes_exact q k ((Equal-is (bytes_cmp q k)).0 same))) key,
      subst IsKept (same_Some e x found) kept,
    )
    by_key false other found = h q x found

pub IsStore-remove : (store : Store) (k : List ℕ) → IsStore store → IsStore (finite.remove store k)
IsStore-remove store k h q x is = by_key (eq_by_cmp bytes_cmp q k) (sym (finite.get-remove bytes_total store k q) ∙ is)
  where
    by_key : (b : Bool) → cond b None (finite.get store q) ≡ Some x → IsKey q × IsKept x
    by_key true found = absurd (cc)
    by_key false found = h q x found

-- to insert the entry that a key has changes nothing
pub insert-same : (store : Store) (k : List ℕ) (e : Entry) → finite.get store k ≡ Some e
    → finite.insert store k e ≡ store
insert-same store k e is = finite.same_map bytes_total bytes_exact (finite.insert store k e) store
    (λ q. finite.get-insert bytes_total store k e q ∙ by_key q (eq_by_cmp bytes_cmp q k) refl)
  where
    by_key : (q : List ℕ) (b : Bool) → eq_by_cmp bytes_cmp q k ≡ b
        → cond b (Some e) (finite.get store q) ≡ finite.get store q
    by_key q true same = sym is ∙ ap (finite.get store) (sym (bytes_exact q k ((Equal-is (bytes_cmp q k)).0 same)))
    by_key q false other = refl

-- a deadline changes, where the key is there
pub with_deadline-insert : (store : Store) (k : List ℕ) (e : Entry) (d : Option ℕ) → finite.get store k ≡ Some e
    → with_deadline store k d ≡ finite.insert store k (record e { deadline = d })
with_deadline-insert store k e d is =
    ap (λ o. option_map_or (λ (x : Entry). finite.insert store k (record x { deadline = d })) o store) is

pub with_deadline-same : (store : Store) (k : List ℕ) (e : Entry) → finite.get store k ≡ Some e
    → with_deadline store k e.deadline ≡ store
with_deadline-same store k e is = with_deadline-insert store k e e.deadline is ∙ insert-same store k e is

pub with_deadline-none : (store : Store) (k : List ℕ) (d : Option ℕ) → finite.get store k ≡ None
    → with_deadline store k d ≡ store
with_deadline-none store k d is =
    ap (λ o. option_map_or (λ (x : Entry). finite.insert store k (record x { deadline = d })) o store) is

-- a value changes, where the key is there
pub with_value-insert : (store : Store) (k : List ℕ) (e : Entry) (v : Value) → finite.get store k ≡ Some e
    → with_value store k v ≡ finite.insert store k (record e { value = v })
with_value-insert store k e v is =
    ap (λ o. option_map_or (λ (x : Entry). finite.insert store k (record x { value = v })) o store) is

pub with_value-none : (store : Store) (k : List ℕ) (v : Value) → finite.get store k ≡ None
    → with_value store k v ≡ store
with_value-none store k v is =
    ap (λ o. option_map_or (λ (x : Entry). finite.insert store k (record x { value = v })) o store) is

pub IsStore-with_value : (store : Store) (k : List ℕ) (v : Value) → IsStore store → IsValue v
    → IsStore (with_value store k v)
IsStore-with_value store k v h value = by_found (finite.get store k) refl
  where
    by_found : (found : Option Entry) → finite.get store k ≡ found → IsStore (with_value store k v)
    by_found None absent = subst IsStore (sym (with_value-none store k v absent)) h
    by_found (Some e) there =
        let kept = h k e there in
        subst IsStore (sym (with_value-insert store k e v there))
        (IsStore-insert store k (record e { value = v }) h kept.0 (value, kept.1.1))

-- the value of a key is one that a store may hold
pub value_kept : (store : Store) (k : List ℕ) → IsStore store
    → IfSome (option_map (λ (e : Entry). e.value) (finite.get store k)) IsValue
value_kept store k h = by_found (finite.get store k) refl
  where
    by_found : (found : Option Entry) → finite.get store k ≡ found → IfSome (option_map (λ (e : Entry). e.value) found)
        IsValue
    by_found None absent = tt
    by_found (Some e) there = (h k e there).1.0
