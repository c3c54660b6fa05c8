-- What each record does, key by key.
use Rattle.std.proofs.Common.{◌≡◌, ◌≢◌, ℕ, List, Option, Some, None, refl, ap, subst, sym, ◌∙◌}
use Rattle.std.specs.Option.{option_map_or}
use Rattle.std.specs.FinMap as finite
use Rattle.ks_space.specs.declared.entry.Entry.{Entry}
use Rattle.ks_space.specs.Store.{Store, with_deadline}
use Rattle.fx_record.specs.Records.{renamed, ChangesOnly, Moves}
use Rattle.fx_record.proofs.Stores.{get-insert_same, get-insert_other, get-remove_same, get-remove_other, insert-remove}

pub inserted : (store : Store) (key : List ℕ) (entry : Entry)
    → ChangesOnly store (finite.insert store key entry) key (Some entry)
inserted store key entry = record { here = get-insert_same store key entry; others = get-insert_other store key entry }

pub removed : (store : Store) (key : List ℕ) → ChangesOnly store (finite.remove store key) key None
removed store key = record { here = get-remove_same store key; others = get-remove_other store key }

-- PEXPIREAT and PERSIST of a key that is there, and of one that is not
pub with_deadline-there : (store : Store) (key : List ℕ) (deadline : Option ℕ) (entry : Entry)
    → finite.get store key ≡ Some entry
    → with_deadline store key deadline ≡ finite.insert store key (record entry { deadline = deadline })
with_deadline-there store key deadline entry there =
    ap (λ found. option_map_or (λ (e : Entry). finite.insert store key (record e { deadline = deadline })) found store)
    there

pub with_deadline-absent : (store : Store) (key : List ℕ) (deadline : Option ℕ) → finite.get store key ≡ None
    → with_deadline store key deadline ≡ store
with_deadline-absent store key deadline absent =
    ap (λ found. option_map_or (λ (e : Entry). finite.insert store key (record e { deadline = deadline })) found store)
    absent

pub expired : (store : Store) (key : List ℕ) (deadline : Option ℕ) (entry : Entry) → finite.get store key ≡ Some entry
    → ChangesOnly store (with_deadline store key deadline) key (Some (record entry { deadline = deadline }))
expired store key deadline entry there =
    subst (λ (s : Store). ChangesOnly store s key (Some (record entry { deadline = deadline })))
    (sym (with_deadline-there store key deadline entry there))
    (inserted store key (record entry { deadline = deadline }))

-- RENAME of a key that is there, and of one that is not
pub renamed-there : (store : Store) (from to : List ℕ) (entry : Entry) → finite.get store from ≡ Some entry
    → renamed store from to ≡ finite.insert (finite.remove store from) to entry
renamed-there store from to entry there =
    ap (λ found. option_map_or (finite.insert (finite.remove store from) to) found store) there

pub renamed-absent : (store : Store) (from to : List ℕ) → finite.get store from ≡ None → renamed store from to ≡ store
renamed-absent store from to absent =
    ap (λ found. option_map_or (finite.insert (finite.remove store from) to) found store) absent

moved : (store : Store) (from to : List ℕ) (entry : Entry) → from ≢ to
    → Moves store (finite.insert (finite.remove store from) to entry) from to entry
moved store from to entry apart = record {
  gone = get-insert_other (finite.remove store from) to entry from apart ∙ get-remove_same store from;
  here = get-insert_same (finite.remove store from) to entry;
  others = λ q no_from no_to. get-insert_other (finite.remove store from) to entry q no_to
      ∙ get-remove_other store from q no_from;
}

pub moves : (store : Store) (from to : List ℕ) (entry : Entry) → from ≢ to → finite.get store from ≡ Some entry
    → Moves store (renamed store from to) from to entry
moves store from to entry apart there = subst (λ (s : Store). Moves store s from to entry)
    (sym (renamed-there store from to entry there)) (moved store from to entry apart)

pub renamed_itself : (store : Store) (key : List ℕ) → renamed store key key ≡ store
renamed_itself store key = by_found (finite.get store key) refl
  where
    by_found : (found : Option Entry) → finite.get store key ≡ found → renamed store key key ≡ store
    by_found None absent = renamed-absent store key key absent
    by_found (Some entry) there = renamed-there store key key entry there ∙ insert-remove store key entry there
