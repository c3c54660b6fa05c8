-- Where a record leaves a store as it is.
use Rattle.std.proofs.Common.{◌≡◌, ◌≢◌, ◌↔◌, ℕ, List, Option, Some, None, inl, inr, refl, sym, ap, subst, ◌∙◌}
use Rattle.std.specs.FinMap as finite
use Rattle.ks_space.specs.declared.entry.Entry.{Entry}
use Rattle.ks_space.specs.Store.{bytes_cmp, Store, with_deadline}
use Rattle.fx_record.specs.Records.{renamed}
use Rattle.fx_record.proofs.Stores.{same_or_other, get-insert_same, get-remove_same}
use Rattle.fx_record.proofs.Stores.{insert_there, remove_absent}
use Rattle.fx_record.proofs.RecordLaws.{with_deadline-there, moves, renamed_itself}

pub through : {A B C : Type 0} → (A ↔ B) → (B ↔ C) → A ↔ C
through f g = (λ a. g.0 (f.0 a), λ c. f.1 (g.1 c))

-- an entry that is put is there already
pub insert-stays : (store : Store) (key : List ℕ) (entry : Entry)
    → (finite.get store key ≡ Some entry) ↔ (finite.insert store key entry ≡ store)
insert-stays store key entry = (
  insert_there store key entry,
  λ back. sym (ap (λ (s : Store). finite.get s key) back)
      ∙ get-insert_same store key entry,
)

-- a key that is taken away is absent
pub remove-stays : (store : Store) (key : List ℕ) → (finite.get store key ≡ None) ↔ (finite.remove store key ≡ store)
remove-stays store key =
    (remove_absent store key, λ back. sym (ap (λ (s : Store). finite.get s key) back) ∙ get-remove_same store key)

-- a key that is there has the deadline already
pub with_deadline-stays : (store : Store) (key : List ℕ) (deadline : Option ℕ) (entry : Entry)
    → finite.get store key ≡ Some entry → (entry.deadline ≡ deadline) ↔ (with_deadline store key deadline ≡ store)
with_deadline-stays store key deadline entry there = (
  λ same. put_in ∙ ap (λ d. finite.insert store key (record entry { deadline = d })) (sym same)
      ∙ insert_there store key entry there,
  λ back.
      let found = (insert-stays store key (record entry { deadline = deadline })).1 (sym put_in ∙ back) in
      let same : ◌≡◌ {A = Option Entry} (Some entry) (Some (record entry { deadline = deadline })) = sym there
      ∙ found in
      ap (λ (o : Option Entry). due entry o) same,
)
  where
    put_in : with_deadline store key deadline ≡ finite.insert store key (record entry { deadline = deadline })
    put_in = with_deadline-there store key deadline entry there

    due : Entry → Option Entry → Option ℕ
    due other None = other.deadline
    due other (Some e) = e.deadline

-- the store has no key
pub empty-stays : (store : Store) → (finite.len store ≡ 0) ↔ (finite.empty ≡ store)
empty-stays store = (
  λ none. sym (finite.empty_of_len store none),
  λ same. sym (ap (λ (s : Store). finite.len s) same)
      ∙ finite.len-empty bytes_cmp Entry,
)

-- a key that is there does not stay where it is renamed
pub renamed-changes : (store : Store) (from to : List ℕ) → from ≢ to → finite.get store from ≢ None
    → renamed store from to ≢ store
renamed-changes store from to apart there back = by_found (finite.get store from) refl
  where
    by_found : (found : Option Entry) → finite.get store from ≡ found → ⊥
    by_found None absent = there absent
    by_found (Some entry) is =
        there (sym (ap (λ (s : Store). finite.get s from) back) ∙ (moves store from to entry apart is).gone)

-- a key that is there stays where it is renamed to its own name, and only there
pub renamed-stays : (store : Store) (from to : List ℕ) → finite.get store from ≢ None
    → (from ≡ to) ↔ (renamed store from to ≡ store)
renamed-stays store from to there =
    (λ same. subst (λ k. renamed store from k ≡ store) same (renamed_itself store from), only)
  where
    only : renamed store from to ≡ store → from ≡ to
    only back = elim (same_or_other from to) [
      | inl same ↦ same
      | inr apart ↦ absurd (renamed-changes store from to apart there back)
    ]
