-- Limits and deadlines of a store after records.
use Rattle.std.proofs.Common.{◌≡◌, ℕ, ◌≤◌, List, [], ◌∷◌, Option, Some, None, inl, inr, refl, sym, ap, subst, ◌∙◌}
use Rattle.std.specs.List.{AllByRecursion}
use Rattle.std.specs.Option.{IfSome, option_and_then}
use Rattle.std.specs.FinMap as finite
use Rattle.ks_space.specs.declared.entry.Entry.{Entry}
use Rattle.ks_space.specs.Store.{Store, IsKey, IsDeadline, IsKept, IsStore, deadline_at, with_deadline}
use Rattle.ks_space.specs.Purge.{IsTimely}
use Rattle.fx_record.specs.declared.record.Record.{Record}
use Rattle.fx_record.specs.declared.record.Record.TheVariants.{Set, SetUntil, SetKeeping, Del, ExpireAt, Persist}
use Rattle.fx_record.specs.declared.record.Record.TheVariants.{Rename, FlushAll}
use Rattle.fx_record.specs.Records.{string_entry, apply, applied, renamed}
use Rattle.fx_record.specs.RecordWords.{IsRecord}
use Rattle.fx_record.specs.Timely.{IsTimelyRecord}
use Rattle.fx_record.proofs.Stores.{same_or_other, get-insert_same, get-insert_other, get-remove_same, get-remove_other}
use Rattle.fx_record.proofs.Stores.{get-empty}
use Rattle.fx_record.proofs.RecordLaws.{with_deadline-there, with_deadline-absent, renamed-there, renamed-absent}

-- what is so of each key with its entry
module _ (P : List ℕ → Entry → Type 0) where
  abbrev pub Each : Store → Type 0
  Each store = (key : List ℕ) (entry : Entry) → finite.get store key ≡ Some entry → P key entry

  pub each-insert : (store : Store) (key : List ℕ) (entry : Entry) → Each store → P key entry
      → Each (finite.insert store key entry)
  each-insert store key entry each here q e at =
      elim (same_or_other q key) [
        | inl same ↦
            let there : finite.get (finite.insert store key entry) key ≡ Some e =
            subst (λ k. finite.get (finite.insert store key entry) k ≡ Some e) same at in
            let told = get-insert_same store key entry in
            let is : entry ≡ e = cc in
            subst (λ k. P k e) (sym same) (subst (P key) is here)
        | inr apart ↦ each q e (sym (get-insert_other store key entry q apart) ∙ at)
      ]

  pub each-remove : (store : Store) (key : List ℕ) → Each store → Each (finite.remove store key)
  each-remove store key each q e at =
      elim (same_or_other q key) [
        | inl same ↦
            let there : finite.get (finite.remove store key) key ≡ Some e =
            subst (λ k. finite.get (finite.remove store key) k ≡ Some e) same at in
            let told = get-remove_same store key in absurd (cc)
        | inr apart ↦ each q e (sym (get-remove_other store key q apart) ∙ at)
      ]

  pub each-empty : Each finite.empty
  each-empty q e at = let told = get-empty q in absurd (cc)

  -- what is so of what a key has is so after its deadline is another
  pub each-with_deadline : (store : Store) (key : List ℕ) (deadline : Option ℕ) → Each store
      → ((entry : Entry) → finite.get store key ≡ Some entry → P key (record entry { deadline = deadline }))
      → Each (with_deadline store key deadline)
  each-with_deadline store key deadline each here = by_found (finite.get store key) refl
    where
      by_found : (found : Option Entry) → finite.get store key ≡ found → Each (with_deadline store key deadline)
      by_found None absent = subst Each (sym (with_deadline-absent store key deadline absent)) each
      by_found (Some entry) there =
          subst Each (sym (with_deadline-there store key deadline entry there))
          (each-insert store key (record entry { deadline = deadline }) each (here entry there))

  pub each-renamed : (store : Store) (from to : List ℕ) → Each store → ((entry : Entry) → P from entry → P to entry)
      → Each (renamed store from to)
  each-renamed store from to each goes = by_found (finite.get store from) refl
    where
      by_found : (found : Option Entry) → finite.get store from ≡ found → Each (renamed store from to)
      by_found None absent = subst Each (sym (renamed-absent store from to absent)) each
      by_found (Some entry) there =
          subst Each (sym (renamed-there store from to entry there))
          (each-insert (finite.remove store from) to entry (each-remove store from each)
          (goes entry (each from entry there)))

-- the deadline of what a key has is one, where it has one
deadline_at-within : (store : Store) (key : List ℕ) → IsStore store → IfSome (deadline_at store key) IsDeadline
deadline_at-within store key within = by_found (finite.get store key) refl
  where
    by_found : (found : Option Entry) → finite.get store key ≡ found
        → IfSome (option_and_then (λ entry. entry.deadline) found) IsDeadline
    by_found None absent = tt
    by_found (Some entry) there = (within key entry there).1.1

pub apply-within : (store : Store) (r : Record) → IsStore store → IsRecord r → IsStore (apply store r)
apply-within store (Set key value) within h = each-insert (λ k e. IsKey k × IsKept e) store key
    (string_entry value None) within (h.0, (h.1, tt))
apply-within store (SetUntil key value deadline) within h =
    each-insert (λ k e. IsKey k × IsKept e) store key (string_entry value (Some deadline)) within (h.0, (h.1, h.2))
apply-within store (SetKeeping key value) within h =
    each-insert (λ k e. IsKey k × IsKept e) store key (string_entry value (deadline_at store key)) within
    (h.0, (h.1, deadline_at-within store key within))
apply-within store (Del key) within h = each-remove (λ k e. IsKey k × IsKept e) store key within
apply-within store (ExpireAt key deadline) within h =
    each-with_deadline (λ k e. IsKey k × IsKept e) store key (Some deadline) within
    (λ entry there. (h.0, ((within key entry there).1.0, h.1)))
apply-within store (Persist key) within h = each-with_deadline (λ k e. IsKey k × IsKept e) store key None within
    (λ entry there. (h, ((within key entry there).1.0, tt)))
apply-within store (Rename from to) within h = each-renamed (λ k e. IsKey k × IsKept e) store from to within
    (λ entry kept. (h.1, kept.1))
apply-within store FlushAll within h = each-empty (λ k e. IsKey k × IsKept e)

pub applied-within : (store : Store) (rs : List Record) → IsStore store → AllByRecursion IsRecord rs
    → IsStore (applied store rs)
applied-within store [] within all = within
applied-within store (r ∷ rs) within all = applied-within (apply store r) rs (apply-within store r within all.0) all.1

-- no deadline is past, entry by entry
abbrev NotPast : ℕ → List ℕ → Entry → Type 0
NotPast time key entry = (deadline : ℕ) → entry.deadline ≡ Some deadline → time ≤ deadline

timely-each : (time : ℕ) (store : Store) → IsTimely store time → Each (NotPast time) store
timely-each time store timely key entry there deadline due =
    timely key deadline (ap (option_and_then (λ (e : Entry). e.deadline)) there ∙ due)

each-timely : (time : ℕ) (store : Store) → Each (NotPast time) store → IsTimely store time
each-timely time store each key deadline at = by_found (finite.get store key) refl at
  where
    by_found : (found : Option Entry) → finite.get store key ≡ found
        → option_and_then (λ (e : Entry). e.deadline) found ≡ Some deadline → time ≤ deadline
    by_found None absent due = absurd (cc)
    by_found (Some entry) there due = each key entry there deadline due

apply-not_past : (time : ℕ) (store : Store) (r : Record) → Each (NotPast time) store → IsTimelyRecord time r
    → Each (NotPast time) (apply store r)
apply-not_past time store (Set key value) each h =
    each-insert (NotPast time) store key (string_entry value None) each (λ deadline due. absurd (cc))
apply-not_past time store (SetUntil key value at) each h =
    each-insert (NotPast time) store key (string_entry value (Some at)) each
    (λ deadline due. let same : at ≡ deadline = cc in subst (λ d. time ≤ d) same h)
apply-not_past time store (SetKeeping key value) each h =
    each-insert (NotPast time) store key (string_entry value (deadline_at store key)) each
    (λ deadline due. each-timely time store each key deadline due)
apply-not_past time store (Del key) each h = each-remove (NotPast time) store key each
apply-not_past time store (ExpireAt key at) each h =
    each-with_deadline (NotPast time) store key (Some at) each
    (λ entry there deadline due. let same : at ≡ deadline = cc in subst (λ d. time ≤ d) same h)
apply-not_past time store (Persist key) each h = each-with_deadline (NotPast time) store key None each
    (λ entry there deadline due. absurd (cc))
apply-not_past time store (Rename from to) each h = each-renamed (NotPast time) store from to each (λ entry kept. kept)
apply-not_past time store FlushAll each h = each-empty (NotPast time)

pub apply-timely : (time : ℕ) (store : Store) (r : Record) → IsTimely store time → IsTimelyRecord time r
    → IsTimely (apply store r) time
apply-timely time store r timely h = each-timely time (apply store r)
    (apply-not_past time store r (timely-each time store timely) h)

pub applied-timely : (time : ℕ) (store : Store) (rs : List Record) → IsTimely store time
    → AllByRecursion (IsTimelyRecord time) rs → IsTimely (applied store rs) time
applied-timely time store [] timely all = timely
applied-timely time store (r ∷ rs) timely all = applied-timely time (apply store r) rs
    (apply-timely time store r timely all.0) all.1
