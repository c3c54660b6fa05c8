-- What the beginning of a turn does.
use Rattle.std.proofs.Common.{◌≡◌, ℕ, max, suc, ◌<◌, ◌≤◌, arith, List, [], ◌∷◌, ◌++◌, Option, Some, None, map, fold}
use Rattle.std.proofs.Common.{append-nil, refl, sym, ap, subst, ◌∙◌}
use Rattle.std.specs.Prelude.{◌↔◌, Contains}
use Rattle.std.specs.List.{AllByRecursion}
use Rattle.std.specs.Option.{IsSomeAnd, option_and_then}
use Rattle.std.specs.FinMap as finite
use Rattle.ks_space.specs.declared.entry.Entry.{Entry}
use Rattle.ks_space.specs.Store.{Store, IsKey, IsStore, deadline_at}
use Rattle.ks_space.specs.Purge.{gone, purged, IsTimely}
use Rattle.fx_record.specs.declared.record.Record.TheVariants.{Del}
use Rattle.fx_record.specs.Records.{apply}
use Rattle.cl_core.specs.Machine.{Run, removal, begun_at}

dels_lead : (keys : List (List ℕ)) (store : Store) → fold finite.remove store keys ≡ fold apply store (map Del keys)
dels_lead [] store = refl
dels_lead (key ∷ keys) store = dels_lead keys (finite.remove store key)

-- the records of the keys that leave lead to the store without them
pub purged_leads : (store : Store) (time : ℕ) → purged store time ≡ fold apply store (map Del (gone store time))
unfolding purged
purged_leads store time = dels_lead (gone store time) store

purged_none : (store : Store) (time : ℕ) → gone store time ≡ [] → purged store time ≡ store
unfolding purged
purged_none store time e = ap (fold finite.remove store) e

first_in : (key : List ℕ) (keys : List (List ℕ)) → Contains (key ∷ keys) key
first_in key keys = (0, omega arith, refl)

later_in : (first key : List ℕ) (keys : List (List ℕ)) → Contains keys key → Contains (first ∷ keys) key
later_in first key keys is = (suc is.0, omega (arith, is.1), is.2)

each_in : (P : List ℕ → Type 0) (keys : List (List ℕ)) → ((key : List ℕ) → Contains keys key → P key)
    → AllByRecursion P keys
each_in P [] h = tt
each_in P (key ∷ keys) h = (
  h key (first_in key keys),
  each_in P keys (λ other is. h other (later_in key other keys is)),
)

module _ (listed : (store : Store) (time : ℕ) (key : List ℕ)
    → Contains (gone store time) key ↔ IsSomeAnd (deadline_at store key) (λ at. at < time)) where
  key_by : (store : Store) (time : ℕ) (key : List ℕ) (found : Option Entry) → IsStore store
      → finite.get store key ≡ found
      → IsSomeAnd (option_and_then (λ (entry : Entry). entry.deadline) found) (λ at. at < time) → IsKey key
  key_by store time key None within is past = absurd past
  key_by store time key (Some entry) within is past = (within key entry is).0

  -- the keys that leave are keys of the store
  pub gone_within : (store : Store) (time : ℕ) → IsStore store → AllByRecursion IsKey (gone store time)
  gone_within store time within =
      each_in IsKey (gone store time) (λ key is. key_by store time key _ within refl ((listed store time key).0 is))

  past_by : (store : Store) (time : ℕ) (key : List ℕ) (deadline : Option ℕ) → IsTimely store time
      → deadline_at store key ≡ deadline → IsSomeAnd deadline (λ at. at < time) → ⊥
  past_by store time key None timely is past = past
  past_by store time key (Some at) timely is past = let after : time ≤ at = timely key at is in absurd (omega arith)

  gone_by : (store : Store) (time : ℕ) (keys : List (List ℕ)) → IsTimely store time → gone store time ≡ keys → keys ≡ []
  gone_by store time [] timely is = refl
  gone_by store time (key ∷ keys) timely is =
      absurd (past_by store time key _ timely refl
      ((listed store time key).0 (subst (λ all. Contains all key) (sym is) (first_in key keys))))

  -- a turn that begins at no later a clock, with the draws as they are, changes nothing
  pub begun_again : (run : Run) (clock : ℕ) → IsTimely run.state.store run.state.time → clock ≤ run.state.time
      → begun_at clock run.state.draws run ≡ run
  begun_again run clock timely early =
      let same : max run.state.time clock ≡ run.state.time = omega arith in
      let none : gone run.state.store (max run.state.time clock) ≡ [] = ap (gone run.state.store) same
      ∙ gone_by run.state.store run.state.time _ timely refl in
      let left = purged_none run.state.store (max run.state.time clock) none in
      let logged = ap (λ keys. run.groups ++ map removal keys) none ∙ append-nil run.groups in
      λ i. record {
        state = record { store = left i; clients = run.state.clients; time = same i; draws = run.state.draws };
        rows = run.rows;
        groups = logged i;
      }
