-- What a GET gives after a record.
use Rattle.std.proofs.Common.{◌≡◌, ℕ, ◌<◌, ◌≤◌, cond, List, Option, Some, None, Ok, sym, ap, subst, ◌∙◌}
use Rattle.std.specs.Prelude.{pos}
use Rattle.std.specs.Option.{option_and_then}
use Rattle.std.specs.FinMap as finite
use Rattle.std.proofs.lemmas.Bool.{lt-leb, le-leb}
use Rattle.ks_space.specs.declared.entry.Entry.{Entry}
use Rattle.ks_space.specs.declared.entry.Value.{Value}
use Rattle.ks_space.specs.declared.entry.Value.TheVariants as value
use Rattle.ks_space.specs.Store.{Store, with_deadline}
use Rattle.fx_record.specs.declared.record.Record.TheVariants.{SetUntil, Del, ExpireAt}
use Rattle.fx_record.specs.Records.{string_entry}
use Rattle.fx_record.proofs.Stores.{get-insert_same}
use Rattle.fx_record.proofs.RecordLaws.{with_deadline-there}
use Rattle.cmd_rows.specs.Outcomes.{answers, with_found}
use Rattle.cmd_rows.specs.Strings.{string_of, string_in, string_at, bulk_or_null}
use Rattle.cmd_rows.specs.Times.{set_until, expire_at}
use Rattle.cmd_string.specs.StringLaws.{Gives}
use Rattle.cmd_string.specs.StringRows.{string_row}

-- an entry of a string
pub gives : (store : Store) (key text : List ℕ) (deadline : Option ℕ)
    → finite.get store key ≡ Some (string_entry text deadline) → Gives store key text deadline
unfolding string_row
gives store key text deadline there = record {
  get = λ world name is.
      ap (λ found. with_found (string_in found) (λ t. answers (bulk_or_null t)))
      (ap (λ (s : Store). finite.get s key) is ∙ there);
  deadline_is = ap (option_and_then (λ (e : Entry). e.deadline)) there;
}

pub gives-put : (store : Store) (key text : List ℕ) (deadline : Option ℕ)
    → Gives (finite.insert store key (string_entry text deadline)) key text deadline
gives-put store key text deadline = gives _ key text deadline (get-insert_same store key (string_entry text deadline))

-- where the test of a deadline leads
pub until-later : (key value : List ℕ) (now at : ℕ) → now < at → set_until key value now at ≡ SetUntil key value at
until-later key value now at later = ap (λ b. cond b (Del key) (SetUntil key value at)) (lt-leb at now later)

pub until-past : (key value : List ℕ) (now at : ℕ) → at ≤ now → set_until key value now at ≡ Del key
until-past key value now at past = ap (λ b. cond b (Del key) (SetUntil key value at)) (le-leb at now past)

pub expire-later : (key : List ℕ) (now at : ℕ) → now < at → expire_at key now (pos at) ≡ ExpireAt key at
expire-later key now at later = ap (λ b. cond b (Del key) (ExpireAt key at)) (lt-leb at now later)

-- a string that a key holds, by its entry
string-entry : (found : Option Entry) (text : List ℕ) → string_in found ≡ Ok (Some text) → (deadline : Option ℕ)
    × (found ≡ Some (string_entry text deadline))
string-entry None text e = absurd (cc)
string-entry (Some entry) text e = by_kind entry.value entry.deadline text e
  where
    by_kind : (v : Value) (d : Option ℕ) (text : List ℕ) → string_of v ≡ Ok (Some text) → (deadline : Option ℕ)
        × (◌≡◌ {A = Option Entry} (Some (record { value = v; deadline = d })) (Some (string_entry text deadline)))
    by_kind (value.Str t) d text e = let same : t ≡ text = cc in (d, ap (λ x. Some (string_entry x d)) same)
    by_kind (value.List items) d text e = absurd (cc)
    by_kind (value.Hash pairs) d text e = absurd (cc)
    by_kind (value.Set members) d text e = absurd (cc)
    by_kind (value.Sorted scores) d text e = absurd (cc)

-- a string with another deadline
pub gives-due : (store : Store) (key text : List ℕ) (deadline : Option ℕ) → string_at store key ≡ Ok (Some text)
    → Gives (with_deadline store key deadline) key text deadline
gives-due store key text deadline e =
    let found = string-entry (finite.get store key) text e in
    subst (λ (s : Store). Gives s key text deadline)
    (sym (with_deadline-there store key deadline (string_entry text found.0) found.1))
    (gives-put store key text deadline)
