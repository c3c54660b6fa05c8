-- What effect records do to a store (Redis manual: SET, DEL, PEXPIREAT, PERSIST, RENAME and FLUSHALL).
use Rattle.std.specs.Prelude.{◌≡◌, ◌≢◌, ℕ, List, Option, Some, None, fold}
use Rattle.std.specs.Option.{option_map_or}
use Rattle.std.specs.FinMap as finite
use Rattle.ks_space.specs.declared.entry.Entry.{Entry}
use Rattle.ks_space.specs.declared.entry.Value.TheVariants.{Str}
use Rattle.ks_space.specs.Store.{Store, deadline_at, with_deadline}
use Rattle.fx_record.specs.declared.record.Record.{Record}
use Rattle.fx_record.specs.declared.record.Record.TheVariants.{Set, SetUntil, SetKeeping, Del, ExpireAt, Persist}
use Rattle.fx_record.specs.declared.record.Record.TheVariants.{Rename, FlushAll}

-- a string, and its deadline, if any
abbrev pub string_entry : List ℕ → Option ℕ → Entry
string_entry value deadline = record { value = Str value; deadline = deadline }

-- what a key holds, and its deadline, go to another key, in place of what that one holds; an absent key moves nothing
abbrev pub renamed : Store → List ℕ → List ℕ → Store
renamed store from to = option_map_or (finite.insert (finite.remove store from) to) (finite.get store from) store

-- the store after a record
abbrev pub apply : Store → Record → Store
apply store (Set key value) = finite.insert store key (string_entry value None)
apply store (SetUntil key value deadline) = finite.insert store key (string_entry value (Some deadline))
apply store (SetKeeping key value) = finite.insert store key (string_entry value (deadline_at store key))
apply store (Del key) = finite.remove store key
apply store (ExpireAt key deadline) = with_deadline store key (Some deadline)
apply store (Persist key) = with_deadline store key None
apply store (Rename from to) = renamed store from to
apply store FlushAll = finite.empty

-- the store after records, one after another
abbrev pub applied : Store → List Record → Store
applied store records = fold apply store records

-- the store that records lead to from the empty one
abbrev pub replay : List Record → Store
replay records = applied finite.empty records

-- the key has this entry, or none, and each other key has the entry that it had
pub record ChangesOnly (old new : Store) (key : List ℕ) (entry : Option Entry) : Type 0 where
  pub here : finite.get new key ≡ entry
  pub others : (other : List ℕ) → other ≢ key → finite.get new other ≡ finite.get old other

-- the one key is gone, the other has this entry, and each other key has the entry that it had
pub record Moves (old new : Store) (from to : List ℕ) (entry : Entry) : Type 0 where
  pub gone : finite.get new from ≡ None
  pub here : finite.get new to ≡ Some entry
  pub others : (other : List ℕ) → other ≢ from → other ≢ to → finite.get new other ≡ finite.get old other
