-- The store: each key with its value and its deadline.
use Rattle.std.specs.Prelude.{◌≡◌, ◌≢◌, ℕ, ℤ, ◌^◌, ◌<◌, ◌≤◌, List, [], Option, Some, length, All, IfSome}
use Rattle.std.specs.Option.{option_and_then, option_map_or}
use Rattle.std.specs.FinMap as finite
use Rattle.ks_value.specs.Fields.{HasDistinctFields}
use Rattle.ks_value.specs.Members.{IsAscending}
use Rattle.ks_zset.specs.Zset.{HasWholeScores}
use Rattle.ks_space.specs.declared.entry.Entry.{Entry}
use Rattle.ks_space.specs.declared.entry.Value.{Value}
use Rattle.ks_space.specs.declared.entry.Value.TheVariants as value
pub use Rattle.ks_tree.specs.Order.{bytes_cmp}

-- the keys with their entries, in the order of the keys' bytes
abbrev pub Store : Type 0
Store = finite.FinMap bytes_cmp Entry

-- the key's deadline: none where the key is absent or stays forever
abbrev pub deadline_at : Store → List ℕ → Option ℕ
deadline_at store key = option_and_then (λ entry. entry.deadline) (finite.get store key)

-- the store in which a key that is there has this deadline, or none, and its value as it was
abbrev pub with_deadline : Store → List ℕ → Option ℕ → Store
with_deadline store key deadline =
    option_map_or (λ entry. finite.insert store key (record entry { deadline = deadline })) (finite.get store key) store

-- the store in which a key that is there has this value, and its deadline as it was
abbrev pub with_value : Store → List ℕ → Value → Store
with_value store key value =
    option_map_or (λ entry. finite.insert store key (record entry { value = value })) (finite.get store key) store

-- at most 16,777,216 bytes
abbrev pub IsShort : List ℕ → Type 0
IsShort text = length text ≤ 16777216

-- a key that a store may hold
abbrev pub IsKey : List ℕ → Type 0
IsKey = IsShort

-- a deadline in milliseconds since the Unix epoch, from 0 to 2^63-1
abbrev pub IsDeadline : ℕ → Type 0
IsDeadline at = at < 2 ^ 63

-- a value that a store may hold: no collection is empty, no field of a hash stands twice, the members of a set ascend
-- in byte order, each score is a whole number of magnitude at most 2^53, and each text is short
abbrev pub IsValue : Value → Type 0
IsValue (value.Str text) = IsShort text
IsValue (value.List items) = (items ≢ []) × All IsShort items
IsValue (value.Hash pairs) = (pairs ≢ []) × HasDistinctFields pairs × All (λ p. IsShort p.0 × IsShort p.1) pairs
IsValue (value.Set members) = (members ≢ []) × IsAscending members × All IsShort members
IsValue (value.Sorted scores) =
    (finite.len scores ≢ 0) × HasWholeScores scores
    × ((member : List ℕ) (score : ℤ) → finite.get scores member ≡ Some score → IsShort member)

-- an entry that a store may hold
abbrev pub IsKept : Entry → Type 0
IsKept entry = IsValue entry.value × IfSome entry.deadline IsDeadline

-- each key and each entry is one that a store may hold
abbrev pub IsStore : Store → Type 0
IsStore store = (key : List ℕ) (entry : Entry) → finite.get store key ≡ Some entry → IsKey key × IsKept entry
