-- The dump of a store, as text, and what groups lead to.
use Rattle.std.specs.Prelude.{ℕ, ℤ, Option, Some, None, List, ◌∷◌, [], ◌++◌, decimal, codes}
use Rattle.std.specs.List.{flat_map}
use Rattle.std.specs.Option.{option_map_or}
use Rattle.std.specs.FinMap as finite
use Rattle.std.specs.Fmt.{signed_decimal}
use Rattle.rs_base.specs.Escape.{spelling}
use Rattle.ks_zset.specs.Zset.{ranking_of}
use Rattle.ks_space.specs.declared.entry.Entry.{Entry}
use Rattle.ks_space.specs.declared.entry.Value.{Value}
use Rattle.ks_space.specs.declared.entry.Value.TheVariants as value
use Rattle.fx_record.specs.declared.record.Record.{Record}
use Rattle.ks_space.specs.Store.{Store}
use Rattle.fx_record.specs.Records.{replay}
use Rattle.fx_log.specs.declared.group.Group.{Group}

abbrev pub deadline_text : Option ℕ → List ℕ
deadline_text None = codes "-"
deadline_text (Some deadline) = decimal deadline

abbrev pub kind_text : Value → List ℕ
kind_text (value.Str bytes) = codes "string"
kind_text (value.List items) = codes "list"
kind_text (value.Hash pairs) = codes "hash"
kind_text (value.Set members) = codes "set"
kind_text (value.Sorted scores) = codes "zset"

-- a text in the escape, behind a space
abbrev pub word_text : List ℕ → List ℕ
word_text text = codes " " ++ spelling text

-- a field of a hash, and its value
abbrev pub pair_text : (List ℕ × List ℕ) → List ℕ
pair_text pair = word_text pair.0 ++ word_text pair.1

-- the score of a member of a sorted set, and the member
abbrev pub scored_text : (List ℕ × ℤ) → List ℕ
scored_text scored = codes " " ++ signed_decimal scored.1 ++ word_text scored.0

-- the string; the items; fields with their values; the members; the members with their scores, ascending by score and
-- then member
abbrev pub contents_text : Value → List ℕ
contents_text (value.Str bytes) = word_text bytes
contents_text (value.List items) = flat_map word_text items
contents_text (value.Hash pairs) = flat_map pair_text pairs
contents_text (value.Set members) = flat_map word_text members
contents_text (value.Sorted scores) = flat_map scored_text (ranking_of scores)

-- `KEY KIND DEADLINE` and the contents, where the deadline is `-` if there is none
abbrev pub entry_line : (List ℕ × Entry) → List ℕ
entry_line entry =
    spelling entry.0 ++ codes " " ++ kind_text entry.1.value ++ codes " " ++ deadline_text entry.1.deadline
    ++ contents_text entry.1.value ++ 10 ∷ []

-- the line of a key, if the key is there
abbrev pub line_at : Store → List ℕ → List ℕ
line_at store key = option_map_or (λ entry. entry_line (key, entry)) (finite.get store key) []

-- a line for each key, in the order of the keys' bytes
abbrev pub dump : Store → List ℕ
dump store = flat_map entry_line (finite.entries store)

-- the records of groups, in order
abbrev pub records_in : List Group → List Record
records_in groups = flat_map (λ (group : Group). group.records) groups

-- the store that the records of groups lead to, from the empty one
abbrev pub replay_groups : List Group → Store
replay_groups groups = replay (records_in groups)
