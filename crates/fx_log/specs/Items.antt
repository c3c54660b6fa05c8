-- What a log is made of, as commands: records that stand alone, and records between `MULTI` and `EXEC`.
use Rattle.std.specs.Prelude.{◌≡◌, ℕ, true, false, Option, Some, None, List, [], ◌∷◌, ◌++◌, map, codes}
use Rattle.std.specs.List.{AllByRecursion, flat_map}
use Rattle.fx_record.specs.declared.record.Record.{Record}
use Rattle.fx_record.specs.RecordWords.{words_of, IsRecord}
use Rattle.fx_log.specs.declared.group.Group.{Group}

abbrev pub multi : List (List ℕ)
multi = codes "MULTI" ∷ []

abbrev pub exec : List (List ℕ)
exec = codes "EXEC" ∷ []

pub data Item : Type 0 where
  Bare : Record → Item
  Wrapped : List Record → Item

-- the commands of an item, each by its words
abbrev pub item_words : Item → List (List (List ℕ))
item_words (Bare r) = words_of r ∷ []
item_words (Wrapped records) = multi ∷ (map words_of records ++ exec ∷ [])

abbrev pub items_words : List Item → List (List (List ℕ))
items_words items = flat_map item_words items

-- the commands of an item that is not at its end: none, or `MULTI` and records
abbrev pub open_words : Option (List Record) → List (List (List ℕ))
open_words None = []
open_words (Some records) = multi ∷ map words_of records

-- each record of an item is within the limits
abbrev pub IsItem : Item → Type 0
IsItem (Bare r) = IsRecord r
IsItem (Wrapped records) = AllByRecursion IsRecord records

abbrev pub AreItems : List Item → Type 0
AreItems items = AllByRecursion IsItem items

-- each record of an item that is not at its end
abbrev pub IsOpen : Option (List Record) → Type 0
IsOpen None = Unit {0}
IsOpen (Some records) = AllByRecursion IsRecord records

-- the commands can go on to a sequence of items
abbrev pub BeginsItems : List (List (List ℕ)) → Type 0
BeginsItems words = (more : List (List (List ℕ))) × (items : List Item) × AreItems items
    × (words ++ more ≡ items_words items)

-- the group of records between `MULTI` and `EXEC`: none where there is no record
abbrev pub wrapped_groups : List Record → List Group
wrapped_groups [] = []
wrapped_groups (first ∷ records) = record { records = first ∷ records; wrapped = true } ∷ []

abbrev pub bare_group : Record → Group
bare_group r = record { records = r ∷ []; wrapped = false }

abbrev pub item_groups : Item → List Group
item_groups (Bare r) = bare_group r ∷ []
item_groups (Wrapped records) = wrapped_groups records

abbrev pub groups_of : List Item → List Group
groups_of items = flat_map item_groups items
