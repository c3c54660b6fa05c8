-- Effect records as words, and words as effect records.
use Rattle.std.specs.Prelude.{ℕ, ◌^◌, ◌≤◌, Bool, nat_lt, nat_le, ◌&&◌, if◌then◌else◌, List, [], ◌∷◌, Option, Some, None}
use Rattle.std.specs.Prelude.{length, codes, decimal}
use Rattle.std.specs.List.{AllByRecursion, list_all, sum_by}
use Rattle.std.specs.Option.{option_map}
use Rattle.std.specs.Str.{bytes_eq}
use Rattle.std.specs.Str.Parse.{digits_value}
use Rattle.ks_space.specs.Store.{IsShort, IsKey, IsDeadline}
use Rattle.fx_record.specs.declared.record.Record.{Record}
use Rattle.fx_record.specs.declared.record.Record.TheVariants.{Set, SetUntil, SetKeeping, Del, ExpireAt, Persist}
use Rattle.fx_record.specs.declared.record.Record.TheVariants.{Rename, FlushAll}

-- the words of a record: a command that does the same, its name in upper case, a deadline in decimal
abbrev pub words_of : Record → List (List ℕ)
words_of (Set key value) = codes "SET" ∷ key ∷ value ∷ []
words_of (SetUntil key value deadline) = codes "SET" ∷ key ∷ value ∷ codes "PXAT" ∷ decimal deadline ∷ []
words_of (SetKeeping key value) = codes "SET" ∷ key ∷ value ∷ codes "KEEPTTL" ∷ []
words_of (Del key) = codes "DEL" ∷ key ∷ []
words_of (ExpireAt key deadline) = codes "PEXPIREAT" ∷ key ∷ decimal deadline ∷ []
words_of (Persist key) = codes "PERSIST" ∷ key ∷ []
words_of (Rename from to) = codes "RENAME" ∷ from ∷ to ∷ []
words_of FlushAll = codes "FLUSHALL" ∷ []

-- its keys, its string and its deadline are within the limits of a store
abbrev pub IsRecord : Record → Type 0
IsRecord (Set key value) = IsKey key × IsShort value
IsRecord (SetUntil key value deadline) = IsKey key × IsShort value × IsDeadline deadline
IsRecord (SetKeeping key value) = IsKey key × IsShort value
IsRecord (Del key) = IsKey key
IsRecord (ExpireAt key deadline) = IsKey key × IsDeadline deadline
IsRecord (Persist key) = IsKey key
IsRecord (Rename from to) = IsKey from × IsKey to
IsRecord FlushAll = Unit {0}

-- the deadline that a word writes: none where it is not the decimal of one
abbrev pub deadline_of : List ℕ → Option ℕ
deadline_of word =
    if bytes_eq word (decimal (digits_value 10 word)) && nat_lt (digits_value 10 word) (2 ^ 63) then Some
    (digits_value 10 word) else None

-- what a name alone stands for, and what it stands for with one word, two, three and four words behind it
abbrev pub alone : List ℕ → Option Record
alone name = if bytes_eq name (codes "FLUSHALL") then Some FlushAll else None

abbrev pub with_one : List ℕ → List ℕ → Option Record
with_one name key =
    if bytes_eq name (codes "DEL") then Some (Del key)
    else (if bytes_eq name (codes "PERSIST") then Some (Persist key) else None)

abbrev pub with_two : List ℕ → List ℕ → List ℕ → Option Record
with_two name key word =
    if bytes_eq name (codes "SET") then Some (Set key word)
    else (if bytes_eq name (codes "RENAME") then Some (Rename key word)
    else (if bytes_eq name (codes "PEXPIREAT") then option_map (ExpireAt key) (deadline_of word) else None))

abbrev pub with_three : List ℕ → List ℕ → List ℕ → List ℕ → Option Record
with_three name key value option = if bytes_eq name (codes "SET") && bytes_eq option (codes "KEEPTTL") then Some
    (SetKeeping key value) else None

abbrev pub with_four : List ℕ → List ℕ → List ℕ → List ℕ → List ℕ → Option Record
with_four name key value option number =
    if bytes_eq name (codes "SET") && bytes_eq option (codes "PXAT") then option_map (SetUntil key value)
    (deadline_of number) else None

abbrev pub record_shaped : List (List ℕ) → Option Record
record_shaped [] = None
record_shaped (name ∷ []) = alone name
record_shaped (name ∷ key ∷ []) = with_one name key
record_shaped (name ∷ key ∷ word ∷ []) = with_two name key word
record_shaped (name ∷ key ∷ value ∷ option ∷ []) = with_three name key value option
record_shaped (name ∷ key ∷ value ∷ option ∷ number ∷ []) = with_four name key value option number
record_shaped (name ∷ key ∷ value ∷ option ∷ number ∷ other ∷ words) = None

-- the limits of a command's words, and so of a record's: at most 65,536 words, each of at most 16,777,216 bytes, and
-- 67,108,864 bytes in all
pub record AreWithinLimits (words : List (List ℕ)) : Type 0 where
  pub few : length words ≤ 65536
  pub each : AllByRecursion IsShort words
  pub all : sum_by length words ≤ 67108864

abbrev pub is_short : List ℕ → Bool
is_short word = nat_le (length word) 16777216

-- whether words are within the limits
abbrev pub are_within_limits : List (List ℕ) → Bool
are_within_limits words =
    nat_le (length words) 65536 && (list_all is_short words && nat_le (sum_by length words) 67108864)

-- the record whose words these are: none for any other words, and where they are not within the limits
abbrev pub record_of : List (List ℕ) → Option Record
record_of words = if are_within_limits words then record_shaped words else None
