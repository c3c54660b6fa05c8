-- What GETRANGE and SETRANGE do, by the bytes of strings (Redis manual, GETRANGE and SETRANGE). Of the integers `pos n`
-- is n, and `negsuc n` is -(n + 1).
use Rattle.std.specs.Prelude.{◌≡◌, ◌≢◌, ℕ, suc, ◌+◌, ◌-◌, ◌<◌, ◌≤◌, min, max, ◌⊎◌, ℤ, pos, negsuc, ◌<ℤ◌, List, [], ◌∷◌}
use Rattle.std.specs.Prelude.{length, get_or, Some, None, Ok}
use Rattle.std.specs.FinMap as finite
use Rattle.resp_reply.specs.declared.reply.Reply.TheVariants.{Int, Bulk}
use Rattle.ks_space.specs.declared.entry.Entry.{Entry}
use Rattle.ks_space.specs.declared.entry.Value.TheVariants.{Str}
use Rattle.ks_space.specs.Store.{Store, deadline_at}
use Rattle.cmd_args.specs.declared.commands.StringCmd.TheVariants.{GetRange, SetRange}
use Rattle.cmd_args.specs.declared.refusal.Refusal.TheVariants.{Offset, TooLong}
use Rattle.cmd_rows.specs.Numbers.{number}
use Rattle.cmd_rows.specs.Outcomes.{answers, refused}
use Rattle.cmd_rows.specs.Worlds.{World}
use Rattle.cmd_string.specs.StringLaws.{after, Gives}
use Rattle.cmd_string.specs.StringRows.{string_row}

-- the key holds the string
pub record Holds (store : Store) (key text : List ℕ) : Type 0 where
  pub entry : Entry
  pub is_there : finite.get store key ≡ Some entry
  pub is_string : entry.value ≡ Str text

-- the key holds the string, or it is absent, which counts as the empty string
abbrev pub HoldsOrLacks : Store → List ℕ → List ℕ → Type 0
HoldsOrLacks store key text = Holds store key text ⊎ ((finite.get store key ≡ None) × (text ≡ []))

-- the place, counted from 0, that an integer names in a string of so many bytes: a negative one counts from the end, -1
-- being the last byte, and one before the beginning names the beginning
abbrev pub Names : ℕ → ℤ → ℕ → Type 0
Names count (pos n) place = place ≡ n
Names count (negsuc n) place = (place + suc n ≡ count) ⊎ ((count < suc n) × (place ≡ 0))

-- the bytes of a string from one place to another, that one too, where there are so many
pub record IsSlice (text : List ℕ) (start end : ℤ) (slice : List ℕ) : Type 0 where
  pub from : ℕ
  pub to : ℕ
  pub from_is : Names (length text) start from
  pub to_is : Names (length text) end to
  pub length_is : length slice ≡ min (to + 1) (length text) - from
  pub byte_is : (i : ℕ) → i < length slice → get_or slice i 0 ≡ get_or text (from + i) 0

-- both are counted from the end, and the first is past the second
abbrev pub IsBackward : ℤ → ℤ → Type 0
IsBackward start end = (end <ℤ start) × (start <ℤ pos 0)

-- GETRANGE answers the bytes from the start to the end
abbrev pub GetRangeGivesASlice : Type 0
GetRangeGivesASlice =
    (world : World) (name key from to text : List ℕ) (start end : ℤ) → Holds world.store key text
    → number from ≡ Ok start → number to ≡ Ok end → (IsBackward start end → ⊥)
    → (slice : List ℕ) × IsSlice text start end slice
    × (string_row world GetRange (name ∷ key ∷ from ∷ to ∷ []) ≡ answers (Bulk slice))

abbrev pub GetRangeBackwardIsEmpty : Type 0
GetRangeBackwardIsEmpty =
    (world : World) (name key from to text : List ℕ) (start end : ℤ) → Holds world.store key text
    → number from ≡ Ok start → number to ≡ Ok end → IsBackward start end
    → string_row world GetRange (name ∷ key ∷ from ∷ to ∷ []) ≡ answers (Bulk [])

abbrev pub GetRangeOfNoneIsEmpty : Type 0
GetRangeOfNoneIsEmpty =
    (world : World) (name key from to : List ℕ) (start end : ℤ) → finite.get world.store key ≡ None
    → number from ≡ Ok start → number to ≡ Ok end
    → string_row world GetRange (name ∷ key ∷ from ∷ to ∷ []) ≡ answers (Bulk [])

-- a string in which a value stands from an offset on: before and behind it the old bytes stand, and zero bytes where
-- the old string did not reach the offset
pub record IsWrittenOver (old : List ℕ) (offset : ℕ) (value new : List ℕ) : Type 0 where
  pub length_is : length new ≡ max (length old) (offset + length value)
  pub within : (i : ℕ) → i < length value → get_or new (offset + i) 0 ≡ get_or value i 0
  pub before : (i : ℕ) → i < offset → i < length old → get_or new i 0 ≡ get_or old i 0
  pub behind : (i : ℕ) → offset + length value ≤ i → i < length old → get_or new i 0 ≡ get_or old i 0
  pub between : (i : ℕ) → length old ≤ i → i < offset → get_or new i 0 ≡ 0

-- SETRANGE answers the new length, and the key keeps its deadline
abbrev pub SetRangeFillsWithZeroBytes : Type 0
SetRangeFillsWithZeroBytes =
    (world : World) (name key word value old : List ℕ) (offset : ℕ) → HoldsOrLacks world.store key old
    → number word ≡ Ok (pos offset) → value ≢ [] → max (length old) (offset + length value) ≤ 16777216
    → (new : List ℕ) × IsWrittenOver old offset value new
    × ((string_row world SetRange (name ∷ key ∷ word ∷ value ∷ [])).reply ≡ Int (pos (length new)))
    × Gives (after world SetRange (name ∷ key ∷ word ∷ value ∷ [])) key new (deadline_at world.store key)

-- it makes no string longer than 16,777,216 bytes
abbrev pub SetRangeKeepsToTheLimit : Type 0
SetRangeKeepsToTheLimit =
    (world : World) (name key word value old : List ℕ) (offset : ℕ) → HoldsOrLacks world.store key old
    → number word ≡ Ok (pos offset) → value ≢ [] → 16777216 < offset + length value
    → string_row world SetRange (name ∷ key ∷ word ∷ value ∷ []) ≡ refused TooLong

abbrev pub SetRangeRefusesANegativeOffset : Type 0
SetRangeRefusesANegativeOffset =
    (world : World) (name key word value old : List ℕ) (n : ℕ) → HoldsOrLacks world.store key old
    → number word ≡ Ok (negsuc n)
    → string_row world SetRange (name ∷ key ∷ word ∷ value ∷ []) ≡ refused Offset
