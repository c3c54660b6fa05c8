-- What `replay` reads, and what it writes.
use Rattle.std.specs.Prelude.{◌≡◌, ℕ, ◌-◌, ◌<◌, ◌≤◌, List, [], ◌∷◌, ◌++◌, length, take, Option, decimal, codes}
use Rattle.std.specs.List.{flat_map}
use Rattle.std.specs.FinMap as finite
use Rattle.rs_outside.specs.Known.{items_then, known_then, NoneLeft}
use Rattle.rs_outside.specs.declared.status.Status.{Status}
use Rattle.rs_outside.specs.declared.status.Status.TheVariants.{Done, BadLog, SourceFault, SinkFault, InputTooLong}
use Rattle.rs_outside.specs.declared.status.Status.TheVariants.{NoMemory}
use Rattle.fx_record.specs.declared.record.Record.{Record}
use Rattle.ks_space.specs.Store.{Store}
use Rattle.fx_record.specs.Records.{replay}
use Rattle.fx_log.specs.declared.group.Group.{Group}
use Rattle.fx_log.specs.declared.stops.LogKind.{LogKind}
use Rattle.fx_log.specs.Dump.{dump}
use Rattle.fx_log.specs.Frames.{within_u64}
use Rattle.fx_log.specs.Logs.{IsGroups, IsBadLog, HasBadPlace}
use Rattle.fx_log.specs.LogReader.{HasReadLog}
use Rattle.srv_loop.specs.Taking.{TookPrefix}
use Rattle.redscript.specs.declared.replaying.Replaying.{Replaying}

-- the records of groups, in order
abbrev pub records_of : List Group → List Record
records_of groups = flat_map (λ (group : Group). group.records) groups

-- `end groups=G keys=K`
abbrev pub counts_line : ℕ → ℕ → List ℕ
counts_line groups keys = codes "end groups=" ++ decimal groups ++ codes " keys=" ++ decimal keys ++ 10 ∷ []

-- `end groups=G keys=K`, and the dump of the store
abbrev pub log_ending : ℕ → Store → List ℕ
log_ending groups store = counts_line groups (finite.len store) ++ dump store

-- What is written of a log with these groups: how many they are, and the store that their records lead to. The count of
-- groups stands still at the last value of a `u64`.
abbrev pub replay_text : List Group → List ℕ
replay_text groups = log_ending (within_u64 (length groups)) (replay (records_of groups))

-- the bytes of a text up to the limit
unfoldable pub up_to_limit : List ℕ → List ℕ
up_to_limit text = take 1099511627776 text

-- this text was read, and nothing is left; it is within the limit, and has no bad place
pub record ReadsLog (input input' : Option (List ℕ)) (text : List ℕ) : Type 0 where
  pub read : input ≡ items_then text input'
  pub ended : NoneLeft input'
  pub within : length text ≤ 1099511627776
  pub good : HasBadPlace text → ⊥

-- bytes were read that, up to the limit, have their bad place here
pub record FindsBadLog (input input' : Option (List ℕ)) (place : ℕ) : Type 0 where
  pub text : List ℕ
  pub read : input ≡ items_then text input'
  pub kind : LogKind
  pub bad : IsBadLog (up_to_limit text) place kind

-- more bytes than the limit were read, and those up to it have no bad place
pub record PassesLogLimit (input input' : Option (List ℕ)) : Type 0 where
  pub text : List ℕ
  pub read : input ≡ items_then text input'
  pub long : 1099511627776 < length text
  pub good : HasBadPlace (up_to_limit text) → ⊥

-- the input was read to its end and is a log, and the output took the count and the store of its groups
pub record Replays (input input' out out' : Option (List ℕ)) : Type 0 where
  pub text : List ℕ
  pub read : ReadsLog input input' text
  pub groups : List Group
  pub groups_are : IsGroups text groups
  pub written : out' ≡ known_then out (replay_text groups)

-- the input was read to its end and is a log, and the output took a prefix of the count and the store of its groups
pub record CutsReplay (input input' out out' : Option (List ℕ)) : Type 0 where
  pub text : List ℕ
  pub read : ReadsLog input input' text
  pub groups : List Group
  pub groups_are : IsGroups text groups
  pub written : TookPrefix out out' (replay_text groups)

-- what is kept of a log whose bytes so far are these: the reader, and what the whole groups lead to
pub record Keeps (replaying : Replaying) (text : List ℕ) : Type 0 where
  pub reader : HasReadLog replaying.reader text
  pub good : HasBadPlace text → ⊥
  pub groups : List Group
  pub groups_are : IsGroups text groups
  pub space_is : replaying.space ≡ replay (records_of groups)
  pub count_is : replaying.groups ≡ within_u64 (length groups)

-- what is kept where these bytes were read: nothing of those past the limit
pub record KeepsUpTo (replaying : Replaying) (text : List ℕ) : Type 0 where
  pub keeps : Keeps replaying (up_to_limit text)
  pub room_is : replaying.room ≡ 1099511627776 - length text
  pub within : length text ≤ 1099511627776

-- why the bytes of a log are not taken, which with the new ones are these
abbrev pub StopsFeed : List ℕ → Status → Type 0
StopsFeed text (BadLog place) = (kind : LogKind) × IsBadLog text place kind
StopsFeed text NoMemory = Unit {0}
StopsFeed text _ = ⊥

-- why the bytes that were read are not taken, which with the new ones are these
abbrev pub StopsTake : List ℕ → Status → Type 0
StopsTake text (BadLog place) = (kind : LogKind) × IsBadLog (up_to_limit text) place kind
StopsTake text (InputTooLong bytes) = (bytes ≡ 1099511627776) × (1099511627776 < length text)
    × (HasBadPlace (up_to_limit text) → ⊥)
StopsTake text NoMemory = Unit {0}
StopsTake text _ = ⊥

-- why reading a log stopped
abbrev pub StopsLogReading : Option (List ℕ) → Option (List ℕ) → Type 0 → Status → Type 0
StopsLogReading input input' rose SourceFault = rose
StopsLogReading input input' rose (BadLog place) = FindsBadLog input input' place
StopsLogReading input input' rose (InputTooLong bytes) = (bytes ≡ 1099511627776) × PassesLogLimit input input'
StopsLogReading input input' rose NoMemory = Unit {0}
StopsLogReading input input' rose _ = ⊥

-- the statuses that a replay ends with
abbrev pub IsReplayStatus : Status → Type 0
IsReplayStatus Done = Unit {0}
IsReplayStatus (BadLog place) = Unit {0}
IsReplayStatus SourceFault = Unit {0}
IsReplayStatus SinkFault = Unit {0}
IsReplayStatus NoMemory = Unit {0}
IsReplayStatus (InputTooLong bytes) = Unit {0}
IsReplayStatus _ = ⊥
