-- What a reader of a log keeps and answers.
use Rattle.std.specs.Prelude.{◌≡◌, ℕ, List, [], ◌++◌, All}
use Rattle.resp_read.specs.Reading.{HasRead}
use Rattle.fx_log.specs.declared.group.Group.{Group}
use Rattle.fx_log.specs.declared.reader.State.{State}
use Rattle.fx_log.specs.declared.reader.State.TheVariants as state
use Rattle.fx_log.specs.declared.stops.LogKind.{LogKind}
use Rattle.fx_log.specs.declared.stops.LogStop.{LogStop}
use Rattle.fx_log.specs.declared.stops.LogStop.TheVariants.{Bad, Failed, NoMemory}
use Rattle.fx_log.specs.Groups.{IsWithin}
use Rattle.fx_log.specs.Items.{Item}
use Rattle.fx_log.specs.Logs.{IsLog, IsGroups, IsBadLog, HasBadPlace}
use Rattle.fx_log.specs.Reading.{LogRead, Breaks}

-- what a reader keeps of all bytes so far: what the reader of frames keeps, and the records of the open group
abbrev pub HasReadLog : State → List ℕ → Type 0
HasReadLog (state.Reading reader opened) text = HasRead reader text × ((items : List Item) × IsLog text items opened)
HasReadLog state.Failed text = HasBadPlace text
HasReadLog state.OutOfMemory text = ⊥

-- the groups that `piece` ends behind `text`
abbrev pub AddsGroups : List ℕ → List ℕ → List Group → Type 0
AddsGroups text piece groups = (before : List Group) → IsGroups text before
    → IsGroups (text ++ piece) (before ++ groups)

-- a piece behind `text` that the reader takes
pub record GoesOn (text piece : List ℕ) (groups : List Group) (new : State) : Type 0 where
  pub stands : HasReadLog new (text ++ piece)
  pub good : HasBadPlace (text ++ piece) → ⊥
  pub adds : AddsGroups text piece groups

-- a piece behind `text` that has the bad place
pub record BreaksOff (text piece : List ℕ) (before : List Group) (place : ℕ) (kind : LogKind)
    (new : State) : Type 0 where
  pub stands : HasReadLog new (text ++ piece)
  pub is_bad : IsBadLog (text ++ piece) place kind
  pub was_good : HasBadPlace text → ⊥
  pub adds : AddsGroups text piece before

-- why a reader that stands for `text` gives nothing
abbrev pub StopsLog : List ℕ → List ℕ → LogStop → State → State → Type 0
StopsLog text piece (Bad before place kind) old new = BreaksOff text piece before place kind new
StopsLog text piece Failed old new = (old ≡ state.Failed) × HasReadLog new (text ++ piece) × AddsGroups text piece []
    × HasBadPlace text
StopsLog text piece NoMemory old new = new ≡ state.OutOfMemory

-- each record of the groups before a bad place is within the limits
abbrev pub IsStopWithin : LogStop → Type 0
IsStopWithin (Bad before place kind) = All IsWithin before
IsStopWithin Failed = Unit {0}
IsStopWithin NoMemory = Unit {0}

-- the answer to commands that are read so
abbrev pub IsStopOf : LogRead → LogStop → State → Type 0
IsStopOf read (Bad before place kind) new = (read ≡ Breaks before place kind) × (new ≡ state.Failed)
IsStopOf read Failed new = ⊥
IsStopOf read NoMemory new = new ≡ state.OutOfMemory
