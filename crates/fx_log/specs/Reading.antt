-- What a text reads as, as an effect log.
use Rattle.std.specs.Prelude.{◌≡◌, ℕ, if◌then◌else◌, is_some, Option, None, List, [], ◌∷◌, ◌++◌}
use Rattle.fx_record.specs.declared.record.Record.{Record}
use Rattle.resp_read.specs.declared.command.Command.{Command}
use Rattle.resp_read.specs.Frames.{within_u64, commands_from}
use Rattle.resp_read.specs.Reading.{Reading, Unfinished, Broken, reading}
use Rattle.fx_log.specs.declared.group.Group.{Group}
use Rattle.fx_log.specs.declared.run.Run.{Run}
use Rattle.fx_log.specs.declared.run.Run.TheVariants.{Whole, Bad}
use Rattle.fx_log.specs.declared.stops.LogKind.{LogKind}
use Rattle.fx_log.specs.declared.stops.LogKind.TheVariants.{Frame}
use Rattle.fx_log.specs.Items.{Item, groups_of}
use Rattle.fx_log.specs.LogCommands.{command_of, fits, kind_of, groups_at, open_after}
use Rattle.fx_log.specs.Logs.{IsLog, IsGroups, IsBadLog}

-- the groups, and the records of the group that is open, if one is; or the groups before a bad place, the place and its
-- kind
pub data LogRead : Type 0 where
  Reads : List Group → Option (List Record) → LogRead
  Breaks : List Group → ℕ → LogKind → LogRead

-- commands read behind these groups, where a group with these records is open, if one is
abbrev pub read_from : List Group → Option (List Record) → List Command → LogRead
read_from groups opened [] = Reads groups opened
read_from groups opened (command ∷ commands) =
    if fits (is_some opened) (command_of command.words)
    then read_from (groups ++ groups_at opened (command_of command.words))
    (open_after opened (command_of command.words)) commands
    else Breaks groups command.place (kind_of (command_of command.words))

-- what commands are read as that were taken so
abbrev pub as_read : List Group → Run → LogRead
as_read groups (Whole opened) = Reads groups opened
as_read groups (Bad place kind) = Breaks groups place kind

-- commands read so, and then a bad frame at this place
abbrev pub before_frame : ℕ → LogRead → LogRead
before_frame place (Reads groups opened) = Breaks groups place Frame
before_frame place (Breaks groups at kind) = Breaks groups at kind

abbrev pub log_of : Reading → LogRead
log_of (Unfinished forms left) = read_from [] None (commands_from 0 forms)
log_of (Broken forms place kind) = before_frame (within_u64 place) (read_from [] None (commands_from 0 forms))

unfoldable pub log_reading : List ℕ → LogRead
log_reading text = log_of (reading text)

-- a reading is what the grammar says of the text
abbrev pub IsLogReadingOf : List ℕ → LogRead → Type 0
IsLogReadingOf text (Reads groups opened) = (items : List Item) × IsLog text items opened × (groups ≡ groups_of items)
IsLogReadingOf text (Breaks groups place kind) = IsBadLog text place kind × IsGroups text groups
