-- Logs read command by command. What these steps amount to is stated over items, in `log_reading_is_the_grammar`.
use Rattle.std.specs.Prelude.{ℕ, Bool, true, false, not, if◌then◌else◌, Option, Some, None, List, [], ◌∷◌, ◌++◌, codes}
use Rattle.std.specs.Str.{bytes_eq}
use Rattle.fx_record.specs.declared.record.Record.{Record}
use Rattle.fx_record.specs.RecordWords.{record_of}
use Rattle.fx_log.specs.declared.command.LogCommand.{LogCommand}
use Rattle.fx_log.specs.declared.command.LogCommand.TheVariants.{Multi, Exec, Record as OneRecord, Other}
use Rattle.fx_log.specs.declared.group.Group.{Group}
use Rattle.fx_log.specs.declared.stops.LogKind.{LogKind}
use Rattle.fx_log.specs.declared.stops.LogKind.TheVariants.{Row, Nest}
use Rattle.fx_log.specs.Items.{wrapped_groups, bare_group}

-- a command of one word, this one
abbrev pub is_single : List ℕ → List (List ℕ) → Bool
is_single word [] = false
is_single word (only ∷ []) = bytes_eq only word
is_single word (first ∷ second ∷ words) = false

-- the record that was found, or something else
abbrev pub record_or_other : Option Record → LogCommand
record_or_other None = Other
record_or_other (Some r) = OneRecord r

-- what a command with these words is
abbrev pub command_of : List (List ℕ) → LogCommand
command_of words =
    if is_single (codes "MULTI") words then Multi
    else (if is_single (codes "EXEC") words then Exec else record_or_other (record_of words))

-- it may stand where a group is open, or none is
abbrev pub fits : Bool → LogCommand → Bool
fits is_open Multi = not is_open
fits is_open Exec = is_open
fits is_open (OneRecord r) = true
fits is_open Other = false

-- the kind of a place where it may not stand
abbrev pub kind_of : LogCommand → LogKind
kind_of Multi = Nest
kind_of Exec = Nest
kind_of (OneRecord r) = Row
kind_of Other = Row

-- the groups that it ends, none or one, where a group with these records is open, if one is
abbrev pub groups_at : Option (List Record) → LogCommand → List Group
groups_at None Multi = []
groups_at None Exec = []
groups_at None (OneRecord r) = bare_group r ∷ []
groups_at None Other = []
groups_at (Some records) Multi = []
groups_at (Some records) Exec = wrapped_groups records
groups_at (Some records) (OneRecord r) = []
groups_at (Some records) Other = []

-- the records of the group that is open behind it
abbrev pub open_after : Option (List Record) → LogCommand → Option (List Record)
open_after None Multi = Some []
open_after None Exec = None
open_after None (OneRecord r) = None
open_after None Other = None
open_after (Some records) Multi = Some records
open_after (Some records) Exec = None
open_after (Some records) (OneRecord r) = Some (records ++ r ∷ [])
open_after (Some records) Other = Some records
