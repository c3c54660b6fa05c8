-- Records that are read are within the limits.
use Rattle.std.proofs.Common.{◌≡◌, ℕ, is_some, Option, Some, None, Result, Ok, Err, List, [], ◌∷◌, ◌++◌, subst}
use Rattle.std.specs.List.{All, AllByRecursion}
use Rattle.std.specs.Result.{IfErr, IsErrAnd}
use Rattle.std.proofs.lemmas.Bool.{cond_both}
use Rattle.std.proofs.lemmas.List.Elements.{All-from_recursion}
use Rattle.rs_base.proofs.Lists.{each-append}
use Rattle.fx_record.specs.declared.record.Record.{Record}
use Rattle.fx_record.specs.RecordWords.{IsRecord}
use Rattle.resp_read.specs.declared.command.Command.{Command}
use Rattle.fx_log.specs.declared.command.LogCommand.{LogCommand}
use Rattle.fx_log.specs.declared.command.LogCommand.TheVariants.{Multi, Exec, Record as OneRecord, Other}
use Rattle.fx_log.specs.declared.group.Group.{Group}
use Rattle.fx_log.specs.declared.reader.State.{State}
use Rattle.fx_log.specs.declared.stops.LogStop.{LogStop}
use Rattle.fx_log.specs.declared.stops.LogStop.TheVariants as stop
use Rattle.fx_log.specs.Groups.{IsWithin}
use Rattle.fx_log.specs.Items.{IsOpen}
use Rattle.fx_log.specs.LogCommands.{command_of, fits, kind_of, groups_at, open_after}
use Rattle.fx_log.specs.LogReader.{IsStopOf, IsStopWithin}
use Rattle.fx_log.specs.Reading.{LogRead, Reads, Breaks, read_from, before_frame}
use Rattle.fx_log.proofs.CommandLaws.{AreWordsOf, command-words}

abbrev AreWithin : List Group → Type 0
AreWithin groups = AllByRecursion (λ (group : Group). AllByRecursion IsRecord group.records) groups

groups-at : (opened : Option (List Record)) (words : List (List ℕ)) (c : LogCommand) → AreWordsOf words c
    → IsOpen opened → AreWithin (groups_at opened c) × IsOpen (open_after opened c)
groups-at None words Multi is open_is = (tt, tt)
groups-at None words Exec is open_is = (tt, tt)
groups-at None words (OneRecord r) is open_is = (((is.1, tt), tt), tt)
groups-at None words Other is open_is = (tt, tt)
groups-at (Some records) words Multi is open_is = (tt, open_is)
groups-at (Some []) words Exec is open_is = (tt, tt)
groups-at (Some (r ∷ records)) words Exec is open_is = ((open_is, tt), tt)
groups-at (Some records) words (OneRecord r) is open_is = (tt, each-append IsRecord records (r ∷ []) open_is (is.1, tt))
groups-at (Some records) words Other is open_is = (tt, open_is)

abbrev pub IsReadWithin : LogRead → Type 0
IsReadWithin (Reads given left) = AreWithin given × IsOpen left
IsReadWithin (Breaks given place kind) = AreWithin given

read-within : (commands : List Command) (groups : List Group) (opened : Option (List Record)) → AreWithin groups
    → IsOpen opened → IsReadWithin (read_from groups opened commands)
read-within [] groups opened within open_is = (within, open_is)
read-within (x ∷ xs) groups opened within open_is =
    let c = command_of x.words in
    let at = groups-at opened x.words c (command-words x.words) open_is in
    cond_both (fits (is_some opened) c) (read_from (groups ++ groups_at opened c) (open_after opened c) xs)
    (Breaks groups x.place (kind_of c)) IsReadWithin
    (λ passed. read-within xs (groups ++ groups_at opened c) (open_after opened c)
    (each-append (λ (group : Group). AllByRecursion IsRecord group.records) groups (groups_at opened c) within at.0)
    at.1)
    (λ failed. within)

by_groups : (groups : List Group) → AreWithin groups → All IsWithin groups
by_groups groups within = All-from_recursion IsWithin groups (each groups within)
  where
    each : (groups : List Group) → AreWithin groups → AllByRecursion IsWithin groups
    each [] within = tt
    each (group ∷ groups) within = (All-from_recursion IsRecord group.records within.0, each groups within.1)

pub read-open : (commands : List Command) (opened : Option (List Record)) (given : List Group)
    (left : Option (List Record)) → IsOpen opened
    → read_from [] opened commands ≡ Reads given left → IsOpen left
read-open commands opened given left open_is e = (subst IsReadWithin e (read-within commands [] opened tt open_is)).1

pub read-all : (commands : List Command) (opened : Option (List Record)) (given : List Group)
    (left : Option (List Record)) → IsOpen opened
    → read_from [] opened commands ≡ Reads given left → All IsWithin given
read-all commands opened given left open_is e =
    by_groups given (subst IsReadWithin e (read-within commands [] opened tt open_is)).0

stop-within : (read : LogRead) (why : LogStop) (new : State) → IsReadWithin read → IsStopOf read why new
    → IsStopWithin why
stop-within read (stop.Bad before place kind) new within is = by_groups before (subst IsReadWithin is.0 within)
stop-within read stop.Failed new within is = tt
stop-within read stop.NoMemory new within is = tt

-- the groups before a command that may not stand where it stands
pub command-stop-within : (commands : List Command) (opened : Option (List Record)) (new : State)
    (result : Result (List Group) LogStop) → IsOpen opened
    → IfErr result (λ why. IsStopOf (read_from [] opened commands) why new) → IfErr result IsStopWithin
command-stop-within commands opened new (Ok groups) open_is is = tt
command-stop-within commands opened new (Err why) open_is is =
    stop-within (read_from [] opened commands) why new (read-within commands [] opened tt open_is) is

-- the groups before a bad frame, or before such a command
pub frame-stop-within : (place : ℕ) (commands : List Command) (opened : Option (List Record)) (new : State)
    (result : Result (List Group) LogStop) → IsOpen opened
    → IsErrAnd result (λ why. IsStopOf (before_frame place (read_from [] opened commands)) why new)
    → IfErr result IsStopWithin
frame-stop-within place commands opened new (Ok groups) open_is is = tt
frame-stop-within place commands opened new (Err why) open_is is =
    stop-within (before_frame place (read_from [] opened commands)) why new
    (by_read (read_from [] opened commands) (read-within commands [] opened tt open_is)) is
  where
    by_read : (read : LogRead) → IsReadWithin read → IsReadWithin (before_frame place read)
    by_read (Reads given left) within = within.0
    by_read (Breaks given at kind) within = within
