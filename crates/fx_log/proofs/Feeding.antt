-- What a reader of a log answers to a piece, and what it stands for then.
use Rattle.std.proofs.Common.{◌≡◌, ℕ, Option, Result, Ok, Err, List, [], ◌++◌, refl, sym, subst}
use Rattle.std.specs.Result.{IfErr, IsErrAnd}
use Rattle.fx_record.specs.declared.record.Record.{Record}
use Rattle.resp_read.specs.declared.command.Command.{Command}
use Rattle.resp_read.specs.declared.stops.BadFrame.{BadFrame}
use Rattle.resp_read.specs.Frames.{IsBadPlace}
use Rattle.resp_read.specs.Reading.{ReaderState, Goes, Breaks}
use Rattle.fx_log.specs.declared.group.Group.{Group}
use Rattle.fx_log.specs.declared.reader.State.{State}
use Rattle.fx_log.specs.declared.reader.State.TheVariants as state
use Rattle.fx_log.specs.declared.stops.LogKind.{LogKind}
use Rattle.fx_log.specs.declared.stops.LogKind.TheVariants.{Frame}
use Rattle.fx_log.specs.declared.stops.LogStop.{LogStop}
use Rattle.fx_log.specs.declared.stops.LogStop.TheVariants as stop
use Rattle.fx_log.specs.Items.{Item, groups_of}
use Rattle.fx_log.specs.Logs.{IsLog, IsGroups, IsBadLog, HasBadPlace}
use Rattle.fx_log.specs.Reading.{LogRead, Reads, Breaks as Broke, read_from, before_frame}
use Rattle.fx_log.specs.LogReader.{AddsGroups, HasReadLog, GoesOn, BreaksOff, StopsLog, IsStopOf}
use Rattle.fx_log.proofs.Staying.{ReadsText, GoesOnText, bad-place-stays, bad-adds}
use Rattle.fx_log.proofs.Texts.{OneSequence, NotBoth, log-groups, log-good, log-more, log-broke, log-framed, log-adds}

pub goes-on : OneSequence → NotBoth
    → (text piece : List ℕ) (reader then : ReaderState) (opened left : Option (List Record))
    (commands : List Command) (given : List Group) (new : State)
    → HasReadLog (state.Reading reader opened) text → Goes text piece commands then
    → read_from [] opened commands ≡ Reads given left → new ≡ state.Reading then left
    → GoesOn text piece given new
goes-on one_sequence not_both text piece reader then opened left commands given new stands goes e new_is =
    let items = stands.1.0 in
    let log = stands.1.1 in
    let stood = log-more text piece items opened log commands given left e in
    let log_then : IsLog (text ++ piece) stood.items left =
    record {
      commands = log.commands ++ commands;
      whole = goes.adds log.commands log.whole;
      begins = goes.begins;
      within = stood.within;
      words_are = stood.words_are;
    } in
    let stands_then : HasReadLog (state.Reading then left) (text ++ piece) = (goes.stands, (stood.items, log_then)) in
    record {
      stands = subst (λ (s : State). HasReadLog s (text ++ piece)) (sym new_is) stands_then;
      good = log-good one_sequence not_both (text ++ piece) stood.items left log_then;
      adds = log-adds one_sequence text piece items opened log given
          (subst (IsGroups (text ++ piece)) (sym stood.groups_are)
          (log-groups (text ++ piece) stood.items left log_then));
    }

breaks-off : OneSequence → NotBoth → (text piece : List ℕ) (items : List Item) (opened : Option (List Record))
    (log : IsLog text items opened) (given : List Group) (place : ℕ)
    (kind : LogKind) (new : State) → new ≡ state.Failed
    → IsBadLog (text ++ piece) place kind × IsGroups (text ++ piece) (groups_of items ++ given)
    → BreaksOff text piece given place kind new
breaks-off one_sequence not_both text piece items opened log given place kind new new_is (is_bad, all) =
    let stands_then : HasReadLog state.Failed (text ++ piece) = (place, kind, is_bad) in
    record {
      stands = subst (λ (s : State). HasReadLog s (text ++ piece)) (sym new_is) stands_then;
      is_bad = is_bad;
      was_good = log-good one_sequence not_both text items opened log;
      adds = log-adds one_sequence text piece items opened log given all;
    }

-- one of the commands may not stand where it stands
pub stops-at-command : OneSequence → NotBoth → (text piece : List ℕ) (reader then : ReaderState)
    (opened : Option (List Record)) (commands : List Command) (why : LogStop) (old new : State)
    → HasReadLog (state.Reading reader opened) text → Goes text piece commands then
    → IsStopOf (read_from [] opened commands) why new → StopsLog text piece why old new
stops-at-command one_sequence not_both text piece reader then opened commands
    (stop.Bad given place kind) old new stands goes is_stop =
    let log = stands.1.1 in
    breaks-off one_sequence not_both text piece stands.1.0 opened log given place kind new is_stop.1
    (log-broke text piece stands.1.0 opened log commands given place kind (goes.adds log.commands log.whole) is_stop.0)
stops-at-command one_sequence not_both text piece reader then opened commands stop.Failed old new stands goes is_stop =
    absurd is_stop
stops-at-command one_sequence not_both text piece reader then opened commands stop.NoMemory old new stands goes
    is_stop =
    is_stop

-- a frame is bad, or one of the commands before it may not stand where it stands
pub stops-at-frame : OneSequence → NotBoth → (text piece : List ℕ) (reader then : ReaderState)
    (opened : Option (List Record)) (commands : List Command) (place : ℕ) (bad : BadFrame)
    (why : LogStop) (old new : State) → HasReadLog (state.Reading reader opened) text
    → Breaks text piece commands place bad then
    → IsStopOf (before_frame place (read_from [] opened commands)) why new → StopsLog text piece why old new
stops-at-frame one_sequence not_both text piece reader then opened commands place bad stop.Failed old new stands breaks
    is_stop = absurd is_stop
stops-at-frame one_sequence not_both text piece reader then opened commands place bad stop.NoMemory old new stands
    breaks
    is_stop = is_stop
stops-at-frame one_sequence not_both text piece reader then opened commands place bad
    (stop.Bad given at kind) old new stands breaks is_stop =
    breaks-off one_sequence not_both text piece stands.1.0 opened stands.1.1 given at kind new is_stop.1
    (by_read (read_from [] opened commands) refl is_stop.0)
  where
    by_read : (r : LogRead) → read_from [] opened commands ≡ r → before_frame place r ≡ Broke given at kind
        → IsBadLog (text ++ piece) at kind × IsGroups (text ++ piece) (groups_of stands.1.0 ++ given)
    by_read (Reads groups left) e same =
        let groups_same : groups ≡ given = cc in
        let place_same : place ≡ at = cc in
        let kind_same : Frame ≡ kind = cc in
        subst (λ (k : LogKind). IsBadLog (text ++ piece) at k
        × IsGroups (text ++ piece) (groups_of stands.1.0 ++ given)) kind_same
        (log-framed text piece stands.1.0 opened stands.1.1 commands given left at breaks.at bad
        (breaks.adds stands.1.1.commands stands.1.1.whole) (cc) breaks.is_bad (cc))
    by_read (Broke groups p k) e same =
        log-broke text piece stands.1.0 opened stands.1.1 commands given at kind
        (breaks.adds stands.1.1.commands stands.1.1.whole) (cc)

-- the reader of frames reads a log so far
pub never-failed : NotBoth → (text : List ℕ) (place : ℕ) (items : List Item) (opened : Option (List Record))
    → IsLog text items opened
    → IsBadPlace text place → ⊥
never-failed not_both text place items opened log bad = not_both text place log.begins bad

-- a reader that has failed
pub failed : OneSequence → ReadsText → GoesOnText → (old : State) (text piece : List ℕ) → old ≡ state.Failed
    → HasReadLog old text
    → (old ≡ state.Failed) × HasBadPlace (text ++ piece) × AddsGroups text piece [] × HasBadPlace text
failed one_sequence reads goes_on old text piece is stands =
    let had = subst (λ (s : State). HasReadLog s text) is stands in (
      is,
      bad-place-stays one_sequence reads goes_on text piece had,
      bad-adds one_sequence reads goes_on text piece had,
      had,
    )

-- the same of what a call answers
pub command-stops : OneSequence → NotBoth
    → (text piece : List ℕ) (reader then : ReaderState) (opened : Option (List Record))
    (commands : List Command) (result : Result (List Group) LogStop)
    (old new : State) → HasReadLog (state.Reading reader opened) text → Goes text piece commands then
    → IfErr result (λ why. IsStopOf (read_from [] opened commands) why new)
    → IfErr result (λ why. StopsLog text piece why old new)
command-stops one_sequence not_both text piece reader then opened commands (Ok groups) old new stands goes is_stop =
    is_stop
command-stops one_sequence not_both text piece reader then opened commands (Err why) old new stands goes is_stop =
    stops-at-command one_sequence not_both text piece reader then opened commands why old new stands goes is_stop

pub frame-stops : OneSequence → NotBoth
    → (text piece : List ℕ) (reader then : ReaderState) (opened : Option (List Record))
    (commands : List Command) (place : ℕ) (bad : BadFrame)
    (result : Result (List Group) LogStop) (old new : State) → HasReadLog (state.Reading reader opened) text
    → Breaks text piece commands place bad then
    → IsErrAnd result (λ why. IsStopOf (before_frame place (read_from [] opened commands)) why new)
    → IfErr result (λ why. StopsLog text piece why old new)
frame-stops one_sequence not_both text piece reader then opened commands place bad
    (Ok groups) old new stands breaks is_stop = absurd is_stop
frame-stops one_sequence not_both text piece reader then opened commands place bad
    (Err why) old new stands breaks is_stop =
    stops-at-frame one_sequence not_both text piece reader then opened commands place bad why old new stands breaks
    is_stop
