-- A text has one list of groups, and one bad place or none.
use Rattle.std.proofs.Common.{◌≡◌, ℕ, true, false, is_some, Option, None, List, [], ◌∷◌, ◌++◌, refl, sym, ap, subst}
use Rattle.std.proofs.Common.{◌∙◌, append_assoc, append-nil}
use Rattle.std.proofs.lemmas.List.{map-append}
use Rattle.fx_record.specs.declared.record.Record.{Record}
use Rattle.resp_read.specs.declared.command.Command.{Command}
use Rattle.resp_read.specs.declared.stops.BadFrame.{BadFrame}
use Rattle.resp_read.specs.Frames.{Form, within_u64, commands_from, Begins, LongestSequence, IsBadPlace, IsBad, IsWhole}
use Rattle.fx_log.specs.declared.command.LogCommand.{LogCommand}
use Rattle.fx_log.specs.declared.command.LogCommand.TheVariants.{Record as OneRecord}
use Rattle.fx_log.specs.declared.group.Group.{Group}
use Rattle.fx_log.specs.declared.stops.LogKind.{LogKind}
use Rattle.fx_log.specs.declared.stops.LogKind.TheVariants.{Frame}
use Rattle.fx_log.specs.Items.{Item, groups_of}
use Rattle.fx_log.specs.LogCommands.{command_of, fits, kind_of}
use Rattle.fx_log.specs.Logs.{words_in, Splits, IsLog, IsGroups, IsKind, IsBadAt, IsBadLog, HasBadPlace}
use Rattle.fx_log.specs.Reading.{LogRead, Reads, Breaks, read_from}
use Rattle.fx_log.specs.LogReader.{AddsGroups}
use Rattle.fx_log.proofs.CommandLaws.{command-words, kind-is, kind-one}
use Rattle.fx_log.proofs.Runs.{Stood, behind, read-behind, split_read, splits-read, stood-commands, read-stood}
use Rattle.fx_log.proofs.Runs.{stood-bad, read-broke}

-- what the grammar of frames says of every text
abbrev pub OneSequence : Type 0
OneSequence = (text : List ℕ) (forms others : List Form) (left rest : List ℕ) → LongestSequence text forms left
    → LongestSequence text others rest → (forms ≡ others) × (left ≡ rest)

abbrev pub OneBad : Type 0
OneBad = (text : List ℕ) (place at : ℕ) (kind what : BadFrame) → IsBad text place kind → IsBad text at what
    → (place ≡ at) × (kind ≡ what)

abbrev pub NotBoth : Type 0
NotBoth = (text : List ℕ) (place : ℕ) → Begins text → IsBadPlace text place → ⊥

pub one-whole : OneSequence → (text : List ℕ) (xs ys : List Command) → IsWhole text xs → IsWhole text ys → xs ≡ ys
one-whole one_sequence text xs ys x y =
    let same = one_sequence text x.forms y.forms x.rest y.rest x.sequence y.sequence in
    x.commands_are ∙ ap (commands_from 0) same.0 ∙ sym y.commands_are

abbrev pub groups_in : LogRead → List Group
groups_in (Reads groups opened) = groups
groups_in (Breaks groups place kind) = groups

groups-split : (items : List Item) (opened : Option (List Record)) (rest : List Command)
    → groups_in (split_read items opened rest) ≡ groups_of items
groups-split items opened [] = refl
groups-split items opened (command ∷ rest) = refl

groups-read : (text : List ℕ) (groups : List Group) (is : IsGroups text groups)
    → groups_in (read_from [] None is.commands) ≡ groups
groups-read text groups is =
    ap groups_in (splits-read is.commands is.front is.rest is.items is.opened is.splits)
    ∙ groups-split is.items is.opened is.rest ∙ sym is.groups_are

pub one-groups : OneSequence → (text : List ℕ) (xs ys : List Group) → IsGroups text xs → IsGroups text ys → xs ≡ ys
one-groups one_sequence text xs ys x y =
    sym (groups-read text xs x) ∙ ap (λ cs. groups_in (read_from [] None cs))
    (one-whole one_sequence text x.commands y.commands x.whole y.whole) ∙ groups-read text ys y

pub one-bad : OneSequence → OneBad → (text : List ℕ) (place at : ℕ) (kind what : LogKind) → IsBadLog text place kind
    → IsBadLog text at what → (place ≡ at) × (kind ≡ what)
one-bad one_sequence one_frame text place at kind what x y =
    by_rest x.rest y.rest
    (sym (splits-read x.commands x.front x.rest x.items x.opened x.splits)
    ∙ ap (read_from [] None) (one-whole one_sequence text x.commands y.commands x.whole y.whole)
    ∙ splits-read y.commands y.front y.rest y.items y.opened y.splits)
    x.bad
    y.bad
  where
    by_rest : (xs ys : List Command) → split_read x.items x.opened xs ≡ split_read y.items y.opened ys
        → IsBadAt text xs place kind → IsBadAt text ys at what → (place ≡ at) × (kind ≡ what)
    by_rest [] [] same p q =
        let frames = one_frame text p.1.0 q.1.0 p.1.1 q.1.1 p.1.2 q.1.2 in
        (p.1.3 ∙ ap within_u64 frames.0 ∙ sym q.1.3, p.0 ∙ sym q.0)
    by_rest [] (b ∷ bs) same p q = absurd (cc)
    by_rest (a ∷ more) [] same p q = absurd (cc)
    by_rest (a ∷ more) (b ∷ bs) same p q =
        let places : a.place ≡ b.place = cc in
        let kinds : kind_of (command_of a.words) ≡ kind_of (command_of b.words) = cc in (
          p.0 ∙ places ∙ sym q.0,
          kind-one a.words (command_of a.words) kind (command-words a.words) p.1 ∙ kinds
              ∙ sym (kind-one b.words (command_of b.words) what (command-words b.words) q.1),
        )

log-stood : (text : List ℕ) (items : List Item) (opened : Option (List Record)) (log : IsLog text items opened)
    → Stood (words_in log.commands) (groups_of items) opened
log-stood text items opened log = record {
  items = items;
  within = log.within;
  words_are = log.words_are;
  groups_are = refl;
}

pub log-groups : (text : List ℕ) (items : List Item) (opened : Option (List Record)) → IsLog text items opened
    → IsGroups text (groups_of items)
log-groups text items opened log = record {
  commands = log.commands;
  front = log.commands;
  rest = [];
  items = items;
  opened = opened;
  whole = log.whole;
  splits = record {
    within = log.within;
    commands_are = sym (append-nil log.commands);
    front_is = log.words_are;
    stops = tt;
  };
  groups_are = refl;
}

-- the groups of a text with a bad place are those before it
pub groups-before : (text : List ℕ) (place : ℕ) (kind : LogKind) (bad : IsBadLog text place kind) (groups : List Group)
    → groups ≡ groups_of bad.items → IsGroups text groups
groups-before text place kind bad groups groups_are = record {
  commands = bad.commands;
  front = bad.front;
  rest = bad.rest;
  items = bad.items;
  opened = bad.opened;
  whole = bad.whole;
  splits = bad.splits;
  groups_are = groups_are;
}

-- a log so far has no bad place
pub log-good : OneSequence → NotBoth → (text : List ℕ) (items : List Item) (opened : Option (List Record))
    → IsLog text items opened → HasBadPlace text → ⊥
log-good one_sequence not_both text items opened log (place, kind, bad) =
    by_rest bad.rest
    (sym (stood-commands log.commands (groups_of items) opened (log-stood text items opened log))
    ∙ ap (read_from [] None) (one-whole one_sequence text log.commands bad.commands log.whole bad.whole)
    ∙ splits-read bad.commands bad.front bad.rest bad.items bad.opened bad.splits)
    bad.bad
  where
    by_rest : (rest : List Command) → Reads (groups_of items) opened ≡ split_read bad.items bad.opened rest
        → IsBadAt text rest place kind → ⊥
    by_rest [] same at = not_both text at.1.0 log.begins at.1.2.at
    by_rest (command ∷ rest) same at = cc

words-append : (xs ys : List Command) → words_in (xs ++ ys) ≡ words_in xs ++ words_in ys
words-append xs ys = map-append (λ (command : Command). command.words) xs ys

read-on : (groups : List Group) (opened : Option (List Record)) (commands : List Command)
    → read_from groups opened commands ≡ behind groups (read_from [] opened commands)
read-on groups opened commands = ap (λ gs. read_from gs opened commands) (sym (append-nil groups))
    ∙ read-behind groups [] opened commands

-- commands behind a log so far, that are taken
pub log-more : (text piece : List ℕ) (items : List Item) (opened : Option (List Record)) (log : IsLog text items opened)
    (commands : List Command) (given : List Group)
    (left : Option (List Record)) → read_from [] opened commands ≡ Reads given left
    → Stood (words_in (log.commands ++ commands)) (groups_of items ++ given) left
log-more text piece items opened log commands given left e =
    subst (λ (ws : List (List (List ℕ))). Stood ws (groups_of items ++ given) left)
    (sym (words-append log.commands commands))
    (read-stood commands (words_in log.commands) (groups_of items) opened (groups_of items ++ given) left
    (log-stood text items opened log)
    (read-on (groups_of items) opened commands ∙ ap (behind (groups_of items)) e))

-- a command that may not stand where it stands is no record
no-record : (left : Option (List Record)) (c : LogCommand) → fits (is_some left) c ≡ false → (r : Record)
    → c ≡ OneRecord r → ⊥
no-record left c no_fit r e = let fit : fits (is_some left) c ≡ true = ap (fits (is_some left)) e in absurd (cc)

-- commands behind a log so far, one of which may not stand where it stands
pub log-broke : (text piece : List ℕ) (items : List Item) (opened : Option (List Record))
    (log : IsLog text items opened) (commands : List Command) (given : List Group)
    (place : ℕ) (kind : LogKind) → IsWhole (text ++ piece) (log.commands ++ commands)
    → read_from [] opened commands ≡ Breaks given place kind
    → IsBadLog (text ++ piece) place kind × IsGroups (text ++ piece) (groups_of items ++ given)
log-broke text piece items opened log commands given place kind whole e =
    let broke = read-broke commands (words_in log.commands) (groups_of items) opened
    (groups_of items ++ given) place kind (log-stood text items opened log)
    (read-on (groups_of items) opened commands ∙ ap (behind (groups_of items)) e) in
    let front = log.commands ++ broke.front in
    let stood = subst (λ (ws : List (List (List ℕ))). Stood ws (groups_of items ++ given) broke.left)
    (sym (words-append log.commands broke.front)) broke.stood in
    let splits : Splits (log.commands ++ commands) front (broke.bad ∷ broke.rest) stood.items broke.left = record {
      within = stood.within;
      commands_are = ap (λ cs. log.commands ++ cs) broke.commands_are
          ∙ sym (append_assoc log.commands broke.front (broke.bad ∷ broke.rest));
      front_is = stood.words_are;
      stops = stood-bad (words_in front) broke.bad.words (groups_of items ++ given) broke.left stood broke.no_fit;
    } in
    let c = command_of broke.bad.words in
    let is_bad : IsBadLog (text ++ piece) place kind = record {
      commands = log.commands ++ commands;
      front = front;
      rest = broke.bad ∷ broke.rest;
      items = stood.items;
      opened = broke.left;
      whole = whole;
      splits = splits;
      bad = (
        broke.place_is,
        subst (λ (k : LogKind). IsKind k broke.bad.words) (sym broke.kind_is)
            (kind-is broke.bad.words c (command-words broke.bad.words) (no-record broke.left c broke.no_fit)),
      );
    } in
    (is_bad, groups-before (text ++ piece) place kind is_bad (groups_of items ++ given) stood.groups_are)

-- a bad frame behind commands that are taken
pub log-framed : (text piece : List ℕ) (items : List Item) (opened : Option (List Record))
    (log : IsLog text items opened) (commands : List Command) (given : List Group)
    (left : Option (List Record)) (place at : ℕ) (bad : BadFrame) → IsWhole (text ++ piece) (log.commands ++ commands)
    → read_from [] opened commands ≡ Reads given left
    → IsBad (text ++ piece) at bad → place ≡ within_u64 at
    → IsBadLog (text ++ piece) place Frame × IsGroups (text ++ piece) (groups_of items ++ given)
log-framed text piece items opened log commands given left place at bad whole e is_bad place_is =
    let stood = log-more text piece items opened log commands given left e in
    let all = log.commands ++ commands in
    let splits : Splits all all [] stood.items left =
    record { within = stood.within; commands_are = sym (append-nil all); front_is = stood.words_are; stops = tt } in
    let found : IsBadLog (text ++ piece) place Frame =
    record {
      commands = all;
      front = all;
      rest = [];
      items = stood.items;
      opened = left;
      whole = whole;
      splits = splits;
      bad = (refl, (at, bad, is_bad, place_is));
    } in
    (found, groups-before (text ++ piece) place Frame found (groups_of items ++ given) stood.groups_are)

-- the groups that a piece adds
pub log-adds : OneSequence → (text piece : List ℕ) (items : List Item) (opened : Option (List Record))
    → IsLog text items opened → (given : List Group)
    → IsGroups (text ++ piece) (groups_of items ++ given) → AddsGroups text piece given
log-adds one_sequence text piece items opened log given all before is =
    subst (λ (gs : List Group). IsGroups (text ++ piece) (gs ++ given))
    (one-groups one_sequence text (groups_of items) before (log-groups text items opened log) is) all
