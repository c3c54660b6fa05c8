-- A bad place of a log stays, whatever comes behind.
use Rattle.std.proofs.Common.{◌≡◌, ℕ, ◌+◌, ◌-◌, ◌<◌, ◌≤◌, ◌⊎◌, inl, inr, List, [], ◌∷◌, ◌++◌, length, take, drop, refl}
use Rattle.std.proofs.Common.{sym, ap, subst, ◌∙◌, arith, append_assoc, append-nil, length-append}
use Rattle.std.specs.List.{AllByRecursion}
use Rattle.std.proofs.lemmas.List.{take-append-le, take-append-drop, length-take-le}
use Rattle.std.proofs.lemmas.Bool.{cases_order}
use Rattle.std.proofs.Math.Seq.{take-append-add}
use Rattle.resp_read.specs.declared.command.Command.{Command}
use Rattle.resp_read.specs.declared.stops.BadFrame.{BadFrame}
use Rattle.resp_read.specs.Frames.{Form, Given, EmptyArray, NegativeArray, IsForm, form_text, frame, sequence_text}
use Rattle.resp_read.specs.Frames.{within_u64, commands_from, Begins, LongestSequence, IsBad, IsWhole}
use Rattle.resp_read.specs.Reading.{Reading, Unfinished, Broken, reading, behind_forms, IsReadingOf}
use Rattle.fx_log.specs.declared.stops.LogKind.{LogKind}
use Rattle.fx_log.specs.Items.{groups_of}
use Rattle.fx_log.specs.Logs.{Splits, IsGroups, IsBadAt, IsBadLog, HasBadPlace}
use Rattle.fx_log.specs.LogReader.{AddsGroups}
use Rattle.fx_log.proofs.Texts.{OneSequence, one-whole, one-groups, groups-before}

-- what the grammar of frames says of every text
abbrev pub ReadsText : Type 0
ReadsText = (text : List ℕ) → IsReadingOf text (reading text)

abbrev pub GoesOnText : Type 0
GoesOnText = (text piece : List ℕ) (forms : List Form) (left : List ℕ) → reading text ≡ Unfinished forms left
    → reading (text ++ piece) ≡ behind_forms forms (reading (left ++ piece))

-- commands of more forms are more commands
pub commands-more : (at : ℕ) (forms more : List Form)
    → (rest : List Command) × (commands_from at (forms ++ more) ≡ commands_from at forms ++ rest)
commands-more at [] more = (commands_from at more, refl)
commands-more at (Given words ∷ forms) more =
    let later = commands-more (at + length (frame words)) forms more in
    (later.0, ap (λ cs. record { words = words; place = within_u64 at } ∷ cs) later.1)
commands-more at (EmptyArray ∷ forms) more = commands-more (at + length (form_text EmptyArray)) forms more
commands-more at (NegativeArray n ∷ forms) more = commands-more (at + length (form_text (NegativeArray n))) forms more

short-or-past : (n m : ℕ) → (n ≡ m) ⊎ ((n < m) ⊎ (m < n)) → (n ≤ m) ⊎ (m + 1 ≤ n)
short-or-past n m (inl same) = inl (omega arith)
short-or-past n m (inr (inl below)) = inl (omega arith)
short-or-past n m (inr (inr above)) = inr (omega arith)

-- the front of a sequence begins a sequence
front-begins : (at : ℕ) (text : List ℕ) (others : List Form) (left : List ℕ) → at ≤ length (sequence_text others)
    → AllByRecursion IsForm others → text ≡ sequence_text others ++ left → Begins (take at text)
front-begins at text others left within each text_is =
    let front : take at text ≡ take at (sequence_text others) = ap (take at) text_is
    ∙ take-append-le at (sequence_text others) left within in (
      drop at (sequence_text others),
      others,
      record {
        each = each;
        text_is = ap (λ t. t ++ drop at (sequence_text others)) front ∙ take-append-drop at (sequence_text others);
      },
    )

-- the forms before a bad byte are the longest sequence of the text
bad-sequence : (text : List ℕ) (at : ℕ) (kind : BadFrame) (bad : IsBad text at kind)
    → LongestSequence text bad.forms (bad.rest ++ drop at text)
bad-sequence text at kind bad =
    let within = bad.at.within in
    let seq = bad.sequence in
    record {
      each = seq.each;
      text_is = sym (take-append-drop at text) ∙ ap (λ t. t ++ drop at text) seq.text_is
          ∙ append_assoc (sequence_text bad.forms) bad.rest (drop at text);
      longest = longest;
    }
  where
    by_length : (others : List Form) (left : List ℕ) → AllByRecursion IsForm others
        → text ≡ sequence_text others ++ left
        → (length (sequence_text others) ≤ at) ⊎ (at + 1 ≤ length (sequence_text others))
        → length (bad.rest ++ drop at text) ≤ length left
    by_length others left each text_is (inr past) =
        absurd (bad.at.bad (front-begins (at + 1) text others left past each text_is))
    by_length others left each text_is (inl short) =
        let front : take at text ≡ sequence_text others ++ take (at - length (sequence_text others)) left =
        ap (take at) text_is ∙ ap (λ n. take n (sequence_text others ++ left)) (omega arith)
        ∙ take-append-add (sequence_text others) left (at - length (sequence_text others)) in
        let within : at ≤ length text = omega (arith, bad.at.within) in
        let most = bad.sequence.longest others (take (at - length (sequence_text others)) left) each front in
        let sizes = ap length front in
        let all = ap length text_is in
        omega (
          arith,
          most,
          sizes,
          all,
          length-take-le at text within,
          length-append (sequence_text others) (take (at - length (sequence_text others)) left),
          length-append (sequence_text others) left,
          length-append bad.rest (drop at text),
          ap length (take-append-drop at text),
          length-append (take at text) (drop at text),
        )

    longest : (others : List Form) (left : List ℕ) → AllByRecursion IsForm others → text ≡ sequence_text others ++ left
        → length (bad.rest ++ drop at text) ≤ length left
    longest others left each text_is = by_length others left each text_is
        (short-or-past (length (sequence_text others)) at (cases_order (length (sequence_text others)) at))

-- a bad byte stays the bad byte
pub bad-more : (text piece : List ℕ) (at : ℕ) (kind : BadFrame) → IsBad text at kind → IsBad (text ++ piece) at kind
bad-more text piece at kind bad =
    let within = bad.at.within in
    let front : take at (text ++ piece) ≡ take at text = take-append-le at text piece (omega arith) in
    let and_bad : take (at + 1) (text ++ piece) ≡ take (at + 1) text =
    take-append-le (at + 1) text piece (omega arith) in
    record {
      forms = bad.forms;
      rest = bad.rest;
      at = record {
        within = omega (arith, length-append text piece);
        good = subst Begins (sym front) bad.at.good;
        bad = λ begins. bad.at.bad (subst Begins and_bad begins);
      };
      sequence = subst (λ (t : List ℕ). LongestSequence t bad.forms bad.rest) (sym front) bad.sequence;
      due = bad.due;
    }

bad-whole : (text : List ℕ) (at : ℕ) (kind : BadFrame) (bad : IsBad text at kind)
    → IsWhole text (commands_from 0 bad.forms)
bad-whole text at kind bad = record {
  forms = bad.forms;
  rest = bad.rest ++ drop at text;
  sequence = bad-sequence text at kind bad;
  commands_are = refl;
}

-- the commands of a text with a bad byte are those of the text with more behind it
pub whole-bad : OneSequence → (text piece : List ℕ) (at : ℕ) (kind : BadFrame) (commands : List Command)
    → IsBad text at kind
    → IsWhole text commands → IsWhole (text ++ piece) commands
unfolding bad-more
whole-bad one_sequence text piece at kind commands bad whole =
    let then = bad-more text piece at kind bad in
    subst (IsWhole (text ++ piece))
    (one-whole one_sequence text (commands_from 0 bad.forms) commands (bad-whole text at kind bad) whole)
    (bad-whole (text ++ piece) at kind then)

-- the commands of a text are the first of those of the text with more behind it
pub whole-more : OneSequence → ReadsText → GoesOnText → (text piece : List ℕ) (commands : List Command)
    → IsWhole text commands
    → (rest : List Command) × IsWhole (text ++ piece) (commands ++ rest)
whole-more one_sequence reads goes_on text piece commands whole = by_reading (reading text) refl (reads text)
  where
    items-more : (forms more : List Form) (left after : List ℕ) → LongestSequence text forms left
        → LongestSequence (text ++ piece) (forms ++ more) after
        → (rest : List Command) × IsWhole (text ++ piece) (commands ++ rest)
    items-more forms more left after seq then =
        let rest = commands-more 0 forms more in
        let same : commands_from 0 forms ≡ commands =
        ap (commands_from 0) (one_sequence text forms whole.forms left whole.rest seq whole.sequence).0
        ∙ sym whole.commands_are in (
          rest.0,
          record {
            forms = forms ++ more;
            rest = after;
            sequence = then;
            commands_are = ap (λ cs. cs ++ rest.0) (sym same) ∙ sym rest.1;
          },
        )

    by_more : (forms : List Form) (left : List ℕ) → LongestSequence text forms left → (r : Reading)
        → reading (text ++ piece) ≡ behind_forms forms r
        → (rest : List Command) × IsWhole (text ++ piece) (commands ++ rest)
    by_more forms left seq (Unfinished more after) e =
        let then = subst (IsReadingOf (text ++ piece)) e (reads (text ++ piece)) in
        items-more forms more left after seq then.0
    by_more forms left seq (Broken more place kind) e =
        let then = subst (IsReadingOf (text ++ piece)) e (reads (text ++ piece)) in
        items-more forms more left then.1.0 seq then.1.1

    by_reading : (r : Reading) → reading text ≡ r → IsReadingOf text r
        → (rest : List Command) × IsWhole (text ++ piece) (commands ++ rest)
    by_reading (Unfinished forms left) e is = by_more forms left is.0 (reading (left ++ piece))
        (goes_on text piece forms left e)
    by_reading (Broken forms place kind) e is = (
      [],
      subst (IsWhole (text ++ piece)) (sym (append-nil commands))
          (whole-bad one_sequence text piece place kind commands is.0 whole),
    )

pub bad-stays : OneSequence → ReadsText → GoesOnText → (text piece : List ℕ) (place : ℕ) (kind : LogKind)
    (bad : IsBadLog text place kind)
    → IsBadLog (text ++ piece) place kind × IsGroups (text ++ piece) (groups_of bad.items)
bad-stays one_sequence reads goes_on text piece place kind bad = by_rest bad.rest bad.splits bad.bad
  where
    by_rest : (rest : List Command) → Splits bad.commands bad.front rest bad.items bad.opened
        → IsBadAt text rest place kind
        → IsBadLog (text ++ piece) place kind × IsGroups (text ++ piece) (groups_of bad.items)
    by_rest [] splits at =
        let stays : IsBadLog (text ++ piece) place kind = record {
          commands = bad.commands;
          front = bad.front;
          rest = [];
          items = bad.items;
          opened = bad.opened;
          whole = whole-bad one_sequence text piece at.1.0 at.1.1 bad.commands at.1.2 bad.whole;
          splits = splits;
          bad = (at.0, (at.1.0, at.1.1, bad-more text piece at.1.0 at.1.1 at.1.2, at.1.3));
        } in
        (stays, groups-before (text ++ piece) place kind stays (groups_of bad.items) refl)
    by_rest (command ∷ rest) splits at =
        let more = whole-more one_sequence reads goes_on text piece bad.commands bad.whole in
        let stays : IsBadLog (text ++ piece) place kind = record {
          commands = bad.commands ++ more.0;
          front = bad.front;
          rest = command ∷ (rest ++ more.0);
          items = bad.items;
          opened = bad.opened;
          whole = more.1;
          splits = record {
            within = splits.within;
            commands_are = ap (λ cs. cs ++ more.0) splits.commands_are ∙ append_assoc bad.front (command ∷ rest) more.0;
            front_is = splits.front_is;
            stops = splits.stops;
          };
          bad = at;
        } in
        (stays, groups-before (text ++ piece) place kind stays (groups_of bad.items) refl)

-- the groups of a text with a bad place are those of the text with more behind it
pub bad-adds : OneSequence → ReadsText → GoesOnText → (text piece : List ℕ) → HasBadPlace text
    → AddsGroups text piece []
bad-adds one_sequence reads goes_on text piece (place, kind, bad) before is =
    let had = groups-before text place kind bad (groups_of bad.items) refl in
    subst (IsGroups (text ++ piece)) (one-groups one_sequence text (groups_of bad.items) before had is
    ∙ sym (append-nil before))
    (bad-stays one_sequence reads goes_on text piece place kind bad).1

pub bad-place-stays : OneSequence → ReadsText → GoesOnText → (text piece : List ℕ) → HasBadPlace text
    → HasBadPlace (text ++ piece)
bad-place-stays one_sequence reads goes_on text piece (place, kind, bad) =
    (place, kind, (bad-stays one_sequence reads goes_on text piece place kind bad).0)
