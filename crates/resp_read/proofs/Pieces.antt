-- What a reader answers to a piece, and what it stands for then.
use Rattle.std.proofs.Common.{◌≡◌, ℕ, ◌+◌, ◌<◌, ◌≤◌, ◌⊎◌, inl, inr, Ok, Err, List, [], ◌++◌, length, map, take, refl}
use Rattle.std.proofs.Common.{sym, ap, subst, ◌∙◌, arith, append_assoc, append-nil, length-append}
use Rattle.std.proofs.lemmas.Grind.{flat_map-append}
use Rattle.std.specs.List.{AllByRecursion}
use Rattle.std.proofs.Math.Seq.{take-length, take-append_seam}
use Rattle.std.proofs.lemmas.Bool.{cases_lt}
use Rattle.std.proofs.lemmas.List.{take-append-le}
use Rattle.resp_read.specs.declared.command.Command.{Command}
use Rattle.resp_read.specs.declared.cursor.BadByte.{BadByte}
use Rattle.resp_read.specs.declared.cursor.Cursor.{Cursor}
use Rattle.resp_read.specs.declared.reader.Fate.{Fate}
use Rattle.resp_read.specs.declared.reader.Fate.TheVariants as fate_is
use Rattle.resp_read.specs.declared.stops.BadFrame.{BadFrame}
use Rattle.resp_read.specs.declared.stops.FeedStop.TheVariants.{Bad}
use Rattle.resp_read.specs.Frames.{form_text, sequence_text, Form, IsForm, within_u64, commands_from, Begins}
use Rattle.resp_read.specs.Frames.{LongestSequence, IsBadPlace, IsBad}
use Rattle.resp_read.specs.Automaton.{kept}
use Rattle.resp_read.specs.Reading.{Reading, Unfinished, Broken, reading, behind_forms, ReaderState, Waiting, Stopped}
use Rattle.resp_read.specs.Reading.{Spent, answer_at, after_at, answer, after, Took, Refused, HasRead, Adds, Goes}
use Rattle.resp_read.specs.Reading.{Breaks}
use Rattle.resp_read.specs.Places.{seen, StandsBehind, BreaksAt}
use Rattle.resp_read.proofs.ReachedStates.{Reads-begins}
use Rattle.resp_read.proofs.Meaning.{Means, reading-means, Reads-longest, Breaks-sequence}
use Rattle.resp_read.proofs.BadBytes.{Breaks-bad}
use Rattle.resp_read.proofs.GrammarLaws.{words-given}
use Rattle.resp_read.proofs.OneKind.{take-front}
use Rattle.resp_read.proofs.Continuations.{stands-read, reading-continues, adds}

-- the whole piece was taken
pub fed-whole : (old : ReaderState) (start : ℕ) (rest piece : List ℕ) (c : Cursor) (commands : List Command)
    (forms : List Form) → old ≡ Waiting start rest
    → StandsBehind (rest ++ piece) start c commands forms
    → (answer old piece ≡ Ok commands) × (Waiting c.start (kept c.parser) ≡ after old piece)
unfolding reading
fed-whole old start rest piece c commands forms old_is stands =
    let whole : reading (rest ++ piece) ≡ Unfinished forms (kept c.parser) =
    ap reading (sym (append-nil (rest ++ piece))) ∙ stands.reads.run [] in (
      ap (λ (s : ReaderState). answer s piece) old_is ∙ ap (answer_at start) whole ∙ ap Ok (sym stands.commands_are),
      ap (λ n. Waiting n (kept c.parser)) stands.start_is ∙ sym (ap (after_at start) whole)
          ∙ sym (ap (λ (s : ReaderState). after s piece) old_is),
    )

-- a byte of it was bad
pub fed-bad : (old : ReaderState) (start : ℕ) (rest piece : List ℕ) (bad : BadByte) (commands : List Command)
    → old ≡ Waiting start rest
    → BreaksAt (rest ++ piece) start bad commands → answer old piece ≡ Err (Bad commands bad.place bad.kind)
fed-bad old start rest piece bad commands old_is breaks =
    ap (λ (s : ReaderState). answer s piece) old_is ∙ ap (answer_at start) breaks.reading_is
    ∙ ap (λ cs. Err (Bad cs (within_u64 (start + breaks.place)) bad.kind)) (sym breaks.commands_are)
    ∙ ap (λ n. Err (Bad commands n bad.kind)) (sym breaks.place_is)

goes-on : (text piece rest : List ℕ) (start : ℕ) (commands : List Command) → HasRead (Waiting start rest) text
    → answer (Waiting start rest) piece ≡ Ok commands
    → Goes text piece commands (after (Waiting start rest) piece)
goes-on text piece rest start commands stands answered = by_reading (reading (rest ++ piece)) refl answered
  where
    by_reading : (r : Reading) → reading (rest ++ piece) ≡ r → answer_at start r ≡ Ok commands
        → Goes text piece commands (after_at start r)
    by_reading (Broken more place kind) is e = absurd (cc)
    by_reading (Unfinished more left) is e =
        let forms = stands.0 in
        let at = stands-read text forms rest stands.1 stands.2 in
        let whole : reading (text ++ piece) ≡ Unfinished (forms ++ more) left =
        reading-continues text at.state forms piece at.reads
        ∙ ap (λ t. behind_forms forms (reading (t ++ piece))) (sym at.rest_is) ∙ ap (behind_forms forms) is in
        let means = subst (Means (text ++ piece)) whole (reading-means (text ++ piece)) in
        let sequence = subst (LongestSequence (text ++ piece) (forms ++ more)) (sym means.2)
        (Reads-longest (text ++ piece) means.0 (forms ++ more) means.1) in
        let begins = Reads-begins (text ++ piece) means.0 (forms ++ more) means.1 in
        let same : commands_from start more ≡ commands = cc in
        record {
          stands = (
            forms ++ more,
            sequence,
            begins,
            omega (
              arith,
              stands.3,
              ap length (flat_map-append form_text forms more),
              length-append (sequence_text forms) (sequence_text more),
            ),
          );
          begins = begins;
          adds = subst (Adds text piece) same (adds text piece forms more rest left start stands.1 sequence stands.3);
        }

pub goes : (old new : ReaderState) (text piece : List ℕ) (commands : List Command) → HasRead old text
    → answer old piece ≡ Ok commands → new ≡ after old piece → Goes text piece commands new
goes (Waiting start rest) new text piece commands stands answered new_is =
    subst (Goes text piece commands) (sym new_is) (goes-on text piece rest start commands stands answered)
goes Stopped new text piece commands stands answered new_is = absurd (cc)
goes Spent new text piece commands stands answered new_is = absurd stands

breaks-off : (text piece rest : List ℕ) (start : ℕ) (before : List Command) (place : ℕ) (kind : BadFrame)
    → HasRead (Waiting start rest) text
    → answer (Waiting start rest) piece ≡ Err (Bad before place kind) → Breaks text piece before place kind Stopped
breaks-off text piece rest start before place kind stands answered = by_reading (reading (rest ++ piece)) refl answered
  where
    by_reading : (r : Reading) → reading (rest ++ piece) ≡ r → answer_at start r ≡ Err (Bad before place kind)
        → Breaks text piece before place kind Stopped
    by_reading (Unfinished more left) is e = absurd (cc)
    by_reading (Broken more at_place what) is e =
        let forms = stands.0 in
        let at = stands-read text forms rest stands.1 stands.2 in
        let whole : reading (text ++ piece) ≡ Broken (forms ++ more) (length (sequence_text forms) + at_place) what =
        reading-continues text at.state forms piece at.reads
        ∙ ap (λ t. behind_forms forms (reading (t ++ piece))) (sym at.rest_is) ∙ ap (behind_forms forms) is in
        let means = subst (Means (text ++ piece)) whole (reading-means (text ++ piece)) in
        let bad = Breaks-bad (text ++ piece) (forms ++ more) (length (sequence_text forms) + at_place) what means in
        let sequence =
        Breaks-sequence (text ++ piece) (forms ++ more) (length (sequence_text forms) + at_place) what means in
        let commands_same : commands_from start more ≡ before = cc in
        let place_same : within_u64 (start + at_place) ≡ place = cc in
        let kind_same : what ≡ kind = cc in
        record {
          stands = (length (sequence_text forms) + at_place, bad.at);
          adds = subst (Adds text piece) commands_same
              (adds text piece forms more rest sequence.0 start stands.1 sequence.1 stands.3);
          at = length (sequence_text forms) + at_place;
          is_bad = subst (IsBad (text ++ piece) (length (sequence_text forms) + at_place)) kind_same bad;
          place_is = omega (arith, place_same, stands.3);
        }

pub breaks : (old : ReaderState) (text piece : List ℕ) (before : List Command) (place : ℕ) (kind : BadFrame)
    → HasRead old text → answer old piece ≡ Err (Bad before place kind)
    → Breaks text piece before place kind Stopped
breaks (Waiting start rest) text piece before place kind stands answered =
    breaks-off text piece rest start before place kind stands answered
breaks Stopped text piece before place kind stands answered = absurd (cc)
breaks Spent text piece before place kind stands answered = absurd stands

-- a bad place stays, whatever comes behind
pub stays-stopped : (text piece : List ℕ) → HasRead Stopped text → HasRead Stopped (text ++ piece)
stays-stopped text piece (place, bad) =
    let within = bad.within in (
      place,
      record {
        within = omega (arith, length-append text piece);
        good = subst Begins (sym (take-append-le place text piece (omega arith))) bad.good;
        bad = λ begins. bad.bad (subst Begins (take-append-le (place + 1) text piece (omega arith)) begins);
      },
    )

pub opened : (fate : Fate) (had cursor : Cursor) (old : ReaderState) → seen fate had ≡ old → fate ≡ fate_is.Open
    → cursor ≡ had → old ≡ Waiting cursor.start (kept cursor.parser)
opened fate had cursor old is reads cursor_is =
    sym is ∙ ap (λ (f : Fate). seen f had) reads ∙ ap (λ (c : Cursor). Waiting c.start (kept c.parser)) (sym cursor_is)

-- and so does the longest sequence, so that no command is added
sequence-stays : (text piece : List ℕ) (place : ℕ) (forms : List Form) (rest : List ℕ) → IsBadPlace text place
    → LongestSequence text forms rest → LongestSequence (text ++ piece) forms (rest ++ piece)
sequence-stays text piece place forms rest bad sequence = record {
  each = sequence.each;
  text_is = ap (λ t. t ++ piece) sequence.text_is ∙ append_assoc (sequence_text forms) rest piece;
  longest = λ others left each e. by_length others left each e (cases_lt place (length (sequence_text others)));
}
  where
    by_length : (others : List Form) (left : List ℕ) → AllByRecursion IsForm others
        → text ++ piece ≡ sequence_text others ++ left
        → (place < length (sequence_text others)) ⊎ (length (sequence_text others) ≤ place)
        → length (rest ++ piece) ≤ length left
    by_length others left each e (inl beyond) =
        let within = bad.within in
        let front : take (place + 1) text ≡ take (place + 1) (sequence_text others) =
        sym (take-append-le (place + 1) text piece (omega arith)) ∙ ap (take (place + 1)) e
        ∙ take-append-le (place + 1) (sequence_text others) left (omega arith) in
        let cut = take-front (place + 1) (length (sequence_text others)) (sequence_text others) (omega arith) in
        let whole : sequence_text others ≡ take (place + 1) (sequence_text others) ++ cut.0 =
        sym (take-length (sequence_text others)) ∙ cut.1 in
        absurd (bad.bad (subst Begins (sym front) (cut.0, others, record { each = each; text_is = sym whole })))
    by_length others left each e (inr before) =
        let within = bad.within in
        let front : take (length (sequence_text others)) text ≡ sequence_text others =
        sym (take-append-le (length (sequence_text others)) text piece (omega arith))
        ∙ ap (take (length (sequence_text others))) e ∙ take-append_seam (sequence_text others) left in
        let cut = take-front (length (sequence_text others)) (length text) text (omega arith) in
        let whole : text ≡ sequence_text others ++ cut.0 =
        sym (take-length text) ∙ cut.1 ∙ ap (λ t. t ++ cut.0) front in
        let bound = sequence.longest others cut.0 each whole in
        omega (
          arith,
          bound,
          ap length e,
          ap length whole,
          length-append text piece,
          length-append (sequence_text others) left,
          length-append (sequence_text others) cut.0,
          length-append rest piece,
        )

adds-none : (text piece : List ℕ) (place : ℕ) → IsBadPlace text place → Adds text piece []
adds-none text piece place bad before whole = record {
  forms = whole.forms;
  rest = whole.rest ++ piece;
  sequence = sequence-stays text piece place whole.forms whole.rest bad whole.sequence;
  commands_are = append-nil before ∙ whole.commands_are;
}

pub failed : (fate : Fate) (had : Cursor) (old : ReaderState) → seen fate had ≡ old → fate ≡ fate_is.Failed
    → (text piece : List ℕ) → HasRead old text
    → HasRead old (text ++ piece) × Adds text piece [] × ((place : ℕ) × IsBadPlace text place)
failed fate had old is stopped text piece stands =
    let old_is : old ≡ Stopped = sym is ∙ ap (λ (f : Fate). seen f had) stopped in
    let at_stop = subst (λ (s : ReaderState). HasRead s text) old_is stands in (
      subst (λ (s : ReaderState). HasRead s (text ++ piece)) (sym old_is) (stays-stopped text piece at_stop),
      adds-none text piece at_stop.0 at_stop.1,
      at_stop,
    )

pub took : (old new : ReaderState) (start : ℕ) (rest piece : List ℕ) (commands : List Command)
    → old ≡ Waiting start rest → answer old piece ≡ Ok commands → new ≡ after old piece
    → Took rest piece commands new
took old new start rest piece commands old_is answered new_is =
    by_reading (reading (rest ++ piece)) refl (sym (ap (λ (s : ReaderState). answer s piece) old_is) ∙ answered) (new_is
    ∙ ap (λ (s : ReaderState). after s piece) old_is)
  where
    by_reading : (r : Reading) → reading (rest ++ piece) ≡ r → answer_at start r ≡ Ok commands → new ≡ after_at start r
        → Took rest piece commands new
    by_reading (Broken forms place kind) is e new_at = absurd (cc)
    by_reading (Unfinished forms left) is e new_at =
        let same : commands_from start forms ≡ commands = cc in
        record {
          forms = forms;
          left = left;
          at = within_u64 (start + length (sequence_text forms));
          reading_is = is;
          words_are = ap (map (λ (c : Command). c.words)) (sym same) ∙ words-given start forms;
          new_is = new_at;
        }

pub refused : (old : ReaderState) (start : ℕ) (rest piece : List ℕ) (before : List Command) (place : ℕ)
    (kind : BadFrame) → old ≡ Waiting start rest
    → answer old piece ≡ Err (Bad before place kind) → Refused rest piece before kind
refused old start rest piece before place kind old_is answered =
    by_reading (reading (rest ++ piece)) refl (sym (ap (λ (s : ReaderState). answer s piece) old_is) ∙ answered)
  where
    by_reading : (r : Reading) → reading (rest ++ piece) ≡ r → answer_at start r ≡ Err (Bad before place kind)
        → Refused rest piece before kind
    by_reading (Unfinished forms left) is e = absurd (cc)
    by_reading (Broken forms at what) is e =
        let same : commands_from start forms ≡ before = cc in
        let kinds : what ≡ kind = cc in
        record {
          forms = forms;
          place = at;
          reading_is = is ∙ ap (Broken forms at) kinds;
          words_are = ap (map (λ (c : Command). c.words)) (sym same) ∙ words-given start forms;
        }
