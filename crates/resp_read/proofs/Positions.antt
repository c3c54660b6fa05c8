-- Where a reader stands, byte by byte.
use Rattle.std.proofs.Common.{◌≡◌, ℕ, ◌+◌, ◌-◌, ◌<◌, true, false, ◌&&◌, cond, eqb, Option, Some, None, is_some, List}
use Rattle.std.proofs.Common.{[], ◌∷◌, ◌++◌, length, get_or, take, drop, refl, sym, ap, subst, ◌∙◌, arith}
use Rattle.std.proofs.Common.{append_assoc, append-nil, length-append}
use Rattle.std.proofs.lemmas.Bool.{cond-true}
use Rattle.std.proofs.lemmas.Grind.{common_steps}
use Rattle.std.proofs.lemmas.List.{take_more}
use Rattle.resp_read.specs.declared.command.Command.{Command}
use Rattle.resp_read.specs.declared.cursor.BadByte.{BadByte}
use Rattle.resp_read.specs.declared.cursor.Cursor.{Cursor}
use Rattle.resp_read.specs.declared.phase.Line.TheVariants.{ForCount, ForNegative, ForWord}
use Rattle.resp_read.specs.declared.phase.Phase.{Phase}
use Rattle.resp_read.specs.declared.phase.Phase.TheVariants.{AtStar, InLine, LineEnd, AtDollar, InWord, WordCr}
use Rattle.resp_read.specs.declared.phase.Phase.TheVariants.{WordLf, Dead}
use Rattle.resp_read.specs.declared.parser.Parser.{Parser}
use Rattle.resp_read.specs.Frames.{form_text, sequence_text, Form, Given, EmptyArray, NegativeArray, frame}
use Rattle.resp_read.specs.Frames.{within_u64, commands_from}
use Rattle.resp_read.specs.Automaton.{fresh, next, next_in, with_word, out, out_in, with_form, words_of, kept}
use Rattle.resp_read.specs.Automaton.{is_dead, kind_in}
use Rattle.resp_read.specs.Reading.{Broken, read_from, reading}
use Rattle.resp_read.specs.Places.{start_after, waiting_after, moved, given_at, bad_byte, StandsBehind, BreaksAt}
use Rattle.resp_read.proofs.Cases.{either_way}
use Rattle.resp_read.proofs.ReachedStates.{Reads-step}

pub commands_from-append : (at : ℕ) (xs ys : List Form)
    → commands_from at (xs ++ ys) ≡ commands_from at xs ++ commands_from (at + length (sequence_text xs)) ys
commands_from-append at [] ys = ap (λ n. commands_from n ys) (omega arith)
commands_from-append at (Given words ∷ xs) ys =
    let long : at + length (frame words) + length (sequence_text xs) ≡ at + length (frame words ++ sequence_text xs) =
    omega (arith, length-append (frame words) (sequence_text xs)) in
    ap (λ t. record { words = words; place = within_u64 at } ∷ t)
    (commands_from-append (at + length (frame words)) xs ys
    ∙ ap (λ n. commands_from (at + length (frame words)) xs ++ commands_from n ys) long)
commands_from-append at (EmptyArray ∷ xs) ys =
    let text = form_text EmptyArray in
    let long : at + length text + length (sequence_text xs) ≡ at + length (text ++ sequence_text xs) =
    omega (arith, length-append text (sequence_text xs)) in
    commands_from-append (at + length text) xs ys
    ∙ ap (λ n. commands_from (at + length text) xs ++ commands_from n ys) long
commands_from-append at (NegativeArray n ∷ xs) ys =
    let text = form_text (NegativeArray n) in
    let long : at + length text + length (sequence_text xs) ≡ at + length (text ++ sequence_text xs) =
    omega (arith, length-append text (sequence_text xs)) in
    commands_from-append (at + length text) xs ys
    ∙ ap (λ m. commands_from (at + length text) xs ++ commands_from m ys) long

commands-with : (begun start : ℕ) (forms : List Form) (form : Option Form) (commands : List Command)
    → start ≡ within_u64 (begun + length (sequence_text forms)) → commands ≡ commands_from begun forms
    → commands ++ given_at start (words_of form) ≡ commands_from begun (with_form forms form)
commands-with begun start forms None commands start_is are = append-nil commands ∙ are
commands-with begun start forms (Some (Given words)) commands start_is are =
    ap (λ c. c ++ given_at start (Some words)) are
    ∙ ap (λ n. commands_from begun forms ++ record { words = words; place = n } ∷ []) start_is
    ∙ sym (commands_from-append begun forms (Given words ∷ []))
commands-with begun start forms (Some EmptyArray) commands start_is are =
    ap (λ c. c ++ []) are ∙ sym (commands_from-append begun forms (EmptyArray ∷ []))
commands-with begun start forms (Some (NegativeArray n)) commands start_is are =
    ap (λ c. c ++ []) are ∙ sym (commands_from-append begun forms (NegativeArray n ∷ []))

-- where a form ends, nothing of the next one is kept
out-whole : (phase : Phase) (s : Parser) (b : ℕ) → is_some (out_in phase s b) ≡ true → kept (next_in phase s b) ≡ []
out-whole (LineEnd ForCount n) s b = either_way
    (λ t. is_some (cond (t && eqb n 0) (Some EmptyArray) None) ≡ true
    → kept (record s { phase = cond t (cond (eqb n 0) AtStar (AtDollar (n - 1))) Dead }) ≡ [])
    (eqb b 10)
    (either_way
    (λ t. is_some (cond t (Some EmptyArray) None) ≡ true
    → kept (record s { phase = cond t AtStar (AtDollar (n - 1)) }) ≡ [])
    (eqb n 0)
    (λ e. refl)
    (λ e. absurd (cc)))
    (λ e. absurd (cc))
out-whole (LineEnd ForNegative n) s b = either_way
    (λ t. is_some (cond t (Some (NegativeArray n)) None) ≡ true → kept (record s { phase = cond t AtStar Dead }) ≡ [])
    (eqb b 10)
    (λ e. refl)
    (λ e. absurd (cc))
out-whole (WordLf behind) s b = either_way
    (λ t. is_some (cond (t && eqb behind 0) (Some (Given (s.words ++ s.word ∷ []))) None) ≡ true
    → kept (cond t (with_word behind s) (record s { phase = Dead })) ≡ [])
    (eqb b 10)
    (either_way
    (λ t. is_some (cond t (Some (Given (s.words ++ s.word ∷ []))) None) ≡ true
    → kept (cond t fresh (record {
      phase = AtDollar (behind - 1);
      words = s.words ++ s.word ∷ [];
      word = [];
      room = s.room - length s.word;
    })) ≡ [])
    (eqb behind 0)
    (λ e. refl)
    (λ e. absurd (cc)))
    (λ e. absurd (cc))
out-whole (LineEnd (ForWord behind) n) s b = λ e. absurd (cc)
out-whole AtStar s b = λ e. absurd (cc)
out-whole (InLine line number) s b = λ e. absurd (cc)
out-whole (AtDollar behind) s b = λ e. absurd (cc)
out-whole (InWord behind more) s b = λ e. absurd (cc)
out-whole (WordCr behind) s b = λ e. absurd (cc)
out-whole Dead s b = λ e. absurd (cc)

-- the places behind a byte, by how long the forms and the unfinished one are
record Counted (begun start waiting forms kept_is : ℕ) : Type 0 where
  starts : start ≡ within_u64 (begun + forms)
  waits : waiting ≡ within_u64 kept_is

counts : (begun start waiting : ℕ) (forms : List Form) (form : Option Form) (before after : List ℕ)
    → Counted begun start waiting (length (sequence_text forms)) (length before)
    → length (sequence_text forms) + (length before + 1) ≡ length (sequence_text (with_form forms form)) + length after
    → (is_some form ≡ true → after ≡ [])
    → Counted begun (start_after (is_some form) start waiting) (waiting_after (is_some form) waiting)
    (length (sequence_text (with_form forms form))) (length after)
counts begun start waiting forms None before after counted long whole = record {
  starts = counted.starts;
  waits = omega (arith, counted.waits, long);
}
counts begun start waiting forms (Some form) before after counted long whole =
    let none : length after ≡ 0 = ap length (whole refl) in
    record {
      starts = omega (arith, counted.starts, counted.waits, long, none);
      waits = omega (arith, none);
    }

pub StandsBehind-step : (text : List ℕ) (begun : ℕ) (c : Cursor) (commands : List Command) (forms : List Form) (b : ℕ)
    → StandsBehind text begun c commands forms
    → is_dead (next c.parser b).phase ≡ false
    → StandsBehind (text ++ b ∷ []) begun (moved c b) (commands ++ given_at c.start (words_of (out c.parser b)))
    (with_form forms (out c.parser b))
StandsBehind-step text begun c commands forms b stands live =
    let reads = Reads-step text c.parser forms b stands.reads live in
    let long : length (sequence_text forms) + (length (kept c.parser) + 1)
    ≡ length (sequence_text (with_form forms (out c.parser b))) + length (kept (next c.parser b)) =
    omega (
      arith,
      ap length stands.reads.text_is,
      ap length reads.text_is,
      length-append (sequence_text forms) (kept c.parser),
      length-append text (b ∷ []),
      length-append (sequence_text (with_form forms (out c.parser b))) (kept (next c.parser b)),
    ) in
    let counted = counts begun c.start c.waiting forms (out c.parser b) (kept c.parser) (kept (next c.parser b))
    (record { starts = stands.start_is; waits = stands.waiting_is }) long
    (out-whole c.parser.phase c.parser b) in
    record {
      reads = reads;
      start_is = counted.starts;
      waiting_is = counted.waits;
      commands_are = commands-with begun c.start forms (out c.parser b) commands stands.start_is stands.commands_are;
    }

pub StandsBehind-breaks : (text : List ℕ) (begun : ℕ) (c : Cursor) (commands : List Command) (forms : List Form) (b : ℕ)
    (behind : List ℕ) → StandsBehind text begun c commands forms
    → is_dead (next c.parser b).phase ≡ true → BreaksAt (text ++ b ∷ behind) begun (bad_byte c) commands
unfolding reading
StandsBehind-breaks text begun c commands forms b behind stands gone = record {
  forms = forms;
  place = length (sequence_text forms) + length (kept c.parser);
  reading_is = stands.reads.run (b ∷ behind)
      ∙ cond-true (is_dead (next c.parser b).phase) (Broken forms
      (length (sequence_text forms) + length (kept c.parser)) (kind_in c.parser.phase))
      (read_from (next c.parser b) (with_form forms (out c.parser b)) behind) gone;
  place_is = omega (arith, stands.start_is, stands.waiting_is);
  commands_are = stands.commands_are;
}

text-step : (front piece : List ℕ) (i : ℕ) → i < length piece
    → (front ++ take i piece) ++ get_or piece i 0 ∷ [] ≡ front ++ take (i + 1) piece
text-step front piece i within =
    append_assoc front (take i piece) (get_or piece i 0 ∷ []) ∙ ap (λ t. front ++ t) (sym (take_more piece i 0 within))

text-rest : (front piece : List ℕ) (i : ℕ) → i < length piece
    → (front ++ take i piece) ++ get_or piece i 0 ∷ drop (i + 1) piece ≡ front ++ piece
text-rest front piece i within =
    append_assoc front (take i piece) (get_or piece i 0 ∷ drop (i + 1) piece)
    ∙ ap (λ t. front ++ t) (whole piece i within)
  where
    whole : (xs : List ℕ) (n : ℕ) → n < length xs → take n xs ++ get_or xs n 0 ∷ drop (n + 1) xs ≡ xs
    whole xs n in_xs = grind (arith, common_steps)

-- a step over a piece
pub StandsBehind-more : (front : List ℕ) (begun : ℕ) (piece : List ℕ) (i : ℕ) (c after : Cursor)
    (commands added : List Command) (forms : List Form) → i < length piece
    → StandsBehind (front ++ take i piece) begun c commands forms
    → (is_dead (next c.parser (get_or piece i 0)).phase ≡ false) × (after ≡ moved c (get_or piece i 0))
    × (added ≡ commands ++ given_at c.start (words_of (out c.parser (get_or piece i 0))))
    → (all : List Form) × StandsBehind (front ++ take (i + 1) piece) begun after added all
StandsBehind-more front begun piece i c after commands added forms within stands facts =
    let b = get_or piece i 0 in
    let more = StandsBehind-step (front ++ take i piece) begun c commands forms b stands facts.0 in
    let here = subst (λ t. StandsBehind t begun (moved c b) (commands ++ given_at c.start (words_of (out c.parser b)))
    (with_form forms (out c.parser b))) (text-step front piece i within) more in
    let moved_here = subst (λ (a : Cursor). StandsBehind (front ++ take (i + 1) piece) begun a
    (commands ++ given_at c.start (words_of (out c.parser b))) (with_form forms (out c.parser b))) (sym facts.1)
    here in (
      with_form forms (out c.parser b),
      subst (λ (cs : List Command). StandsBehind (front ++ take (i + 1) piece) begun
          after cs (with_form forms (out c.parser b))) (sym facts.2) moved_here,
    )

pub StandsBehind-stop : (front : List ℕ) (begun : ℕ) (piece : List ℕ) (i : ℕ) (c : Cursor) (bad : BadByte)
    (commands added : List Command) (forms : List Form) → i < length piece
    → StandsBehind (front ++ take i piece) begun c commands forms
    → (is_dead (next c.parser (get_or piece i 0)).phase ≡ true) × (bad ≡ bad_byte c) × (added ≡ commands)
    → BreaksAt (front ++ piece) begun bad added
StandsBehind-stop front begun piece i c bad commands added forms within stands facts =
    let breaks = StandsBehind-breaks (front ++ take i piece) begun c commands forms (get_or piece i 0)
    (drop (i + 1) piece) stands facts.0 in
    let here = subst (λ t. BreaksAt t begun (bad_byte c) commands) (text-rest front piece i within) breaks in
    let bad_here = subst (λ (x : BadByte). BreaksAt (front ++ piece) begun x commands) (sym facts.1) here in
    subst (λ (cs : List Command). BreaksAt (front ++ piece) begun bad cs) (sym facts.2) bad_here
