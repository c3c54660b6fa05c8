-- A text read on from the unfinished form that was kept of it.
use Rattle.std.proofs.Common.{◌≡◌, ℕ, ◌+◌, cond, Option, Some, None, List, [], ◌∷◌, ◌++◌, length, take, drop, refl}
use Rattle.std.proofs.Common.{sym, ap, subst, ◌∙◌, arith, append_assoc, append-nil, length-append}
use Rattle.std.specs.List.{AllByRecursion}
use Rattle.std.proofs.Math.Seq.{take-append_seam, drop-append_seam}
use Rattle.std.proofs.lemmas.Grind.{flat_map-append}
use Rattle.std.proofs.lemmas.List.{append_cancel_left}
use Rattle.resp_read.specs.declared.command.Command.{Command}
use Rattle.resp_read.specs.declared.cursor.Cursor.{Cursor}
use Rattle.resp_read.specs.declared.parser.Parser.{Parser}
use Rattle.resp_read.specs.Frames.{form_text, sequence_text, Form, Given, EmptyArray, NegativeArray, frame, IsForm}
use Rattle.resp_read.specs.Frames.{within_u64, commands_from, Begins, LongestSequence}
use Rattle.resp_read.specs.Automaton.{fresh, next, out, with_form, kept, is_dead, kind_in}
use Rattle.resp_read.specs.Reading.{Reading, Unfinished, Broken, read_from, reading, behind_forms, Reads, Adds}
use Rattle.resp_read.specs.Places.{IsReady, StandsBehind}
use Rattle.resp_read.proofs.Cases.{either_way}
use Rattle.resp_read.proofs.Sequences.{read-sequence}
use Rattle.resp_read.proofs.Meaning.{Means, reading-means, Reads-longest, dead-ends}
use Rattle.resp_read.proofs.Positions.{commands_from-append}

with-append : (before forms : List Form) (form : Option Form)
    → with_form (before ++ forms) form ≡ before ++ with_form forms form
with-append before forms None = refl
with-append before forms (Some form) = append_assoc before forms (form ∷ [])

place-append : (before forms : List Form) (n : ℕ)
    → length (sequence_text (before ++ forms)) + n ≡ length (sequence_text before) + (length (sequence_text forms) + n)
place-append before forms n = omega (
  arith,
  ap length (flat_map-append form_text before forms),
  length-append (sequence_text before) (sequence_text forms),
)

read-shifted : (s : Parser) (before forms : List Form) (text : List ℕ)
    → read_from s (before ++ forms) text ≡ behind_forms before (read_from s forms text)
read-shifted s before forms [] = refl
read-shifted s before forms (b ∷ text) = either_way
    (λ t. cond t (Broken (before ++ forms) (length (sequence_text (before ++ forms)) + length (kept s))
    (kind_in s.phase)) (read_from (next s b) (with_form (before ++ forms) (out s b)) text)
    ≡ behind_forms before (cond t (Broken forms (length (sequence_text forms) + length (kept s)) (kind_in s.phase))
    (read_from (next s b) (with_form forms (out s b)) text)))
    (is_dead (next s b).phase)
    (ap (λ n. Broken (before ++ forms) n (kind_in s.phase)) (place-append before forms (length (kept s))))
    (ap (λ f. read_from (next s b) f text) (with-append before forms (out s b))
    ∙ read-shifted (next s b) before (with_form forms (out s b)) text)

unshifted : (before : List Form) (a b : Reading) → behind_forms before a ≡ behind_forms before b → a ≡ b
unshifted before (Unfinished forms left) (Unfinished others more) e =
    let tails : before ++ forms ≡ before ++ others = cc in let same = append_cancel_left before forms others tails in cc
unshifted before (Unfinished forms left) (Broken others place kind) e = absurd (cc)
unshifted before (Broken forms place kind) (Unfinished others more) e = absurd (cc)
unshifted before (Broken forms place kind) (Broken others at what) e =
    let tails : before ++ forms ≡ before ++ others = cc in
    let same = append_cancel_left before forms others tails in
    let sums : length (sequence_text before) + place ≡ length (sequence_text before) + at = cc in
    let places : place ≡ at = omega arith in
    cc

-- what is kept of a text reads to the same state, behind no forms
pub Reads-alone : (text : List ℕ) (s : Parser) (forms : List Form) → Reads text s forms → Reads (kept s) s []
Reads-alone text s forms reads = record { each = tt; fits = reads.fits; text_is = refl; run = runs }
  where
    runs : (rest : List ℕ) → read_from fresh [] (kept s ++ rest) ≡ read_from s [] rest
    runs rest = unshifted forms (read_from fresh [] (kept s ++ rest)) (read_from s [] rest)
        (sym (read-shifted fresh forms [] (kept s ++ rest))
        ∙ ap (λ f. read_from fresh f (kept s ++ rest)) (append-nil forms)
        ∙ sym (read-sequence forms [] (kept s ++ rest) reads.each)
        ∙ ap (read_from fresh []) (sym (append_assoc (sequence_text forms) (kept s) rest)
        ∙ ap (λ t. t ++ rest) (sym reads.text_is))
        ∙ reads.run rest
        ∙ ap (λ f. read_from s f rest) (sym (append-nil forms))
        ∙ read-shifted s forms [] rest)

pub StandsBehind-ready : (text : List ℕ) (begun : ℕ) (c : Cursor) (commands : List Command) (forms : List Form)
    → StandsBehind text begun c commands forms → IsReady c
StandsBehind-ready text begun c commands forms stands =
    record { reads = Reads-alone text c.parser forms stands.reads; waiting_is = stands.waiting_is }

-- a text goes on as what is kept of it does
pub reading-continues : (text : List ℕ) (s : Parser) (forms : List Form) (piece : List ℕ) → Reads text s forms
    → reading (text ++ piece) ≡ behind_forms forms (reading (kept s ++ piece))
unfolding reading
reading-continues text s forms piece reads =
    reads.run piece
    ∙ ap (λ f. read_from s f piece) (sym (append-nil forms))
    ∙ read-shifted s forms [] piece
    ∙ ap (behind_forms forms) (sym ((Reads-alone text s forms reads).run piece))

-- a text has one longest sequence
same-front : (xs ys vs ws : List ℕ) → xs ++ ys ≡ vs ++ ws → length ys ≡ length ws → (xs ≡ vs) × (ys ≡ ws)
same-front xs ys vs ws e long =
    let same : length xs ≡ length vs = omega (arith, ap length e, length-append xs ys, length-append vs ws) in (
      sym (take-append_seam xs ys) ∙ ap (λ n. take n (xs ++ ys)) same ∙ ap (take (length vs)) e
          ∙ take-append_seam vs ws,
      sym (drop-append_seam xs ys) ∙ ap (λ n. drop n (xs ++ ys)) same ∙ ap (drop (length vs)) e
          ∙ drop-append_seam vs ws,
    )

sequence-reads : (forms : List Form) → AllByRecursion IsForm forms
    → read_from fresh [] (sequence_text forms) ≡ Unfinished forms []
sequence-reads forms each =
    ap (read_from fresh []) (sym (append-nil (sequence_text forms))) ∙ read-sequence forms [] [] each

pub one-sequence : (text : List ℕ) (forms others : List Form) (rest left : List ℕ) → LongestSequence text forms rest
    → LongestSequence text others left → (forms ≡ others) × (rest ≡ left)
one-sequence text forms others rest left a b =
    let less = a.longest others left b.each b.text_is in
    let more = b.longest forms rest a.each a.text_is in
    let same = same-front (sequence_text forms) rest (sequence_text others) left (sym a.text_is ∙ b.text_is)
    (omega (arith, less, more)) in
    let sequences : Unfinished forms [] ≡ Unfinished others [] =
    sym (sequence-reads forms a.each) ∙ ap (read_from fresh []) same.0 ∙ sequence-reads others b.each in
    let forms_same : forms ≡ others = cc in
    (forms_same, same.1)

-- the front of a text that goes on to a sequence does
pub Begins-front : (text more : List ℕ) → Begins (text ++ more) → Begins text
Begins-front text more begins = (
  more ++ begins.0,
  begins.1,
  record { each = begins.2.each; text_is = sym (append_assoc text more begins.0) ∙ begins.2.text_is },
)

-- what stands for a text is what it is read to
pub record ReadAt (text : List ℕ) (forms : List Form) (rest : List ℕ) : Type 0 where
  pub state : Parser
  pub reads : Reads text state forms
  pub rest_is : rest ≡ kept state

pub stands-read : (text : List ℕ) (forms : List Form) (rest : List ℕ) → LongestSequence text forms rest → Begins text
    → ReadAt text forms rest
stands-read text forms rest sequence begins = by_reading (reading text) (reading-means text)
  where
    by_reading : (r : Reading) → Means text r → ReadAt text forms rest
    by_reading (Unfinished others left) means =
        let same =
        one-sequence text forms others rest (kept means.0) sequence (Reads-longest text means.0 others means.1) in
        record { state = means.0; reads = subst (Reads text means.0) (sym same.0) means.1; rest_is = same.1 }
    by_reading (Broken others place kind) means =
        let all : text ≡ (means.good ++ means.byte ∷ []) ++ means.behind =
        means.text_is ∙ sym (append_assoc means.good (means.byte ∷ []) means.behind) in
        absurd (dead-ends means.good means.state others means.byte means.reads means.dead
        (Begins-front (means.good ++ means.byte ∷ []) means.behind (subst Begins all begins)))

within-sum : (a b n : ℕ) → a ≡ within_u64 b → within_u64 (a + n) ≡ within_u64 (b + n)
within-sum a b n e = omega arith

commands_from-within : (a b : ℕ) (forms : List Form) → within_u64 a ≡ within_u64 b
    → commands_from a forms ≡ commands_from b forms
commands_from-within a b [] e = refl
commands_from-within a b (Given words ∷ forms) e =
    let later = commands_from-within (a + length (frame words)) (b + length (frame words)) forms (omega arith) in
    ap (λ n. record { words = words; place = n } ∷ commands_from (a + length (frame words)) forms) e
    ∙ ap (λ cs. record { words = words; place = within_u64 b } ∷ cs) later
commands_from-within a b (EmptyArray ∷ forms) e =
    commands_from-within (a + length (form_text EmptyArray)) (b + length (form_text EmptyArray)) forms (omega arith)
commands_from-within a b (NegativeArray n ∷ forms) e = commands_from-within (a + length (form_text (NegativeArray n)))
    (b + length (form_text (NegativeArray n))) forms (omega arith)

-- the commands of the longest sequence grow by those behind its front
pub adds : (text piece : List ℕ) (forms more : List Form) (rest left : List ℕ) (start : ℕ)
    → LongestSequence text forms rest → LongestSequence (text ++ piece) (forms ++ more) left
    → start ≡ within_u64 (length (sequence_text forms)) → Adds text piece (commands_from start more)
adds text piece forms more rest left start sequence longer start_is before whole =
    let same = one-sequence text whole.forms forms whole.rest rest whole.sequence sequence in
    let first : before ≡ commands_from 0 forms = whole.commands_are ∙ ap (commands_from 0) same.0 in
    let later : commands_from start more ≡ commands_from (0 + length (sequence_text forms)) more =
    commands_from-within start (0 + length (sequence_text forms)) more (omega arith) in
    record {
      forms = forms ++ more;
      rest = left;
      sequence = longer;
      commands_are = ap (λ cs. cs ++ commands_from start more) first ∙ ap (λ cs. commands_from 0 forms ++ cs) later
          ∙ sym (commands_from-append 0 forms more);
    }
