-- What a text reads as, in terms of the grammar.
use Rattle.std.proofs.Common.{◌≡◌, ℕ, ◌+◌, ◌≤◌, true, cond, Option, Some, None, List, [], ◌∷◌, ◌++◌, length, take}
use Rattle.std.proofs.Common.{refl, sym, ap, subst, ◌∙◌, arith, append_assoc, append-nil, length-append}
use Rattle.std.specs.List.{AllByRecursion}
use Rattle.std.proofs.Math.Seq.{take-append_seam}
use Rattle.std.proofs.lemmas.Bool.{cond-true}
use Rattle.std.proofs.lemmas.Grind.{flat_map-append}
use Rattle.resp_read.specs.declared.parser.Parser.{Parser}
use Rattle.resp_read.specs.declared.stops.BadFrame.{BadFrame}
use Rattle.resp_read.specs.Frames.{form_text, sequence_text, Form, IsForm, Begins, LongestSequence, IsBadPlace}
use Rattle.resp_read.specs.Automaton.{fresh, next, out, with_form, kept, is_dead, kind_in}
use Rattle.resp_read.specs.Reading.{Reading, Unfinished, Broken, read_from, reading, Reads}
use Rattle.resp_read.proofs.Cases.{by_test}
use Rattle.resp_read.proofs.Sequences.{read-sequence}
use Rattle.resp_read.proofs.ReachedStates.{Reads-start, Reads-step, Reads-begins}

-- a byte that breaks the sequence of a text which is read to a state
pub record Breaks (text : List ℕ) (forms : List Form) (place : ℕ) (kind : BadFrame) : Type 0 where
  pub good : List ℕ
  pub byte : ℕ
  pub behind : List ℕ
  pub state : Parser
  pub reads : Reads good state forms
  pub text_is : text ≡ good ++ byte ∷ behind
  pub dead : is_dead (next state byte).phase ≡ true
  pub place_is : place ≡ length good
  pub kind_is : kind ≡ kind_in state.phase

-- what a reading says of the text
abbrev pub Means : List ℕ → Reading → Type 0
Means text (Unfinished forms left) = (s : Parser) × Reads text s forms × (left ≡ kept s)
Means text (Broken forms place kind) = Breaks text forms place kind

pub read-means : (text : List ℕ) (s : Parser) (forms : List Form) (rest : List ℕ) → Reads text s forms
    → Means (text ++ rest) (read_from s forms rest)
read-means text s forms [] reads = (s, subst (λ t. Reads t s forms) (sym (append-nil text)) reads, refl)
read-means text s forms (b ∷ rest) reads = by_test
    (λ t. Means (text ++ b ∷ rest) (cond t (Broken forms (length (sequence_text forms) + length (kept s))
    (kind_in s.phase)) (read_from (next s b) (with_form forms (out s b)) rest)))
    (is_dead (next s b).phase)
    (λ gone. record {
      good = text;
      byte = b;
      behind = rest;
      state = s;
      reads = reads;
      text_is = refl;
      dead = gone;
      place_is = sym (ap length reads.text_is ∙ length-append (sequence_text forms) (kept s));
      kind_is = refl;
    })
    (λ live. subst (λ t. Means t (read_from (next s b) (with_form forms (out s b)) rest))
    (append_assoc text (b ∷ []) rest)
    (read-means (text ++ b ∷ []) (next s b) (with_form forms (out s b)) rest (Reads-step text s forms b reads live)))

pub reading-means : (text : List ℕ) → Means text (reading text)
unfolding reading
reading-means text = read-means [] fresh [] text Reads-start

-- the forms of a reading begin with those before it
abbrev pub forms_of : Reading → List Form
forms_of (Unfinished forms left) = forms
forms_of (Broken forms place kind) = forms

more-with : (forms : List Form) (form : Option Form) → (more : List Form) × (with_form forms form ≡ forms ++ more)
more-with forms None = ([], sym (append-nil forms))
more-with forms (Some form) = (form ∷ [], refl)

more-forms : (s : Parser) (forms : List Form) (text : List ℕ)
    → (more : List Form) × (forms_of (read_from s forms text) ≡ forms ++ more)
more-forms s forms [] = ([], sym (append-nil forms))
more-forms s forms (b ∷ text) = by_test
    (λ t. (more : List Form) × (forms_of (cond t (Broken forms (length (sequence_text forms) + length (kept s))
    (kind_in s.phase)) (read_from (next s b) (with_form forms (out s b)) text)) ≡ forms ++ more))
    (is_dead (next s b).phase)
    (λ gone. ([], sym (append-nil forms)))
    (λ live.
    let first = more-with forms (out s b) in
    let later = more-forms (next s b) (with_form forms (out s b)) text in
    (first.0 ++ later.0, later.1 ∙ ap (λ f. f ++ later.0) first.1 ∙ append_assoc forms first.0 later.0))

-- the forms of a text's reading are its longest sequence
pub longest : (text : List ℕ) (others : List Form) (left : List ℕ) → AllByRecursion IsForm others
    → text ≡ sequence_text others ++ left
    → length (sequence_text others) ≤ length (sequence_text (forms_of (read_from fresh [] text)))
longest text others left each e =
    let reads : read_from fresh [] text ≡ read_from fresh others left =
    ap (read_from fresh []) e ∙ read-sequence others [] left each in
    let more = more-forms fresh others left in
    let all : sequence_text (forms_of (read_from fresh [] text)) ≡ sequence_text others ++ sequence_text more.0 =
    ap (λ r. sequence_text (forms_of r)) reads ∙ ap sequence_text more.1 ∙ flat_map-append form_text others more.0 in
    omega (arith, ap length all, length-append (sequence_text others) (sequence_text more.0))

pub sequence-longest : (text : List ℕ) (forms : List Form) (rest : List ℕ) → AllByRecursion IsForm forms
    → text ≡ sequence_text forms ++ rest → forms_of (read_from fresh [] text) ≡ forms → LongestSequence text forms rest
sequence-longest text forms rest each text_is forms_are = record {
  each = each;
  text_is = text_is;
  longest = λ others left are e.
      let bound = longest text others left are e in
      let same : length (sequence_text (forms_of (read_from fresh [] text))) ≡ length (sequence_text forms) =
      ap (λ f. length (sequence_text f)) forms_are in
      omega (
        arith,
        bound,
        same,
        ap length text_is,
        length-append (sequence_text forms) rest,
        ap length e,
        length-append (sequence_text others) left,
      );
}

-- a text that is read to a state has what was read as its longest sequence
pub Reads-longest : (text : List ℕ) (s : Parser) (forms : List Form) → Reads text s forms
    → LongestSequence text forms (kept s)
Reads-longest text s forms reads =
    sequence-longest text forms (kept s) reads.each reads.text_is
    (ap forms_of (ap (read_from fresh []) (sym (append-nil text)) ∙ reads.run []))

-- behind a byte that breaks it no text goes on to a sequence
pub dead-ends : (good : List ℕ) (s : Parser) (forms : List Form) (b : ℕ) → Reads good s forms
    → is_dead (next s b).phase ≡ true → Begins (good ++ b ∷ []) → ⊥
dead-ends good s forms b reads gone begins =
    let more = begins.0 in
    let whole : read_from fresh [] ((good ++ b ∷ []) ++ more) ≡ Unfinished begins.1 [] =
    ap (read_from fresh []) (begins.2.text_is ∙ sym (append-nil (sequence_text begins.1)))
    ∙ read-sequence begins.1 [] [] begins.2.each in
    let broken : read_from fresh [] ((good ++ b ∷ []) ++ more)
    ≡ Broken forms (length (sequence_text forms) + length (kept s)) (kind_in s.phase) =
    ap (read_from fresh []) (append_assoc good (b ∷ []) more) ∙ reads.run (b ∷ more)
    ∙ cond-true (is_dead (next s b).phase) (Broken forms (length (sequence_text forms) + length (kept s))
    (kind_in s.phase)) (read_from (next s b) (with_form forms (out s b)) more) gone in
    let clash : Unfinished begins.1 []
    ≡ Broken forms (length (sequence_text forms) + length (kept s)) (kind_in s.phase) = sym whole ∙ broken in
    cc

take-more : (good : List ℕ) (b : ℕ) (behind : List ℕ) → take (length good + 1) (good ++ b ∷ behind) ≡ good ++ b ∷ []
take-more good b behind =
    let long : length (good ++ b ∷ []) ≡ length good + 1 = length-append good (b ∷ []) in
    ap (λ n. take n (good ++ b ∷ behind)) (sym long) ∙ ap (take (length (good ++ b ∷ [])))
    (sym (append_assoc good (b ∷ []) behind)) ∙ take-append_seam (good ++ b ∷ []) behind

-- the byte that breaks a text stands in its bad place
pub Breaks-place : (text : List ℕ) (forms : List Form) (place : ℕ) (kind : BadFrame) → Breaks text forms place kind
    → IsBadPlace text place
Breaks-place text forms place kind breaks = record {
  within = omega (
    arith,
    breaks.place_is,
    ap length breaks.text_is,
    length-append breaks.good (breaks.byte ∷ breaks.behind),
  );
  good = subst Begins (sym (front text place breaks.text_is breaks.place_is))
      (Reads-begins breaks.good breaks.state forms breaks.reads);
  bad = λ begins. dead-ends breaks.good breaks.state forms breaks.byte breaks.reads breaks.dead
      (subst Begins (ap (λ n. take (n + 1) text) breaks.place_is ∙ ap (take (length breaks.good + 1)) breaks.text_is
      ∙ take-more breaks.good breaks.byte breaks.behind) begins);
}
  where
    front : (t : List ℕ) (n : ℕ) → t ≡ breaks.good ++ breaks.byte ∷ breaks.behind → n ≡ length breaks.good
        → take n t ≡ breaks.good
    front t n t_is n_is = ap (λ m. take m t) n_is ∙ ap (take (length breaks.good)) t_is
        ∙ take-append_seam breaks.good (breaks.byte ∷ breaks.behind)

-- and the forms before it are the longest sequence of the text
pub Breaks-sequence : (text : List ℕ) (forms : List Form) (place : ℕ) (kind : BadFrame) → Breaks text forms place kind
    → (rest : List ℕ) × LongestSequence text forms rest
Breaks-sequence text forms place kind breaks =
    let s = breaks.state in
    let all : text ≡ sequence_text forms ++ (kept s ++ breaks.byte ∷ breaks.behind) =
    breaks.text_is ∙ ap (λ t. t ++ breaks.byte ∷ breaks.behind) breaks.reads.text_is
    ∙ append_assoc (sequence_text forms) (kept s) (breaks.byte ∷ breaks.behind) in
    let reads : read_from fresh [] text
    ≡ Broken forms (length (sequence_text forms) + length (kept s)) (kind_in s.phase) =
    ap (read_from fresh []) breaks.text_is ∙ breaks.reads.run (breaks.byte ∷ breaks.behind)
    ∙ cond-true (is_dead (next s breaks.byte).phase) (Broken forms (length (sequence_text forms) + length (kept s))
    (kind_in s.phase)) (read_from (next s breaks.byte) (with_form forms (out s breaks.byte)) breaks.behind)
    breaks.dead in (
      kept s ++ breaks.byte ∷ breaks.behind,
      sequence-longest text forms (kept s ++ breaks.byte ∷ breaks.behind) breaks.reads.each all (ap forms_of reads),
    )
