-- The state that a text is read to, where it begins a sequence of forms.
use Rattle.std.proofs.Common.{◌≡◌, ℕ, zero, suc, ◌+◌, ◌-◌, inl, inr, false, cond, eqb, Option, Some, None, List, []}
use Rattle.std.proofs.Common.{◌∷◌, ◌++◌, length, refl, sym, ap, subst, ◌∙◌, arith, append_assoc, append-nil}
use Rattle.std.specs.List.{AllByRecursion}
use Rattle.std.proofs.lemmas.Bool.{cond-false, both_ways}
use Rattle.std.proofs.lemmas.Bool.Decides.{nat_tests}
use Rattle.std.proofs.lemmas.Grind.{flat_map-append}
use Rattle.resp_read.specs.declared.command.TheConstants.{MAX_COMMAND_BYTES}
use Rattle.resp_read.specs.declared.phase.Line.{Line}
use Rattle.resp_read.specs.declared.phase.Line.TheVariants.{ForCount, ForNegative, ForWord}
use Rattle.resp_read.specs.declared.phase.Phase.{Phase}
use Rattle.resp_read.specs.declared.phase.Phase.TheVariants.{AtStar, InLine, LineEnd, AtDollar, InWord, WordCr}
use Rattle.resp_read.specs.declared.phase.Phase.TheVariants.{WordLf, Dead}
use Rattle.resp_read.specs.declared.parser.Parser.{Parser}
use Rattle.resp_read.specs.Frames.{form_text, sequence_text, Form, IsForm, Begins}
use Rattle.resp_read.specs.Automaton.{with_digit, fresh, next, out, with_form, kept, is_dead, kind_in}
use Rattle.resp_read.specs.Reading.{Broken, read_from, Reads}
use Rattle.resp_read.proofs.Cases.{either_way}
use Rattle.rs_base.proofs.Lists.{each-append}
use Rattle.resp_read.proofs.Sequences.{state_of}
use Rattle.resp_read.proofs.Steps.{FitsForm, text_of, Goes, step}

pub Reads-start : Reads [] fresh []
Reads-start = record {
  each = tt;
  fits = record { words_are = refl; word_is = refl; room_is = refl };
  text_is = refl;
  run = λ rest. refl;
}

each-with : (forms : List Form) (form : Option Form) → AllByRecursion IsForm forms → FitsForm form
    → AllByRecursion IsForm (with_form forms form)
each-with forms None each is = each
each-with forms (Some form) each is = each-append IsForm forms (form ∷ []) each (is, tt)

text-with : (forms : List Form) (form : Option Form)
    → sequence_text forms ++ text_of form ≡ sequence_text (with_form forms form)
text-with forms None = append-nil (sequence_text forms)
text-with forms (Some form) = ap (λ t. sequence_text forms ++ t) (sym (append-nil (form_text form)))
    ∙ sym (flat_map-append form_text forms (form ∷ []))

pub Reads-step : (text : List ℕ) (s : Parser) (forms : List Form) (b : ℕ) → Reads text s forms
    → is_dead (next s b).phase ≡ false
    → Reads (text ++ b ∷ []) (next s b) (with_form forms (out s b))
Reads-step text s forms b reads live = by_step (step s b reads.fits)
  where
    runs : (rest : List ℕ)
        → read_from fresh [] ((text ++ b ∷ []) ++ rest) ≡ read_from (next s b) (with_form forms (out s b)) rest
    runs rest =
        ap (λ t. read_from fresh [] t) (append_assoc text (b ∷ []) rest)
        ∙ reads.run (b ∷ rest)
        ∙ cond-false (is_dead (next s b).phase) (Broken forms (length (sequence_text forms) + length (kept s))
        (kind_in s.phase)) (read_from (next s b) (with_form forms (out s b)) rest) live

    by_step : Goes (kept s ++ b ∷ []) (next s b) (out s b)
        → Reads (text ++ b ∷ []) (next s b) (with_form forms (out s b))
    by_step (inl gone) = absurd (both_ways (is_dead (next s b).phase) live gone)
    by_step (inr leads) = record {
      each = each-with forms (out s b) reads.each leads.is;
      fits = leads.fits;
      text_is = ap (λ t. t ++ b ∷ []) reads.text_is
          ∙ append_assoc (sequence_text forms) (kept s) (b ∷ [])
          ∙ ap (λ t. sequence_text forms ++ t) leads.text_is
          ∙ sym (append_assoc (sequence_text forms) (text_of (out s b)) (kept (next s b)))
          ∙ ap (λ t. t ++ kept (next s b)) (text-with forms (out s b));
      run = runs;
    }

-- each text that is read to this state can go on to a sequence of forms
abbrev CanEnd : Parser → Type 0
CanEnd s = (text : List ℕ) (forms : List Form) → Reads text s forms → Begins text

can-step : (s : Parser) (b : ℕ) → is_dead (next s b).phase ≡ false → CanEnd (next s b) → CanEnd s
can-step s b live can text forms reads =
    let begins = can (text ++ b ∷ []) (with_form forms (out s b)) (Reads-step text s forms b reads live) in (
      b ∷ begins.0,
      begins.1,
      record { each = begins.2.each; text_is = sym (append_assoc text (b ∷ []) begins.0) ∙ begins.2.text_is },
    )

can-star : (ws : List (List ℕ)) (w : List ℕ) (r : ℕ) → CanEnd (state_of AtStar ws w r)
can-star ws w r text forms reads = (
  [],
  forms,
  record { each = reads.each; text_is = append-nil text ∙ reads.text_is ∙ append-nil (sequence_text forms) },
)

can-cr : (behind : ℕ) (ws : List (List ℕ)) (w : List ℕ) (r : ℕ)
    → ((vs : List (List ℕ)) (v : List ℕ) (q : ℕ) → CanEnd (state_of (WordLf behind) vs v q))
    → CanEnd (state_of (WordCr behind) ws w r)
can-cr behind ws w r lf = can-step (state_of (WordCr behind) ws w r) 13 refl (lf ws w r)

-- the digit 0
zero-digit : (r behind : ℕ) → with_digit r (ForWord behind) 0 48 ≡ InLine (ForWord behind) (Some 0)
zero-digit r behind = grind (arith, nat_tests)

can-length : (behind : ℕ) (ws : List (List ℕ)) (w : List ℕ) (r : ℕ)
    → ((vs : List (List ℕ)) (v : List ℕ) (q : ℕ) → CanEnd (state_of (WordLf behind) vs v q))
    → CanEnd (state_of (InLine (ForWord behind) None) ws w r)
can-length behind ws w r lf =
    let e = zero-digit r behind in
    can-step (state_of (InLine (ForWord behind) None) ws w r) 48
    (subst (λ (p : Phase). is_dead p ≡ false) (sym e) refl)
    (subst (λ (p : Phase). CanEnd (state_of p ws w r)) (sym e)
    (can-step (state_of (InLine (ForWord behind) (Some 0)) ws w r) 13 refl
    (can-step (state_of (LineEnd (ForWord behind) 0) ws w r) 10 refl (can-cr behind ws w r lf))))

can-dollar : (behind : ℕ) (ws : List (List ℕ)) (w : List ℕ) (r : ℕ)
    → ((vs : List (List ℕ)) (v : List ℕ) (q : ℕ) → CanEnd (state_of (WordLf behind) vs v q))
    → CanEnd (state_of (AtDollar behind) ws w r)
can-dollar behind ws w r lf = can-step (state_of (AtDollar behind) ws w r) 36 refl (can-length behind ws w r lf)

can-lf : (behind : ℕ) (ws : List (List ℕ)) (w : List ℕ) (r : ℕ) → CanEnd (state_of (WordLf behind) ws w r)
can-lf zero ws w r = can-step (state_of (WordLf 0) ws w r) 10 refl (can-star [] [] MAX_COMMAND_BYTES)
can-lf (suc k) ws w r =
    let some : eqb (suc k) 0 ≡ false = grind (arith, nat_tests) in
    let less : suc k - 1 ≡ k = omega arith in
    can-step (state_of (WordLf (suc k)) ws w r) 10 (rw some)
    (rw (some, less) (can-dollar k (ws ++ w ∷ []) [] (r - length w) (can-lf k)))

can-word : (behind more : ℕ) (ws : List (List ℕ)) (w : List ℕ) (r : ℕ) → CanEnd (state_of (InWord behind more) ws w r)
can-word behind zero ws w r =
    can-step (state_of (InWord behind 0) ws w r) 0 refl (can-cr behind ws (w ++ 0 ∷ []) r (can-lf behind))
can-word behind (suc k) ws w r =
    let some : eqb (suc k) 0 ≡ false = grind (arith, nat_tests) in
    let less : suc k - 1 ≡ k = omega arith in
    can-step (state_of (InWord behind (suc k)) ws w r) 0 (rw some)
    (rw (some, less) (can-word behind k ws (w ++ 0 ∷ []) r))

can-line_end : (line : Line) (n : ℕ) (ws : List (List ℕ)) (w : List ℕ) (r : ℕ)
    → CanEnd (state_of (LineEnd line n) ws w r)
can-line_end ForCount n ws w r = can-step (state_of (LineEnd ForCount n) ws w r) 10
    (either_way (λ t. is_dead (cond t AtStar (AtDollar (n - 1))) ≡ false) (eqb n 0) refl refl)
    (either_way (λ t. CanEnd (state_of (cond t AtStar (AtDollar (n - 1))) ws w r)) (eqb n 0) (can-star ws w r)
    (can-dollar (n - 1) ws w r (can-lf (n - 1))))
can-line_end ForNegative n ws w r = can-step (state_of (LineEnd ForNegative n) ws w r) 10 refl (can-star ws w r)
can-line_end (ForWord behind) n ws w r = can-step (state_of (LineEnd (ForWord behind) n) ws w r) 10
    (either_way (λ t. is_dead (cond t (WordCr behind) (InWord behind (n - 1))) ≡ false) (eqb n 0) refl refl)
    (either_way (λ t. CanEnd (state_of (cond t (WordCr behind) (InWord behind (n - 1))) ws w r)) (eqb n 0)
    (can-cr behind ws w r (can-lf behind)) (can-word behind (n - 1) ws w r))

can-line : (line : Line) (number : Option ℕ) (ws : List (List ℕ)) (w : List ℕ) (r : ℕ)
    → CanEnd (state_of (InLine line number) ws w r)
can-line ForCount None ws w r =
    can-step (state_of (InLine ForCount None) ws w r) 48 refl
    (can-step (state_of (InLine ForCount (Some 0)) ws w r) 13 refl (can-line_end ForCount 0 ws w r))
can-line ForNegative None ws w r =
    can-step (state_of (InLine ForNegative None) ws w r) 49 refl
    (can-step (state_of (InLine ForNegative (Some 1)) ws w r) 13 refl (can-line_end ForNegative 1 ws w r))
can-line (ForWord behind) None ws w r = can-length behind ws w r (can-lf behind)
can-line line (Some n) ws w r = can-step (state_of (InLine line (Some n)) ws w r) 13 refl (can-line_end line n ws w r)

can-phase : (phase : Phase) (ws : List (List ℕ)) (w : List ℕ) (r : ℕ) → CanEnd (state_of phase ws w r)
can-phase AtStar ws w r = can-star ws w r
can-phase (InLine line number) ws w r = can-line line number ws w r
can-phase (LineEnd line n) ws w r = can-line_end line n ws w r
can-phase (AtDollar behind) ws w r = can-dollar behind ws w r (can-lf behind)
can-phase (InWord behind more) ws w r = can-word behind more ws w r
can-phase (WordCr behind) ws w r = can-cr behind ws w r (can-lf behind)
can-phase (WordLf behind) ws w r = can-lf behind ws w r
can-phase Dead ws w r = λ text forms reads. absurd reads.fits

-- such a text begins a sequence of forms
pub Reads-begins : (text : List ℕ) (s : Parser) (forms : List Form) → Reads text s forms → Begins text
Reads-begins text s forms reads = can-phase s.phase s.words s.word s.room text forms reads
