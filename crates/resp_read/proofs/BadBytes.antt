-- The kind of a bad byte, by what stands before it of the form in which it stands.
use Rattle.std.proofs.Common.{◌≡◌, ℕ, ◌+◌, ◌-◌, ◌%◌, ◌^◌, ◌<◌, inl, inr, true, cond, eqb, Option, Some, None, List}
use Rattle.std.proofs.Common.{[], ◌∷◌, ◌++◌, length, take, refl, sym, ap, subst, ◌∙◌, arith, append-nil}
use Rattle.std.specs.Prelude.{codes}
use Rattle.std.specs.Fmt.{decimal}
use Rattle.std.specs.List.{AllByRecursion}
use Rattle.std.proofs.Math.Seq.{take-append_seam}
use Rattle.std.proofs.lemmas.Fmt.{decimal_by_steps}
use Rattle.resp_read.specs.declared.phase.Line.{Line}
use Rattle.resp_read.specs.declared.phase.Line.TheVariants.{ForCount, ForNegative, ForWord}
use Rattle.resp_read.specs.declared.phase.Phase.{Phase}
use Rattle.resp_read.specs.declared.phase.Phase.TheVariants.{AtStar, InLine, LineEnd, AtDollar, InWord, WordCr}
use Rattle.resp_read.specs.declared.phase.Phase.TheVariants.{WordLf, Dead}
use Rattle.resp_read.specs.declared.parser.Parser.{Parser}
use Rattle.resp_read.specs.declared.stops.BadFrame.{BadFrame}
use Rattle.resp_read.specs.Frames.{count_line, Form, IsNoLf, IsAtWord, IsDue, IsBad}
use Rattle.resp_read.specs.Limits.{HasWords, FitsNumber, FitsDigits, FitsIn}
use Rattle.resp_read.specs.Automaton.{next_in, front, digits_of, kept_in, kept, is_dead, kind_in}
use Rattle.resp_read.proofs.Cases.{either_way}
use Rattle.rs_base.proofs.Lists.{each-append}
use Rattle.resp_read.proofs.Meaning.{Breaks, Reads-longest, Breaks-place}

no_lf-decimal : (n : ℕ) → n < 2 ^ 64 → AllByRecursion IsNoLf (decimal n)
no_lf-decimal n small = decimal_by_steps (λ m ds. AllByRecursion IsNoLf ds)
    (λ m one. ((λ e. omega arith), tt))
    (λ m ds large before. each-append IsNoLf ds ((48 + m % 10) ∷ []) before ((λ e. omega arith), tt))
    n small

number-small : (line : Line) (room n : ℕ) → FitsNumber line room n → n < 2 ^ 64
number-small ForCount room n fits = omega arith
number-small ForNegative room n fits = omega (arith, fits.1)
number-small (ForWord behind) room n fits = omega (arith, fits.1)

no_lf-digits : (line : Line) (room : ℕ) (number : Option ℕ) → FitsDigits line room number
    → AllByRecursion IsNoLf (digits_of number)
no_lf-digits line room None fits = tt
no_lf-digits line room (Some n) fits = no_lf-decimal n (number-small line room n fits)

no_lf-end : (line : Line) (room n : ℕ) → FitsNumber line room n → AllByRecursion IsNoLf (decimal n ++ 13 ∷ [])
no_lf-end line room n fits =
    each-append IsNoLf (decimal n) (13 ∷ []) (no_lf-decimal n (number-small line room n fits)) ((λ e. omega arith), tt)

abbrev at-word : (words : List (List ℕ)) (room behind : ℕ) → HasWords words room (behind + 1)
    → IsAtWord (front (behind + 1) words)
at-word words room behind has = record {
  count = length words + (behind + 1);
  words = words;
  front = record { few = has.few; more = omega arith; each = has.each; all = omega (arith, has.all); front_is = refl };
}

no-death : (behind more : ℕ) → is_dead (cond (eqb more 0) (WordCr behind) (InWord behind (more - 1))) ≡ true → ⊥
no-death behind more = either_way (λ t. is_dead (cond t (WordCr behind) (InWord behind (more - 1))) ≡ true
    → ⊥) (eqb more 0) (λ e. cc) (λ e. cc)

due_in : (phase : Phase) (s : Parser) (b : ℕ) → FitsIn phase s.words s.word s.room
    → is_dead (next_in phase s b).phase ≡ true → IsDue (kind_in phase) (kept_in phase s.words s.word)
due_in AtStar s b fits gone = refl
due_in (InLine ForCount number) s b fits gone =
    record { line = digits_of number; rest_is = refl; open_line = no_lf-digits ForCount s.room number fits.1 }
due_in (InLine ForNegative number) s b fits gone =
    record {
      line = 45 ∷ digits_of number;
      rest_is = refl;
      open_line = ((λ e. omega arith), no_lf-digits ForNegative s.room number fits.1);
    }
due_in (InLine (ForWord behind) number) s b fits gone = record {
  before = front (behind + 1) s.words;
  line = digits_of number;
  at_word = at-word s.words s.room behind fits.0.0;
  rest_is = refl;
  open_line = no_lf-digits (ForWord behind) s.room number fits.1;
}
due_in (LineEnd ForCount n) s b fits gone =
    record { line = decimal n ++ 13 ∷ []; rest_is = refl; open_line = no_lf-end ForCount s.room n fits.1 }
due_in (LineEnd ForNegative n) s b fits gone =
    record {
      line = 45 ∷ (decimal n ++ 13 ∷ []);
      rest_is = refl;
      open_line = ((λ e. omega arith), no_lf-end ForNegative s.room n fits.1);
    }
due_in (LineEnd (ForWord behind) n) s b fits gone = record {
  before = front (behind + 1) s.words;
  line = decimal n ++ 13 ∷ [];
  at_word = at-word s.words s.room behind fits.0.0;
  rest_is = refl;
  open_line = no_lf-end (ForWord behind) s.room n fits.1;
}
due_in (AtDollar behind) s b fits gone = at-word s.words s.room behind fits.0
due_in (InWord behind more) s b fits gone = absurd (no-death behind more gone)
due_in (WordCr behind) s b fits gone = record {
  before = front (behind + 1) s.words;
  word = s.word;
  cr = [];
  at_word = at-word s.words s.room behind fits.0;
  short = fits.1.1;
  fits = omega (arith, fits.0.all, fits.1.0);
  rest_is =
      ap (λ w. front (behind + 1) s.words ++ (count_line (codes "$") (length s.word) ++ w)) (sym (append-nil s.word));
  cr_is = inl refl;
}
due_in (WordLf behind) s b fits gone = record {
  before = front (behind + 1) s.words;
  word = s.word;
  cr = 13 ∷ [];
  at_word = at-word s.words s.room behind fits.0;
  short = fits.1.1;
  fits = omega (arith, fits.0.all, fits.1.0);
  rest_is = refl;
  cr_is = inr refl;
}
due_in Dead s b fits gone = absurd fits

-- the byte that breaks a text is the bad one, of the kind that is due
pub Breaks-bad : (text : List ℕ) (forms : List Form) (place : ℕ) (kind : BadFrame) → Breaks text forms place kind
    → IsBad text place kind
Breaks-bad text forms place kind breaks =
    let before : take place text ≡ breaks.good =
    ap (λ n. take n text) breaks.place_is ∙ ap (take (length breaks.good)) breaks.text_is
    ∙ take-append_seam breaks.good (breaks.byte ∷ breaks.behind) in
    record {
      forms = forms;
      rest = kept breaks.state;
      at = Breaks-place text forms place kind breaks;
      sequence = rw before (Reads-longest breaks.good breaks.state forms breaks.reads);
      due = subst (λ (k : BadFrame). IsDue k (kept breaks.state)) (sym breaks.kind_is)
          (due_in breaks.state.phase breaks.state breaks.byte breaks.reads.fits breaks.dead);
    }
