-- A byte that does not break a sequence: what is kept grows by it, or a form ends with it.
use Rattle.std.proofs.Common.{◌≡◌, ℕ, zero, suc, ◌+◌, ◌-◌, ◌*◌, ◌/◌, ◌%◌, ◌^◌, ◌<◌, ◌≤◌, ◌⊎◌, inl, inr, true, ◌&&◌}
use Rattle.std.proofs.Common.{cond, eqb, leb, Option, Some, None, List, [], ◌∷◌, ◌++◌, length, refl, sym, ap, subst}
use Rattle.std.proofs.Common.{◌∙◌, arith, append_assoc, append-nil, length-append}
use Rattle.std.specs.Prelude.{codes}
use Rattle.std.specs.Fmt.{decimal}
use Rattle.std.specs.List.{AllByRecursion, flat_map, sum_by}
use Rattle.std.proofs.lemmas.Bool.{and_parts, leb-true, eqb-true, eqb-false}
use Rattle.std.proofs.lemmas.Fmt.{decimal_step, decimal_digit}
use Rattle.std.proofs.lemmas.Grind.{flat_map-append}
use Rattle.std.proofs.lemmas.List.Sums.{sum_by-cons, sum_by-append}
use Rattle.resp_read.specs.declared.phase.Line.{Line}
use Rattle.resp_read.specs.declared.phase.Line.TheVariants.{ForCount, ForNegative, ForWord}
use Rattle.resp_read.specs.declared.phase.Phase.{Phase}
use Rattle.resp_read.specs.declared.phase.Phase.TheVariants.{AtStar, InLine, LineEnd, AtDollar, InWord, WordCr}
use Rattle.resp_read.specs.declared.phase.Phase.TheVariants.{WordLf, Dead}
use Rattle.resp_read.specs.declared.parser.Parser.{Parser}
use Rattle.resp_read.specs.Frames.{count_line, bulk, frame, form_text, Form, Given, EmptyArray, NegativeArray, IsForm}
use Rattle.resp_read.specs.Frames.{IsWord}
use Rattle.resp_read.specs.Automaton.{limit, with_digit, fresh, with_word, next_in, next, out_in, out, front}
use Rattle.resp_read.specs.Automaton.{line_front, digits_of, kept_in, kept, is_dead}
use Rattle.resp_read.specs.Limits.{FitsLine, FitsNumber, FitsIn, Fits}
use Rattle.resp_read.proofs.Cases.{by_test}
use Rattle.rs_base.proofs.Lists.{each-append}
use Rattle.resp_read.proofs.Sequences.{limit-small}

abbrev pub FitsForm : Option Form → Type 0
FitsForm None = Unit {0}
FitsForm (Some form) = IsForm form

abbrev pub text_of : Option Form → List ℕ
text_of None = []
text_of (Some form) = form_text form

-- from a text to a state and the form that ended on the way
pub record Leads (text : List ℕ) (s : Parser) (form : Option Form) : Type 0 where
  pub fits : Fits s
  pub is : FitsForm form
  pub text_is : text ≡ text_of form ++ kept s

-- a byte breaks the sequence, or leads on
abbrev pub Goes : List ℕ → Parser → Option Form → Type 0
Goes text s form = (is_dead s.phase ≡ true) ⊎ Leads text s form

-- what is kept before a byte, and the byte
abbrev grown : Phase → Parser → ℕ → List ℕ
grown phase s b = kept_in phase s.words s.word ++ b ∷ []

abbrev fit : Phase → Parser → Type 0
fit phase s = FitsIn phase s.words s.word s.room

star-step : (s : Parser) (b : ℕ) → fit AtStar s → Goes (grown AtStar s b) (next_in AtStar s b) (out_in AtStar s b)
star-step s b fits = by_test
    (λ t. Goes (b ∷ []) (record s { phase = cond t (InLine ForCount None) Dead }) None)
    (eqb b 42)
    (λ e. inr (record { fits = (fits, tt); is = tt; text_is = ap (λ x. x ∷ []) (eqb-true b 42 e) }))
    (λ e. inl refl)

-- a digit, where the number with it is written so
digit-step : (line : Line) (number : Option ℕ) (n : ℕ) (s : Parser) (b : ℕ) → FitsLine line s.words s.word s.room
    → ((d : ℕ) → d < 10 → n * 10 + d ≤ limit s.room line → b ≡ 48 + d
    → FitsNumber line s.room (n * 10 + d) × (digits_of number ++ b ∷ [] ≡ decimal (n * 10 + d)))
    → Goes (grown (InLine line number) s b) (record s { phase = with_digit s.room line n b }) None
digit-step line number n s b fits grows = by_test
    (λ t. Goes (grown (InLine line number) s b)
    (record s { phase = cond t (InLine line (Some (n * 10 + (b - 48)))) Dead }) None)
    ((leb 48 b && leb b 57) && leb (n * 10 + (b - 48)) (limit s.room line))
    (λ e.
    let parts = and_parts (leb 48 b && leb b 57) (leb (n * 10 + (b - 48)) (limit s.room line)) e in
    let ends = and_parts (leb 48 b) (leb b 57) parts.0 in
    let low : 48 ≤ b = leb-true 48 b ends.0 in
    let high : b ≤ 57 = leb-true b 57 ends.1 in
    let found = grows (b - 48) (omega arith) (leb-true (n * 10 + (b - 48)) (limit s.room line) parts.1) (omega arith) in
    inr (record {
      fits = (fits, found.0);
      is = tt;
      text_is =
          append_assoc (line_front line s.words) (digits_of number) (b ∷ [])
          ∙ ap (λ ds. line_front line s.words ++ ds) found.1;
    }))
    (λ e. inl refl)

one_digit : (d b : ℕ) → d < 10 → b ≡ 48 + d → b ∷ [] ≡ decimal (0 * 10 + d)
one_digit d b small e =
    let same : 0 * 10 + d ≡ d = omega arith in
    ap (λ x. x ∷ []) e ∙ sym (ap decimal same ∙ decimal_digit d small)

more_digits : (n d b : ℕ) → 0 < n → n * 10 + d < 2 ^ 64 → d < 10 → b ≡ 48 + d
    → decimal n ++ b ∷ [] ≡ decimal (n * 10 + d)
more_digits n d b some small one e =
    let front_is : (n * 10 + d) / 10 ≡ n = omega arith in
    let last_is : (n * 10 + d) % 10 ≡ d = omega arith in
    sym (decimal_step (n * 10 + d) (omega arith) small ∙ rw (front_is, last_is, e))

fits_limit : (line : Line) (room n : ℕ) → 0 < n → n ≤ limit room line → FitsNumber line room n
fits_limit ForCount room n some fits = fits
fits_limit ForNegative room n some fits = (omega arith, fits)
fits_limit (ForWord behind) room n some fits = (omega arith, omega arith)

line-step : (line : Line) (number : Option ℕ) (s : Parser) (b : ℕ) → fit (InLine line number) s
    → Goes (grown (InLine line number) s b) (next_in (InLine line number) s b) None
line-step ForCount None s b fits = by_test
    (λ t. Goes (42 ∷ b ∷ []) (record s { phase = cond t (InLine ForNegative None) (with_digit s.room ForCount 0 b) })
    None)
    (eqb b 45)
    (λ e. inr (record { fits = (fits.0, tt); is = tt; text_is = ap (λ x. 42 ∷ x ∷ []) (eqb-true b 45 e) }))
    (λ e. digit-step ForCount None 0 s b fits.0 (λ d small le is. (le, one_digit d b small is)))
line-step ForNegative None s b fits = by_test
    (λ t. Goes (42 ∷ 45 ∷ b ∷ []) (record s { phase = cond t Dead (with_digit s.room ForNegative 0 b) }) None)
    (eqb b 48)
    (λ e. inl refl)
    (λ e. digit-step ForNegative None 0 s b fits.0
    (λ d small le is. ((by_other d is (eqb-false b 48 e), le), one_digit d b small is)))
  where
    by_other : (d : ℕ) → b ≡ 48 + d → (b ≡ 48 → ⊥) → 1 ≤ 0 * 10 + d
    by_other zero is other = absurd (other (omega arith))
    by_other (suc d) is other = omega arith
line-step (ForWord behind) None s b fits =
    digit-step (ForWord behind) None 0 s b fits.0
    (λ d small le is. ((omega arith, omega arith), one_digit d b small is))
line-step line (Some n) s b fits = by_test
    (λ t. Goes (grown (InLine line (Some n)) s b)
    (record s { phase = cond t (LineEnd line n) (cond (eqb n 0) Dead (with_digit s.room line n b)) }) None)
    (eqb b 13)
    (λ e. inr (record {
      fits = fits;
      is = tt;
      text_is = append_assoc (line_front line s.words) (decimal n) (b ∷ [])
          ∙ ap (λ x. line_front line s.words ++ (decimal n ++ x ∷ [])) (eqb-true b 13 e);
    }))
    (λ e. by_test
    (λ t. Goes (grown (InLine line (Some n)) s b) (record s { phase = cond t Dead (with_digit s.room line n b) }) None)
    (eqb n 0)
    (λ z. inl refl)
    (λ z. digit-step line (Some n) n s b fits.0 (λ d small le is.
    let some : 0 < n = above n (eqb-false n 0 z) in (
      fits_limit line s.room (n * 10 + d) (omega arith) le,
      more_digits n d b some (limit-small s.room line (n * 10 + d) le) small is,
    ))))
  where
    above : (m : ℕ) → (m ≡ 0 → ⊥) → 0 < m
    above zero other = absurd (other refl)
    above (suc m) other = omega arith

-- a mark, digits, CR and a byte
counted : (mark : List ℕ) (n : ℕ) (b : ℕ) → b ≡ 10 → (mark ++ (decimal n ++ 13 ∷ [])) ++ b ∷ [] ≡ count_line mark n
counted mark n b e = regroup mark (decimal n) 13 b ∙ ap (λ x. (mark ++ decimal n) ++ 13 ∷ x ∷ []) e
  where
    regroup : (a c : List ℕ) (x y : ℕ) → (a ++ (c ++ x ∷ [])) ++ y ∷ [] ≡ (a ++ c) ++ x ∷ y ∷ []
    regroup a c x y = simp append_assoc

above : (m : ℕ) → (m ≡ 0 → ⊥) → 0 < m
above zero other = absurd (other refl)
above (suc m) other = omega arith

count_end-step : (n : ℕ) (s : Parser) (b : ℕ) → fit (LineEnd ForCount n) s
    → Goes (grown (LineEnd ForCount n) s b) (next_in (LineEnd ForCount n) s b) (out_in (LineEnd ForCount n) s b)
count_end-step n s b fits = by_test
    (λ t. Goes (grown (LineEnd ForCount n) s b) (record s {
      phase = cond t (cond (eqb n 0) AtStar (AtDollar (n - 1))) Dead;
    }) (cond (t && eqb n 0) (Some EmptyArray) None))
    (eqb b 10)
    (λ e. by_test
    (λ t. Goes (grown (LineEnd ForCount n) s b) (record s { phase = cond t AtStar (AtDollar (n - 1)) })
    (cond t (Some EmptyArray) None))
    (eqb n 0)
    (λ z. inr (record {
      fits = fits.0;
      is = tt;
      text_is = counted (codes "*") n b (eqb-true b 10 e) ∙ ap (count_line (codes "*")) (eqb-true n 0 z)
          ∙ sym (append-nil (form_text EmptyArray));
    }))
    (λ z.
    let some : 0 < n = above n (eqb-false n 0 z) in
    let none = fits.0 in
    let all : length s.words + (n - 1 + 1) ≡ n = omega (arith, ap length none.words_are) in
    inr (record {
      fits = (
        record {
          few = omega (arith, fits.1, all);
          each = subst (AllByRecursion IsWord) (sym none.words_are) tt;
          all = ap (λ w. sum_by length w + s.room) none.words_are ∙ omega (arith, none.room_is);
        },
        none.word_is,
      );
      is = tt;
      text_is = counted (codes "*") n b (eqb-true b 10 e) ∙ ap (count_line (codes "*")) (sym all)
          ∙ sym (ap (λ w. count_line (codes "*") (length s.words + (n - 1 + 1)) ++ flat_map bulk w) none.words_are
          ∙ append-nil (count_line (codes "*") (length s.words + (n - 1 + 1))));
    })))
    (λ e. inl refl)

negative_end-step : (n : ℕ) (s : Parser) (b : ℕ) → fit (LineEnd ForNegative n) s
    → Goes (grown (LineEnd ForNegative n) s b) (next_in (LineEnd ForNegative n) s b)
    (out_in (LineEnd ForNegative n) s b)
negative_end-step n s b fits = by_test
    (λ t. Goes (grown (LineEnd ForNegative n) s b) (record s { phase = cond t AtStar Dead })
    (cond t (Some (NegativeArray n)) None))
    (eqb b 10)
    (λ e. inr (record {
      fits = fits.0;
      is = fits.1;
      text_is = counted (codes "*-") n b (eqb-true b 10 e) ∙ sym (append-nil (form_text (NegativeArray n)));
    }))
    (λ e. inl refl)

-- the line of a word's length, whole
length_line : (before : List ℕ) (n b : ℕ) (word : List ℕ) (all : ℕ) → b ≡ 10 → word ≡ [] → all ≡ n
    → ((before ++ codes "$") ++ (decimal n ++ 13 ∷ [])) ++ b ∷ [] ≡ before ++ (count_line (codes "$") all ++ word)
length_line before n b word all e none same =
    counted (before ++ codes "$") n b e
    ∙ regroup before (codes "$") (decimal n) (13 ∷ 10 ∷ [])
    ∙ ap (λ m. before ++ (count_line (codes "$") m ++ [])) (sym same)
    ∙ ap (λ w. before ++ (count_line (codes "$") all ++ w)) (sym none)
  where
    regroup : (a c d f : List ℕ) → ((a ++ c) ++ d) ++ f ≡ a ++ (((c ++ d) ++ f) ++ [])
    regroup a c d f = simp (append_assoc, append-nil)

length_end-step : (behind n : ℕ) (s : Parser) (b : ℕ) → fit (LineEnd (ForWord behind) n) s
    → Goes (grown (LineEnd (ForWord behind) n) s b) (next_in (LineEnd (ForWord behind) n) s b)
    (out_in (LineEnd (ForWord behind) n) s b)
length_end-step behind n s b fits = by_test
    (λ t. Goes (grown (LineEnd (ForWord behind) n) s b)
    (record s { phase = cond t (cond (eqb n 0) (WordCr behind) (InWord behind (n - 1))) Dead }) None)
    (eqb b 10)
    (λ e. by_test
    (λ t. Goes (grown (LineEnd (ForWord behind) n) s b)
    (record s { phase = cond t (WordCr behind) (InWord behind (n - 1)) }) None)
    (eqb n 0)
    (λ z.
    let none : length s.word ≡ 0 = ap length fits.0.1 in
    inr (record {
      fits = (fits.0.0, (omega arith, omega arith));
      is = tt;
      text_is = length_line (front (behind + 1) s.words) n b s.word (length s.word) (eqb-true b 10 e) fits.0.1 (none
          ∙ sym (eqb-true n 0 z));
    }))
    (λ z.
    let some : 0 < n = above n (eqb-false n 0 z) in
    let none : length s.word ≡ 0 = ap length fits.0.1 in
    inr (record {
      fits = (fits.0.0, (omega (arith, fits.1.0), omega (arith, fits.1.1)));
      is = tt;
      text_is = length_line (front (behind + 1) s.words) n b s.word (length s.word + (n - 1 + 1)) (eqb-true b 10 e)
          fits.0.1 (omega arith);
    })))
    (λ e. inl refl)

dollar-step : (behind : ℕ) (s : Parser) (b : ℕ) → fit (AtDollar behind) s
    → Goes (grown (AtDollar behind) s b) (next_in (AtDollar behind) s b) None
dollar-step behind s b fits = by_test
    (λ t. Goes (grown (AtDollar behind) s b) (record s { phase = cond t (InLine (ForWord behind) None) Dead }) None)
    (eqb b 36)
    (λ e. inr (record {
      fits = (fits, tt);
      is = tt;
      text_is = ap (λ x. front (behind + 1) s.words ++ x ∷ []) (eqb-true b 36 e)
          ∙ sym (append-nil (front (behind + 1) s.words ++ codes "$"));
    }))
    (λ e. inl refl)

-- a byte more of a word
word_grown : (before : List ℕ) (n m : ℕ) (word : List ℕ) (b : ℕ) → n ≡ m
    → (before ++ (count_line (codes "$") n ++ word)) ++ b ∷ [] ≡ before
    ++ (count_line (codes "$") m ++ (word ++ b ∷ []))
word_grown before n m word b same = regroup before (count_line (codes "$") n) word (b ∷ [])
    ∙ ap (λ k. before ++ (count_line (codes "$") k ++ (word ++ b ∷ []))) same
  where
    regroup : (a c d f : List ℕ) → (a ++ (c ++ d)) ++ f ≡ a ++ (c ++ (d ++ f))
    regroup a c d f = simp append_assoc

byte-step : (behind more : ℕ) (s : Parser) (b : ℕ) → fit (InWord behind more) s
    → Goes (grown (InWord behind more) s b) (next_in (InWord behind more) s b) None
byte-step behind more s b fits =
    let longer : length (s.word ++ b ∷ []) ≡ length s.word + 1 = length-append s.word (b ∷ []) in
    by_test
    (λ t. Goes (grown (InWord behind more) s b)
    (record s { phase = cond t (WordCr behind) (InWord behind (more - 1)); word = s.word ++ b ∷ [] }) None)
    (eqb more 0)
    (λ z.
    let last : more ≡ 0 = eqb-true more 0 z in
    inr (record {
      fits = (fits.0, (omega (arith, fits.1.0, longer, last), omega (arith, fits.1.1, longer, last)));
      is = tt;
      text_is = word_grown (front (behind + 1) s.words) (length s.word + (more + 1)) (length (s.word ++ b ∷ [])) s.word
          b (omega (arith, longer, last));
    }))
    (λ z.
    let some : 0 < more = above more (eqb-false more 0 z) in
    inr (record {
      fits = (fits.0, (omega (arith, fits.1.0, longer, some), omega (arith, fits.1.1, longer, some)));
      is = tt;
      text_is = word_grown (front (behind + 1) s.words) (length s.word + (more + 1))
          (length (s.word ++ b ∷ []) + (more - 1 + 1)) s.word b (omega (arith, longer, some));
    }))

cr-step : (behind : ℕ) (s : Parser) (b : ℕ) → fit (WordCr behind) s
    → Goes (grown (WordCr behind) s b) (next_in (WordCr behind) s b) None
cr-step behind s b fits = by_test
    (λ t. Goes (grown (WordCr behind) s b) (record s { phase = cond t (WordLf behind) Dead }) None)
    (eqb b 13)
    (λ e. inr (record {
      fits = fits;
      is = tt;
      text_is = word_grown (front (behind + 1) s.words) (length s.word) (length s.word) s.word b refl
          ∙ ap (λ x. front (behind + 1) s.words ++ (count_line (codes "$") (length s.word) ++ (s.word ++ x ∷ [])))
          (eqb-true b 13 e);
    }))
    (λ e. inl refl)

-- a word more of a command
words_grown : (before : List ℕ) (words : List (List ℕ)) (word : List ℕ) (b : ℕ) → b ≡ 10
    → ((before ++ flat_map bulk words) ++ (count_line (codes "$") (length word) ++ (word ++ 13 ∷ []))) ++ b ∷ []
    ≡ before ++ flat_map bulk (words ++ word ∷ [])
words_grown before words word b e =
    regroup before (flat_map bulk words) (count_line (codes "$") (length word)) word 13 b
    ∙ ap (λ x. before ++ (flat_map bulk words ++ ((count_line (codes "$") (length word) ++ word) ++ 13 ∷ x ∷ []))) e
    ∙ ap (λ t. before ++ t) (ap (λ t. flat_map bulk words ++ t) (sym (append-nil (bulk word)))
    ∙ sym (flat_map-append bulk words (word ∷ [])))
  where
    regroup : (a f c w : List ℕ) (x y : ℕ)
        → ((a ++ f) ++ (c ++ (w ++ x ∷ []))) ++ y ∷ [] ≡ a ++ (f ++ ((c ++ w) ++ x ∷ y ∷ []))
    regroup a f c w x y = simp append_assoc

lf-step : (behind : ℕ) (s : Parser) (b : ℕ) → fit (WordLf behind) s
    → Goes (grown (WordLf behind) s b) (next_in (WordLf behind) s b) (out_in (WordLf behind) s b)
lf-step behind s b fits =
    let words = s.words ++ s.word ∷ [] in
    let longer : length words ≡ length s.words + 1 = length-append s.words (s.word ∷ []) in
    let more : sum_by length words ≡ sum_by length s.words + length s.word =
    sum_by-append length s.words (s.word ∷ [])
    ∙ ap (λ n. sum_by length s.words + n) (sum_by-cons length s.word [] ∙ omega arith) in
    let each = each-append IsWord s.words (s.word ∷ []) fits.0.each (fits.1.1, tt) in
    by_test
    (λ t. Goes (grown (WordLf behind) s b) (cond t (with_word behind s) (record s { phase = Dead }))
    (cond (t && eqb behind 0) (Some (Given words)) None))
    (eqb b 10)
    (λ e. by_test
    (λ t. Goes (grown (WordLf behind) s b)
    (cond t fresh (record { phase = AtDollar (behind - 1); words = words; word = []; room = s.room - length s.word }))
    (cond t (Some (Given words)) None))
    (eqb behind 0)
    (λ z.
    let last : behind ≡ 0 = eqb-true behind 0 z in
    inr (record {
      fits = record { words_are = refl; word_is = refl; room_is = refl };
      is = record {
        some = omega (arith, longer);
        few = omega (arith, longer, fits.0.few, last);
        each = each;
        all = omega (arith, more, fits.0.all, fits.1.0);
      };
      text_is = words_grown (count_line (codes "*") (length s.words + (behind + 1))) s.words s.word b (eqb-true b 10 e)
          ∙ ap (λ n. count_line (codes "*") n ++ flat_map bulk words) (omega (arith, longer, last))
          ∙ sym (append-nil (frame words));
    }))
    (λ z.
    let some : 0 < behind = above behind (eqb-false behind 0 z) in
    inr (record {
      fits = (
        record {
          few = omega (arith, longer, fits.0.few, some);
          each = each;
          all = omega (arith, more, fits.0.all, fits.1.0);
        },
        refl,
      );
      is = tt;
      text_is = words_grown (count_line (codes "*") (length s.words + (behind + 1))) s.words s.word b (eqb-true b 10 e)
          ∙ ap (λ n. count_line (codes "*") n ++ flat_map bulk words) (omega (arith, longer, some));
    })))
    (λ e. inl refl)

step_in : (phase : Phase) (s : Parser) (b : ℕ) → fit phase s
    → Goes (grown phase s b) (next_in phase s b) (out_in phase s b)
step_in AtStar s b fits = star-step s b fits
step_in (InLine line number) s b fits = line-step line number s b fits
step_in (LineEnd ForCount n) s b fits = count_end-step n s b fits
step_in (LineEnd ForNegative n) s b fits = negative_end-step n s b fits
step_in (LineEnd (ForWord behind) n) s b fits = length_end-step behind n s b fits
step_in (AtDollar behind) s b fits = dollar-step behind s b fits
step_in (InWord behind more) s b fits = byte-step behind more s b fits
step_in (WordCr behind) s b fits = cr-step behind s b fits
step_in (WordLf behind) s b fits = lf-step behind s b fits
step_in Dead s b fits = absurd fits

-- a byte breaks the sequence, or what is kept grows by it, or a form ends with it
pub step : (s : Parser) (b : ℕ) → Fits s → Goes (kept s ++ b ∷ []) (next s b) (out s b)
step s b fits = step_in s.phase s b fits
