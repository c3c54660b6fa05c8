-- A text has one bad place, and its byte has one kind.
use Rattle.std.proofs.Common.{◌≡◌, ℕ, zero, suc, ◌+◌, ◌-◌, ◌*◌, ◌<◌, ◌≤◌, ◌⊎◌, inl, inr, Bool, true, false, ◌&&◌}
use Rattle.std.proofs.Common.{cond, eqb, leb, Option, Some, None, List, [], ◌∷◌, ◌++◌, length, take, refl, sym, ap}
use Rattle.std.proofs.Common.{subst, ◌∙◌, arith, append_assoc}
use Rattle.std.specs.Prelude.{codes}
use Rattle.std.specs.List.{AllByRecursion, sum_by}
use Rattle.std.proofs.lemmas.Bool.{cond-true, cond-false, ne_eqb, cases_lt}
use Rattle.resp_read.specs.declared.command.TheConstants.{MAX_COMMAND_BYTES}
use Rattle.resp_read.specs.declared.phase.Line.{Line}
use Rattle.resp_read.specs.declared.phase.Line.TheVariants.{ForCount, ForNegative, ForWord}
use Rattle.resp_read.specs.declared.phase.Phase.{Phase}
use Rattle.resp_read.specs.declared.phase.Phase.TheVariants.{AtStar, InLine, LineEnd, AtDollar, InWord, WordCr}
use Rattle.resp_read.specs.declared.phase.Phase.TheVariants.{WordLf, Dead}
use Rattle.resp_read.specs.declared.parser.Parser.{Parser}
use Rattle.resp_read.specs.declared.stops.BadFrame.{BadFrame}
use Rattle.resp_read.specs.declared.stops.BadFrame.TheVariants.{NoStar, Count, NoDollar, Length, NoEnd}
use Rattle.resp_read.specs.Frames.{count_line, sequence_text, Form, EmptyArray, NegativeArray, IsNoLf, IsDue, IsBad}
use Rattle.resp_read.specs.Frames.{IsBadPlace, LongestSequence, Begins}
use Rattle.resp_read.specs.Automaton.{limit, with_digit, phase_after, fresh, next, next_in, out, out_in, line_ended}
use Rattle.resp_read.specs.Automaton.{with_form, kept, is_dead, kind_in, line_kind}
use Rattle.resp_read.specs.Reading.{Broken, read_from}
use Rattle.resp_read.proofs.Cases.{by_test}
use Rattle.resp_read.proofs.Sequences.{state_of, read-front, read-word_bytes}
use Rattle.resp_read.proofs.Continuations.{one-sequence, Begins-front}

-- in a line of which a bad byte has this kind
abbrev InLineOf : BadFrame → Phase → Type 0
InLineOf kind (InLine line number) = line_kind line ≡ kind
InLineOf kind (LineEnd line n) = line_kind line ≡ kind
InLineOf kind phase = ⊥

abbrev Stays : BadFrame → Phase → Type 0
Stays kind phase = (is_dead phase ≡ true) ⊎ InLineOf kind phase

stays-digit : (kind : BadFrame) (r : ℕ) (line : Line) (n b : ℕ) → line_kind line ≡ kind
    → Stays kind (with_digit r line n b)
stays-digit kind r line n b is = by_test
    (λ t. Stays kind (cond t (InLine line (Some (n * 10 + (b - 48)))) Dead))
    ((leb 48 b && leb b 57) && leb (n * 10 + (b - 48)) (limit r line))
    (λ e. inr is)
    (λ e. inl refl)

stays : (kind : BadFrame) (r : ℕ) (line : Line) (number : Option ℕ) (b : ℕ) → line_kind line ≡ kind
    → Stays kind (phase_after r (InLine line number) b)
stays kind r ForCount None b is = by_test
    (λ t. Stays kind (cond t (InLine ForNegative None) (with_digit r ForCount 0 b)))
    (eqb b 45)
    (λ e. inr is)
    (λ e. stays-digit kind r ForCount 0 b is)
stays kind r ForNegative None b is = by_test
    (λ t. Stays kind (cond t Dead (with_digit r ForNegative 0 b)))
    (eqb b 48)
    (λ e. inl refl)
    (λ e. stays-digit kind r ForNegative 0 b is)
stays kind r (ForWord behind) None b is = stays-digit kind r (ForWord behind) 0 b is
stays kind r line (Some n) b is = by_test
    (λ t. Stays kind (cond t (LineEnd line n) (cond (eqb n 0) Dead (with_digit r line n b))))
    (eqb b 13)
    (λ e. inr is)
    (λ e. by_test
    (λ t. Stays kind (cond t Dead (with_digit r line n b)))
    (eqb n 0)
    (λ z. inl refl)
    (λ z. stays-digit kind r line n b is))

-- the text breaks with this kind, behind these forms
abbrev BreaksOf : BadFrame → Parser → List Form → List ℕ → Type 0
BreaksOf kind s forms text = (place : ℕ) × (read_from s forms text ≡ Broken forms place kind)

breaks-at : (kind : BadFrame) (s : Parser) (b : ℕ) (forms : List Form) (rest : List ℕ) → is_dead (next s b).phase ≡ true
    → kind_in s.phase ≡ kind → BreaksOf kind s forms (b ∷ rest)
breaks-at kind s b forms rest gone is =
    let place = length (sequence_text forms) + length (kept s) in (
      place,
      cond-true (is_dead (next s b).phase) (Broken forms place (kind_in s.phase))
          (read_from (next s b) (with_form forms (out s b)) rest) gone ∙ ap (Broken forms place) is,
    )

-- a byte of a line, other than its LF
record LineStep (kind : BadFrame) (phase : Phase) (s : Parser) (b : ℕ) : Type 0 where
  after : Phase
  next_is : next_in phase s b ≡ record s { phase = after }
  out_is : out_in phase s b ≡ None
  kind_is : kind_in phase ≡ kind
  goes : Stays kind after

line-step : (kind : BadFrame) (phase : Phase) (s : Parser) (b : ℕ) → InLineOf kind phase → (b ≡ 10 → ⊥)
    → LineStep kind phase s b
line-step kind (InLine line number) s b is other =
    record {
      after = phase_after s.room (InLine line number) b;
      next_is = refl;
      out_is = refl;
      kind_is = is;
      goes = stays kind s.room line number b is;
    }
line-step kind (LineEnd ForCount n) s b is other =
    let e = ne_eqb b 10 other in
    record {
      after = Dead;
      next_is = ap (λ (t : Bool). record s { phase = cond t (line_ended ForCount n) Dead }) e;
      out_is = ap (λ (t : Bool). cond (t && eqb n 0) (Some EmptyArray) None) e;
      kind_is = is;
      goes = inl refl;
    }
line-step kind (LineEnd ForNegative n) s b is other =
    let e = ne_eqb b 10 other in
    record {
      after = Dead;
      next_is = ap (λ (t : Bool). record s { phase = cond t (line_ended ForNegative n) Dead }) e;
      out_is = ap (λ (t : Bool). cond t (Some (NegativeArray n)) None) e;
      kind_is = is;
      goes = inl refl;
    }
line-step kind (LineEnd (ForWord behind) n) s b is other =
    let e = ne_eqb b 10 other in
    record {
      after = Dead;
      next_is = ap (λ (t : Bool). record s { phase = cond t (line_ended (ForWord behind) n) Dead }) e;
      out_is = refl;
      kind_is = is;
      goes = inl refl;
    }
line-step kind AtStar s b is other = absurd is
line-step kind (AtDollar behind) s b is other = absurd is
line-step kind (InWord behind more) s b is other = absurd is
line-step kind (WordCr behind) s b is other = absurd is
line-step kind (WordLf behind) s b is other = absurd is
line-step kind Dead s b is other = absurd is

line-live : (kind : BadFrame) (phase : Phase) → InLineOf kind phase → is_dead phase ≡ false
line-live kind (InLine line number) is = refl
line-live kind (LineEnd line n) is = refl
line-live kind AtStar is = absurd is
line-live kind (AtDollar behind) is = absurd is
line-live kind (InWord behind more) is = absurd is
line-live kind (WordCr behind) is = absurd is
line-live kind (WordLf behind) is = absurd is
line-live kind Dead is = absurd is

-- the byte 0 stands in no line
zero-breaks : (kind : BadFrame) (phase : Phase) (ws : List (List ℕ)) (w : List ℕ) (r : ℕ) (forms : List Form)
    → InLineOf kind phase → BreaksOf kind (state_of phase ws w r) forms (0 ∷ [])
zero-breaks kind (InLine ForCount None) ws w r forms is =
    breaks-at kind (state_of (InLine ForCount None) ws w r) 0 forms [] refl is
zero-breaks kind (InLine ForNegative None) ws w r forms is =
    breaks-at kind (state_of (InLine ForNegative None) ws w r) 0 forms [] refl is
zero-breaks kind (InLine (ForWord behind) None) ws w r forms is =
    breaks-at kind (state_of (InLine (ForWord behind) None) ws w r) 0 forms [] refl is
zero-breaks kind (InLine line (Some n)) ws w r forms is =
    breaks-at kind (state_of (InLine line (Some n)) ws w r) 0 forms []
    (by_test (λ t. is_dead (cond t Dead (with_digit r line n 0)) ≡ true) (eqb n 0) (λ e. refl) (λ e. refl)) is
zero-breaks kind (LineEnd line n) ws w r forms is = breaks-at kind (state_of (LineEnd line n) ws w r) 0 forms [] refl is
zero-breaks kind AtStar ws w r forms is = absurd is
zero-breaks kind (AtDollar behind) ws w r forms is = absurd is
zero-breaks kind (InWord behind more) ws w r forms is = absurd is
zero-breaks kind (WordCr behind) ws w r forms is = absurd is
zero-breaks kind (WordLf behind) ws w r forms is = absurd is
zero-breaks kind Dead ws w r forms is = absurd is

-- a line that is not at its end breaks in that line, whatever its bytes are
line-breaks : (kind : BadFrame) (phase : Phase) (ws : List (List ℕ)) (w : List ℕ) (r : ℕ) (forms : List Form)
    (line : List ℕ) → InLineOf kind phase → AllByRecursion IsNoLf line
    → BreaksOf kind (state_of phase ws w r) forms (line ++ 0 ∷ [])
line-breaks kind phase ws w r forms [] is no_lf = zero-breaks kind phase ws w r forms is
line-breaks kind phase ws w r forms (b ∷ line) is no_lf =
    let moves = line-step kind phase (state_of phase ws w r) b is no_lf.0 in
    let place = length (sequence_text forms) + length (kept (state_of phase ws w r)) in
    let broken = Broken forms place (kind_in phase) in
    let read_at =
    λ (n : Parser) (o : Option Form). cond (is_dead n.phase) broken
    (read_from n (with_form forms o) (line ++ 0 ∷ [])) in
    let read : read_from (state_of phase ws w r) forms ((b ∷ line) ++ 0 ∷ [])
    ≡ cond (is_dead moves.after) broken (read_from (state_of moves.after ws w r) forms (line ++ 0 ∷ [])) =
    ap (λ (n : Parser). read_at n (out_in phase (state_of phase ws w r) b)) moves.next_is
    ∙ ap (read_at (state_of moves.after ws w r)) moves.out_is in
    by_stay moves.after place moves.kind_is read (λ here. line-breaks kind moves.after ws w r forms line here no_lf.1)
    moves.goes
  where
    by_stay : (after : Phase) (place : ℕ) → kind_in phase ≡ kind
        → read_from (state_of phase ws w r) forms ((b ∷ line) ++ 0 ∷ [])
        ≡ cond (is_dead after) (Broken forms place (kind_in phase))
        (read_from (state_of after ws w r) forms (line ++ 0 ∷ []))
        → (InLineOf kind after → BreaksOf kind (state_of after ws w r) forms (line ++ 0 ∷ []))
        → Stays kind after → BreaksOf kind (state_of phase ws w r) forms ((b ∷ line) ++ 0 ∷ [])
    by_stay after place kind_is read later (inl gone) = (
      place,
      read ∙ cond-true (is_dead after) (Broken forms place (kind_in phase))
          (read_from (state_of after ws w r) forms (line ++ 0 ∷ [])) gone ∙ ap (Broken forms place) kind_is,
    )
    by_stay after place kind_is read later (inr here) =
        let breaks = later here in (
          breaks.0,
          read ∙ cond-false (is_dead after) (Broken forms place (kind_in phase))
              (read_from (state_of after ws w r) forms (line ++ 0 ∷ [])) (line-live kind after here) ∙ breaks.1,
        )

end-breaks : (left : ℕ) (words : List (List ℕ)) (word : List ℕ) (room : ℕ) (cr : List ℕ) → (cr ≡ []) ⊎ (cr ≡ 13 ∷ [])
    → BreaksOf NoEnd (state_of (WordCr left) words word room) [] (cr ++ 0 ∷ [])
end-breaks left words word room cr (inl none) =
    subst (λ e. BreaksOf NoEnd (state_of (WordCr left) words word room) [] (e ++ 0 ∷ [])) (sym none)
    (breaks-at NoEnd (state_of (WordCr left) words word room) 0 [] [] refl refl)
end-breaks left words word room cr (inr one) =
    subst (λ e. BreaksOf NoEnd (state_of (WordCr left) words word room) [] (e ++ 0 ∷ [])) (sym one)
    (breaks-at NoEnd (state_of (WordLf left) words word room) 0 [] [] refl refl)

-- what is due of a kind breaks with that kind at the byte 0
due-breaks : (kind : BadFrame) (rest : List ℕ) → IsDue kind rest → BreaksOf kind fresh [] (rest ++ 0 ∷ [])
due-breaks NoStar rest due =
    subst (λ t. BreaksOf NoStar fresh [] (t ++ 0 ∷ [])) (sym due) (breaks-at NoStar fresh 0 [] [] refl refl)
due-breaks Count rest due =
    subst (λ t. BreaksOf Count fresh [] (t ++ 0 ∷ [])) (sym due.rest_is)
    (line-breaks Count (InLine ForCount None) [] [] MAX_COMMAND_BYTES [] due.line refl due.open_line)
due-breaks NoDollar rest due =
    let at = breaks-at NoDollar (state_of (AtDollar (due.count - length due.words - 1)) due.words []
    (MAX_COMMAND_BYTES - sum_by length due.words)) 0 [] [] refl refl in
    (at.0, read-front rest due.count due.words [] (0 ∷ []) due.front ∙ at.1)
due-breaks Length rest due =
    let words = due.at_word.words in
    let left = due.at_word.count - length words - 1 in
    let at = line-breaks Length (InLine (ForWord left) None) words [] (MAX_COMMAND_BYTES - sum_by length words) []
    due.line refl due.open_line in (
      at.0,
      ap (λ t. read_from fresh [] (t ++ 0 ∷ [])) due.rest_is
          ∙ ap (read_from fresh []) (regroup due.before due.line)
          ∙ read-front due.before due.at_word.count words [] (36 ∷ (due.line ++ 0 ∷ [])) due.at_word.front
          ∙ at.1,
    )
  where
    regroup : (a c : List ℕ) → ((a ++ codes "$") ++ c) ++ 0 ∷ [] ≡ a ++ 36 ∷ (c ++ 0 ∷ [])
    regroup a c = simp append_assoc
due-breaks NoEnd rest due =
    let words = due.at_word.words in
    let fits = due.fits in
    let left = due.at_word.count - length words - 1 in
    let room = MAX_COMMAND_BYTES - sum_by length words in
    let at = end-breaks left words due.word room due.cr due.cr_is in (
      at.0,
      ap (λ t. read_from fresh [] (t ++ 0 ∷ [])) due.rest_is
          ∙ ap (read_from fresh [])
          (regroup due.before (count_line (codes "$") (length due.word)) due.word due.cr (0 ∷ []))
          ∙ read-front due.before due.at_word.count words []
          (count_line (codes "$") (length due.word) ++ (due.word ++ (due.cr ++ 0 ∷ []))) due.at_word.front
          ∙ read-word_bytes left words room due.word [] (due.cr ++ 0 ∷ []) due.short (omega arith)
          ∙ at.1,
    )
  where
    regroup : (a c d e f : List ℕ) → (a ++ (c ++ (d ++ e))) ++ f ≡ a ++ (c ++ (d ++ (e ++ f)))
    regroup a c d e f = simp append_assoc

pub one-kind : (kind what : BadFrame) (rest : List ℕ) → IsDue kind rest → IsDue what rest → kind ≡ what
one-kind kind what rest due other =
    let a = due-breaks kind rest due in
    let b = due-breaks what rest other in
    let same : Broken [] a.0 kind ≡ Broken [] b.0 what = sym a.1 ∙ b.1 in
    cc

pub take-front : (n m : ℕ) (xs : List ℕ) → n ≤ m → (more : List ℕ) × (take m xs ≡ take n xs ++ more)
take-front zero m xs less = (take m xs, refl)
take-front (suc n) zero xs less = absurd (omega arith)
take-front (suc n) (suc m) [] less = ([], refl)
take-front (suc n) (suc m) (x ∷ xs) less = let later = take-front n m xs (omega arith) in
    (later.0, ap (λ t. x ∷ t) later.1)

-- a text that goes on to a sequence up to a place does so up to each earlier one
take-begins : (text : List ℕ) (n m : ℕ) → n ≤ m → Begins (take m text) → Begins (take n text)
take-begins text n m less begins = let front = take-front n m text less in
    Begins-front (take n text) front.0 (subst Begins front.1 begins)

one-place : (text : List ℕ) (place at : ℕ) → IsBadPlace text place → IsBadPlace text at → place ≤ at
one-place text place at a b = by_order (cases_lt at place)
  where
    by_order : (at < place) ⊎ (place ≤ at) → place ≤ at
    by_order (inl less) = absurd (b.bad (take-begins text (at + 1) place (omega arith) a.good))
    by_order (inr more) = more

pub one-bad_place : (text : List ℕ) (place at : ℕ) → IsBadPlace text place → IsBadPlace text at → place ≡ at
one-bad_place text place at a b = let low = one-place text place at a b in let high = one-place text at place b a in
    omega arith

-- and one bad byte, of one kind
pub one-bad : (text : List ℕ) (place at : ℕ) (kind what : BadFrame) → IsBad text place kind → IsBad text at what
    → (place ≡ at) × (kind ≡ what)
one-bad text place at kind what a b =
    let here = one-bad_place text place at a.at b.at in
    let sequence = subst (λ n. LongestSequence (take n text) b.forms b.rest) (sym here) b.sequence in
    let same = one-sequence (take place text) a.forms b.forms a.rest b.rest a.sequence sequence in
    (here, one-kind kind what a.rest a.due (subst (IsDue what) (sym same.1) b.due))
