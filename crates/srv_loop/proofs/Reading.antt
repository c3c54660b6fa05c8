-- A session that is read line by line.
use Rattle.std.proofs.Common.{◌≡◌, ℕ, ◌+◌, ◌<◌, ◌≤◌, List, [], ◌∷◌, ◌++◌, length, refl, sym, ap, subst, ◌∙◌, arith}
use Rattle.std.proofs.Common.{append_assoc, append-nil, length-append}
use Rattle.std.specs.List.{AllByRecursion}
use Rattle.std.proofs.lemmas.Grind.{flat_map-append}
use Rattle.rs_outside.specs.declared.turn.Turn.{Turn}
use Rattle.srv_loop.specs.Session.{IsTurn, IsSession, IsBadLine, turn_line, head_text, what_text, session_text}

-- no session line stands at the front
abbrev pub BeginsNone : List ℕ → Type 0
BeginsNone text = (turn : Turn) (more : List ℕ) → IsTurn turn → text ≡ turn_line turn ++ more → ⊥

-- the lines before this one are these turns', and what is left is all that the other lines of any reading make
pub record IsRead (text rest : List ℕ) (before : List Turn) (line : ℕ) : Type 0 where
  each : AllByRecursion IsTurn before
  text_is : text ≡ session_text before ++ rest
  line_is : line ≡ length before + 1
  pub short : line + length rest ≤ length text + 1
  only : (all : List Turn) (tail : List ℕ) → AllByRecursion IsTurn all → BeginsNone tail
      → text ≡ session_text all ++ tail
      → (left : List Turn) × AllByRecursion IsTurn left × (all ≡ before ++ left) × (rest ≡ session_text left ++ tail)

pub IsRead-start : (text : List ℕ) → IsRead text text [] 1
IsRead-start text = record {
  each = tt;
  text_is = refl;
  line_is = refl;
  short = omega arith;
  only = λ all tail each none e. (all, each, refl, e);
}

line_long : (front back : List ℕ) (b : ℕ) → 0 < length (front ++ b ∷ back)
line_long front back b = omega (arith, length-append front (b ∷ back))

some_bytes : (turn : Turn) → 0 < length (turn_line turn)
some_bytes turn = line_long (head_text turn.clock turn.word turn.client ++ what_text turn.what) [] 10

one_more : (before : List Turn) (turn : Turn) → AllByRecursion IsTurn before → IsTurn turn
    → AllByRecursion IsTurn (before ++ turn ∷ [])
one_more [] turn each is = (is, tt)
one_more (first ∷ before) turn each is = (each.0, one_more before turn each.1 is)

pushed : (before : List Turn) (turn : Turn) (more : List ℕ)
    → session_text before ++ (turn_line turn ++ more) ≡ session_text (before ++ turn ∷ []) ++ more
pushed before turn more =
    sym (append_assoc (session_text before) (turn_line turn) more)
    ∙ ap (λ t. t ++ more) (ap (λ t. session_text before ++ t) (sym (append-nil (turn_line turn)))
    ∙ sym (flat_map-append turn_line before (turn ∷ [])))

-- one line more
pub IsRead-more : (text rest more : List ℕ) (before : List Turn) (line : ℕ) (turn : Turn)
    → IsRead text rest before line → IsTurn turn → rest ≡ turn_line turn ++ more
    → ((other : Turn) (after : List ℕ) → IsTurn other → rest ≡ turn_line other ++ after → (turn ≡ other)
    × (more ≡ after)) → IsRead text more (before ++ turn ∷ []) (line + 1)
IsRead-more text rest more before line turn h is rest_is alone =
    let some = some_bytes turn in
    let long = ap length rest_is in
    let count_line = h.line_is in
    let below = h.short in
    record {
      each = one_more before turn h.each is;
      text_is = h.text_is ∙ ap (λ t. session_text before ++ t) rest_is ∙ pushed before turn more;
      line_is = omega (arith, length-append before (turn ∷ []));
      short = omega (arith, length-append (turn_line turn) more);
      only = λ all tail each none e. let left = h.only all tail each none e in
          taken all tail none left.0 left.1 left.2 left.3;
    }
  where
    taken : (all : List Turn) (tail : List ℕ) → BeginsNone tail → (left : List Turn) → AllByRecursion IsTurn left
        → all ≡ before ++ left → rest ≡ session_text left ++ tail
        → (others : List Turn) × AllByRecursion IsTurn others × (all ≡ (before ++ turn ∷ []) ++ others)
        × (more ≡ session_text others ++ tail)
    taken all tail none [] each all_is e = absurd (none turn more is (sym e ∙ rest_is))
    taken all tail none (other ∷ others) each all_is e =
        let same = alone other (session_text others ++ tail) each.0 (e
        ∙ append_assoc (turn_line other) (session_text others) tail) in (
          others,
          each.1,
          all_is ∙ ap (λ a. before ++ a ∷ others) (sym same.0)
              ∙ sym (append_assoc before (turn ∷ []) others),
          same.1,
        )

-- where no line begins, no other reading goes on
left_none : (rest tail : List ℕ) (left : List Turn) → BeginsNone rest → AllByRecursion IsTurn left
    → rest ≡ session_text left ++ tail → left ≡ []
left_none rest tail [] none each e = refl
left_none rest tail (other ∷ others) none each e =
    absurd (none other (session_text others ++ tail) each.0 (e
    ∙ append_assoc (turn_line other) (session_text others) tail))

empty_begins : BeginsNone []
empty_begins turn more is e = let some = some_bytes turn in let long = ap length e in
    omega (arith, length-append (turn_line turn) more)

pub IsRead-bad : (text rest : List ℕ) (before : List Turn) (line : ℕ) → IsRead text rest before line → 0 < length rest
    → BeginsNone rest → IsBadLine text line
IsRead-bad text rest before line h some none =
    record {
      before = before;
      each = h.each;
      rest = rest;
      text_is = h.text_is;
      some = some;
      bad = none;
      line_is = h.line_is;
    }

-- a text whose first bad line was found has no other, and is no session
pub IsRead-same_line : (text rest : List ℕ) (before : List Turn) (line : ℕ) → IsRead text rest before line
    → BeginsNone rest → (other : ℕ) → IsBadLine text other → line ≡ other
IsRead-same_line text rest before line h none other bad =
    let left = h.only bad.before bad.rest bad.each bad.bad bad.text_is in
    let ended = left_none rest bad.rest left.0 none left.1 left.3 in
    let same : bad.before ≡ before = left.2 ∙ ap (λ t. before ++ t) ended ∙ append-nil before in
    h.line_is ∙ ap (λ t. length t + 1) (sym same) ∙ sym bad.line_is

pub IsRead-no_session : (text rest : List ℕ) (before : List Turn) (line : ℕ) → IsRead text rest before line
    → 0 < length rest → BeginsNone rest → (turns : List Turn) → IsSession text turns → ⊥
IsRead-no_session text rest before line h some none turns is =
    let left = h.only turns [] is.each empty_begins (is.text_is ∙ sym (append-nil (session_text turns))) in
    let ended = left_none rest [] left.0 none left.1 left.3 in
    let empty : rest ≡ [] = left.3 ∙ ap (λ t. session_text t ++ []) ended in
    let long = ap length empty in omega arith

-- a text that was read to its end is a session, and has no bad line
pub IsRead-session : (text rest : List ℕ) (before : List Turn) (line : ℕ) → IsRead text rest before line → rest ≡ []
    → IsSession text before
IsRead-session text rest before line h end =
    record {
      each = h.each;
      text_is = h.text_is ∙ ap (λ t. session_text before ++ t) end
          ∙ append-nil (session_text before);
    }

-- no other turns make it
pub IsRead-only : (text rest : List ℕ) (before : List Turn) (line : ℕ) → IsRead text rest before line → rest ≡ []
    → (turns : List Turn) → IsSession text turns → before ≡ turns
IsRead-only text rest before line h end turns is =
    let left = h.only turns [] is.each empty_begins (is.text_is ∙ sym (append-nil (session_text turns))) in
    let ended = left_none rest [] left.0 (subst BeginsNone (sym end) empty_begins) left.1 left.3 in
    sym (left.2 ∙ ap (λ t. before ++ t) ended ∙ append-nil before)

pub IsRead-no_bad : (text rest : List ℕ) (before : List Turn) (line : ℕ) → IsRead text rest before line → rest ≡ []
    → (other : ℕ) → IsBadLine text other → ⊥
IsRead-no_bad text rest before line h end other bad =
    let left = h.only bad.before bad.rest bad.each bad.bad bad.text_is in
    let some = bad.some in
    let long = ap length (sym end ∙ left.3) in
    omega (arith, length-append (session_text left.0) bad.rest)
