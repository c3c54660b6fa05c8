-- The laws of a reading.
use Rattle.std.proofs.Common.{◌≡◌, ℕ, ◌+◌, Bool, true, false, cond, List, [], ◌∷◌, ◌++◌, length, map, take, refl, sym}
use Rattle.std.proofs.Common.{ap, subst, ◌∙◌, arith, append-nil}
use Rattle.std.proofs.Math.Seq.{take-length}
use Rattle.resp_read.specs.declared.command.Command.{Command}
use Rattle.resp_read.specs.Frames.{Form, Given, EmptyArray, NegativeArray, form_text, frame, Begins, LongestSequence}
use Rattle.resp_read.specs.Frames.{IsBadPlace, commands_in, commands_from}
use Rattle.resp_read.specs.declared.parser.Parser.{Parser}
use Rattle.resp_read.specs.declared.stops.BadFrame.{BadFrame}
use Rattle.resp_read.specs.Automaton.{fresh, next, out, with_form, is_dead}
use Rattle.resp_read.specs.Reading.{Reading, Unfinished, Broken, reading, read_from, behind_forms, going_on}
use Rattle.resp_read.specs.Reading.{IsReadingOf}
use Rattle.resp_read.proofs.ReachedStates.{Reads-begins}
use Rattle.resp_read.proofs.Meaning.{Means, reading-means, Reads-longest, Breaks-sequence}
use Rattle.resp_read.proofs.BadBytes.{Breaks-bad}
use Rattle.resp_read.proofs.Continuations.{reading-continues, Reads-alone, Begins-front}
use Rattle.resp_read.proofs.OneKind.{take-front}

pub reading-is : (text : List ℕ) → IsReadingOf text (reading text)
reading-is text = by_reading (reading text) (reading-means text)
  where
    by_reading : (r : Reading) → Means text r → IsReadingOf text r
    by_reading (Unfinished forms left) means = (
      subst (LongestSequence text forms) (sym means.2) (Reads-longest text means.0 forms means.1),
      Reads-begins text means.0 forms means.1,
    )
    by_reading (Broken forms place kind) means =
        (Breaks-bad text forms place kind means, Breaks-sequence text forms place kind means)

pub goes-on : (text piece : List ℕ) (forms : List Form) (left : List ℕ) → reading text ≡ Unfinished forms left
    → reading (text ++ piece) ≡ behind_forms forms (reading (left ++ piece))
goes-on text piece forms left e =
    let means = subst (Means text) e (reading-means text) in
    reading-continues text means.0 forms piece means.1
    ∙ ap (λ t. behind_forms forms (reading (t ++ piece))) (sym means.2)

pub nothing-reads : reading [] ≡ Unfinished [] []
unfolding reading
nothing-reads = refl

by_test : (t : Bool) (x y : Reading) (r : Reading) → ((t ≡ true → x ≡ r) × (t ≡ false → y ≡ r)) → cond t x y ≡ r
by_test true x y r both = both.0 refl
by_test false x y r both = both.1 refl

-- once a byte is bad, what follows changes nothing
stays-broken : (s : Parser) (before : List Form) (text more : List ℕ) (forms : List Form) (place : ℕ) (kind : BadFrame)
    → read_from s before text ≡ Broken forms place kind
    → read_from s before (text ++ more) ≡ Broken forms place kind
stays-broken s before [] more forms place kind e = absurd (cc)
stays-broken s before (b ∷ text) more forms place kind e =
    by_test (is_dead (next s b).phase) _ _ _ (
      (λ dead. rw dead at e),
      (λ alive. let rest : read_from (next s b) (with_form before (out s b)) text ≡ Broken forms place kind =
          rw alive at e in stays-broken (next s b) (with_form before (out s b)) text more forms place kind rest),
    )

pub goes-on-always : (text more : List ℕ) → reading (text ++ more) ≡ going_on (reading text) more
unfolding reading
goes-on-always text more = by_reading (reading text) refl
  where
    by_reading : (r : Reading) → reading text ≡ r → reading (text ++ more) ≡ going_on r more
    by_reading (Unfinished forms left) e = goes-on text more forms left e
    by_reading (Broken forms place kind) e = stays-broken fresh [] text more forms place kind e

pub left-reads : (text : List ℕ) (forms : List Form) (left : List ℕ) → reading text ≡ Unfinished forms left
    → reading left ≡ Unfinished [] left
unfolding reading
left-reads text forms left e =
    let means = subst (Means text) e (reading-means text) in
    let alone = Reads-alone text means.0 forms means.1 in
    ap (read_from _ []) (means.2 ∙ sym (append-nil _)) ∙ alone.run [] ∙ ap (Unfinished []) (sym means.2)

pub not-both : (text : List ℕ) (place : ℕ) → Begins text → IsBadPlace text place → ⊥
not-both text place begins bad =
    let within = bad.within in
    let front = take-front (place + 1) (length text) text (omega arith) in
    bad.bad (Begins-front (take (place + 1) text) front.0 (subst Begins (sym (take-length text) ∙ front.1) begins))

pub words-given : (at : ℕ) (forms : List Form)
    → map (λ (c : Command). c.words) (commands_from at forms) ≡ commands_in forms
words-given at [] = refl
words-given at (Given words ∷ forms) = ap (λ ws. words ∷ ws) (words-given (at + length (frame words)) forms)
words-given at (EmptyArray ∷ forms) = words-given (at + length (form_text EmptyArray)) forms
words-given at (NegativeArray n ∷ forms) = words-given (at + length (form_text (NegativeArray n))) forms
