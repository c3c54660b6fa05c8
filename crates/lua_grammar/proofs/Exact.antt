-- Where a reader of a text gets stuck, the text stops.
use Rattle.std.proofs.Common.{◌≡◌, inl, inr, ℕ, zero, suc, ◌<◌, true, List, [], ◌∷◌, ◌++◌, length, take, ◌-◌, refl, sym}
use Rattle.std.proofs.Common.{ap, ◌∙◌, subst, arith}
use Rattle.std.proofs.lemmas.List.{append_assoc, append-nil, length-append, take_at}
use Rattle.lua_grammar.specs.declared.kinds.SyntaxKind.{SyntaxKind}
use Rattle.lua_grammar.specs.declared.kinds.SyntaxKind.TheVariants as fault
use Rattle.lua_grammar.specs.declared.words.Word.{Word}
use Rattle.lua_grammar.specs.declared.statements.Stat.{Stat}
use Rattle.lua_grammar.specs.Positions.{Position}
use Rattle.lua_grammar.specs.Contexts.{Rules, every_rule, main_text}
use Rattle.lua_grammar.specs.Things as thing
use Rattle.lua_grammar.specs.Grammar as by
use Rattle.lua_grammar.specs.Grammar.{Spelled}
use Rattle.lua_grammar.specs.Trees.{start}
use Rattle.lua_grammar.specs.Stops.{Begins, FaultIs, StopsAt, at_word, at_end, rank, up_to}
use Rattle.lua_grammar.specs.Classes as class
use Rattle.lua_grammar.specs.Classes.{Reads}
use Rattle.lua_grammar.proofs.Continuations.{instead, Shown, Mode, before, with_word, GoesOn}
use Rattle.lua_grammar.proofs.Instead.{swapped, swapped_none}
use Rattle.lua_grammar.proofs.Progress.{Goes}
use Rattle.lua_grammar.proofs.Carry.{relaxed}

-- the line of the next of these words, or that of the end of the text
abbrev pub line_or : ℕ → List Word → ℕ
line_or last_line [] = last_line
line_or last_line (word ∷ words) = word.line

-- no words behind the one at z make a text of those up to it, by the rules up to this kind of fault
abbrev pub IsHopeless : SyntaxKind → List Word → Position → Type 0
IsHopeless f words z = (n : ℕ) (more : List Word) → Shown z n more → (block : List Stat) (j : Position)
    → Spelled (up_to (rank f)) main_text (thing.block block) (instead n more (start words)) j → j.words ≡ [] → ⊥

-- the words before z, or up to it, go on to a text
abbrev pub IsHopeful : SyntaxKind → List Word → Position → Type 0
IsHopeful f words z = (rules : Rules) (n : ℕ) → Mode f z rules n → n < length words
    → GoesOn rules main_text class.block n (start words)

-- ---- lists of words

split_at : (first back more : List Word) → swapped (length back) more (first ++ back) ≡ first ++ more
split_at first back more =
    let there : length (first ++ back) - length back ≡ length first = omega (arith, length-append first back) in
    ap (λ n. take n (first ++ back) ++ more) there ∙ ap (λ l. l ++ more) (take_at first back (length first) refl)

placed : (words first back more : List Word) → words ≡ first ++ back → start (swapped (length back) more words)
    ≡ start (first ++ more)
placed words first back more e = ap start (ap (swapped (length back) more) e ∙ split_at first back more)

one_longer : (words front back rest : List Word) (w : Word) → words ≡ front ++ rest → rest ≡ w ∷ back
    → words ≡ (front ++ w ∷ []) ++ back
one_longer words front back rest w e f = e ∙ ap (λ l. front ++ l) f ∙ sym (append_assoc front (w ∷ []) back)

-- ---- trees of fronts

empty : (rules : Rules) → Begins rules []
empty rules = ([], [], [], record { end = start []; spelled = by.no_statements refl; whole = refl; bodies_are = refl })

-- words that go on to a block begin a text
begins : {rules : Rules} (words first back : List Word) → words ≡ first ++ back
    → GoesOn rules main_text class.block (length back) (start words)
    → Begins rules first
begins {rules} words first back e goes =
    let (more, j, (block, s), whole) = goes [] (λ x. refl) in
    let at_start : start (swapped (length back) (more ++ []) words) ≡ start (first ++ more) =
    placed words first back (more ++ []) e ∙ ap (λ l. start (first ++ l)) (append-nil more) in (
      more,
      block,
      j.bodies,
      record {
        end = j;
        spelled = subst (λ p. Spelled rules main_text (thing.block block) p j) at_start s;
        whole = whole;
        bodies_are = refl;
      },
    )

-- the front of words that are left at z
begins_front : (f : SyntaxKind) (words front : List Word) (z : Position) → words ≡ front ++ z.words
    → IsHopeful f words z → Begins every_rule front
begins_front f words [] z e hope = empty every_rule
begins_front f words (w ∷ front) z e hope =
    begins words (w ∷ front) z.words e (hope every_rule (length z.words) before
    (omega (arith, ap length e, length-append (w ∷ front) z.words)))

begins_no : (f : SyntaxKind) (words first back : List Word) (z : Position) → words ≡ first ++ back
    → length back < length z.words
    → IsHopeless f words z → Begins (up_to (rank f)) first → ⊥
begins_no f words first back z e shown none (more, block, bodies, tree) =
    none (length back) more (inl shown) block tree.end
    (subst (λ p. Spelled (up_to (rank f)) main_text (thing.block block) p tree.end)
    (sym (placed words first back more e)) tree.spelled) tree.whole

pub fewer_rules : {from : Rules} (rules : Rules) → ((f : SyntaxKind) → rules f ≡ true → from f ≡ true)
    → (words : List Word)
    → Begins from words → Begins rules words
fewer_rules rules fewer words (more, block, bodies, tree) = (
  more,
  block,
  bodies,
  record {
    end = tree.end;
    spelled = relaxed {i = start (words ++ more)} {j = tree.end}
        tree.spelled rules fewer;
    whole = tree.whole;
    bodies_are = tree.bodies_are;
  },
)

fault_is : (f : SyntaxKind) (m : ℕ) (words first back : List Word) (z : Position) → rank f ≡ m → words ≡ first ++ back
    → suc (length back) ≡ length z.words → length back < length words → IsHopeless f words z → IsHopeful f words z
    → FaultIs m first
fault_is f zero words first back z e split behind less none hope =
    λ b. begins_no f words first back z split (omega (arith, behind)) none
    (subst (λ n. Begins (up_to n) first) (sym e) b)
fault_is f (suc m) words first back z e split behind less none hope = (
  begins words first back split (hope (up_to m) (length back) (with_word e behind) less),
  λ b. begins_no f words first back z split (omega (arith, behind)) none
      (subst (λ n. Begins (up_to n) first) (sym e) b),
)

-- ---- the stop

pub stops : (f : SyntaxKind) (words : List Word) (z : Position) (last_line : ℕ) → Goes (start words) z
    → IsHopeless f words z
    → IsHopeful f words z → (z.words ≡ [] → f ≡ fault.Unexpected)
    → StopsAt words last_line (line_or last_line z.words) f
stops f words z last_line goes none hope ends = by_rest z.words refl
  where
    by_rest : (rest : List Word) → z.words ≡ rest → StopsAt words last_line (line_or last_line rest) f
    by_rest [] e =
        let first : words ≡ goes.front = goes.split ∙ ap (λ l. goes.front ++ l) e ∙ append-nil goes.front in
        let is : f ≡ fault.Unexpected = ends e in
        rw is (at_end (subst (Begins every_rule) (sym first) (begins_front f words goes.front z goes.split hope))
        (λ block bodies tree. none 0 [] (inr (refl, refl)) block tree.end
        (subst (λ p. Spelled (up_to (rank f)) main_text (thing.block block) p tree.end)
        (ap start (sym (swapped_none words))) (relaxed {i = start words} {j = tree.end} tree.spelled (up_to (rank f))
        (λ g e'. refl))) tree.whole))
    by_rest (w ∷ back) e =
        let split = one_longer words goes.front back z.words w goes.split e in
        let behind : suc (length back) ≡ length z.words = sym (ap length e) in
        let no = begins_no f words (goes.front ++ w ∷ []) back z split (omega (arith, behind)) none in
        at_word goes.front back w f (goes.split ∙ ap (λ l. goes.front ++ l) e)
        (begins_front f words goes.front z goes.split hope)
        (λ b. no (fewer_rules (up_to (rank f)) (λ g e'. refl) (goes.front ++ w ∷ []) b))
        (fault_is f (rank f) words (goes.front ++ w ∷ []) back z refl split behind
        (omega (arith, behind, ap length goes.split, length-append goes.front z.words)) none hope)
