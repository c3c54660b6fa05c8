-- Words stop on one line, and with one fault, at most; and nowhere if they have a tree.
use Rattle.std.proofs.Common.{◌≡◌, ◌⊎◌, inl, inr, ℕ, zero, suc, ◌<◌, ◌≤◌, true, List, [], ◌∷◌, ◌++◌, length, take}
use Rattle.std.proofs.Common.{get_or, refl, sym, ap, ap₂, ◌∙◌, subst, arith}
use Rattle.std.proofs.lemmas.List.{append_assoc, append-nil, append_cancel_left, length-append, take_at}
use Rattle.std.proofs.lemmas.Bool.{le-leb, leb-true, cases_lt}
use Rattle.lua_grammar.specs.declared.kinds.SyntaxKind.{SyntaxKind}
use Rattle.lua_grammar.specs.declared.kinds.SyntaxKind.TheVariants as fault
use Rattle.lua_grammar.specs.declared.words.Word.{Word}
use Rattle.lua_grammar.specs.declared.statements.Stat.{Stat}
use Rattle.lua_grammar.specs.declared.statements.Body.{Body}
use Rattle.lua_grammar.specs.Contexts.{Rules, every_rule}
use Rattle.lua_grammar.specs.Trees.{IsTree}
use Rattle.lua_grammar.specs.Stops.{Begins, FaultIs, StopsAt, at_word, at_end, rank, up_to}
use Rattle.lua_grammar.proofs.Exact.{fewer_rules}

-- ---- one kind of fault

abbrev ranked : ℕ → SyntaxKind
ranked n = get_or (fault.Unexpected ∷ fault.Ambiguous ∷ fault.TooDeep ∷ fault.TooLong ∷ fault.NoLoop ∷ fault.NoVararg
    ∷ []) n fault.Unexpected

rank_names : (f : SyntaxKind) → ranked (rank f) ≡ f
rank_names fault.Unexpected = refl
rank_names fault.Ambiguous = refl
rank_names fault.TooDeep = refl
rank_names fault.TooLong = refl
rank_names fault.NoLoop = refl
rank_names fault.NoVararg = refl

same_rank : (f g : SyntaxKind) → rank f ≡ rank g → f ≡ g
same_rank f g e = sym (rank_names f) ∙ ap ranked e ∙ rank_names g

up_to_fewer : (m n : ℕ) → m ≤ n → (f : SyntaxKind) → up_to m f ≡ true → up_to n f ≡ true
up_to_fewer m n less f e = le-leb (rank f) n (omega (arith, less, leb-true (rank f) m e))

none_by : (n : ℕ) (words : List Word) → FaultIs n words → Begins (up_to n) words → ⊥
none_by zero words none b = none b
none_by (suc n) words is b = is.1 b

-- words that begin a text do so when fewer kinds of fault are looked for
at_most : (m n : ℕ) (words : List Word) → FaultIs m words → FaultIs n words → n ≤ m
at_most m zero words is is' = omega arith
at_most m (suc n) words is is' = by_order (cases_lt n m)
  where
    by_order : (n < m) ⊎ (m ≤ n) → suc n ≤ m
    by_order (inl less) = omega (arith, less)
    by_order (inr more) = absurd (none_by m words is (fewer_rules (up_to m) (up_to_fewer m n more) words is'.0))

one_fault : (f g : SyntaxKind) (words : List Word) → FaultIs (rank f) words → FaultIs (rank g) words → f ≡ g
one_fault f g words is is' =
    same_rank f g (omega (arith, at_most (rank f) (rank g) words is is', at_most (rank g) (rank f) words is' is))

-- ---- one place

front_begins : (rules : Rules) (front back : List Word) → Begins rules (front ++ back) → Begins rules front
front_begins rules front back (more, block, bodies, tree) =
    (back ++ more, block, bodies, subst (λ ws. IsTree rules ws block bodies) (append_assoc front back more) tree)

shorter : (front back front' back' : List Word) → front ++ back ≡ front' ++ back' → length front ≤ length front'
    → (more : List Word) × (front' ≡ front ++ more)
shorter [] back front' back' e less = (front', refl)
shorter (w ∷ front) back [] back' e less = absurd (omega (arith, less))
shorter (w ∷ front) back (w' ∷ front') back' e less =
    let words : w ≡ w' = cc in
    let rest : front ++ back ≡ front' ++ back' = cc in
    let (more, same) = shorter front back front' back' rest (omega (arith, less)) in
    (more, ap₂ (λ (word : Word) (l : List Word). word ∷ l) (sym words) same)

-- what begins a text is not longer than what stands before a word with which nothing begins one
no_longer : (front back first rest : List Word) (w : Word) → front ++ w ∷ back ≡ first ++ rest
    → (Begins every_rule (front ++ w ∷ []) → ⊥)
    → Begins every_rule first → length first ≤ length front
no_longer front back first rest w e none b = by_order (cases_lt (length front) (length first))
  where
    by_order : (length front < length first) ⊎ (length first ≤ length front) → length first ≤ length front
    by_order (inr short) = short
    by_order (inl long) =
        let (more, same) = shorter (front ++ w ∷ []) back first rest (append_assoc front (w ∷ []) back ∙ e)
        (omega (arith, long, length-append front (w ∷ []))) in
        absurd (none (front_begins every_rule (front ++ w ∷ []) more (subst (Begins every_rule) same b)))

same_place : (front back front' back' : List Word) (w w' : Word) → front ++ w ∷ back ≡ front' ++ w' ∷ back'
    → length front ≡ length front' → (w ≡ w') × (front ≡ front')
same_place front back front' back' w w' e lengths =
    let fronts : front ≡ front' = sym (take_at front (w ∷ back) (length front) refl)
    ∙ ap₂ (λ (n : ℕ) (l : List Word). take n l) lengths e ∙ take_at front' (w' ∷ back') (length front') refl in
    let rests = append_cancel_left front' (w ∷ back) (w' ∷ back') (ap (λ l. l ++ w ∷ back) (sym fronts) ∙ e) in
    let words : w ≡ w' = cc in
    (words, fronts)

not_at_end : (words front back : List Word) (w : Word) → words ≡ front ++ w ∷ back
    → (Begins every_rule (front ++ w ∷ []) → ⊥)
    → Begins every_rule words → ⊥
not_at_end words front back w e none b =
    omega (
      arith,
      no_longer front back words [] w (sym e ∙ sym (append-nil words)) none b,
      ap length e,
      length-append front (w ∷ back),
    )

-- ---- no stop

pub no_stop : {words : List Word} {last_line line : ℕ} {kind : SyntaxKind} (block : List Stat) (bodies : List Body)
    → IsTree every_rule words block bodies → StopsAt words last_line line kind → ⊥
no_stop block bodies tree (at_word front back word kind e before none is) =
    none (
      back,
      block,
      bodies,
      subst (λ ws. IsTree every_rule ws block bodies)
          (e ∙ sym (append_assoc front (word ∷ []) back)) tree,
    )
no_stop block bodies tree (at_end before none) = none block bodies tree

-- ---- one stop

pub one_stop : {words : List Word} {last_line line line' : ℕ} {kind kind' : SyntaxKind}
    → StopsAt words last_line line kind
    → StopsAt words last_line line' kind' → (line ≡ line') × (kind ≡ kind')
one_stop (at_word front back w f e b none is) (at_word front' back' w' f' e' b' none' is') =
    let same = sym e ∙ e' in
    let (words, fronts) = same_place front back front' back' w w' same
    (omega (
      arith,
      no_longer front back front' (w' ∷ back') w same none b',
      no_longer front' back' front (w ∷ back) w'
          (sym same) none' b,
    )) in
    let ends = ap₂ (λ (l : List Word) (word : Word). l ++ word ∷ []) fronts words in
    (ap (λ (word : Word). word.line) words, one_fault f f' (front' ++ w' ∷ []) (subst (FaultIs (rank f)) ends is) is')
one_stop {words} (at_word front back w f e b none is) (at_end b' none') =
    absurd (not_at_end words front back w e none b')
one_stop {words} (at_end b none) (at_word front back w f e b' none' is) =
    absurd (not_at_end words front back w e none' b)
one_stop (at_end b none) (at_end b' none') = (refl, refl)
