-- Other words behind what is spelled: what stays of a position and of a step.
use Rattle.std.proofs.Common.{◌≡◌, ◌≢◌, ◌⊎◌, inl, inr, ℕ, ◌<◌, ◌≤◌, Bool, true, false, List, [], ◌∷◌, ◌++◌, length}
use Rattle.std.proofs.Common.{Option, Some, refl, sym, ap, ◌∙◌, subst, arith}
use Rattle.std.proofs.lemmas.List.{length-append}
use Rattle.std.proofs.lemmas.Bool.{cases_lt}
use Rattle.lua_lex.specs.declared.kinds.TokenKind.{TokenKind}
use Rattle.lua_lex.specs.declared.kinds.TokenKind.TheVariants as kind
use Rattle.lua_grammar.specs.declared.kinds.SyntaxKind.{SyntaxKind}
use Rattle.lua_grammar.specs.declared.kinds.SyntaxKind.TheVariants as fault
use Rattle.lua_grammar.specs.declared.context.Context.{Context}
use Rattle.lua_grammar.specs.declared.operators.Unary.{Unary}
use Rattle.lua_grammar.specs.declared.operators.Binary.{Binary}
use Rattle.lua_grammar.specs.declared.words.Word.{Word}
use Rattle.lua_grammar.specs.declared.expressions.Name.{Name}
use Rattle.lua_grammar.specs.Words.{ends_block}
use Rattle.lua_grammar.specs.Positions as at
use Rattle.lua_grammar.specs.Positions.{Position, Takes, TakesName, SeesNot, IsNear}
use Rattle.lua_grammar.specs.Contexts.{Rules, Kept}
use Rattle.lua_grammar.specs.Things as thing
use Rattle.lua_grammar.specs.Grammar as by
use Rattle.lua_grammar.specs.Grammar.{Spelled}
use Rattle.lua_grammar.proofs.Progress.{Goes, Eats, goes, eats_next, eats_to, takes, takes_name, also, eaten, eats_also}
use Rattle.lua_grammar.proofs.Continuations.{instead, Shown}
use Rattle.lua_grammar.proofs.Instead.{swapped, kind_shown, line_shown, sign_shown, joint_shown, next_shown}
use Rattle.lua_grammar.proofs.Instead.{takes_instead, name_instead, near_instead, semicolon_instead}
use Rattle.lua_grammar.proofs.Behind.{ends_with_no}

-- by fewer rules, with these words in place of the last ones
pub record Change (from rules : Rules) : Type 0 where
  pub fewer : (f : SyntaxKind) → rules f ≡ true → from f ≡ true
  pub count : ℕ
  pub words : List Word

abbrev pub changed : {from rules : Rules} → Change from rules → Position → Position
changed p i = instead p.count p.words i

-- the last n words, in place of which others are put, are behind the position; or behind the word that comes next there
pub record Reaches (n : ℕ) (j : Position) : Type 0 where
  pub words : n ≤ length j.words

pub record Precedes (n : ℕ) (j : Position) : Type 0 where
  pub words : n < length j.words

-- what comes behind the thing stays, or does not go on with it
pub record After {from rules : Rules} (p : Change from rules) (may : Option TokenKind → Type 0) (j : Position) : Type 0
  where
    pub comes : (at.kind (instead p.count p.words j) ≡ at.kind j) ⊎ may (at.kind (instead p.count p.words j))

pub weak : {n : ℕ} {j : Position} → Precedes n j → Reaches n j
weak {n} {j} b = record { words = omega (arith, b.words) }

pub goes_over : {n : ℕ} {i j : Position} → Goes i j → Reaches n j → Reaches n i
goes_over {n} {i} {j} g b = record { words = omega (arith, b.words, g.words) }

pub eats_over : {n : ℕ} {i j : Position} → Eats i j → Reaches n j → Precedes n i
eats_over {n} {i} {j} g b = record { words = omega (arith, b.words, g.words) }

shown : {from rules : Rules} (p : Change from rules) {j : Position} → Precedes p.count j → Shown j p.count p.words
shown p b = inl b.words

pub seen : {from rules : Rules} {p : Change from rules} {may : Option TokenKind → Type 0} {j : Position}
    → Precedes p.count j → After p may j
seen {j = j} b = record { comes = inl (kind_shown j (inl b.words)) }

pub kept : {from rules : Rules} (p : Change from rules) (f : SyntaxKind) (P : Type 0) → Kept (from f) P
    → Kept (rules f) P
kept {from} {rules} p f P x = by_bool (rules f) (p.fewer f) where
  all : (b : Bool) → b ≡ true → Kept b P → P
  all true e x = x
  all false e x = cc

  by_bool : (b : Bool) → (b ≡ true → from f ≡ true) → Kept b P
  by_bool true h = all (from f) (h refl) x
  by_bool false h = _

-- ---- what comes next

-- where the thing from `j` to `k` may be empty
pub back : {from rules : Rules} {p : Change from rules} {may : Option TokenKind → Type 0} {j k : Position}
    → Eats j k ⊎ (j ≡ k)
    → Reaches p.count k → After p may k → After p may j
back (inl eats) b s = seen (eats_over eats b)
back {p = p} {may} (inr same) b s = subst (λ (i : Position). After p may i) (sym same) s

pub turn : {from rules : Rules} {p : Change from rules} {may may' : Option TokenKind → Type 0} {j : Position}
    → ((w : Option TokenKind) → may w → may' w) → After p may j → After p may' j
turn {p = p} {may} {may'} {j} f s = record { comes = turned s.comes } where
  turned : (at.kind (changed p j) ≡ at.kind j) ⊎ may (at.kind (changed p j))
      → (at.kind (changed p j) ≡ at.kind j) ⊎ may' (at.kind (changed p j))
  turned (inl same) = inl same
  turned (inr h) = inr (f _ h)

-- what holds of the kind of the next word
pub holds : {from rules : Rules} {p : Change from rules} {may : Option TokenKind → Type 0} {j : Position}
    (P : Option TokenKind → Type 0)
    → ((w : Option TokenKind) → may w → P w) → After p may j → P (at.kind j) → P (at.kind (instead p.count p.words j))
holds {p = p} {may} {j} P f s h = held s.comes where
  held : (at.kind (changed p j) ≡ at.kind j) ⊎ may (at.kind (changed p j)) → P (at.kind (changed p j))
  held (inl same) = subst P (sym same) h
  held (inr m) = f _ m

pub holds_at : {from rules : Rules} (p : Change from rules) {j : Position} (P : Option TokenKind → Type 0)
    → Precedes p.count j → P (at.kind j)
    → P (at.kind (instead p.count p.words j))
holds_at p {j} P b h = subst P (sym (kind_shown j (inl b.words))) h

pub line_at : {from rules : Rules} (p : Change from rules) {line : ℕ} {j : Position} → Precedes p.count j
    → line ≡ at.line j
    → line ≡ at.line (instead p.count p.words j)
line_at p {j = j} b e = e ∙ sym (line_shown j (inl b.words))

pub sign_at : {from rules : Rules} (p : Change from rules) {j : Position} (sign : Option Unary) → Precedes p.count j
    → at.sign j ≡ sign
    → at.sign (instead p.count p.words j) ≡ sign
sign_at p {j} sign b e = sign_shown j (inl b.words) ∙ e

pub joint_at : {from rules : Rules} (p : Change from rules) {j : Position} (rank : ℕ) (joint : Option Binary)
    → Precedes p.count j
    → at.joint rank j ≡ joint → at.joint rank (instead p.count p.words j) ≡ joint
joint_at p {j} rank joint b e = joint_shown rank j (inl b.words) ∙ e

pub near_at : {from rules : Rules} (p : Change from rules) (j : Position) → Precedes p.count j
    → Kept (from fault.Ambiguous) (IsNear j)
    → Kept (rules fault.Ambiguous) (IsNear (instead p.count p.words j))
near_at {from} {rules} p j b near =
    let alike : IsNear j → IsNear (instead p.count p.words j) = near_instead j (inl b.words) in
    kept p fault.Ambiguous (IsNear (instead p.count p.words j)) (by_bool alike (from fault.Ambiguous) near) where
      by_bool : {P Q : Type 0} → (P → Q) → (b : Bool) → Kept b P → Kept b Q
      by_bool f true x = f x
      by_bool f false x = _

-- ---- steps

pub took : {from rules : Rules} (p : Change from rules) {k : TokenKind} {i j : Position} → Takes k i j
    → Reaches p.count j
    → Takes k (instead p.count p.words i) (instead p.count p.words j)
took p t b = takes_instead p.count p.words t b.words

pub named : {from rules : Rules} (p : Change from rules) {n : Name} {i j : Position} → TakesName n i j
    → Reaches p.count j
    → TakesName n (instead p.count p.words i) (instead p.count p.words j)
named p t b = name_instead p.count p.words t b.words

pub resumed : {from rules : Rules} {p : Change from rules} {may : Option TokenKind → Type 0} {i k l : Position}
    → at.ResumesExpression i k l
    → After p may l → After p may k
resumed {p = p} {may} {i} {k} {l} r s =
    let P : Position → Type 0 = λ q. (at.kind (changed p q) ≡ at.kind q) ⊎ may (at.kind (changed p q)) in
    record { comes = subst P r.resumed s.comes }

-- a `;`, where there is one

semicolon_moves_by : (w : Option TokenKind) (i j : Position) → at.kind i ≡ w → j ≡ at.behind_semicolon w i
    → Eats i j ⊎ (i ≡ j)
semicolon_moves_by (Some kind.Semicolon) i j e taken = inl (eats_to taken (eats_next i kind.Semicolon e))
semicolon_moves_by w i j e taken = inr (sym taken)

pub semicolon_moves : {i j : Position} → at.PassesSemicolon i j → Eats i j ⊎ (i ≡ j)
semicolon_moves {i} {j} q = semicolon_moves_by (at.kind i) i j refl q.taken

pub semicolon_changed : {from rules : Rules} (p : Change from rules) {i j : Position} → at.PassesSemicolon i j
    → Reaches p.count j
    → After p (λ w. ends_block w ≡ true) j → at.PassesSemicolon (instead p.count p.words i) (instead p.count p.words j)
semicolon_changed p {j = j} q b s = semicolon_instead p.count p.words q b.words (no_more s.comes) where
  no_more : (at.kind (instead p.count p.words j) ≡ at.kind j)
      ⊎ (ends_block (at.kind (instead p.count p.words j)) ≡ true)
      → (at.kind (instead p.count p.words j) ≡ at.kind j) ⊎ (at.kind (instead p.count p.words j) ≢ Some kind.Semicolon)
  no_more (inl same) = inl same
  no_more (inr e) = inr (ends_with_no kind.Semicolon refl _ e)

-- parameters with no `)` before them
pub parameters_eat : {rules : Rules} {c : Context} {names : List Name} {varargs : Bool} {i j : Position}
    → Spelled rules c (thing.parameters names varargs) i j → SeesNot kind.RightParen i → Eats i j
parameters_eat (by.no_parameters e) n = absurd (n e)
parameters_eat (by.only_varargs t) n = takes t
parameters_eat (by.last_parameter t m) n = takes_name t
parameters_eat (by.more_parameters t u m x) n = eats_also (takes_name t) (also (eaten (takes u)) (goes x))

-- ---- fields without a key

behind_only : (i : Position) (all front rest : List Word) → all ≡ front ++ rest → length rest < length all
    → length (at.behind i all).words ≤ length rest → (at.behind i all).words ≡ rest
behind_only i [] front rest e less le = absurd (omega (arith, less))
behind_only i (word ∷ all) [] rest e less le = absurd (omega (arith, less, ap length e))
behind_only i (word ∷ all) (a ∷ []) rest e less le = cc
behind_only i (word ∷ all) (a ∷ b ∷ front) rest e less le =
    absurd (omega (arith, le, ap length e, length-append front rest))

-- what comes behind the first word of a thing comes in it, or behind it
after_next : {from rules : Rules} (p : Change from rules) {may : Option TokenKind → Type 0} {i j : Position} → Eats i j
    → Reaches p.count j
    → After p may j → After p may (at.next i)
after_next p {may} {i} {j} eats b s = by_length (cases_lt p.count (length (at.next i).words)) where
  moved : (at.next i).words ≡ j.words → (at.kind (instead p.count p.words j) ≡ at.kind j)
      ⊎ may (at.kind (instead p.count p.words j))
      → (at.kind (instead p.count p.words (at.next i)) ≡ at.kind (at.next i))
      ⊎ may (at.kind (instead p.count p.words (at.next i)))
  moved e c =
      let P : List Word → Type 0 = λ l. (at.kind_of (at.first_of (swapped p.count p.words l))
      ≡ at.kind_of (at.first_of l))
      ⊎ may (at.kind_of (at.first_of (swapped p.count p.words l))) in
      subst P (sym e) c

  by_length : (p.count < length (at.next i).words) ⊎ (length (at.next i).words ≤ p.count) → After p may (at.next i)
  by_length (inl less) = record { comes = inl (kind_shown (at.next i) (inl less)) }
  by_length (inr le) =
      record {
        comes = moved (behind_only i i.words eats.front j.words eats.split eats.words
            (omega (arith, le, b.words))) s.comes;
      }

no_brace_names : (v : Option TokenKind) → at.is_named v (Some kind.RightBrace) ≡ false
no_brace_names (Some kind.Name) = refl
no_brace_names v = refl

pub unnamed : {from rules : Rules} (p : Change from rules) {i j : Position} → Eats i j → Reaches p.count j
    → After p (λ w. w ≡ Some kind.RightBrace) j → at.names_field i ≡ false → at.names_field (instead p.count p.words i)
    ≡ false
unnamed p {i} {j} eats b s n =
    let less = (eats_over eats b).words in
    let behind : at.kind (at.next (instead p.count p.words i)) ≡ at.kind (instead p.count p.words (at.next i)) =
    ap at.kind (next_shown p.count p.words i less) in
    let first : at.kind (instead p.count p.words i) ≡ at.kind i = kind_shown i (inl less) in
    rw (first, behind) (holds (λ w. at.is_named (at.kind i) w ≡ false) (λ w e. ap (at.is_named (at.kind i)) e
    ∙ no_brace_names (at.kind i))
    (after_next p eats b s) n)
