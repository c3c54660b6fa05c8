-- The parts of a production that were read are read again, with other words behind them.
use Rattle.std.proofs.Common.{◌≡◌, ◌≢◌, ◌⊎◌, inl, inr, ℕ, ◌<◌, ◌≤◌, true, List, [], ◌∷◌, length, Option, Some, refl}
use Rattle.std.proofs.Common.{sym, ap, ◌∙◌, subst, arith}
use Rattle.lua_lex.specs.declared.kinds.TokenKind.{TokenKind}
use Rattle.lua_lex.specs.declared.kinds.TokenKind.TheVariants as kind
use Rattle.lua_grammar.specs.declared.kinds.SyntaxKind.TheVariants as fault
use Rattle.lua_grammar.specs.declared.words.Word.{Word}
use Rattle.lua_grammar.specs.Words.{ends_block}
use Rattle.lua_grammar.specs.Positions as at
use Rattle.lua_grammar.specs.Positions.{Position}
use Rattle.lua_grammar.specs.Contexts.{Rules, every_rule}
use Rattle.lua_grammar.specs.Classes as class
use Rattle.lua_grammar.specs.Classes.{Class, Tree, thing_of}
use Rattle.lua_grammar.specs.Productions as part
use Rattle.lua_grammar.specs.Productions.{Part, IsPart, AreParts, Read}
use Rattle.lua_grammar.proofs.Continuations.{instead, Follows}
use Rattle.lua_grammar.proofs.Modes.{given}
use Rattle.lua_grammar.proofs.Instead.{kind_shown, line_shown, takes_instead, name_instead, passes_instead}
use Rattle.lua_grammar.proofs.Instead.{operator_instead, semicolon_instead, takes_less}
use Rattle.lua_grammar.proofs.Progress.{Eats, Moves, moves, eats_next, eats_to, takes, takes_name, passes_one}
use Rattle.lua_grammar.proofs.Progress.{passes_one_operator}
use Rattle.lua_grammar.proofs.Behind.{ends_with_no}
use Rattle.lua_grammar.proofs.Carry.{carry}
use Rattle.lua_grammar.proofs.Least.{least, least_of}
use Rattle.lua_grammar.proofs.Completes.{Allows, allowed, Behind, FirstOf, First, Fits, fit}

-- the kind of the next word stays, or is allowed
abbrev pub Comes : ℕ → List Word → Position → (Option TokenKind → Type 0) → Type 0
Comes n words j G = (at.kind (instead n words j) ≡ at.kind j) ⊎ G (at.kind (instead n words j))

allows_for : (n : ℕ) (words : List Word) (j : Position) (G H : Option TokenKind → Type 0)
    → ((w : Option TokenKind) → G w → H w)
    → Comes n words j G → Comes n words j H
allows_for n words j G H f (inl same) = inl same
allows_for n words j G H f (inr g) = inr (f _ g)

-- ---- one part

ends_still : (n : ℕ) (words : List Word) (i j : Position) → ends_block (at.kind i) ≡ true → j ≡ i
    → Comes n words j (λ w. ends_block w ≡ true) → ends_block (at.kind (instead n words i)) ≡ true
ends_still n words i j e there (inl same) =
    let seen : ends_block (at.kind (instead n words j)) ≡ true =
    ap ends_block same ∙ ap (λ (p : Position). ends_block (at.kind p)) there ∙ e in
    subst (λ (p : Position). ends_block (at.kind (instead n words p)) ≡ true) there seen
ends_still n words i j e there (inr ends) =
    subst (λ (p : Position). ends_block (at.kind (instead n words p)) ≡ true) there ends

part_on : (p : Part) (i j : Position) → IsPart every_rule p i j → (rules : Rules) (n : ℕ) (words : List Word)
    → n ≤ length j.words
    → Comes n words j (Behind p) → IsPart rules p (instead n words i) (instead n words j)
part_on (part.word k) i j t rules n words h s = takes_instead n words t h
part_on part.name i j (m, t) rules n words h s = (m, name_instead n words t h)
part_on (part.function_on line) i j (l, t) rules n words h s =
    (l ∙ sym (line_shown i (inl (takes_less t h))), takes_instead n words t h)
part_on part.any i j p rules n words h s = passes_instead n words p h
part_on part.operator i j (short, p) rules n words h s =
    (given (rules fault.TooLong) short, operator_instead n words p h)
part_on part.semicolon i j p rules n words h s =
    semicolon_instead n words p h (allows_for n words j _ (λ w. w ≢ Some kind.Semicolon)
    (ends_with_no kind.Semicolon refl) s)
part_on part.block_end i j (e, there) rules n words h s = (ends_still n words i j e there s, ap (instead n words) there)
part_on (part.some c k) i j (x, s) rules n words h comes =
    (x, carry s rules n words h (allows_for n words j (Allows k) (Follows (thing_of k x)) (allowed k x) comes))

-- a part that may be empty is empty, or takes a word
abbrev EmptyOr : List Word → Position → Position → Type 0
EmptyOr words i j = Eats i j ⊎ ((i ≡ j) × (words ≡ []))

class_moves : (k : Class) (x : Tree k) {i j : Position} → Moves (thing_of k x) i j → EmptyOr (least_of k) i j
class_moves (class.links rank) x (inl m) = inl m
class_moves (class.links rank) x (inr e) = inr (e, refl)
class_moves (class.suffixes sought) x (inl m) = inl m
class_moves (class.suffixes sought) x (inr e) = inr (e, refl)
class_moves class.fields x (inl m) = inl m
class_moves class.fields x (inr e) = inr (e, refl)
class_moves class.parameters x (inl m) = inl m
class_moves class.parameters x (inr e) = inr (e, refl)
class_moves class.block x (inl m) = inl m
class_moves class.block x (inr e) = inr (e, refl)
class_moves class.branches x (inl m) = inl m
class_moves class.branches x (inr e) = inr (e, refl)
class_moves class.otherwise x (inl m) = inl m
class_moves class.otherwise x (inr e) = inr (e, refl)
class_moves class.step x (inl m) = inl m
class_moves class.step x (inr e) = inr (e, refl)
class_moves class.path x (inl m) = inl m
class_moves class.path x (inr e) = inr (e, refl)
class_moves class.values x (inl m) = inl m
class_moves class.values x (inr e) = inr (e, refl)
class_moves k x m = inl m

semicolon_moves : (i j : Position) (w : Option TokenKind) → at.kind i ≡ w → j ≡ at.behind_semicolon w i → EmptyOr [] i j
semicolon_moves i j (Some kind.Semicolon) e there = inl (eats_to there (eats_next i kind.Semicolon e))
semicolon_moves i j w e there = inr (sym there, refl)

part_moves : (p : Part) {i j : Position} → IsPart every_rule p i j → EmptyOr (least p) i j
part_moves (part.word k) t = inl (takes t)
part_moves part.name (m, t) = inl (takes_name t)
part_moves (part.function_on line) (l, t) = inl (takes t)
part_moves part.any p = inl (passes_one p)
part_moves part.operator (short, p) = inl (passes_one_operator p)
part_moves part.semicolon {i} {j} p = semicolon_moves i j (at.kind i) refl p.taken
part_moves part.block_end (e, there) = inr (sym there, refl)
part_moves (part.some c k) (x, s) = class_moves k x (moves s)

-- ---- productions

-- before a part that takes a word, the kind of the next word stays
before_part : (p : Part) (ps : List Part) (F : Option TokenKind → Type 0) (n : ℕ) (words : List Word) {i j : Position}
    → EmptyOr (least p) i j
    → n ≤ length j.words → Comes n words j (First ps F) → (n ≤ length i.words) × Comes n words i (First (p ∷ ps) F)
before_part p ps F n words {i} {j} (inl m) h c =
    let less : n < length i.words = omega (arith, h, m.words) in
    (omega (arith, less), inl (kind_shown i (inl less)))
before_part p ps F n words {i} {j} (inr (same, none)) h c =
    let here : Comes n words j (FirstOf (least p) (First ps F)) = rw none c in (
      subst (λ (q : Position). n ≤ length q.words) (sym same) h,
      subst (λ (q : Position). Comes n words q (First (p ∷ ps) F)) (sym same) here,
    )

abbrev pub RowFrom : Rules → ℕ → List Word → List Part → (Option TokenKind → Type 0) → Position → Position → Type 0
RowFrom rules n words ps F i z = (n ≤ length i.words) × Comes n words i (First ps F)
    × AreParts rules ps (instead n words i) z

-- where the other parts are read behind those that were, all are
pub parts_on : {ps qs : List Part} {i j : Position} → Read ps i qs j → (F : Option TokenKind → Type 0) → Fits ps F
    → (rules : Rules) (n : ℕ)
    (words : List Word) (z : Position) → RowFrom rules n words qs F j z → RowFrom rules n words ps F i z
parts_on part.nothing F f rules n words z production = production
parts_on (part.more {p} {ps} {i = i} {j = j} x r) F f rules n words z production =
    let (fits, f') = fit p ps F f in
    let (h, c, xs) = parts_on r F f' rules n words z production in
    let (h', c') = before_part p ps F n words (part_moves p x) h c in
    (h', c', (_, part_on p i j x rules n words h (allows_for n words j (First ps F) (Behind p) fits c), xs))
