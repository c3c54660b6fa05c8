-- In every production the shortest words of what is left may come behind what was read.
use Rattle.std.proofs.Common.{◌≡◌, ℕ, ◌+◌, ◌==◌, ◌≤◌, if◌then◌else◌, Bool, true, false, List, [], ◌∷◌, Option, Some}
use Rattle.std.proofs.Common.{None, option_and_then, refl, sym, ap, subst, arith}
use Rattle.std.proofs.lemmas.Bool.{eqb-true}
use Rattle.lua_lex.specs.declared.kinds.TokenKind.{TokenKind}
use Rattle.lua_lex.specs.declared.kinds.TokenKind.TheVariants as kind
use Rattle.lua_grammar.specs.declared.context.Context.{Context}
use Rattle.lua_grammar.specs.declared.operators.Binary.{Binary}
use Rattle.lua_grammar.specs.declared.operators.Operator.{Operator}
use Rattle.lua_grammar.specs.Operators.{binary_operator}
use Rattle.lua_grammar.specs.Words.{ends_block}
use Rattle.lua_grammar.specs.Positions as at
use Rattle.lua_grammar.specs.Positions.{Position}
use Rattle.lua_grammar.specs.Contexts.{Rules}
use Rattle.lua_grammar.specs.Classes as class
use Rattle.lua_grammar.specs.Classes.{Class, Sought}
use Rattle.lua_grammar.specs.Productions as parts
use Rattle.lua_grammar.specs.Productions.{Part, Production}
use Rattle.lua_grammar.proofs.Continuations.{EndsOperand, EndsList, GoesOn, Goal}
use Rattle.lua_grammar.proofs.Behind.{ends_operands, ends_with_no, ends_lists, brace_ends, do_ends, end_ends, other}
use Rattle.lua_grammar.proofs.Completes.{Allows, Fits, AllMet}

-- ---- which word may come

-- a word of this kind ends an operand
ends_at : (k : TokenKind) → EndsOperand (Some k) → (w : Option TokenKind) → w ≡ Some k → EndsOperand w
ends_at k h w e = subst EndsOperand (sym e) h

closes_list : (w : Option TokenKind) → w ≡ Some kind.RightParen → EndsList w
closes_list w e = (ends_at kind.RightParen (refl, refl) w e, other kind.RightParen kind.Comma (λ f. cc) w e)

until_ends : (w : Option TokenKind) → w ≡ Some kind.Until → ends_block w ≡ true
until_ends w e = ap ends_block e

-- ---- the productions

abbrev FitsRow : Class → List Part → Type 0
FitsRow k ps = Fits ps (Allows k)

pub fits : {c : Context} {i : Position} {k : Class} {ps : List Part} → Production c i k ps → FitsRow k ps
fits (parts.operand le) = (λ w h. h, (λ w h. h, tt))
fits (parts.unary g h) = (λ w h. h, tt)
fits (parts.power g) = (λ w h. h, (λ w h. h, tt))
fits (parts.unary_exponent g h) = (λ w h. h, tt)
fits (parts.exponent g) = (λ w h. h, tt)
fits (parts.links g) = (λ w h. h, (λ w h. h, tt))
fits (parts.function g h) = (λ w h. tt, tt)
fits (parts.table g) = (λ w h. tt, tt)
fits (parts.prefix g) = (λ w h. h, tt)
fits (parts.parenthesis g h) = (ends_at kind.RightParen (refl, refl), tt)
fits (parts.member g) = tt
fits (parts.index g h) = (ends_at kind.RightBracket (refl, refl), tt)
fits (parts.method g) = (λ w h. tt, tt)
fits (parts.call g) = (λ w h. tt, tt)
fits (parts.arguments g near n h) = (closes_list, tt)
fits (parts.table_argument g) = (λ w h. tt, tt)
fits (parts.constructor g h) = (λ w h. h, tt)
fits (parts.keyed g) = (ends_at kind.RightBracket (refl, refl), (brace_ends, tt))
fits (parts.named g g') = (brace_ends, tt)
fits (parts.statements g g') = (λ w h. h, (λ w h. h, tt))
fits (parts.last g) = (λ w h. h, (λ w h. h, tt))
fits parts.statement = (λ w h. h, (λ w h. h, tt))
fits parts.last_statement = (λ w h. h, (λ w h. h, tt))
fits (parts.return_values g n) = (ends_lists, tt)
fits (parts.do_block g h) = (end_ends, tt)
fits (parts.while_loop g h) = (do_ends, (λ w h. tt, tt))
fits (parts.repeat_loop g h) = (until_ends, (ends_operands, tt))
fits (parts.if_statement g h) = (λ w h. h, (λ w h. h, (λ w h. h, tt)))
fits (parts.branch h) = (ends_at kind.Then (refl, refl), (end_ends, tt))
fits (parts.branches g h) = (λ w h. h, (λ w h. h, tt))
fits (parts.otherwise g h) = (end_ends, tt)
fits (parts.for_loop g h) = (λ w h. tt, tt)
fits (parts.numeric_for g g' h) = (ends_at kind.Comma (refl, refl), (do_ends, (λ w h. h, (λ w h. tt, tt))))
fits (parts.step g) = (do_ends, tt)
fits (parts.loop_block h) = (end_ends, tt)
fits (parts.path g) = (λ w h. h, tt)
fits (parts.local_function g g' h) = (λ w h. tt, tt)
fits (parts.local g n) = (ends_with_no kind.Comma refl, (λ w h. h, tt))
fits (parts.values g) = (ends_lists, tt)

-- ---- the ranks of operators

abbrev IsWeak : Option Operator → Type 0
IsWeak None = Unit {0}
IsWeak (Some operator) = operator.rank ≤ 7

weak : (k : TokenKind) → IsWeak (binary_operator k)
weak kind.Or = omega arith
weak kind.And = omega arith
weak kind.Less = omega arith
weak kind.Greater = omega arith
weak kind.LessEqual = omega arith
weak kind.GreaterEqual = omega arith
weak kind.NotEqual = omega arith
weak kind.Equal = omega arith
weak kind.Concat = omega arith
weak kind.Plus = omega arith
weak kind.Minus = omega arith
weak kind.Star = omega arith
weak kind.Slash = omega arith
weak kind.Percent = omega arith
weak kind.Caret = omega arith
weak k = tt

weak_next : (w : Option TokenKind) → IsWeak (option_and_then binary_operator w)
weak_next None = tt
weak_next (Some k) = weak k

rank_within : (rank : ℕ) (o : Option Operator) {by : Binary} → IsWeak o → at.of_rank rank o ≡ Some by → rank + 1 ≤ 8
rank_within rank None h e = cc
rank_within rank (Some operator) {by} h e = by_bool (operator.rank == rank) refl e where
  by_bool : (b : Bool) → (operator.rank == rank) ≡ b → (if b then Some operator.by else None) ≡ Some by → rank + 1 ≤ 8
  by_bool true is e = omega (arith, h, eqb-true operator.rank rank is)
  by_bool false is e = cc

-- ---- what the shortest words of the parts behind the first ask for

abbrev pub rest_of : List Part → List Part
rest_of [] = []
rest_of (p ∷ ps) = ps

pub has : {c : Context} {i : Position} {k : Class} {ps : List Part} → Production c i k ps → AllMet (rest_of ps)
has (parts.unary g h) = (omega arith, tt)
has (parts.unary_exponent g h) = (omega arith, tt)
has {i = i} (parts.links {rank} g) = (
  rank_within rank (option_and_then binary_operator (at.kind i))
      (weak_next (at.kind i)) g,
  tt,
)
has (parts.function g h) = (h, tt)
has (parts.while_loop g h) = (h, tt)
has (parts.if_statement g h) = (h, tt)
has (parts.branches g h) = (h, tt)
has (parts.for_loop g h) = (h, tt)
has (parts.numeric_for g g' h) = (h, tt)
has (parts.local_function g g' h) = (h, tt)
has _ = tt

-- ---- what is shown by induction

abbrev seeks_nothing : Sought → Bool
seeks_nothing class.anything = true
seeks_nothing _ = false

abbrev pub is_plain : Class → Bool
is_plain (class.suffixes sought) = seeks_nothing sought
is_plain (class.chain sought) = seeks_nothing sought
is_plain (class.own_chain sought) = seeks_nothing sought
is_plain k = true

pub plain_goal : {rules : Rules} {c : Context} (k : Class) (n : ℕ) (i : Position) → is_plain k ≡ true
    → Goal rules c k n i → GoesOn rules c k n i
plain_goal (class.suffixes class.anything) n i e g = g
plain_goal (class.suffixes class.front) n i e g = cc
plain_goal (class.suffixes class.target) n i e g = cc
plain_goal (class.chain class.anything) n i e g = g
plain_goal (class.chain class.front) n i e g = cc
plain_goal (class.chain class.target) n i e g = cc
plain_goal (class.own_chain class.anything) n i e g = g
plain_goal (class.own_chain class.front) n i e g = cc
plain_goal (class.own_chain class.target) n i e g = cc
plain_goal k n i e g = g

pub goal_plain : {rules : Rules} {c : Context} (k : Class) (n : ℕ) (i : Position) → is_plain k ≡ true
    → GoesOn rules c k n i → Goal rules c k n i
goal_plain (class.suffixes class.anything) n i e g = g
goal_plain (class.suffixes class.front) n i e g = cc
goal_plain (class.suffixes class.target) n i e g = cc
goal_plain (class.chain class.anything) n i e g = g
goal_plain (class.chain class.front) n i e g = cc
goal_plain (class.chain class.target) n i e g = cc
goal_plain (class.own_chain class.anything) n i e g = g
goal_plain (class.own_chain class.front) n i e g = cc
goal_plain (class.own_chain class.target) n i e g = cc
goal_plain k n i e g = g

abbrev pub all_plain : List Part → Bool
all_plain [] = true
all_plain (parts.some c k ∷ ps) = if is_plain k then all_plain ps else false
all_plain (p ∷ ps) = all_plain ps

pub plain : {c : Context} {i : Position} {k : Class} {ps : List Part} → Production c i k ps
    → (is_plain k ≡ true) × (all_plain ps ≡ true)
plain (parts.operand le) = (refl, refl)
plain _ = (refl, refl)

pub plain_part : (c : Context) (k : Class) (ps : List Part) → all_plain (parts.some c k ∷ ps) ≡ true
    → (is_plain k ≡ true) × (all_plain ps ≡ true)
plain_part c k ps e = by_bool (is_plain k) e where
  by_bool : (b : Bool) → (if b then all_plain ps else false) ≡ true → (b ≡ true) × (all_plain ps ≡ true)
  by_bool true e = (refl, e)
  by_bool false e = cc

pub plain_behind : (p : Part) (ps : List Part) → all_plain (p ∷ ps) ≡ true → all_plain ps ≡ true
plain_behind (parts.some c k) ps e = (plain_part c k ps e).1
plain_behind p ps e = e
