-- Which first words want a level more, and a place near the word before them.
use Rattle.std.proofs.Common.{◌≡◌, ℕ, ◌≤◌, Bool, true, false, List, Option, Some, ap, refl, arith}
use Rattle.lua_lex.specs.declared.kinds.TokenKind.{TokenKind}
use Rattle.lua_lex.specs.declared.kinds.TokenKind.TheVariants as kind
use Rattle.lua_grammar.specs.declared.kinds.SyntaxKind.TheVariants as fault
use Rattle.lua_grammar.specs.declared.context.Context.{Context}
use Rattle.lua_grammar.specs.declared.operators.Unary.{Unary}
use Rattle.lua_grammar.specs.declared.expressions.Name.{Name}
use Rattle.lua_grammar.specs.declared.expressions.Expr.{Expr}
use Rattle.lua_grammar.specs.declared.expressions.Suffix.{Suffix}
use Rattle.lua_grammar.specs.declared.expressions.Field.{Field}
use Rattle.lua_grammar.specs.declared.statements.Stat.{Stat}
use Rattle.lua_grammar.specs.declared.statements.Deed.{Deed}
use Rattle.lua_grammar.specs.declared.statements.Branch.{Branch}
use Rattle.lua_grammar.specs.Positions as at
use Rattle.lua_grammar.specs.Positions.{Position, Sees, SeesNot, IsNear}
use Rattle.lua_grammar.specs.Contexts.{Rules, Kept, HasRoom}
use Rattle.lua_grammar.specs.Things as thing
use Rattle.lua_grammar.specs.Grammar as by
use Rattle.lua_grammar.specs.Grammar.{Spelled}
use Rattle.lua_grammar.specs.Productions.{begins_chain}
use Rattle.lua_grammar.specs.Stuck.{begins_simple, begins_parameter, nests_simple, nests_suffix, nests_statement}
use Rattle.lua_grammar.specs.Words.{begins_suffix}
use Rattle.lua_grammar.proofs.FirstWords.{first_word}
use Rattle.lua_grammar.proofs.Inversions.{table_word}

-- ---- first words

chains_begin_operands : (w : Option TokenKind) → begins_chain w ≡ true → begins_simple w ≡ true
chains_begin_operands (Some kind.Name) e = refl
chains_begin_operands (Some kind.LeftParen) e = refl
chains_begin_operands w e = cc

pub simple_first : {rules : Rules} {c : Context} {e : Expr} {i z : Position} → Spelled rules c (thing.simple e) i z
    → begins_simple (at.kind i) ≡ true
simple_first (by.nil_value t) = ap begins_simple t.seen
simple_first (by.false_value t) = ap begins_simple t.seen
simple_first (by.true_value t) = ap begins_simple t.seen
simple_first (by.number t) = ap begins_simple t.seen
simple_first (by.text t) = ap begins_simple t.seen
simple_first (by.varargs t k) = ap begins_simple t.seen
simple_first (by.function l t b) = ap begins_simple t.seen
simple_first (by.table x) = ap begins_simple (table_word _ (first_word x))
simple_first (by.prefix x) = chains_begin_operands _ (first_word x)

pub parameter_first : {rules : Rules} {c : Context} {names : List Name} {varargs : Bool} {i z : Position}
    → Spelled rules c (thing.parameters names varargs) i z → begins_parameter (at.kind i) ≡ true
parameter_first (by.no_parameters s) = ap begins_parameter s
parameter_first (by.only_varargs t) = ap begins_parameter t.seen
parameter_first (by.last_parameter t n) = ap begins_parameter t.seen
parameter_first (by.more_parameters t u n ps) = ap begins_parameter t.seen

pub nested_suffixes_begin : (w : Option TokenKind) → nests_suffix w ≡ true → begins_suffix w ≡ true
nested_suffixes_begin (Some kind.LeftBracket) e = refl
nested_suffixes_begin (Some kind.LeftBrace) e = refl
nested_suffixes_begin (Some kind.LeftParen) e = refl
nested_suffixes_begin w e = cc

-- ---- levels

-- a word of the one kind is none of the other
pub other_word : (nests : Option TokenKind → Bool) {v w : Option TokenKind} → nests w ≡ true → w ≡ v → nests v ≡ false
    → ⊥
other_word nests h e f = cc (ap nests e)

pub constructor_room : {rules : Rules} {c : Context} {fields : List Field} {i z : Position}
    → Spelled rules c (thing.constructor fields) i z
    → HasRoom rules c
constructor_room (by.constructor t r x u) = r

pub body_room : {rules : Rules} {c : Context} {line number : ℕ} {method : Bool} {i z : Position}
    → Spelled rules c (thing.function_body line method number) i z → HasRoom rules c
body_room (by.function_body b t ps u r x v e) = r

pub unary_room : {rules : Rules} {c : Context} {rank : ℕ} {e : Expr} {by : Unary} {i z : Position}
    → Spelled rules c (thing.operand rank e) i z
    → 7 ≤ rank → at.sign i ≡ Some by → HasRoom rules c
unary_room (by.operands le x ls) g s = absurd (omega (arith, le, g))
unary_room (by.unary e p r x) g s = r
unary_room (by.power e x ls) g s = absurd (cc (e, s))
unary_room (by.unary_exponent e p r x) g s = r
unary_room (by.exponent e x) g s = absurd (cc (e, s))

pub head_room : {rules : Rules} {c : Context} {e : Expr} {i z : Position} → Spelled rules c (thing.head e) i z
    → nests_simple (at.kind i) ≡ true
    → HasRoom rules c
head_room (by.name t) h = absurd (other_word nests_simple h t.seen refl)
head_room (by.parenthesis t r x u) h = r

chain_room : {rules : Rules} {c : Context} {e : Expr} {all : List Suffix} {i z : Position}
    → Spelled rules c (thing.chain e all) i z
    → nests_simple (at.kind i) ≡ true → HasRoom rules c
chain_room (by.chain x ss) h = head_room x h

pub simple_room : {rules : Rules} {c : Context} {e : Expr} {i z : Position} → Spelled rules c (thing.simple e) i z
    → nests_simple (at.kind i) ≡ true → HasRoom rules c
simple_room (by.nil_value t) h = absurd (other_word nests_simple h t.seen refl)
simple_room (by.false_value t) h = absurd (other_word nests_simple h t.seen refl)
simple_room (by.true_value t) h = absurd (other_word nests_simple h t.seen refl)
simple_room (by.number t) h = absurd (other_word nests_simple h t.seen refl)
simple_room (by.text t) h = absurd (other_word nests_simple h t.seen refl)
simple_room (by.varargs t k) h = absurd (other_word nests_simple h t.seen refl)
simple_room (by.function l t b) h = body_room b
simple_room (by.table x) h = constructor_room x
simple_room (by.prefix x) h = chain_room x h

pub arguments_room : {rules : Rules} {c : Context} {es : List Expr} {i z : Position}
    → Spelled rules c (thing.arguments es) i z
    → nests_suffix (at.kind i) ≡ true → HasRoom rules c
arguments_room (by.no_arguments t n r u) h = r
arguments_room (by.arguments t n r x u) h = r
arguments_room (by.table_argument x) h = constructor_room x
arguments_room (by.text_argument t) h = absurd (other_word nests_suffix h t.seen refl)

pub suffix_room : {rules : Rules} {c : Context} {suffix : Suffix} {i z : Position}
    → Spelled rules c (thing.suffix suffix) i z
    → nests_suffix (at.kind i) ≡ true → HasRoom rules c
suffix_room (by.member t n) h = absurd (other_word nests_suffix h t.seen refl)
suffix_room (by.index t r x u) h = r
suffix_room (by.call x) h = arguments_room x h
suffix_room (by.method t n x) h = absurd (other_word nests_suffix h t.seen refl)

loop_room : {rules : Rules} {c : Context} {block : List Stat} {i z : Position}
    → Spelled rules c (thing.loop_block block) i z → HasRoom rules c
loop_room (by.loop_block t r x u) = r

branch_room : {rules : Rules} {c : Context} {branch : Branch} {i z : Position}
    → Spelled rules c (thing.branch branch) i z → HasRoom rules c
branch_room (by.branch x t r y) = r

pub range_room : {rules : Rules} {c : Context} {deed : Deed} {i z : Position}
    → Spelled rules c (thing.for_range deed) i z → HasRoom rules c
range_room (by.numeric_for t u x v y s b) = loop_room b
range_room (by.generic_for x t y b) = loop_room b

chain_nests : (w : Option TokenKind) → begins_chain w ≡ true → nests_statement w ≡ true → ⊥
chain_nests (Some kind.Name) e h = cc h
chain_nests (Some kind.LeftParen) e h = cc h
chain_nests w e h = cc e

pub deed_room : {rules : Rules} {c : Context} {deed : Deed} {i z : Position} → Spelled rules c (thing.deed deed) i z
    → nests_statement (at.kind i) ≡ true → HasRoom rules c
deed_room (by.do_block t r x u) h = r
deed_room (by.while_loop t x y) h = loop_room y
deed_room (by.repeat_loop t r x u y) h = r
deed_room (by.if_statement t x xs y u) h = branch_room x
deed_room (by.for_loop t x) h = range_room x
deed_room (by.function_statement l t n p s x) h = body_room x
deed_room (by.method_statement l t n p u m x) h = body_room x
deed_room (by.local_function t l u n x) h = absurd (other_word nests_statement h t.seen refl)
deed_room (by.local t x y) h = absurd (other_word nests_statement h t.seen refl)
deed_room {i = i} (by.assign x t y) h = absurd (chain_nests (at.kind i) (first_word x) h)
deed_room {i = i} (by.call_statement ss x e) h = absurd (chain_nests (at.kind i) (first_word x) h)

-- ---- near words

pub arguments_near : {rules : Rules} {c : Context} {es : List Expr} {i z : Position}
    → Spelled rules c (thing.arguments es) i z
    → Sees kind.LeftParen i → Kept (rules fault.Ambiguous) (IsNear i)
arguments_near (by.no_arguments t n r u) s = n
arguments_near (by.arguments t n r x u) s = n
arguments_near (by.table_argument x) s = absurd (cc (table_word _ (first_word x), s))
arguments_near (by.text_argument t) s = absurd (cc (t.seen, s))

pub suffix_near : {rules : Rules} {c : Context} {suffix : Suffix} {i z : Position}
    → Spelled rules c (thing.suffix suffix) i z
    → Sees kind.LeftParen i → Kept (rules fault.Ambiguous) (IsNear i)
suffix_near (by.member t n) s = absurd (cc (t.seen, s))
suffix_near (by.index t r x u) s = absurd (cc (t.seen, s))
suffix_near (by.call x) s = arguments_near x s
suffix_near (by.method t n x) s = absurd (cc (t.seen, s))
