-- Which word each thing begins with.
use Rattle.std.proofs.Common.{◌≡◌, Bool, true, false, Option, Some, option_and_then, ap, subst, refl}
use Rattle.lua_lex.specs.declared.kinds.TokenKind.{TokenKind}
use Rattle.lua_lex.specs.declared.kinds.TokenKind.TheVariants as kind
use Rattle.lua_grammar.specs.declared.context.Context.{Context}
use Rattle.lua_grammar.specs.declared.operators.Unary.{Unary}
use Rattle.lua_grammar.specs.Operators.{unary_operator}
use Rattle.lua_grammar.specs.Words.{begins_suffix}
use Rattle.lua_grammar.specs.Positions as at
use Rattle.lua_grammar.specs.Positions.{Position, BeginsExpression}
use Rattle.lua_grammar.specs.Contexts.{Rules}
use Rattle.lua_grammar.specs.Things as thing
use Rattle.lua_grammar.specs.Things.{Thing}
use Rattle.lua_grammar.specs.Grammar as by
use Rattle.lua_grammar.specs.Grammar.{Spelled}
use Rattle.lua_grammar.specs.Productions.{begins_chain, begins_arguments, begins_last}
use Rattle.lua_grammar.specs.Stuck.{begins_deed}

abbrev pub begins_names : Option TokenKind → Bool
begins_names (Some kind.Name) = true
begins_names _ = false

abbrev pub begins_table : Option TokenKind → Bool
begins_table (Some kind.LeftBrace) = true
begins_table _ = false

abbrev pub begins_expression : Option TokenKind → Bool
begins_expression (Some kind.Nil) = true
begins_expression (Some kind.False) = true
begins_expression (Some kind.True) = true
begins_expression (Some (kind.Number n)) = true
begins_expression (Some kind.Text) = true
begins_expression (Some kind.Dots) = true
begins_expression (Some kind.Function) = true
begins_expression (Some kind.LeftBrace) = true
begins_expression (Some kind.Name) = true
begins_expression (Some kind.LeftParen) = true
begins_expression (Some kind.Not) = true
begins_expression (Some kind.Hash) = true
begins_expression (Some kind.Minus) = true
begins_expression _ = false

abbrev pub anything : Option TokenKind → Bool
anything w = true

abbrev pub begins : Thing → Option TokenKind → Bool
begins (thing.expression _) = begins_expression
begins (thing.operand _ _) = begins_expression
begins (thing.simple _) = begins_expression
begins (thing.list _) = begins_expression
begins (thing.head _) = begins_chain
begins (thing.chain _ _) = begins_chain
begins (thing.own_chain _ _) = begins_chain
begins (thing.targets _) = begins_chain
begins (thing.target _) = begins_chain
begins (thing.suffix _) = begins_suffix
begins (thing.arguments _) = begins_arguments
begins (thing.constructor _) = begins_table
begins (thing.deed _) = begins_deed
begins (thing.names _) = begins_names
begins (thing.statement _) = begins_deed
begins (thing.last _) = begins_last
begins (thing.last_deed _) = begins_last
begins _ = anything

signs_begin : (w : Option TokenKind) {by : Unary} → option_and_then unary_operator w ≡ Some by
    → begins_expression w ≡ true
signs_begin (Some kind.Not) e = refl
signs_begin (Some kind.Hash) e = refl
signs_begin (Some kind.Minus) e = refl
signs_begin w e = cc

chains_begin_expressions : (w : Option TokenKind) → begins_chain w ≡ true → begins_expression w ≡ true
chains_begin_expressions (Some kind.Name) e = refl
chains_begin_expressions (Some kind.LeftParen) e = refl
chains_begin_expressions w e = cc

tables_begin : (w : Option TokenKind) → begins_table w ≡ true → begins_expression w ≡ true
tables_begin (Some kind.LeftBrace) e = refl
tables_begin w e = cc

table_arguments_begin : (w : Option TokenKind) → begins_table w ≡ true → begins_arguments w ≡ true
table_arguments_begin (Some kind.LeftBrace) e = refl
table_arguments_begin w e = cc

chain_deeds_begin : (w : Option TokenKind) → begins_chain w ≡ true → begins_deed w ≡ true
chain_deeds_begin (Some kind.Name) e = refl
chain_deeds_begin (Some kind.LeftParen) e = refl
chain_deeds_begin w e = cc

arguments_begin : (w : Option TokenKind) → begins_arguments w ≡ true → begins_suffix w ≡ true
arguments_begin (Some kind.LeftParen) e = refl
arguments_begin (Some kind.LeftBrace) e = refl
arguments_begin (Some kind.Text) e = refl
arguments_begin w e = cc

begun : (first : Option TokenKind → Bool) {i j : Position} → BeginsExpression i j → first (at.kind j) ≡ true
    → first (at.kind i) ≡ true
begun first b e = subst (λ (p : Position). first (at.kind p) ≡ true) b.begun e

pub first_word : {rules : Rules} {c : Context} {t : Thing} {i j : Position} → Spelled rules c t i j
    → begins t (at.kind i) ≡ true
first_word (by.expression b x r) = begun begins_expression b (first_word x)
first_word (by.operands le x ls) = first_word x
first_word (by.unary s p r x) = signs_begin _ s
first_word (by.power s x ls) = first_word x
first_word (by.unary_exponent s p r x) = signs_begin _ s
first_word (by.exponent s x) = first_word x
first_word (by.nil_value t) = ap begins_expression t.seen
first_word (by.false_value t) = ap begins_expression t.seen
first_word (by.true_value t) = ap begins_expression t.seen
first_word (by.number t) = ap begins_expression t.seen
first_word (by.text t) = ap begins_expression t.seen
first_word (by.varargs t k) = ap begins_expression t.seen
first_word (by.function l t b) = ap begins_expression t.seen
first_word (by.table x) = tables_begin _ (first_word x)
first_word (by.prefix x) = chains_begin_expressions _ (first_word x)
first_word (by.chain x ss) = first_word x
first_word (by.name t) = ap begins_chain t.seen
first_word (by.parenthesis t r x u) = ap begins_chain t.seen
first_word (by.member t n) = ap begins_suffix t.seen
first_word (by.index t r x u) = ap begins_suffix t.seen
first_word (by.call x) = arguments_begin _ (first_word x)
first_word (by.method t n x) = ap begins_suffix t.seen
first_word (by.no_arguments t n r u) = ap begins_arguments t.seen
first_word (by.arguments t n r x u) = ap begins_arguments t.seen
first_word (by.table_argument x) = table_arguments_begin _ (first_word x)
first_word (by.text_argument t) = ap begins_arguments t.seen
first_word (by.last_expression x n) = first_word x
first_word (by.more_expressions x t xs) = first_word x
first_word (by.constructor t r x u) = ap begins_table t.seen
first_word (by.statement l x s) = first_word x
first_word (by.last l x s) = first_word x
first_word (by.break_statement t k) = ap begins_last t.seen
first_word (by.return_nothing t e) = ap begins_last t.seen
first_word (by.return_values t e x r) = ap begins_last t.seen
first_word (by.do_block t r x u) = ap begins_deed t.seen
first_word (by.while_loop t x y) = ap begins_deed t.seen
first_word (by.repeat_loop t r x u y) = ap begins_deed t.seen
first_word (by.if_statement t x y z u) = ap begins_deed t.seen
first_word (by.for_loop t x) = ap begins_deed t.seen
first_word (by.function_statement l t n p s x) = ap begins_deed t.seen
first_word (by.method_statement l t n p u m x) = ap begins_deed t.seen
first_word (by.local_function t l u n x) = ap begins_deed t.seen
first_word (by.local t x y) = ap begins_deed t.seen
first_word (by.one_name t n) = ap begins_names t.seen
first_word (by.more_names t u ns) = ap begins_names t.seen
first_word (by.assign x t y) = chain_deeds_begin _ (first_word x)
first_word (by.one_target x s) = first_word x
first_word (by.more_targets x t xs) = first_word x
first_word (by.own_chain b x r) = begun begins_chain b (first_word x)
first_word (by.name_target x) = first_word x
first_word (by.index_target ss x e) = first_word x
first_word (by.call_statement ss x e) = chain_deeds_begin _ (first_word x)
first_word _ = refl
