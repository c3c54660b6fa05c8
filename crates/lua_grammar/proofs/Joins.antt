-- The parts of a production, joined.
use Rattle.std.proofs.Common.{◌≡◌, ℕ, true, false, List, Option, Some, None, option_and_then, refl, sym, ap, ◌∙◌}
use Rattle.lua_lex.specs.declared.kinds.TokenKind.{TokenKind}
use Rattle.lua_lex.specs.declared.kinds.TokenKind.TheVariants as kind
use Rattle.lua_grammar.specs.declared.kinds.SyntaxKind.TheVariants as fault
use Rattle.lua_grammar.specs.declared.context.Context.{Context}
use Rattle.lua_grammar.specs.declared.operators.Unary.{Unary}
use Rattle.lua_grammar.specs.declared.operators.Binary.{Binary}
use Rattle.lua_grammar.specs.Operators.{binary_operator, unary_operator}
use Rattle.lua_grammar.specs.Words.{ends_return}
use Rattle.lua_grammar.specs.Positions as at
use Rattle.lua_grammar.specs.Positions.{Position}
use Rattle.lua_grammar.specs.Contexts.{Rules}
use Rattle.lua_grammar.specs.Grammar as by
use Rattle.lua_grammar.specs.Classes.{Class, Reads}
use Rattle.lua_grammar.specs.Productions as parts
use Rattle.lua_grammar.specs.Productions.{Part, Production, AreParts}
use Rattle.lua_grammar.proofs.FirstWords.{first_word, begins_expression}
use Rattle.lua_grammar.proofs.Returns.{returns}
use Rattle.lua_grammar.proofs.Modes.{given, room}

-- the words at which a `return` ends begin no expression
values_begin : (w : Option TokenKind) → begins_expression w ≡ true → ends_return w ≡ false
values_begin None h = cc
values_begin (Some kind.Semicolon) h = cc
values_begin (Some kind.End) h = cc
values_begin (Some kind.Else) h = cc
values_begin (Some kind.ElseIf) h = cc
values_begin (Some kind.Until) h = cc
values_begin w h = refl

words_are : {i j : Position} → j ≡ i → i.words ≡ j.words
words_are e = ap (λ (p : Position). p.words) (sym e)

same_sign : (i i' : Position) {by : Option Unary} → at.kind i' ≡ at.kind i → at.sign i ≡ by → at.sign i' ≡ by
same_sign i i' e s = ap (option_and_then unary_operator) e ∙ s

same_joint : (rank : ℕ) (i i' : Position) {by : Option Binary} → at.kind i' ≡ at.kind i → at.joint rank i ≡ by
    → at.joint rank i' ≡ by
same_joint rank i i' e s = ap (λ (w : Option TokenKind). at.of_rank rank (option_and_then binary_operator w)) e ∙ s

-- the words from a position with the same first word, as far as a production looks at it, spell the same class
pub joins : {c : Context} {i i' : Position} {k : Class} {ps : List Part} → Production c i k ps → at.kind i' ≡ at.kind i
    → at.line i' ≡ at.line i
    → i'.line ≡ i.line
    → {rules : Rules} (j : Position) → AreParts rules ps i' j → (j' : Position) × Reads rules c k i' j'
    × (j'.words ≡ j.words)
joins (parts.operand le) ek el eb _ (j, (x, s), (k, (xs, ls), e)) = (k, (_, by.operands le s ls), words_are e)
joins {i = i} {i' = i'} (parts.unary g h) ek el eb {rules} _ (j, p, (k, (x, s), e)) =
    (k, (_, by.unary (same_sign i i' ek g) p (room rules h) s), words_are e)
joins {i = i} {i' = i'} (parts.power g) ek el eb _ (j, (x, s), (k, (xs, ls), e)) =
    (k, (_, by.power (same_sign i i' ek g) s ls), words_are e)
joins {i = i} {i' = i'} (parts.unary_exponent g h) ek el eb {rules} _ (j, p, (k, (x, s), e)) =
    (k, (_, by.unary_exponent (same_sign i i' ek g) p (room rules h) s), words_are e)
joins {i = i} {i' = i'} (parts.exponent g) ek el eb _ (j, (x, s), e) =
    (j, (_, by.exponent (same_sign i i' ek g) s), words_are e)
joins {i = i} {i' = i'} (parts.links {rank} g) ek el eb _ (j, (short, p), (k, (x, s), (l, (xs, ls), e))) =
    (l, (_, by.more_links (same_joint rank i i' ek g) short p s ls), words_are e)
joins (parts.function g h) ek el eb _ (j, (l, t), (k, (x, s), e)) = (k, (_, by.function l t s), words_are e)
joins (parts.table g) ek el eb _ (j, (x, s), e) = (j, (_, by.table s), words_are e)
joins (parts.prefix g) ek el eb _ (j, (x, s), e) = (j, (_, by.prefix s), words_are e)
joins (parts.parenthesis g h) ek el eb {rules} _ (j, t, (k, (x, s), (l, u, e))) =
    (l, (_, by.parenthesis t (room rules h) s u), words_are e)
joins (parts.member g) ek el eb _ (j, t, (k, (n, u), e)) = (k, (_, by.member t u), words_are e)
joins (parts.index g h) ek el eb {rules} _ (j, t, (k, (x, s), (l, u, e))) =
    (l, (_, by.index t (room rules h) s u), words_are e)
joins (parts.method g) ek el eb _ (j, t, (k, (n, u), (l, (x, s), e))) = (l, (_, by.method t u s), words_are e)
joins (parts.call g) ek el eb _ (j, (x, s), e) = (j, (_, by.call s), words_are e)
joins (parts.arguments g near n h) ek el eb {rules} _ (j, t, (k, (x, s), (l, u, e))) =
    (l, (_, by.arguments t (given (rules fault.Ambiguous) (el ∙ near ∙ sym eb)) (room rules h) s u), words_are e)
joins (parts.table_argument g) ek el eb _ (j, (x, s), e) = (j, (_, by.table_argument s), words_are e)
joins (parts.constructor g h) ek el eb {rules} _ (j, t, (k, (x, s), (l, u, e))) =
    (l, (_, by.constructor t (room rules h) s u), words_are e)
joins (parts.keyed g) ek el eb _ (j, t, (k, (x, s), (l, u, (m, v, (n, (y, r), e))))) =
    (n, (_, by.keyed t s u v r), words_are e)
joins (parts.named g g') ek el eb _ (j, (n, t), (k, u, (l, (x, s), e))) = (l, (_, by.named t u s), words_are e)
joins (parts.statements g g') ek el eb _ (j, (x, s), (k, (xs, ss), e)) = (k, (_, by.more_statements s ss), words_are e)
joins (parts.last g) ek el eb _ (j, (x, s), (k, (ends, there), e)) =
    (j, (_, by.last_statement s ends), words_are (e ∙ there))
joins parts.statement ek el eb _ (j, (x, s), (k, p, e)) = (k, (_, by.statement refl s p), words_are e)
joins parts.last_statement ek el eb _ (j, (x, s), (k, p, e)) = (k, (_, by.last refl s p), words_are e)
joins (parts.return_values g n) ek el eb _ (j, t, (k, (x, s), e)) =
    (k, (_, by.return_values t (values_begin _ (first_word s)) s (returns x).1), words_are e)
joins (parts.do_block g h) ek el eb {rules} _ (j, t, (k, (x, s), (l, u, e))) =
    (l, (_, by.do_block t (room rules h) s u), words_are e)
joins (parts.while_loop g h) ek el eb _ (j, t, (k, (x, s), (l, (y, r), e))) = (l, (_, by.while_loop t s r), words_are e)
joins (parts.repeat_loop g h) ek el eb {rules} _ (j, t, (k, (x, s), (l, u, (m, (y, r), e)))) =
    (m, (_, by.repeat_loop t (room rules h) s u r), words_are e)
joins (parts.if_statement g h) ek el eb _ (j, t, (k, (x, s), (l, (xs, ss), (m, (y, r), (n, u, e))))) =
    (n, (_, by.if_statement t s ss r u), words_are e)
joins (parts.branch h) ek el eb {rules} _ (j, (x, s), (k, t, (l, (y, r), e))) =
    (l, (_, by.branch s t (room rules h) r), words_are e)
joins (parts.branches g h) ek el eb _ (j, t, (k, (x, s), (l, (xs, ss), e))) =
    (l, (_, by.more_branches t s ss), words_are e)
joins (parts.otherwise g h) ek el eb {rules} _ (j, t, (k, (x, s), e)) =
    (k, (_, by.else_block t (room rules h) s), words_are e)
joins (parts.for_loop g h) ek el eb _ (j, t, (k, (x, s), e)) = (k, (_, by.for_loop t s), words_are e)
joins (parts.numeric_for g g' h) ek el eb _
    (j, (name, t), (k, u, (l, (x, s), (m, v, (n, (y, r), (o, (z, q), (p, (b, body), e))))))) =
    (p, (_, by.numeric_for t u s v r q body), words_are e)
joins (parts.step g) ek el eb _ (j, t, (k, (x, s), e)) = (k, (_, by.step t s), words_are e)
joins (parts.loop_block h) ek el eb {rules} _ (j, t, (k, (x, s), (l, u, e))) =
    (l, (_, by.loop_block t (room rules h) s u), words_are e)
joins (parts.path g) ek el eb _ (j, t, (k, (n, u), (l, (x, s), e))) = (l, (_, by.more_path t u s), words_are e)
joins (parts.local_function g g' h) ek el eb _ (j, t, (k, (line, u), (l, (n, v), (m, (x, s), e)))) =
    (m, (_, by.local_function t line u v s), words_are e)
joins (parts.local g n) ek el eb _ (j, t, (k, (x, s), (l, (y, r), e))) = (l, (_, by.local t s r), words_are e)
joins (parts.values g) ek el eb _ (j, t, (k, (x, s), e)) = (k, (_, by.values t s), words_are e)
