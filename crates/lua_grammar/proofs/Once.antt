-- What is spelled from a position on has one tree and one end: each production in turn.
use Rattle.std.proofs.Common.{◌≡◌, List, refl, sym, ap, ◌∙◌}
use Rattle.lua_grammar.specs.declared.context.Context.{Context}
use Rattle.lua_grammar.specs.declared.words.Word.{Word}
use Rattle.lua_grammar.specs.declared.statements.Stat.{Stat}
use Rattle.lua_grammar.specs.declared.statements.Body.{Body}
use Rattle.lua_grammar.specs.Positions.{Position}
use Rattle.lua_grammar.specs.Contexts.{Rules}
use Rattle.lua_grammar.specs.Things.{Thing}
use Rattle.lua_grammar.specs.Grammar as by
use Rattle.lua_grammar.specs.Grammar.{Spelled}
use Rattle.lua_grammar.specs.Trees.{IsTree}
use Rattle.lua_grammar.proofs.FirstWords.{first_word, begins_expression, begins_names}
use Rattle.lua_grammar.proofs.Inversions.{moved, not_first, no_assignment, form}
use Rattle.lua_grammar.proofs.Unique.{Unique}
use Rattle.lua_grammar.proofs.OnceExpressions.{expression_once, operands_once, unary_once, power_once}
use Rattle.lua_grammar.proofs.OnceExpressions.{unary_exponent_once, exponent_once, no_links_once, more_links_once}
use Rattle.lua_grammar.proofs.OnceExpressions.{nil_value_once, false_value_once, true_value_once, number_once}
use Rattle.lua_grammar.proofs.OnceExpressions.{text_once, varargs_once, function_once, table_once, prefix_once}
use Rattle.lua_grammar.proofs.OnceExpressions.{chain_once, name_once, parenthesis_once, no_suffixes_once}
use Rattle.lua_grammar.proofs.OnceExpressions.{more_suffixes_once, member_once, index_once, call_once, method_once}
use Rattle.lua_grammar.proofs.OnceExpressions.{no_arguments_once, arguments_once, table_argument_once}
use Rattle.lua_grammar.proofs.OnceExpressions.{text_argument_once, own_chain_once}
use Rattle.lua_grammar.proofs.OnceLists.{last_expression_once, more_expressions_once, constructor_once, no_fields_once}
use Rattle.lua_grammar.proofs.OnceLists.{last_field_once, more_fields_once, keyed_once, named_once, plain_once}
use Rattle.lua_grammar.proofs.OnceLists.{function_body_once, no_parameters_once, only_varargs_once, last_parameter_once}
use Rattle.lua_grammar.proofs.OnceLists.{more_parameters_once, one_name_once, more_names_once}
use Rattle.lua_grammar.proofs.OnceStatements.{no_statements_once, last_statement_once, more_statements_once}
use Rattle.lua_grammar.proofs.OnceStatements.{statement_once, last_once, break_statement_once, return_nothing_once}
use Rattle.lua_grammar.proofs.OnceStatements.{return_values_once, do_block_once, while_loop_once, repeat_loop_once}
use Rattle.lua_grammar.proofs.OnceStatements.{if_statement_once, no_branches_once, more_branches_once, branch_once}
use Rattle.lua_grammar.proofs.OnceStatements.{no_else_once, else_block_once, for_loop_once, numeric_for_once}
use Rattle.lua_grammar.proofs.OnceStatements.{no_step_once, step_once, generic_for_once, loop_block_once}
use Rattle.lua_grammar.proofs.OnceStatements.{function_statement_once, method_statement_once, no_path_once}
use Rattle.lua_grammar.proofs.OnceStatements.{more_path_once, local_function_once, local_once, no_values_once}
use Rattle.lua_grammar.proofs.OnceStatements.{values_once}
use Rattle.lua_grammar.proofs.OnceTargets.{assign_once, one_target_once, more_targets_once, name_target_once}
use Rattle.lua_grammar.proofs.OnceTargets.{index_target_once, call_statement_once}

pub once : {rules : Rules} {c : Context} {t : Thing} {i j : Position} → Spelled rules c t i j → Unique rules c t i j
once (by.expression h x g) = expression_once h (once x) g
once (by.operands h x y) = operands_once h (once x) (once y)
once (by.unary h g k x) = unary_once h g k (once x)
once (by.power h x y) = power_once h (once x) (once y)
once (by.unary_exponent h g k x) = unary_exponent_once h g k (once x)
once (by.exponent h x) = exponent_once h (once x)
once (by.no_links h) = no_links_once h
once (by.more_links h g k x y) = more_links_once h g k (once x) (once y)
once (by.nil_value t) = nil_value_once t
once (by.false_value t) = false_value_once t
once (by.true_value t) = true_value_once t
once (by.number n) = number_once n
once (by.text n) = text_once n
once (by.varargs t h) = varargs_once t h
once (by.function h t x) = function_once h t (once x)
once (by.table x) = table_once (once x) (first_word x)
once (by.prefix x) = prefix_once (once x) (first_word x)
once (by.chain x y) = chain_once (once x) (once y)
once (by.name n) = name_once n
once (by.parenthesis t h x u) = parenthesis_once t h (once x) u
once (by.no_suffixes h) = no_suffixes_once h
once (by.more_suffixes h g x y) = more_suffixes_once h g (once x) (once y) (first_word (moved g.counted x))
once (by.member t n) = member_once t n
once (by.index t h x u) = index_once t h (once x) u
once (by.call x) = call_once (once x) (first_word x)
once (by.method t n x) = method_once t n (once x)
once (by.no_arguments t h g u) = no_arguments_once t h g u
once (by.arguments t h g x u) = arguments_once t h g (once x) u (not_first begins_expression (first_word x) refl)
once (by.table_argument x) = table_argument_once (once x) (first_word x)
once (by.text_argument n) = text_argument_once n
once (by.last_expression x h) = last_expression_once (once x) h
once (by.more_expressions x t y) = more_expressions_once (once x) t (once y)
once (by.constructor t h x u) = constructor_once t h (once x) u
once (by.no_fields h) = no_fields_once h
once (by.last_field h x g) = last_field_once h (once x) g
once (by.more_fields h x g k y) = more_fields_once h (once x) g k (once y)
once (by.keyed t x u m y) = keyed_once t (once x) u m (once y)
once (by.named n t x) = named_once n t (once x)
once (by.plain h x) = plain_once h (once x) (not_first begins_expression (first_word x) refl)
once (by.function_body h t x u g y m k) = function_body_once h t (once x) u g (once y) m k
once (by.no_parameters h) = no_parameters_once h
once (by.only_varargs t) = only_varargs_once t
once (by.last_parameter n h) = last_parameter_once n h
once (by.more_parameters n t h x) = more_parameters_once n t h (once x)
once (by.no_statements h) = no_statements_once h
once (by.last_statement x h) = last_statement_once (once x) h (first_word x)
once (by.more_statements x y) = more_statements_once (once x) (once y) (first_word x)
once (by.statement h x g) = statement_once h (once x) g
once (by.last h x g) = last_once h (once x) g
once (by.break_statement t h) = break_statement_once t h
once (by.return_nothing t h) = return_nothing_once t h
once (by.return_values t h x g) = return_values_once t h (once x) g
once (by.do_block t h x u) = do_block_once t h (once x) u
once (by.while_loop t x y) = while_loop_once t (once x) (once y)
once (by.repeat_loop t h x u y) = repeat_loop_once t h (once x) u (once y)
once (by.if_statement t x y v u) = if_statement_once t (once x) (once y) (once v) u
once (by.no_branches h) = no_branches_once h
once (by.more_branches t x y) = more_branches_once t (once x) (once y)
once (by.branch x t h y) = branch_once (once x) t h (once y)
once (by.no_else h) = no_else_once h
once (by.else_block t h x) = else_block_once t h (once x)
once (by.for_loop t x) = for_loop_once t (once x)
once (by.numeric_for n t x u y v w) = numeric_for_once n t (once x) u (once y) (once v) (once w)
once (by.no_step h) = no_step_once h
once (by.step t x) = step_once t (once x)
once (by.generic_for x t y v) = generic_for_once (once x) t (once y) (once v) (no_assignment _ (form x) t)
once (by.loop_block t h x u) = loop_block_once t h (once x) u
once (by.function_statement h t n x g y) = function_statement_once h t n (once x) g (once y)
once (by.method_statement h t n x u o y) = method_statement_once h t n (once x) u o (once y)
once (by.no_path h) = no_path_once h
once (by.more_path t n x) = more_path_once t n (once x)
once (by.local_function t h u n x) = local_function_once t h u n (once x)
once (by.local t x y) = local_once t (once x) (once y) (not_first begins_names (first_word x) refl)
once (by.one_name n h) = one_name_once n h
once (by.more_names n t x) = more_names_once n t (once x)
once (by.no_values h) = no_values_once h
once (by.values t x) = values_once t (once x)
once (by.assign x t y) = assign_once (once x) t (once y) (first_word x)
once (by.one_target x h) = one_target_once (once x) h
once (by.more_targets x t y) = more_targets_once (once x) t (once y)
once (by.own_chain h x g) = own_chain_once h (once x) g
once (by.name_target x) = name_target_once (once x)
once (by.index_target suffixes x h) = index_target_once suffixes (once x) h
once (by.call_statement suffixes x h) = call_statement_once suffixes (once x) h (first_word x)

pub one_tree : {rules : Rules} (words : List Word) (block block' : List Stat) (bodies bodies' : List Body)
    → IsTree rules words block bodies → IsTree rules words block' bodies' → (block ≡ block') × (bodies ≡ bodies')
one_tree words block block' bodies bodies' tree tree' =
    let (same, end) = once tree.spelled _ _ tree'.spelled in
    (same, tree.bodies_are ∙ ap (λ (p : Position). p.bodies) end ∙ sym tree'.bodies_are)
