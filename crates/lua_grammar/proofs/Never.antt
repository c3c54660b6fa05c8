-- Where a reader is stuck, nothing of the class is spelled, whatever words stand behind the next one.
use Rattle.std.proofs.Common.{ℕ, List}
use Rattle.lua_grammar.specs.declared.kinds.SyntaxKind.{SyntaxKind}
use Rattle.lua_grammar.specs.declared.context.Context.{Context}
use Rattle.lua_grammar.specs.declared.words.Word.{Word}
use Rattle.lua_grammar.specs.Positions.{Position}
use Rattle.lua_grammar.specs.Stops.{rank, up_to}
use Rattle.lua_grammar.specs.Classes.{Class, Reads}
use Rattle.lua_grammar.specs.Stuck as stuck
use Rattle.lua_grammar.specs.Stuck.{Stuck}
use Rattle.lua_grammar.proofs.Continuations.{instead, Shown}
use Rattle.lua_grammar.proofs.NeverParts.{Never, never_refused, never_inside}
use Rattle.lua_grammar.proofs.NeverExpressions.{never_expression, never_unary_level, never_simple, never_simple_level}
use Rattle.lua_grammar.proofs.NeverExpressions.{never_varargs, never_first_expression, never_more_expressions}
use Rattle.lua_grammar.proofs.NeverExpressions.{never_constructor_level, never_first_field, never_more_fields}
use Rattle.lua_grammar.proofs.NeverExpressions.{never_plain}
use Rattle.lua_grammar.proofs.NeverSuffixes.{never_head, never_head_level, never_chain_head, never_chain_suffixes}
use Rattle.lua_grammar.proofs.NeverSuffixes.{never_own_chain, never_suffix_line, never_suffix_level, never_suffix}
use Rattle.lua_grammar.proofs.NeverSuffixes.{never_suffixes, never_arguments, never_arguments_line}
use Rattle.lua_grammar.proofs.NeverSuffixes.{never_arguments_level}
use Rattle.lua_grammar.proofs.NeverCounts.{never_suffix_count}
use Rattle.lua_grammar.proofs.NeverFunctions.{never_parameter, never_more_parameters, never_last_comma}
use Rattle.lua_grammar.proofs.NeverFunctions.{never_no_parameters, never_in_parameters, never_body_refused}
use Rattle.lua_grammar.proofs.NeverFunctions.{never_body_inside, never_function_refused, never_function_inside}
use Rattle.lua_grammar.proofs.NeverFunctions.{never_function_statement, never_method_refused, never_method_inside}
use Rattle.lua_grammar.proofs.NeverStatements.{never_break, never_deed, never_deed_level, never_local_level, never_name}
use Rattle.lua_grammar.proofs.NeverStatements.{never_more_names, never_for_names, never_for_in, never_for_list}
use Rattle.lua_grammar.proofs.NeverStatements.{never_for_block}
use Rattle.lua_grammar.proofs.NeverTargets.{never_front, never_alone, never_more_of_targets, never_no_assign}
use Rattle.lua_grammar.proofs.NeverTargets.{never_assigned, never_first_target, never_more_targets, never_target}
use Rattle.lua_grammar.proofs.NeverTargets.{never_no_target}

pub none_from : {f : SyntaxKind} {c : Context} {k : Class} {i z : Position} → Stuck f c k i z → Never f c k i z
none_from (stuck.refused production read r) = never_refused production read r
none_from (stuck.inside production read s) = never_inside production read s (none_from s)
none_from (stuck.expression s) = never_expression s (none_from s)
none_from (stuck.unary_level g le s full) = never_unary_level _ g s full
none_from (stuck.simple none) = never_simple _ none
none_from (stuck.simple_level nests full) = never_simple_level _ nests full
none_from (stuck.varargs s none) = never_varargs _ s none
none_from (stuck.chain_head {sought = sought} s) = never_chain_head sought s (none_from s)
none_from (stuck.chain_suffixes x s) = never_chain_suffixes x s (none_from s)
none_from (stuck.own_chain s) = never_own_chain s (none_from s)
none_from (stuck.head none) = never_head _ none
none_from (stuck.head_level s full) = never_head_level _ s full
none_from (stuck.suffix_line {sought = sought} s far) = never_suffix_line sought _ s far
none_from (stuck.suffix_level {sought = sought} nests near full) = never_suffix_level sought _ nests full
none_from (stuck.suffix_count {sought = sought} begins near room none) = never_suffix_count sought _ begins none
none_from (stuck.suffix {sought = sought} begins count s) = never_suffix sought begins s (none_from s)
none_from (stuck.suffixes begins count x s) = never_suffixes begins x s (none_from s)
none_from (stuck.arguments none) = never_arguments _ none
none_from (stuck.arguments_line s far) = never_arguments_line _ s far
none_from (stuck.arguments_level nests begins near full) = never_arguments_level _ nests full
none_from (stuck.first_expression s) = never_first_expression s (none_from s)
none_from (stuck.more_expressions x t s) = never_more_expressions x t s (none_from s)
none_from (stuck.constructor_level s full) = never_constructor_level _ full
none_from (stuck.first_field n s) = never_first_field n s (none_from s)
none_from (stuck.more_fields n x e p s) = never_more_fields n x e p s (none_from s)
none_from (stuck.plain n e s) = never_plain n s (none_from s)
none_from (stuck.no_parameters n h) = never_no_parameters _ n
none_from (stuck.in_parameters b t h s) = never_in_parameters b t s (none_from s)
none_from (stuck.body_refused b t h ps read r) = never_body_refused b t ps read r
none_from (stuck.body_inside b t h ps u s) = never_body_inside b t ps u s (none_from s)
none_from (stuck.parameter none) = never_parameter _ none
none_from (stuck.more_parameters t u n s) = never_more_parameters t u s (none_from s)
none_from (stuck.last_comma t u s) = never_last_comma t u s
none_from (stuck.break_statement s none) = never_break _ s none
none_from (stuck.deed none) = never_deed _ none
none_from (stuck.deed_level nests full) = never_deed_level _ nests full
none_from (stuck.local_level t s full) = never_local_level t s full
none_from (stuck.function_refused w h read r) = never_function_refused w read r
none_from (stuck.function_inside w h read s) = never_function_inside w read s (none_from s)
none_from (stuck.function_statement w h read n s) = never_function_statement w read n s (none_from s)
none_from (stuck.method_refused w h read t read' r) = never_method_refused w read t read' r
none_from (stuck.method_inside w h read t n s) = never_method_inside w read t n s (none_from s)
none_from (stuck.name none) = never_name _ none
none_from (stuck.more_names t u s) = never_more_names t u s (none_from s)
none_from (stuck.for_names h s) = never_for_names s (none_from s)
none_from (stuck.for_in h unseen ns none) = never_for_in unseen ns none
none_from (stuck.for_list h ns t s) = never_for_list ns t s (none_from s)
none_from (stuck.for_block h ns t es s) = never_for_block ns t es s (none_from s)
none_from (stuck.front begins s) = never_front begins s (none_from s)
none_from (stuck.alone x none) = never_alone x none
none_from (stuck.more_of_targets x t s) = never_more_of_targets x t s (none_from s)
none_from (stuck.no_assign ts none) = never_no_assign ts none
none_from (stuck.assigned ts t s) = never_assigned ts t s (none_from s)
none_from (stuck.first_target s) = never_first_target s (none_from s)
none_from (stuck.more_targets x t s) = never_more_targets x t s (none_from s)
none_from (stuck.target s) = never_target s (none_from s)
none_from (stuck.no_target x r few none) = never_no_target x r none

-- by the rules looked for up to the fault, no words go on from those up to the one at fault
pub never : {f : SyntaxKind} {c : Context} {k : Class} {i z : Position} → Stuck f c k i z → {n : ℕ} {words : List Word}
    → Shown z n words
    → {j : Position} → Reads (up_to (rank f)) c k (instead n words i) j → ⊥
never s {n} {words} h {j} x = none_from s n words h j x
