-- The words of a text before the one that a reader is stuck at, or up to it, go on to what was read: each way to get
-- stuck in turn.
use Rattle.std.proofs.Common.{ℕ, ◌<◌, length}
use Rattle.lua_grammar.specs.declared.kinds.SyntaxKind.{SyntaxKind}
use Rattle.lua_grammar.specs.declared.context.Context.{Context}
use Rattle.lua_grammar.specs.Positions.{Position}
use Rattle.lua_grammar.specs.Contexts.{Rules}
use Rattle.lua_grammar.specs.Classes.{Class}
use Rattle.lua_grammar.specs.Stuck as stuck
use Rattle.lua_grammar.specs.Stuck.{Stuck}
use Rattle.lua_grammar.proofs.StuckGoes.{stuck_goes}
use Rattle.lua_grammar.proofs.Continuations.{Mode, Goal}
use Rattle.lua_grammar.proofs.ProductionsGoOn.{production_refused, production_inside}
use Rattle.lua_grammar.proofs.PlacesGoOnExpressions.{expression_goes_on, unary_level_goes_on, simple_goes_on}
use Rattle.lua_grammar.proofs.PlacesGoOnExpressions.{simple_level_goes_on, constructor_level_goes_on, varargs_goes_on}
use Rattle.lua_grammar.proofs.PlacesGoOnLists.{first_expression_goes_on, more_expressions_goes_on, name_goes_on}
use Rattle.lua_grammar.proofs.PlacesGoOnLists.{more_names_goes_on, first_field_goes_on, more_fields_goes_on}
use Rattle.lua_grammar.proofs.PlacesGoOnLists.{plain_goes_on}
use Rattle.lua_grammar.proofs.PlacesGoOnFunctions.{parameter_goes_on, more_parameters_goes_on, last_comma_goes_on}
use Rattle.lua_grammar.proofs.PlacesGoOnFunctions.{no_parameters_goes_on, in_parameters_goes_on, body_inside_goes_on}
use Rattle.lua_grammar.proofs.PlacesGoOnFunctions.{body_refused_goes_on}
use Rattle.lua_grammar.proofs.PlacesGoOnLoops.{for_names_goes_on, for_in_goes_on, for_list_goes_on, for_block_goes_on}
use Rattle.lua_grammar.proofs.PlacesGoOnStatements.{deed_goes_on, deed_level_goes_on, local_level_goes_on}
use Rattle.lua_grammar.proofs.PlacesGoOnStatements.{break_statement_goes_on}
use Rattle.lua_grammar.proofs.PlacesGoOnNamed.{function_refused_goes_on, function_inside_goes_on}
use Rattle.lua_grammar.proofs.PlacesGoOnNamed.{function_statement_goes_on, method_inside_goes_on}
use Rattle.lua_grammar.proofs.PlacesGoOnNamed.{method_refused_goes_on}
use Rattle.lua_grammar.proofs.ChainsGoOnLeaves.{head_goes_on, head_level_goes_on, arguments_goes_on}
use Rattle.lua_grammar.proofs.ChainsGoOnLeaves.{arguments_line_goes_on, arguments_level_goes_on}
use Rattle.lua_grammar.proofs.ChainsGoOnSuffixes.{suffix_line_goes_on, suffix_level_goes_on, suffix_count_goes_on}
use Rattle.lua_grammar.proofs.ChainsGoOnSuffixes.{suffix_goes_on, suffixes_go_on}
use Rattle.lua_grammar.proofs.ChainsGoOnChains.{chain_head_goes_on, chain_suffixes_goes_on, own_chain_goes_on}
use Rattle.lua_grammar.proofs.ChainsGoOnTargets.{target_goes_on, first_target_goes_on, more_targets_goes_on}
use Rattle.lua_grammar.proofs.ChainsGoOnTargets.{no_target_goes_on}
use Rattle.lua_grammar.proofs.ChainsGoOnDeeds.{front_goes_on, alone_goes_on, more_of_targets_goes_on, no_assign_goes_on}
use Rattle.lua_grammar.proofs.ChainsGoOnDeeds.{assigned_goes_on}

pub goes_on : {f : SyntaxKind} {c : Context} {k : Class} {i z : Position} → Stuck f c k i z → {rules : Rules} {n : ℕ}
    → Mode f z rules n
    → n < length i.words → Goal rules c k n i
goes_on (stuck.refused production read r) m less = production_refused production read r m less
goes_on (stuck.inside production read s) m less =
    production_inside production read (λ more. goes_on s m more) m (stuck_goes s).words less
goes_on (stuck.expression {i = i} s) {n = n} m less = expression_goes_on n i (goes_on s m less)
goes_on (stuck.unary_level {i = i} low high s full) m less = unary_level_goes_on i low high s m less
goes_on (stuck.simple {i = i} s) m less = simple_goes_on i s m less
goes_on (stuck.simple_level {i = i} h full) m less = simple_level_goes_on i h m less
goes_on (stuck.varargs {i = i} s none) m less = varargs_goes_on i s m less
goes_on (stuck.first_expression {i = i} s) {n = n} m less = first_expression_goes_on n i (goes_on s m less)
goes_on (stuck.more_expressions x t s) m less = more_expressions_goes_on x t m (stuck_goes s).words (λ l. goes_on s m l)
goes_on (stuck.constructor_level {i = i} s full) m less = constructor_level_goes_on i s m less
goes_on (stuck.first_field {i = i} unseen s) {n = n} m less = first_field_goes_on n i unseen less (goes_on s m less)
goes_on (stuck.more_fields unseen x sep p s) m less =
    more_fields_goes_on unseen x sep p m (stuck_goes s).words less (λ l. goes_on s m l)
goes_on (stuck.plain {i = i} unseen none s) {n = n} m less = plain_goes_on n i (goes_on s m less)
goes_on (stuck.no_parameters unseen level) m less = no_parameters_goes_on m less
goes_on (stuck.in_parameters {line = line} {method = method} b u level s) m less =
    in_parameters_goes_on line method b u level m (stuck_goes s).words (λ l. goes_on s m l)
goes_on (stuck.body_refused {line = line} {method = method} b u level x read refused) m less =
    body_refused_goes_on line method b u level x read refused m
goes_on (stuck.body_inside {line = line} {method = method} b u level x v s) m less =
    body_inside_goes_on line method b u level x v m (stuck_goes s).words (λ l. goes_on s m l)
goes_on (stuck.parameter {i = i} e) m less = parameter_goes_on i m less
goes_on (stuck.more_parameters x u unseen s) m less =
    more_parameters_goes_on x u unseen m (stuck_goes s).words (λ l. goes_on s m l)
goes_on (stuck.last_comma x u closes) m less = last_comma_goes_on x u m
goes_on (stuck.break_statement {i = i} s none) m less = break_statement_goes_on i s m less
goes_on (stuck.deed {i = i} e) m less = deed_goes_on i m less
goes_on (stuck.deed_level {i = i} h full) m less = deed_level_goes_on i h m less
goes_on (stuck.local_level u s full) m less = local_level_goes_on u s m
goes_on (stuck.function_refused s level read refused) m less = function_refused_goes_on level read refused m
goes_on (stuck.function_inside s level read inner) m less =
    function_inside_goes_on level read m (stuck_goes inner).words (λ l. goes_on inner m l)
goes_on (stuck.function_statement s level read unseen inner) m less =
    function_statement_goes_on level read unseen m (stuck_goes inner).words less (λ l. goes_on inner m l)
goes_on (stuck.method_refused s level read u last refused) m less = method_refused_goes_on level read u last refused m
goes_on (stuck.method_inside s level read u v inner) m less =
    method_inside_goes_on level read u v m (stuck_goes inner).words less (λ l. goes_on inner m l)
goes_on (stuck.name {i = i} s) m less = name_goes_on i m less
goes_on (stuck.more_names x u s) m less = more_names_goes_on x u m (stuck_goes s).words (λ l. goes_on s m l)
goes_on (stuck.for_names {i = i} level s) {n = n} m less = for_names_goes_on n i level (goes_on s m less)
goes_on (stuck.for_in level unseen x other) m less = for_in_goes_on level x m
goes_on (stuck.for_list level x u s) m less = for_list_goes_on level x u m (stuck_goes s).words (λ l. goes_on s m l)
goes_on (stuck.for_block level x u y s) m less =
    for_block_goes_on level x u y m (stuck_goes s).words (λ l. goes_on s m l)
goes_on {c = c} {i = i} (stuck.chain_head {sought = sought} s) {rules} {n} mode less =
    chain_head_goes_on rules c sought n i (goes_on s mode less)
goes_on {c = c} {i = i} (stuck.chain_suffixes {sought = sought} x s) {rules} {n} mode less =
    chain_suffixes_goes_on c sought i x mode (stuck_goes s).words (λ more. goes_on s mode more)
goes_on {c = c} {i = i} (stuck.own_chain {sought = sought} s) {rules} {n} mode less =
    own_chain_goes_on rules c sought n i (goes_on s mode less)
goes_on (stuck.head h) mode less = head_goes_on h mode less
goes_on (stuck.head_level h full) mode less = head_level_goes_on h full mode less
goes_on {c = c} {i = i} (stuck.suffix_line {sought = sought} s far) mode less =
    suffix_line_goes_on c sought i s far mode less
goes_on {c = c} {i = i} (stuck.suffix_level {sought = sought} nests near full) mode less =
    suffix_level_goes_on c sought i nests near full mode less
goes_on {c = c} {i = i} (stuck.suffix_count {sought = sought} begins near level many) mode less =
    suffix_count_goes_on c sought i begins near level many mode less
goes_on {c = c} {i = i} (stuck.suffix {sought = sought} begins count s) mode less =
    suffix_goes_on c sought i count mode less (goes_on s mode less)
goes_on {c = c} {i = i} (stuck.suffixes {sought = sought} begins count x s) mode less =
    suffixes_go_on c sought i count x mode (stuck_goes s).words less (λ more. goes_on s mode more)
goes_on (stuck.arguments h) mode less = arguments_goes_on h mode less
goes_on (stuck.arguments_line h far) mode less = arguments_line_goes_on h far mode less
goes_on (stuck.arguments_level nests h near full) mode less = arguments_level_goes_on nests h near full mode less
goes_on {c = c} {i = i} (stuck.front h s) {rules} {n} mode less = front_goes_on rules c n i (goes_on s mode less)
goes_on (stuck.alone x unnamed) mode less = alone_goes_on x mode
goes_on {c = c} {i = i} (stuck.more_of_targets x comma s) mode less =
    more_of_targets_goes_on c i x comma mode (stuck_goes s).words (λ more. goes_on s mode more)
goes_on (stuck.no_assign x n) mode less = no_assign_goes_on x mode
goes_on {c = c} {i = i} (stuck.assigned x assign s) mode less =
    assigned_goes_on c i x assign mode (stuck_goes s).words (λ more. goes_on s mode more)
goes_on {c = c} {i = i} (stuck.first_target s) {rules} {n} mode less =
    first_target_goes_on rules c n i (goes_on s mode less)
goes_on {c = c} {i = i} (stuck.more_targets x comma s) mode less =
    more_targets_goes_on c i x comma mode (stuck_goes s).words (λ more. goes_on s mode more)
goes_on {c = c} {i = i} (stuck.target s) {rules} {n} mode less = target_goes_on rules c n i (goes_on s mode less)
goes_on {i = i} (stuck.no_target x r count none) mode less = no_target_goes_on i x r count none mode
