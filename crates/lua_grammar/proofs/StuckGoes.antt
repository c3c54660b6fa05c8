-- A reader that gets stuck has gone forward through the words, and taken no body away.
use Rattle.std.proofs.Common.{List, refl, sym, subst}
use Rattle.lua_grammar.specs.declared.kinds.SyntaxKind.{SyntaxKind}
use Rattle.lua_grammar.specs.declared.context.Context.{Context}
use Rattle.lua_grammar.specs.Positions.{Position}
use Rattle.lua_grammar.specs.Contexts.{every_rule}
use Rattle.lua_grammar.specs.Classes.{Class}
use Rattle.lua_grammar.specs.Productions as parts
use Rattle.lua_grammar.specs.Productions.{Part, IsPart, Read}
use Rattle.lua_grammar.specs.Stuck as stuck
use Rattle.lua_grammar.specs.Stuck.{Stuck, fresh, counted}
use Rattle.lua_grammar.proofs.Progress.{Goes, stays, also, eaten, takes, takes_name, passes, passes_operator, counts}
use Rattle.lua_grammar.proofs.Progress.{begins, begins_body, semicolon, resumes, goes}

pub part_goes : (p : Part) (i j : Position) → IsPart every_rule p i j → Goes i j
part_goes (parts.word k) i j t = eaten (takes t)
part_goes parts.name i j (name, t) = eaten (takes_name t)
part_goes (parts.function_on line) i j (on, t) = eaten (takes t)
part_goes parts.any i j p = passes p
part_goes parts.operator i j (short, p) = passes_operator p
part_goes parts.semicolon i j p = semicolon p
part_goes parts.block_end i j (end, to) = subst (λ (q : Position). Goes i q) (sym to) stays
part_goes (parts.some c k) i j (x, s) = goes s

pub read_goes : {ps rest : List Part} {i j : Position} → Read ps i rest j → Goes i j
read_goes parts.nothing = stays
read_goes (parts.more {p = p} {i = i} {j = j} x read) = also (part_goes p i j x) (read_goes read)

goes_fresh : (i : Position) → Goes i (fresh i)
goes_fresh i = begins (record { begun = refl })

goes_counted : (i : Position) → Goes i (counted i)
goes_counted i = counts (record { counted = refl })

pub stuck_goes : {f : SyntaxKind} {c : Context} {k : Class} {i z : Position} → Stuck f c k i z → Goes i z
stuck_goes (stuck.refused production read r) = read_goes read
stuck_goes (stuck.inside production read s) = also (read_goes read) (stuck_goes s)
stuck_goes (stuck.expression {i = i} s) = also (goes_fresh i) (stuck_goes s)
stuck_goes (stuck.chain_head s) = stuck_goes s
stuck_goes (stuck.chain_suffixes h s) = also (goes h) (stuck_goes s)
stuck_goes (stuck.own_chain {i = i} s) = also (goes_fresh i) (stuck_goes s)
stuck_goes (stuck.suffix {i = i} b h s) = also (goes_counted i) (stuck_goes s)
stuck_goes (stuck.suffixes {i = i} b h x s) = also (goes_counted i) (also (goes x) (stuck_goes s))
stuck_goes (stuck.first_expression s) = stuck_goes s
stuck_goes (stuck.more_expressions x t s) = also (goes x) (also (eaten (takes t)) (stuck_goes s))
stuck_goes (stuck.first_field n s) = stuck_goes s
stuck_goes (stuck.more_fields n x e p s) = also (goes x) (also (passes p) (stuck_goes s))
stuck_goes (stuck.plain n e s) = stuck_goes s
stuck_goes (stuck.in_parameters b t h s) = also (begins_body b) (also (eaten (takes t)) (stuck_goes s))
stuck_goes (stuck.body_refused b t h ps read r) =
    also (begins_body b) (also (eaten (takes t)) (also (goes ps) (read_goes read)))
stuck_goes (stuck.body_inside b t h ps u s) =
    also (begins_body b) (also (eaten (takes t)) (also (goes ps) (also (eaten (takes u)) (stuck_goes s))))
stuck_goes (stuck.more_parameters t u n s) = also (eaten (takes_name t)) (also (eaten (takes u)) (stuck_goes s))
stuck_goes (stuck.last_comma t u s) = also (eaten (takes_name t)) (eaten (takes u))
stuck_goes (stuck.local_level t s h) = eaten (takes t)
stuck_goes (stuck.function_refused w h read r) = read_goes read
stuck_goes (stuck.function_inside w h read s) = also (read_goes read) (stuck_goes s)
stuck_goes (stuck.function_statement w h read n s) = also (read_goes read) (stuck_goes s)
stuck_goes (stuck.method_refused w h read t read' r) = also (read_goes read) (also (eaten (takes t)) (read_goes read'))
stuck_goes (stuck.method_inside w h read t n s) =
    also (read_goes read) (also (eaten (takes t)) (also (eaten (takes_name n)) (stuck_goes s)))
stuck_goes (stuck.more_names t u s) = also (eaten (takes_name t)) (also (eaten (takes u)) (stuck_goes s))
stuck_goes (stuck.for_names h s) = stuck_goes s
stuck_goes (stuck.for_in h n ns s) = goes ns
stuck_goes (stuck.for_list h ns t s) = also (goes ns) (also (eaten (takes t)) (stuck_goes s))
stuck_goes (stuck.for_block h ns t es s) = also (goes ns) (also (eaten (takes t)) (also (goes es) (stuck_goes s)))
stuck_goes (stuck.front b s) = stuck_goes s
stuck_goes (stuck.alone x n) = goes x
stuck_goes (stuck.more_of_targets x t s) = also (goes x) (also (eaten (takes t)) (stuck_goes s))
stuck_goes (stuck.no_assign ts n) = goes ts
stuck_goes (stuck.assigned ts t s) = also (goes ts) (also (eaten (takes t)) (stuck_goes s))
stuck_goes (stuck.first_target s) = stuck_goes s
stuck_goes (stuck.more_targets x t s) = also (goes x) (also (eaten (takes t)) (stuck_goes s))
stuck_goes (stuck.target s) = stuck_goes s
stuck_goes (stuck.no_target {i = i} x r few none) = also (goes_fresh i) (also (goes x) (resumes r))
stuck_goes _ = stays
