use Rattle.std.proofs.Common.{◌-◌, ◌∙◌, sym, ap, map, arith}
use Rattle.std.proofs.lemmas.List.{get_or-map, length-map}
use Rattle.lua_scope.specs.Functions.{scope_of}
use Rattle.lua_scope.proofs.Finding.{declaration_in-before, declaration_in-none}
use Rattle.lua_scope.proofs.scopes.declaration_among.Goals as goal

pub returns-in-Some : goal.returns-in-Some
returns-in-Some c =
    let f = c.index-functions-depth.result in
    sym (declaration_in-before c.args.name.now (map scope_of c.args.functions.now) c.loop-depth.depth c.in-Some.number
    (scope_of f) (omega arith) (omega (arith, length-map c.args.functions.now scope_of)) c.loop-depth.invariant
    (get_or-map scope_of c.args.functions.now (c.loop-depth.depth - 1) f (scope_of f) (omega arith)
    ∙ ap scope_of (sym c.index-functions-depth.is)) (sym c.in-Some.ensures))

pub loop-depth-preserved : goal.loop-depth-preserved
loop-depth-preserved c =
    let f = c.index-functions-depth.result in
    declaration_in-none c.args.name.now (map scope_of c.args.functions.now) c.loop-depth.depth (scope_of f)
    (omega arith) (omega (arith, length-map c.args.functions.now scope_of)) c.loop-depth.invariant
    (get_or-map scope_of c.args.functions.now (c.loop-depth.depth - 1) f (scope_of f) (omega arith)
    ∙ ap scope_of (sym c.index-functions-depth.is)) (sym c.in_default.ensures)
