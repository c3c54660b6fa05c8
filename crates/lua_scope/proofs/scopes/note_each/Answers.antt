use Rattle.std.proofs.Common.{◌≢◌, ◌∙◌, sym, ap, subst, map, add-one, arith, get_or-set_other}
use Rattle.std.proofs.lemmas.List.{get_or-map, length-map, map-set}
use Rattle.lua_scope.specs.Scoping.{naming}
use Rattle.lua_scope.specs.Functions.{scope_of, HasRoom}
use Rattle.lua_scope.specs.declared.function.Function.{Function}
use Rattle.lua_scope.proofs.Noting.{naming_each-more}
use Rattle.lua_scope.proofs.scopes.note_each.Goals as goal

pub loop-depth-preserved : goal.loop-depth-preserved
loop-depth-preserved c =
    let f = c.index-functions-depth.result in
    let fs = c.loop-depth.functions in
    let at = c.loop-depth.depth in
    let d = c.args.declaration in (
      rw add-one (map-set scope_of fs at c.note.new.self
          ∙ naming_each-more d 0 (map scope_of c.args.functions.now) (map scope_of fs) at at (scope_of f)
          (scope_of c.note.new.self) (omega arith) (omega (arith, length-map c.args.functions.now scope_of))
          c.loop-depth.invariant.0
          (get_or-map scope_of fs at f (scope_of f) (omega arith) ∙ ap scope_of (sym c.index-functions-depth.is))
          (c.note.ensures ∙ ap (λ (g : Function). naming d at (scope_of g)) (sym c.index-functions-depth.is))),
      λ k e low high. let other : k ≢ at = omega arith in
          subst HasRoom (sym (get_or-set_other fs at k c.note.new.self e other))
          (c.loop-depth.invariant.1 k e (omega arith) high),
    )
