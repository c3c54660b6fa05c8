use Rattle.std.proofs.Common.{◌≡◌, None, sym, ap, ◌∙◌, map, length, arith}
use Rattle.std.proofs.lemmas.List.{map_push}
use Rattle.std.proofs.lemmas.Option.{slice_get_past}
use Rattle.std.proofs.lemmas.Grind.{common_steps}
use Rattle.lua_scope.specs.Scoping.{last}
use Rattle.lua_scope.specs.Functions.{scope_of}
use Rattle.lua_scope.specs.contracts.scopes.Scopes.{the_view}
use Rattle.lua_scope.proofs.Leaving.{left-function}
use Rattle.lua_scope.proofs.scopes.Scopes.leave.Goals as goal

pub returns-in-Some-pop : goal.returns-in-Some-pop
returns-in-Some-pop c =
    let empty : length c.self.inside.running.begins.items ≡ 0 = grind (arith, common_steps) in
    let none : last c.self.inside.running.begins.items ≡ None =
    slice_get_past c.self.inside.running.begins.items _ (omega arith) in
    rw (← c.self.view_is) (sym (left-function (the_view c.self.inside) (map scope_of c.pop-in_default.new.self.items)
    (scope_of c.in-Some-pop.around) none
    (ap (map scope_of) c.in-Some-pop.ensures.items ∙ map_push scope_of c.pop-in_default.new.self.items
    c.in-Some-pop.around)))
