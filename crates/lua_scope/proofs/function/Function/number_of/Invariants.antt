use Rattle.std.proofs.Common.{◌≡◌, drop, None}
use Rattle.lua_scope.specs.Scoping.{last_place}
use Rattle.lua_scope.proofs.function.Function.number_of.Given as goal

abbrev pub invariant-loop-at : goal.invariant-loop-at
invariant-loop-at l = last_place l.name l.at (drop l.at l.self.locals.items) ≡ None
