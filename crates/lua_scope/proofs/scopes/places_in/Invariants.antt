use Rattle.std.proofs.Common.{◌≡◌, map, take}
use Rattle.lua_scope.specs.Scoping.{place_in}
use Rattle.lua_scope.specs.Functions.{scope_of}
use Rattle.lua_scope.proofs.scopes.places_in.Given as goal

abbrev pub invariant-loop-declaration : goal.invariant-loop-declaration
invariant-loop-declaration l = l.places ≡ map (place_in (scope_of l.function) l.depth)
    (take l.declaration-index l.captured)
