use Rattle.std.proofs.Common.{◌≡◌, drop, map, None}
use Rattle.lua_scope.specs.Scoping.{declaration_in}
use Rattle.lua_scope.specs.Functions.{scope_of}
use Rattle.lua_scope.proofs.scopes.declaration_among.Given as goal

abbrev pub invariant-loop-depth : goal.invariant-loop-depth
invariant-loop-depth l = declaration_in l.name l.depth (drop l.depth (map scope_of l.functions)) ≡ None
