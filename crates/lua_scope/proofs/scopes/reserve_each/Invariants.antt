use Rattle.std.proofs.Common.{◌≡◌, map}
use Rattle.std.specs.List.{AllWithin}
use Rattle.lua_scope.specs.Functions.{scope_of, HasRoom}
use Rattle.lua_scope.proofs.scopes.reserve_each.Given as goal

abbrev pub invariant-loop-function : goal.invariant-loop-function
invariant-loop-function l = (map scope_of l.functions ≡ map scope_of l.initial.functions)
    × AllWithin HasRoom l.functions 0 l.function-index
