use Rattle.std.proofs.Common.{◌≡◌, ◌++◌, map, take, drop, length}
use Rattle.std.specs.List.{AllWithin}
use Rattle.lua_scope.specs.Scoping.{naming_each}
use Rattle.lua_scope.specs.Functions.{scope_of, HasRoom}
use Rattle.lua_scope.proofs.scopes.note_each.Given as goal

abbrev pub invariant-loop-depth : goal.invariant-loop-depth
invariant-loop-depth l = (map scope_of l.functions
    ≡ naming_each l.declaration 0 (take l.depth (map scope_of l.initial.functions))
    ++ drop l.depth (map scope_of l.initial.functions))
    × AllWithin HasRoom l.functions l.depth (length l.initial.functions)
