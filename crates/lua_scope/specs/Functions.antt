-- A function of the code as the scope that it stands for.
use Rattle.std.specs.Prelude.{◌<◌}
use Rattle.std.specs.Vec.{vec_len, vec_capacity}
use Rattle.lua_scope.specs.declared.function.Function.{Function}
use Rattle.lua_scope.specs.Scoping.{FunctionScope}

abbrev pub scope_of : Function → FunctionScope
scope_of f = record { locals = f.locals.items; begins = f.begins.items; captured = f.captured.items }

-- one more local may be captured without taking memory
abbrev pub HasRoom : Function → Type 0
HasRoom f = vec_len f.captured < vec_capacity f.captured
