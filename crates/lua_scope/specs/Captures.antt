-- Which places a function has, and which scopes a text leads to.
use Rattle.std.specs.Prelude.{◌<◌, Bool, List, [], ◌∷◌, length}
use Rattle.lua_scope.specs.declared.place.Place.{Place}
use Rattle.lua_scope.specs.declared.place.Place.TheVariants.{Local, Captured, Global}
use Rattle.lua_scope.specs.Scoping.{FunctionScope, Nesting, entered, main_text}
use Rattle.lua_scope.specs.Texts.{Text, after}

-- the place of one of the function's locals in scope, or of one that it has captured
abbrev pub IsPlaceIn : FunctionScope → Place → Type 0
IsPlaceIn f (Local n) = n < length f.locals
IsPlaceIn f (Captured k) = k < length f.captured
IsPlaceIn f Global = ⊥

-- functions and blocks that are begun and still open, each with what was read in it before the next one
abbrev pub opened : List (Bool × Text) → Nesting → Nesting
opened [] s = s
opened (begun ∷ inner) s = opened inner (after begun.1 (entered begun.0 s))

-- the scopes within a text: what was read before the outermost open function or block, and the open ones
abbrev pub within : Text → List (Bool × Text) → Nesting
within text begun = opened begun (after text main_text)
