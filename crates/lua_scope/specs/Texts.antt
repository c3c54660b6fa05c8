-- The rule of visibility (Lua 5.1 manual, section 2.6) said of whole texts: what is read in a block, and which local a
-- name
-- stands for.
use Rattle.std.specs.Prelude.{◌≡◌, ◌≢◌, ℕ, ◌<◌, ◌≤◌, ◌⊎◌, Bool, List, [], ◌∷◌, ◌++◌, Option, Some, slice_get}
use Rattle.std.specs.Prelude.{option_and_then}
use Rattle.lua_scope.specs.declared.place.Declaration.{Declaration}
use Rattle.lua_scope.specs.Scoping.{Nesting, entered, left, declared, named}

-- what is read one behind the other in a block: declarations, names, and whole blocks and functions with what is read
-- in them
pub data Text : Type 0 where
  Nothing : Text
  Declares : List ℕ → Text → Text
  Names : List ℕ → Text → Text
  Encloses : Bool → Text → Text → Text

-- the scopes behind a text
abbrev pub after : Text → Nesting → Nesting
after Nothing s = s
after (Declares name rest) s = after rest (declared name s)
after (Names name rest) s = after rest (named name s)
after (Encloses function body rest) s = after rest (left (after body (entered function s)))

-- the text itself does not declare the name; a block or a function in it may
abbrev pub DeclaresNot : List ℕ → Text → Type 0
DeclaresNot name Nothing = Unit {0}
DeclaresNot name (Declares other rest) = (name ≢ other) × DeclaresNot name rest
DeclaresNot name (Names other rest) = DeclaresNot name rest
DeclaresNot name (Encloses function body rest) = DeclaresNot name rest

-- the name of a local in scope
abbrev pub local_at : Nesting → Declaration → Option (List ℕ)
local_at s d = option_and_then (λ f. slice_get f.locals d.number) (slice_get (s.enclosing ++ s.running ∷ []) d.depth)

-- the one lies in a function further out, or in the same function and not behind the other
abbrev pub IsNotInside : Declaration → Declaration → Type 0
IsNotInside other d = (other.depth < d.depth) ⊎ ((other.depth ≡ d.depth) × (other.number ≤ d.number))

-- a local in scope has the name, and no other of that name lies further in
pub record IsInnermost (name : List ℕ) (s : Nesting) (d : Declaration) : Type 0 where
  pub here : local_at s d ≡ Some name
  pub others : (other : Declaration) → local_at s other ≡ Some name → IsNotInside other d
