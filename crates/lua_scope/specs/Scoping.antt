-- The scopes of a Lua text (Lua 5.1 manual, sections 2.4.1, 2.4.7 and 2.6): which functions and blocks are open, and
-- which local each name stands for there.
use Rattle.std.specs.Prelude.{ℕ, ◌+◌, ◌-◌, ◌<◌, Bool, true, false, ◌==◌, nat_lt, ◌&&◌, if◌then◌else◌, List, [], ◌∷◌}
use Rattle.std.specs.Prelude.{◌++◌, length, take, map, slice_get, Option, Some, None}
use Rattle.std.specs.List.{position_or_len}
use Rattle.std.specs.Str.{bytes_eq}
use Rattle.lua_scope.specs.declared.place.Place.{Place}
use Rattle.lua_scope.specs.declared.place.Place.TheVariants.{Local, Captured, Global}
use Rattle.lua_scope.specs.declared.place.Declaration.{Declaration}

-- a function whose body is open
pub record FunctionScope : Type 0 where
  -- the names of its locals in scope, in order of declaration; a local's number is its place here
  pub locals : List (List ℕ)
  -- for each open block inside the body, from the outside in, how many of the locals were in scope when it began
  pub begins : List ℕ
  -- the locals of the functions around it that it or a function inside it has named, in order of first naming
  pub captured : List Declaration

-- the functions that are open: the running one, and those around it from the main text in
pub record Nesting : Type 0 where
  pub enclosing : List FunctionScope
  pub running : FunctionScope

abbrev pub no_locals : FunctionScope
no_locals = record { locals = []; begins = []; captured = [] }

abbrev pub main_text : Nesting
main_text = record { enclosing = []; running = no_locals }

-- a function or a block begins
abbrev pub entered : Bool → Nesting → Nesting
entered true s = record { enclosing = s.enclosing ++ s.running ∷ []; running = no_locals }
entered false s = record {
  enclosing = s.enclosing;
  running = record s.running { begins = s.running.begins ++ length s.running.locals ∷ [] };
}

abbrev pub IsEntered : Nesting → Type 0
IsEntered s = 0 < length s.enclosing + length s.running.begins

abbrev pub front : {X : Type 0} → List X → List X
front xs = take (length xs - 1) xs

abbrev pub last : {X : Type 0} → List X → Option X
last xs = slice_get xs (length xs - 1)

-- the running function ends: the one around it goes on
abbrev pub function_left : Nesting → Option FunctionScope → Nesting
function_left s None = s
function_left s (Some around) = record { enclosing = front s.enclosing; running = around }

-- the innermost block ends: the locals that were in scope when it began are left
abbrev pub block_left : Nesting → Option ℕ → Nesting
block_left s None = function_left s (last s.enclosing)
block_left s (Some begin) = record {
  enclosing = s.enclosing;
  running = record {
    locals = take begin s.running.locals;
    begins = front s.running.begins;
    captured = s.running.captured;
  };
}

-- the innermost block ends, or the running function where no block inside its body is open
abbrev pub left : Nesting → Nesting
left s = block_left s (last s.running.begins)

-- a local is declared in the innermost block
abbrev pub declared : List ℕ → Nesting → Nesting
declared name s = record {
  enclosing = s.enclosing;
  running = record s.running { locals = s.running.locals ++ name ∷ [] };
}

-- the first, or else the second
abbrev pub or_else : {X : Type 0} → Option X → Option X → Option X
or_else None other = other
or_else (Some x) other = Some x

-- the last place that holds the name, the first place being `at`
abbrev pub last_place : List ℕ → ℕ → List (List ℕ) → Option ℕ
last_place name at [] = None
last_place name at (local ∷ locals) = or_else (last_place name (at + 1) locals)
    (if bytes_eq local name then Some at else None)

abbrev pub declared_at : ℕ → Option ℕ → Option Declaration
declared_at depth None = None
declared_at depth (Some number) = Some (record { depth = depth; number = number })

-- the last declaration of the name in the innermost of these functions that has one, the first of them lying at `depth`
abbrev pub declaration_in : List ℕ → ℕ → List FunctionScope → Option Declaration
declaration_in name depth [] = None
declaration_in name depth (f ∷ inner) = or_else (declaration_in name (depth + 1) inner)
    (declared_at depth (last_place name 0 f.locals))

-- the innermost declaration of the name that is in scope: the running function's last one, or else one around it
abbrev pub declaration : List ℕ → Nesting → Option Declaration
declaration name s = or_else (declared_at (length s.enclosing) (last_place name 0 s.running.locals))
    (declaration_in name 0 s.enclosing)

abbrev pub is_same : Declaration → Declaration → Bool
is_same d e = (d.depth == e.depth) && (d.number == e.number)

-- the place of a captured local in the function's order of first naming: behind all others where it is new
abbrev pub captured_place : Declaration → FunctionScope → ℕ
captured_place d f = position_or_len (λ e. is_same e d) f.captured

-- a function at this depth names a local: one of a function around it is captured
abbrev pub naming : Declaration → ℕ → FunctionScope → FunctionScope
naming d depth f = if nat_lt d.depth depth && (captured_place d f == length f.captured) then record
    { locals = f.locals; begins = f.begins; captured = f.captured ++ d ∷ [] } else f

-- each of these functions names a local, the first of them lying at `depth`
abbrev pub naming_each : Declaration → ℕ → List FunctionScope → List FunctionScope
naming_each d depth [] = []
naming_each d depth (f ∷ inner) = naming d depth f ∷ naming_each d (depth + 1) inner

-- the running function names a local, and with it each function around it
abbrev pub noted : Option Declaration → Nesting → Nesting
noted None s = s
noted (Some d) s = record { enclosing = naming_each d 0 s.enclosing; running = naming d (length s.enclosing) s.running }

-- what a name does
abbrev pub named : List ℕ → Nesting → Nesting
named name s = noted (declaration name s) s

-- where a function at this depth finds a local
abbrev pub place_in : FunctionScope → ℕ → Declaration → Place
place_in f depth d = if d.depth == depth then Local d.number else Captured (captured_place d f)

abbrev pub place_of : Option Declaration → Nesting → Place
place_of None s = Global
place_of (Some d) s = place_in s.running (length s.enclosing) d

-- what a name stands for
abbrev pub place : List ℕ → Nesting → Place
place name s = place_of (declaration name s) s

abbrev pub captures_from : Nesting → Option FunctionScope → List Place
captures_from s None = []
captures_from s (Some around) = map (place_in around (length s.enclosing - 1)) s.running.captured

-- where the function around the running one finds each local that the running one has captured, in their order
abbrev pub captures : Nesting → List Place
captures s = captures_from s (last s.enclosing)
