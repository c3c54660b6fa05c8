-- What a production says that was not read.
use Rattle.std.specs.Prelude.{◌⊎◌, ℕ, true, List, ◌∷◌, Result, MatchResult}
use Rattle.lua_grammar.specs.declared.context.Context.{Context}
use Rattle.lua_grammar.specs.declared.expressions.Name.{Name}
use Rattle.lua_grammar.specs.Positions as at
use Rattle.lua_grammar.specs.Positions.{Position}
use Rattle.lua_grammar.specs.Contexts.{every_rule}
use Rattle.lua_grammar.specs.Things.{Thing}
use Rattle.lua_grammar.specs.Grammar.{Spelled}
use Rattle.lua_grammar.specs.Classes as class
use Rattle.lua_grammar.specs.Classes.{Class}
use Rattle.lua_grammar.specs.Productions.{Part, Read}
use Rattle.lua_grammar.specs.Stuck.{Stuck, Halts, Refuses, method_rest}
use Rattle.lua_parse.specs.declared.stops.Halt.{Halt}
use Rattle.lua_parse.specs.declared.stops.Halt.TheVariants as halt

-- nothing of this class is read from `i`: memory is wanting, or the next word at `z` has this fault
abbrev pub IsRefused : Halt → Context → Class → Position → Position → Type 0
IsRefused (halt.Syntax f) c k i z = Stuck f c k i z
IsRefused halt.NoMemory c k i z = Unit {0}

-- what was read is the thing that the words from `i` to `j` spell in this context, or nothing of its class is read
abbrev pub Reads : {A : Type 0} → Context → Class → (A → Thing) → Result A Halt → Position → Position → Type 0
Reads c k make result i j = MatchResult result (λ x. Spelled every_rule c (make x) i j) (λ r. IsRefused r c k i j)

-- the rest of a method, behind the `:`, is not read
abbrev pub IsMethodRefused : Halt → Context → ℕ → Position → Position → Type 0
IsMethodRefused (halt.Syntax f) c line i z =
    ((p : Part) × (rest : List Part) × Read (method_rest c line) i (p ∷ rest) z × Refuses f p z)
    ⊎ ((n : Name) × (k : Position) × at.TakesName n i k × Stuck f c (class.function_body line true) k z)
IsMethodRefused halt.NoMemory c line i z = Unit {0}

-- the text is none, or memory is wanting
abbrev pub HaltsBy : Halt → Position → Position → Type 0
HaltsBy (halt.Syntax f) i z = Halts f i z
HaltsBy halt.NoMemory i z = Unit {0}
