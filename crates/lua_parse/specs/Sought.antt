-- What is sought of a name or a parenthesis with its suffixes.
use Rattle.std.specs.Prelude.{ℕ}
use Rattle.lua_grammar.specs.Classes as class
use Rattle.lua_grammar.specs.Classes.{Sought}
use Rattle.lua_parse.specs.declared.sought.Sought as code
use Rattle.lua_parse.specs.declared.sought.Sought.TheVariants as wanted

-- it, as the grammar has it
abbrev pub sought_of : code.Sought → Sought
sought_of wanted.Anything = class.anything
sought_of wanted.Front = class.front
sought_of wanted.Target = class.target

-- how many suffixes have to be left to come behind a call, where this is sought
abbrev pub spares : Sought → ℕ
spares class.anything = 0
spares class.front = 0
spares class.target = 1
