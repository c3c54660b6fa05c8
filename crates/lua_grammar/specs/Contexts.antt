-- Where in a text something stands.
use Rattle.std.specs.Prelude.{ℕ, ◌+◌, ◌<◌, Bool, true, false}
use Rattle.lua_grammar.specs.declared.kinds.SyntaxKind.{SyntaxKind}
use Rattle.lua_grammar.specs.declared.kinds.SyntaxKind.TheVariants as fault
use Rattle.lua_grammar.specs.declared.context.Context.{Context}

abbrev pub main_text : Context
main_text = record { level = 0; in_loop = false; varargs = false }

-- one level deeper
abbrev pub inner : Context → Context
inner c = record { level = c.level + 1; in_loop = c.in_loop; varargs = c.varargs }

-- the block of a loop
abbrev pub looped : Context → Context
looped c = record { level = c.level + 1; in_loop = true; varargs = c.varargs }

-- the body of a function, which takes `...` or not
abbrev pub function : Bool → Context → Context
function varargs c = record { level = c.level + 1; in_loop = false; varargs = varargs }

-- which kinds of fault are looked for
abbrev pub Rules : Type 0
Rules = SyntaxKind → Bool

abbrev pub every_rule : Rules
every_rule kind = true

-- the fact, where it is asked for
abbrev pub Kept : Bool → Type 0 → Type 0
Kept true P = P
Kept false P = Unit {0}

-- a level more is left
abbrev pub HasRoom : Rules → Context → Type 0
HasRoom rules c = Kept (rules fault.TooDeep) (c.level < 60)

-- one operator or suffix more is within the limit
abbrev pub IsShort : Rules → ℕ → Type 0
IsShort rules count = Kept (rules fault.TooLong) (count < 1000)
