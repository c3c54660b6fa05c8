-- What words can spell.
use Rattle.std.specs.Prelude.{ℕ, Bool, List, Option}
use Rattle.lua_grammar.specs.declared.expressions.Name.{Name}
use Rattle.lua_grammar.specs.declared.expressions.Expr.{Expr}
use Rattle.lua_grammar.specs.declared.expressions.Link.{Link}
use Rattle.lua_grammar.specs.declared.expressions.Suffix.{Suffix}
use Rattle.lua_grammar.specs.declared.expressions.Field.{Field}
use Rattle.lua_grammar.specs.declared.statements.Stat.{Stat}
use Rattle.lua_grammar.specs.declared.statements.Deed.{Deed}
use Rattle.lua_grammar.specs.declared.statements.Branch.{Branch}
use Rattle.lua_grammar.specs.declared.statements.Target.{Target}

pub data Thing : Type 0 where
  -- an expression of its own, whose operators and suffixes are counted from 0
  expression : Expr → Thing
  -- an operand of the operators below this precedence: 1 for a whole expression, 7 for a unary operator or a power, 8
  -- for
  -- an exponent
  operand : ℕ → Expr → Thing
  -- all operators of this precedence that come, each with the operand behind it
  links : ℕ → List Link → Thing
  -- an operand without operators
  simple : Expr → Thing
  -- a name or a parenthesis
  head : Expr → Thing
  -- a head and all that goes on with it
  chain : Expr → List Suffix → Thing
  -- the same as an expression of its own, whose operators and suffixes are counted from 0
  own_chain : Expr → List Suffix → Thing
  -- all that goes on with what stands before
  suffixes : List Suffix → Thing
  suffix : Suffix → Thing
  arguments : List Expr → Thing
  -- one expression or more with commas between them; no comma follows
  list : List Expr → Thing
  constructor : List Field → Thing
  -- fields, the last with or without a separator behind it
  fields : List Field → Thing
  field : Field → Thing
  -- one name or more with commas between them; no comma follows
  names : List Name → Thing
  -- the parameters of a function, and whether `...` is the last of them
  parameters : List Name → Bool → Thing
  -- what follows the word `function`, which stands on this line, and a name; whether it is a method; the number of its
  -- body
  function_body : (line : ℕ) (method : Bool) (number : ℕ) → Thing
  -- statements up to the end of their block
  block : List Stat → Thing
  -- a statement with the `;` behind it, if there is one, and what it does
  statement : Stat → Thing
  deed : Deed → Thing
  -- the last statement of a block
  last : Stat → Thing
  last_deed : Deed → Thing
  -- the block of a loop, with its `do` and `end`
  loop_block : List Stat → Thing
  -- the branches of `elseif`, if there are any
  branches : List Branch → Thing
  branch : Branch → Thing
  -- the block of `else`, if there is one
  otherwise : List Stat → Thing
  -- a `for` without its first word
  for_range : Deed → Thing
  -- the step of a numeric loop, if there is one
  step : Option Expr → Thing
  -- the fields behind the name of a function
  path : List Name → Thing
  -- the values of new locals, if there are any
  values : List Expr → Thing
  -- one target or more with commas between them; no comma follows
  targets : List Target → Thing
  target : Target → Thing
