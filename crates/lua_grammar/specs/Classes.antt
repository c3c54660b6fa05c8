-- What words can spell, whichever tree it has.
use Rattle.std.specs.Prelude.{◌≡◌, ℕ, Bool, List, [], ◌∷◌, ◌++◌, Option}
use Rattle.lua_grammar.specs.declared.context.Context.{Context}
use Rattle.lua_grammar.specs.declared.expressions.Name.{Name}
use Rattle.lua_grammar.specs.declared.expressions.Expr.{Expr}
use Rattle.lua_grammar.specs.declared.expressions.Expr.TheVariants as expr
use Rattle.lua_grammar.specs.declared.expressions.Link.{Link}
use Rattle.lua_grammar.specs.declared.expressions.Suffix.{Suffix}
use Rattle.lua_grammar.specs.declared.expressions.Suffix.TheVariants as suffix_of
use Rattle.lua_grammar.specs.declared.expressions.Call.{Call}
use Rattle.lua_grammar.specs.declared.expressions.Field.{Field}
use Rattle.lua_grammar.specs.declared.statements.Stat.{Stat}
use Rattle.lua_grammar.specs.declared.statements.Deed.{Deed}
use Rattle.lua_grammar.specs.declared.statements.Branch.{Branch}
use Rattle.lua_grammar.specs.declared.statements.Target.{Target}
use Rattle.lua_grammar.specs.Contexts.{Rules}
use Rattle.lua_grammar.specs.Positions.{Position}
use Rattle.lua_grammar.specs.Things as thing
use Rattle.lua_grammar.specs.Things.{Thing}
use Rattle.lua_grammar.specs.Grammar.{Spelled}

-- what is sought of a name or a parenthesis with its suffixes: nothing, in an expression; that it is the front of a
-- statement; that it can be assigned to
pub data Sought : Type 0 where
  anything : Sought
  front : Sought
  target : Sought

pub data Class : Type 0 where
  expression : Class
  operand : ℕ → Class
  links : ℕ → Class
  simple : Class
  head : Class
  chain : Sought → Class
  own_chain : Sought → Class
  suffixes : Sought → Class
  suffix : Class
  arguments : Class
  list : Class
  constructor : Class
  fields : Class
  field : Class
  names : Class
  parameters : Class
  function_body : (line : ℕ) (method : Bool) → Class
  block : Class
  statement : Class
  deed : Class
  last : Class
  last_deed : Class
  loop_block : Class
  branches : Class
  branch : Class
  otherwise : Class
  for_range : Class
  step : Class
  path : Class
  values : Class
  targets : Class
  target : Class

-- the last of the suffixes is a call
abbrev pub EndsInCall : List Suffix → Type 0
EndsInCall all = (suffixes : List Suffix) × (how : Call) × (all ≡ suffixes ++ suffix_of.Call how ∷ [])

abbrev pub AreSought : Sought → List Suffix → Type 0
AreSought anything all = Unit {0}
AreSought front all = Unit {0}
AreSought target all = EndsInCall all → ⊥

abbrev pub IsName : Expr → Type 0
IsName e = (n : Name) × (e ≡ expr.Name n)

abbrev pub IsSought : Sought → Expr → List Suffix → Type 0
IsSought anything e all = Unit {0}
IsSought front e all = all ≡ [] → IsName e
IsSought target e all = (all ≡ [] → IsName e) × (EndsInCall all → ⊥)

-- the trees of a class
abbrev pub Tree : Class → Type 0
Tree expression = Expr
Tree (operand rank) = Expr
Tree (links rank) = List Link
Tree simple = Expr
Tree head = Expr
Tree (chain sought) = (e : Expr) × (all : List Suffix) × IsSought sought e all
Tree (own_chain sought) = (e : Expr) × (all : List Suffix) × IsSought sought e all
Tree (suffixes sought) = (all : List Suffix) × AreSought sought all
Tree suffix = Suffix
Tree arguments = List Expr
Tree list = List Expr
Tree constructor = List Field
Tree fields = List Field
Tree field = Field
Tree names = List Name
Tree parameters = List Name × Bool
Tree (function_body line method) = ℕ
Tree block = List Stat
Tree statement = Stat
Tree deed = Deed
Tree last = Stat
Tree last_deed = Deed
Tree loop_block = List Stat
Tree branches = List Branch
Tree branch = Branch
Tree otherwise = List Stat
Tree for_range = Deed
Tree step = Option Expr
Tree path = List Name
Tree values = List Expr
Tree targets = List Target
Tree target = Target

abbrev pub thing_of : (k : Class) → Tree k → Thing
thing_of expression x = thing.expression x
thing_of (operand rank) x = thing.operand rank x
thing_of (links rank) x = thing.links rank x
thing_of simple x = thing.simple x
thing_of head x = thing.head x
thing_of (chain sought) x = thing.chain x.0 x.1
thing_of (own_chain sought) x = thing.own_chain x.0 x.1
thing_of (suffixes sought) x = thing.suffixes x.0
thing_of suffix x = thing.suffix x
thing_of arguments x = thing.arguments x
thing_of list x = thing.list x
thing_of constructor x = thing.constructor x
thing_of fields x = thing.fields x
thing_of field x = thing.field x
thing_of names x = thing.names x
thing_of parameters x = thing.parameters x.0 x.1
thing_of (function_body line method) x = thing.function_body line method x
thing_of block x = thing.block x
thing_of statement x = thing.statement x
thing_of deed x = thing.deed x
thing_of last x = thing.last x
thing_of last_deed x = thing.last_deed x
thing_of loop_block x = thing.loop_block x
thing_of branches x = thing.branches x
thing_of branch x = thing.branch x
thing_of otherwise x = thing.otherwise x
thing_of for_range x = thing.for_range x
thing_of step x = thing.step x
thing_of path x = thing.path x
thing_of values x = thing.values x
thing_of targets x = thing.targets x
thing_of target x = thing.target x

-- the words from `i` to `j` spell something of this class
abbrev pub Reads : Rules → Context → Class → Position → Position → Type 0
Reads rules c k i j = (x : Tree k) × Spelled rules c (thing_of k x) i j
