-- What productions read, and a function value that reads those of the next level of nesting.
use Rattle.std.specs.Prelude.{◌≡◌, ℕ, ◌+◌, ◌<◌, Bool, true, false, if◌then◌else◌, List, [], ◌∷◌, ◌++◌, Option, Result}
use Rattle.std.specs.Prelude.{MatchResult}
use Rattle.lua_lex.specs.declared.kinds.TokenKind.{TokenKind}
use Rattle.lua_lex.specs.declared.kinds.TokenKind.TheVariants as kind
use Rattle.std.specs.declared.alloc.Global.{Global}
use denote.Ref.{MutBor}
use Rattle.lua_grammar.specs.declared.context.Context.{Context}
use Rattle.lua_grammar.specs.declared.expressions.Expr.{Expr}
use Rattle.lua_grammar.specs.declared.expressions.Suffix.{Suffix}
use Rattle.lua_grammar.specs.declared.expressions.Name.{Name}
use Rattle.lua_grammar.specs.declared.statements.Stat.{Stat}
use Rattle.lua_grammar.specs.declared.statements.Deed.{Deed}
use Rattle.lua_grammar.specs.declared.statements.Deed.TheVariants as deed_of
use Rattle.lua_grammar.specs.Positions as at
use Rattle.lua_grammar.specs.Positions.{Position, CountsSuffix}
use Rattle.lua_grammar.specs.Words.{ends_block}
use Rattle.lua_grammar.specs.Contexts.{every_rule}
use Rattle.lua_grammar.specs.Things as thing
use Rattle.lua_grammar.specs.Grammar.{Spelled}
use Rattle.lua_grammar.specs.Classes as class
use Rattle.lua_grammar.specs.Classes.{Class, Sought, EndsInCall}
use Rattle.lua_grammar.specs.Stuck.{HasCount, IsNearCall, begins_call, nests_suffix}
use Rattle.lua_parse.specs.declared.grammar.Wanted.{Wanted}
use Rattle.lua_parse.specs.declared.grammar.Wanted.TheVariants as wanted
use Rattle.lua_parse.specs.declared.grammar.Found.{Found}
use Rattle.lua_parse.specs.declared.grammar.Found.TheVariants as found
use Rattle.lua_parse.specs.declared.stops.Halt.{Halt}
use Rattle.lua_parse.specs.Halts.{IsRefused}
use Rattle.lua_parse.specs.Sought.{spares}

-- what was found is what is wanted, in this context, spelled by the words between two positions
abbrev pub IsFound : Wanted → Context → Found → Position → Position → Type 0
IsFound wanted.Expression c (found.Expression e) i j = Spelled every_rule c (thing.expression e) i j
IsFound wanted.List c (found.List es) i j = Spelled every_rule c (thing.list es) i j
IsFound wanted.Fields c (found.Fields fields) i j = Spelled every_rule c (thing.fields fields) i j
IsFound wanted.Operand c (found.Expression e) i j = Spelled every_rule c (thing.operand 7 e) i j
IsFound wanted.Block c (found.Block block) i j = Spelled every_rule c (thing.block block) i j
IsFound _ _ _ _ _ = ⊥

-- the class of what is wanted
abbrev pub class_of : Wanted → Class
class_of wanted.Expression = class.expression
class_of wanted.List = class.list
class_of wanted.Fields = class.fields
class_of wanted.Operand = class.operand 7
class_of wanted.Block = class.block

-- what is wanted was found, or nothing of its class is read
abbrev pub Finds : Wanted → Context → Result Found Halt → Position → Position → Type 0
Finds w c result i j = MatchResult result (λ f. IsFound w c f i j) (λ r. IsRefused r c (class_of w) i j)

-- where a target is sought, behind suffixes that end in a call one more is within the limit
abbrev pub IsSpared : Sought → List Suffix → Position → Type 0
IsSpared sought all j = sought ≡ class.target → EndsInCall all → j.suffixes < 1000

-- a head and its suffixes were read, and a suffix is left where one is spared
pub record IsChain (c : Context) (sought : Sought) (head : Expr) (all : List Suffix) (i j : Position) : Type 0 where
  pub spelled : Spelled every_rule c (thing.chain head all) i j
  pub few : IsSpared sought all j

-- suffixes were read, and one is left where one is spared
pub record AreSuffixes (c : Context) (sought : Sought) (all : List Suffix) (i j : Position) : Type 0 where
  pub spelled : Spelled every_rule c (thing.suffixes all) i j
  pub few : IsSpared sought all j

-- a suffix that is within the limit, and counted
pub record IsCounted (c : Context) (sought : Sought) (suffix : Suffix) (i k : Position) : Type 0 where
  pub counted : Position
  pub room : HasCount sought i
  pub counts : CountsSuffix i counted
  pub spelled : Spelled every_rule c (thing.suffix suffix) counted k
  pub few : IsSpared sought (suffix ∷ []) k

-- the first word of a suffix is on the line of the word before it where it has to be, and the suffix may nest
pub record HasSuffixRoom (c : Context) (i : Position) : Type 0 where
  pub near : IsNearCall i
  pub level : nests_suffix (at.kind i) ≡ true → c.level < 60

-- how many suffixes a suffix that begins with this word leaves to come: a call leaves those that are spared
abbrev pub spared_behind : Option TokenKind → Sought → ℕ
spared_behind w sought = if begins_call w then spares sought else 0

-- an operand that is no constant begins with this word
abbrev pub begins_other : TokenKind → Bool
begins_other kind.Name = true
begins_other kind.LeftParen = true
begins_other kind.LeftBrace = true
begins_other kind.Function = true
begins_other kind.Dots = true
begins_other _ = false

-- the last statement of a block, with the end of the block behind it
pub record EndsBlock (c : Context) (last : Stat) (i j : Position) : Type 0 where
  pub spelled : Spelled every_rule c (thing.last last) i j
  pub ends : ends_block (at.kind j) ≡ true

-- `Name body` behind the `:` of a function's name, and the statement that is made of it
pub record IsMethod (c : Context) (line : ℕ) (name : Name) (path : List Name) (deed : Deed) (i k : Position) : Type 0
  where
    pub last : Name
    pub number : ℕ
    pub named : Position
    pub takes : at.TakesName last i named
    pub spelled : Spelled every_rule c (thing.function_body line true number) named k
    pub is : deed ≡ deed_of.Function name (path ++ last ∷ []) number

-- the function value reads what is wanted in each context that is a level deeper than this one
pub record Nests (level : ℕ) (pre : Global → MutBor Position → Context → Wanted → Type 0)
    (post : Global → MutBor Position → Context → Wanted → Result Found Halt → MutBor Position → Type 0) : Type 0 where
  pub callable : (alloc : Global) (old : MutBor Position) (c : Context) (w : Wanted) → level < 60 → c.level ≡ level + 1
      → pre alloc old c w
  pub reads : (alloc : Global) (old new : MutBor Position) (c : Context) (w : Wanted) (result : Result Found Halt)
      → post alloc old c w result new
      → Finds w c result old.now new.now
