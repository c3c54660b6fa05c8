-- The parts of what words spell, by the words that come first: what a reader that goes from word to word can expect.
use Rattle.std.specs.Prelude.{◌≡◌, ℕ, ◌+◌, ◌<◌, ◌≤◌, Bool, true, false, List, [], ◌∷◌, Option, Some, None}
use Rattle.lua_lex.specs.declared.kinds.TokenKind.{TokenKind}
use Rattle.lua_lex.specs.declared.kinds.TokenKind.TheVariants as kind
use Rattle.lua_grammar.specs.declared.context.Context.{Context}
use Rattle.lua_grammar.specs.declared.operators.Unary.{Unary}
use Rattle.lua_grammar.specs.declared.operators.Binary.{Binary}
use Rattle.lua_grammar.specs.declared.expressions.Name.{Name}
use Rattle.lua_grammar.specs.Words.{ends_block, ends_return}
use Rattle.lua_grammar.specs.Positions as at
use Rattle.lua_grammar.specs.Positions.{Position, Takes, TakesName, Passes, Sees, SeesNot, IsNear, PassesOperator}
use Rattle.lua_grammar.specs.Positions.{PassesSemicolon}
use Rattle.lua_grammar.specs.Contexts as context
use Rattle.lua_grammar.specs.Contexts.{Rules, every_rule, IsShort}
use Rattle.lua_grammar.specs.Classes as class
use Rattle.lua_grammar.specs.Classes.{Class, Reads}

pub data Part : Type 0 where
  -- a word of this kind
  word : TokenKind → Part
  name : Part
  -- the word `function`, on this line
  function_on : (line : ℕ) → Part
  -- the next word, whatever it is
  any : Part
  -- the next word, which is a binary operator and is counted
  operator : Part
  -- a `;`, if one comes
  semicolon : Part
  -- the end of a block, without a word
  block_end : Part
  -- something of this class in this context
  some : Context → Class → Part

abbrev pub IsPart : Rules → Part → Position → Position → Type 0
IsPart rules (word k) i j = Takes k i j
IsPart rules name i j = (n : Name) × TakesName n i j
IsPart rules (function_on line) i j = (line ≡ at.line i) × Takes kind.Function i j
IsPart rules any i j = Passes i j
IsPart rules operator i j = IsShort rules i.operators × PassesOperator i j
IsPart rules semicolon i j = PassesSemicolon i j
IsPart rules block_end i j = (ends_block (at.kind i) ≡ true) × (j ≡ i)
IsPart rules (some c k) i j = Reads rules c k i j

-- the words from `i` to `k` are these parts, in this order
abbrev pub AreParts : Rules → List Part → Position → Position → Type 0
AreParts rules [] i k = k ≡ i
AreParts rules (p ∷ ps) i k = (j : Position) × IsPart rules p i j × AreParts rules ps j k

-- the first of these parts go from `i` to `j`, and the others are left
pub data Read : List Part → Position → List Part → Position → Type 0 where
  nothing : {ps : List Part} {i : Position} → Read ps i ps i
  more : {p : Part} {ps rest : List Part} {i j k : Position} → IsPart every_rule p i j → Read ps j rest k
      → Read (p ∷ ps) i rest k

abbrev pub begins_chain : Option TokenKind → Bool
begins_chain (Some kind.Name) = true
begins_chain (Some kind.LeftParen) = true
begins_chain _ = false

abbrev pub begins_arguments : Option TokenKind → Bool
begins_arguments (Some kind.LeftParen) = true
begins_arguments (Some kind.LeftBrace) = true
begins_arguments (Some kind.Text) = true
begins_arguments _ = false

-- a `break` or a `return`
abbrev pub begins_last : Option TokenKind → Bool
begins_last (Some kind.Break) = true
begins_last (Some kind.Return) = true
begins_last _ = false

abbrev pub HasLevel : Context → Type 0
HasLevel c = c.level < 60

-- whatever of this class begins at `i` is these parts
pub data Production (c : Context) (i : Position) : Class → List Part → Type 0 where
  -- expressions
  operand : {rank : ℕ} → rank ≤ 6
      → Production c i (class.operand rank) (some c (class.operand (rank + 1)) ∷ some c (class.links rank) ∷ [])
  unary : {by : Unary} → at.sign i ≡ Some by → HasLevel c
      → Production c i (class.operand 7) (any ∷ some (context.inner c) (class.operand 7) ∷ [])
  power : at.sign i ≡ None → Production c i (class.operand 7) (some c class.simple ∷ some c (class.links 7) ∷ [])
  unary_exponent : {by : Unary} → at.sign i ≡ Some by → HasLevel c
      → Production c i (class.operand 8) (any ∷ some (context.inner c) (class.operand 7) ∷ [])
  exponent : at.sign i ≡ None → Production c i (class.operand 8) (some c class.simple ∷ [])
  links : {rank : ℕ} {by : Binary} → at.joint rank i ≡ Some by
      → Production c i (class.links rank) (operator ∷ some c (class.operand (rank + 1)) ∷ some c (class.links rank)
      ∷ [])
  function : Sees kind.Function i → HasLevel c
      → Production c i class.simple (function_on (at.line i) ∷ some c (class.function_body (at.line i) false) ∷ [])
  table : Sees kind.LeftBrace i → Production c i class.simple (some c class.constructor ∷ [])
  prefix : begins_chain (at.kind i) ≡ true → Production c i class.simple (some c (class.chain class.anything) ∷ [])
  -- names, parentheses and suffixes
  parenthesis : Sees kind.LeftParen i → HasLevel c
      → Production c i class.head (word kind.LeftParen ∷ some (context.inner c) class.expression ∷ word kind.RightParen
      ∷ [])
  member : Sees kind.Dot i → Production c i class.suffix (word kind.Dot ∷ name ∷ [])
  index : Sees kind.LeftBracket i → HasLevel c
      → Production c i class.suffix (word kind.LeftBracket ∷ some (context.inner c) class.expression
      ∷ word kind.RightBracket ∷ [])
  method : Sees kind.Colon i → Production c i class.suffix (word kind.Colon ∷ name ∷ some c class.arguments ∷ [])
  call : begins_arguments (at.kind i) ≡ true → Production c i class.suffix (some c class.arguments ∷ [])
  arguments : Sees kind.LeftParen i → IsNear i → SeesNot kind.RightParen (at.next i) → HasLevel c
      → Production c i class.arguments (word kind.LeftParen ∷ some (context.inner c) class.list ∷ word kind.RightParen
      ∷ [])
  table_argument : Sees kind.LeftBrace i → Production c i class.arguments (some c class.constructor ∷ [])
  -- table constructors
  constructor : Sees kind.LeftBrace i → HasLevel c
      → Production c i class.constructor (word kind.LeftBrace ∷ some (context.inner c) class.fields
      ∷ word kind.RightBrace ∷ [])
  keyed : Sees kind.LeftBracket i → Production c i class.field (word kind.LeftBracket ∷ some c class.expression
      ∷ word kind.RightBracket
      ∷ word kind.Assign ∷ some c class.expression ∷ [])
  named : Sees kind.Name i → Sees kind.Assign (at.next i)
      → Production c i class.field (name ∷ word kind.Assign ∷ some c class.expression ∷ [])
  -- blocks
  statements : ends_block (at.kind i) ≡ false → begins_last (at.kind i) ≡ false
      → Production c i class.block (some c class.statement ∷ some c class.block ∷ [])
  last : begins_last (at.kind i) ≡ true → Production c i class.block (some c class.last ∷ block_end ∷ [])
  statement : Production c i class.statement (some c class.deed ∷ semicolon ∷ [])
  last_statement : Production c i class.last (some c class.last_deed ∷ semicolon ∷ [])
  return_values : Sees kind.Return i → ends_return (at.kind (at.next i)) ≡ false
      → Production c i class.last_deed (word kind.Return ∷ some c class.list ∷ [])
  -- statements
  do_block : Sees kind.Do i → HasLevel c
      → Production c i class.deed (word kind.Do ∷ some (context.inner c) class.block ∷ word kind.End ∷ [])
  while_loop : Sees kind.While i → HasLevel c
      → Production c i class.deed (word kind.While ∷ some c class.expression ∷ some c class.loop_block ∷ [])
  repeat_loop : Sees kind.Repeat i → HasLevel c
      → Production c i class.deed (word kind.Repeat ∷ some (context.looped c) class.block
      ∷ word kind.Until ∷ some c class.expression ∷ [])
  if_statement : Sees kind.If i → HasLevel c
      → Production c i class.deed (word kind.If ∷ some c class.branch ∷ some c class.branches
      ∷ some c class.otherwise ∷ word kind.End ∷ [])
  branch : HasLevel c → Production c i class.branch (some c class.expression ∷ word kind.Then
      ∷ some (context.inner c) class.block ∷ [])
  branches : Sees kind.ElseIf i → HasLevel c
      → Production c i class.branches (word kind.ElseIf ∷ some c class.branch ∷ some c class.branches ∷ [])
  otherwise : Sees kind.Else i → HasLevel c
      → Production c i class.otherwise (word kind.Else ∷ some (context.inner c) class.block ∷ [])
  for_loop : Sees kind.For i → HasLevel c → Production c i class.deed (word kind.For ∷ some c class.for_range ∷ [])
  numeric_for : Sees kind.Name i → Sees kind.Assign (at.next i) → HasLevel c
      → Production c i class.for_range (name ∷ word kind.Assign ∷ some c class.expression ∷ word kind.Comma
      ∷ some c class.expression
      ∷ some c class.step ∷ some c class.loop_block ∷ [])
  step : Sees kind.Comma i → Production c i class.step (word kind.Comma ∷ some c class.expression ∷ [])
  loop_block : HasLevel c → Production c i class.loop_block (word kind.Do ∷ some (context.looped c) class.block
      ∷ word kind.End ∷ [])
  path : Sees kind.Dot i → Production c i class.path (word kind.Dot ∷ name ∷ some c class.path ∷ [])
  local_function : Sees kind.Local i → Sees kind.Function (at.next i) → HasLevel c
      → Production c i class.deed (word kind.Local ∷ function_on (at.line (at.next i)) ∷ name
      ∷ some c (class.function_body (at.line (at.next i)) false) ∷ [])
  local : Sees kind.Local i → SeesNot kind.Function (at.next i)
      → Production c i class.deed (word kind.Local ∷ some c class.names ∷ some c class.values ∷ [])
  values : Sees kind.Assign i → Production c i class.values (word kind.Assign ∷ some c class.list ∷ [])
