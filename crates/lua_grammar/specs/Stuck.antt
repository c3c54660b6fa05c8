-- How a reader that goes from word to word finds that nothing of a class is spelled: up to which word, and why.
use Rattle.std.specs.Prelude.{◌≡◌, ℕ, suc, ◌+◌, ◌<◌, ◌≤◌, Bool, true, false, List, [], ◌∷◌, Option, Some, IsSome}
use Rattle.lua_lex.specs.declared.kinds.TokenKind.{TokenKind}
use Rattle.lua_lex.specs.declared.kinds.TokenKind.TheVariants as kind
use Rattle.lua_grammar.specs.declared.kinds.SyntaxKind.{SyntaxKind}
use Rattle.lua_grammar.specs.declared.kinds.SyntaxKind.TheVariants as fault
use Rattle.lua_grammar.specs.declared.context.Context.{Context}
use Rattle.lua_grammar.specs.declared.operators.Unary.{Unary}
use Rattle.lua_grammar.specs.declared.expressions.Name.{Name}
use Rattle.lua_grammar.specs.declared.expressions.Expr.{Expr}
use Rattle.lua_grammar.specs.declared.expressions.Suffix.{Suffix}
use Rattle.lua_grammar.specs.declared.expressions.Field.{Field}
use Rattle.lua_grammar.specs.declared.statements.Stat.{Stat}
use Rattle.lua_grammar.specs.declared.statements.Target.{Target}
use Rattle.lua_grammar.specs.Words.{begins_suffix, ends_block}
use Rattle.lua_grammar.specs.Positions as at
use Rattle.lua_grammar.specs.Positions.{Position, Takes, TakesName, Passes, Sees, SeesNot, IsNear, CountsSuffix}
use Rattle.lua_grammar.specs.Contexts as context
use Rattle.lua_grammar.specs.Contexts.{every_rule}
use Rattle.lua_grammar.specs.Things as thing
use Rattle.lua_grammar.specs.Grammar.{Spelled}
use Rattle.lua_grammar.specs.Classes as class
use Rattle.lua_grammar.specs.Classes.{Class, Sought, IsSought, IsName, EndsInCall}
use Rattle.lua_grammar.specs.Productions as part
use Rattle.lua_grammar.specs.Productions.{Part, Production, Read, AreParts, HasLevel, begins_chain, begins_arguments}
use Rattle.lua_grammar.specs.Productions.{begins_last}

abbrev pub IsFull : Context → Type 0
IsFull c = 60 ≤ c.level

-- an operand without operators begins with such a word
abbrev pub begins_simple : Option TokenKind → Bool
begins_simple (Some kind.Nil) = true
begins_simple (Some kind.False) = true
begins_simple (Some kind.True) = true
begins_simple (Some (kind.Number n)) = true
begins_simple (Some kind.Text) = true
begins_simple (Some kind.Dots) = true
begins_simple (Some kind.Function) = true
begins_simple (Some kind.LeftBrace) = true
begins_simple (Some kind.Name) = true
begins_simple (Some kind.LeftParen) = true
begins_simple _ = false

-- what such a word begins is a level deeper
abbrev pub nests_simple : Option TokenKind → Bool
nests_simple (Some kind.Function) = true
nests_simple (Some kind.LeftBrace) = true
nests_simple (Some kind.LeftParen) = true
nests_simple _ = false

abbrev pub nests_suffix : Option TokenKind → Bool
nests_suffix (Some kind.LeftBracket) = true
nests_suffix (Some kind.LeftBrace) = true
nests_suffix (Some kind.LeftParen) = true
nests_suffix _ = false

abbrev pub nests_statement : Option TokenKind → Bool
nests_statement (Some kind.Do) = true
nests_statement (Some kind.While) = true
nests_statement (Some kind.Repeat) = true
nests_statement (Some kind.If) = true
nests_statement (Some kind.For) = true
nests_statement (Some kind.Function) = true
nests_statement _ = false

abbrev pub begins_deed : Option TokenKind → Bool
begins_deed (Some kind.Do) = true
begins_deed (Some kind.While) = true
begins_deed (Some kind.Repeat) = true
begins_deed (Some kind.If) = true
begins_deed (Some kind.For) = true
begins_deed (Some kind.Function) = true
begins_deed (Some kind.Local) = true
begins_deed (Some kind.Name) = true
begins_deed (Some kind.LeftParen) = true
begins_deed _ = false

abbrev pub begins_parameter : Option TokenKind → Bool
begins_parameter (Some kind.RightParen) = true
begins_parameter (Some kind.Dots) = true
begins_parameter (Some kind.Name) = true
begins_parameter _ = false

abbrev pub begins_call : Option TokenKind → Bool
begins_call (Some kind.Colon) = true
begins_call found = begins_arguments found

-- the `(` of arguments is near the word before it
abbrev pub IsNearCall : Position → Type 0
IsNearCall i = Sees kind.LeftParen i → IsNear i

-- one suffix more is within the limit, and a call where a target is sought leaves room for another
abbrev pub HasCount : Sought → Position → Type 0
HasCount class.target i = (i.suffixes < 1000) × (begins_call (at.kind i) ≡ true → i.suffixes + 1 < 1000)
HasCount sought i = i.suffixes < 1000

abbrev pub fresh : Position → Position
fresh i = record i { operators = 0; suffixes = 0 }

abbrev pub counted : Position → Position
counted i = record i { suffixes = suc i.suffixes }

-- the words `function Name {. Name}`
abbrev pub named_function : Context → ℕ → List Part
named_function c line = part.function_on line ∷ part.name ∷ part.some c class.path ∷ []

-- what follows the parameters of a function
abbrev pub body_rest : Context → Bool → List Part
body_rest c varargs = part.word kind.RightParen ∷ part.some (context.function varargs c) class.block
    ∷ part.word kind.End ∷ []

-- what follows the path of a method's name, behind the `:`
abbrev pub method_rest : Context → ℕ → List Part
method_rest c line = part.name ∷ part.some c (class.function_body line true) ∷ []

-- the part does not stand at `i`
pub data Refuses : SyntaxKind → Part → Position → Type 0 where
  no_word : {k : TokenKind} {i : Position} → SeesNot k i → Refuses fault.Unexpected (part.word k) i
  no_name : {i : Position} → SeesNot kind.Name i → Refuses fault.Unexpected part.name i
  no_end : {i : Position} → ends_block (at.kind i) ≡ false → Refuses fault.Unexpected part.block_end i
  too_long : {i : Position} → IsSome (at.kind i) → 1000 ≤ i.operators → Refuses fault.TooLong part.operator i

-- nothing of this class in this context begins at the one position and has more words than those before the other,
-- where the next word has this fault
pub data Stuck : SyntaxKind → Context → Class → Position → Position → Type 0 where
  -- ---- productions

  refused : {f : SyntaxKind} {c : Context} {k : Class} {ps rest : List Part} {p : Part} {i j : Position}
      → Production c i k ps → Read ps i (p ∷ rest) j → Refuses f p j → Stuck f c k i j
  inside : {f : SyntaxKind} {c c' : Context} {k k' : Class} {ps rest : List Part} {i j z : Position}
      → Production c i k ps → Read ps i (part.some c' k' ∷ rest) j → Stuck f c' k' j z → Stuck f c k i z
  -- ---- expressions

  expression : {f : SyntaxKind} {c : Context} {i z : Position} → Stuck f c (class.operand 1) (fresh i) z
      → Stuck f c class.expression i z
  unary_level : {c : Context} {rank : ℕ} {by : Unary} {i : Position} → 7 ≤ rank → rank ≤ 8 → at.sign i ≡ Some by
      → IsFull c
      → Stuck fault.TooDeep c (class.operand rank) i i
  simple : {c : Context} {i : Position} → begins_simple (at.kind i) ≡ false → Stuck fault.Unexpected c class.simple i i
  simple_level : {c : Context} {i : Position} → nests_simple (at.kind i) ≡ true → IsFull c
      → Stuck fault.TooDeep c class.simple i i
  varargs : {c : Context} {i : Position} → Sees kind.Dots i → c.varargs ≡ false
      → Stuck fault.NoVararg c class.simple i i
  -- ---- names, parentheses and suffixes

  chain_head : {f : SyntaxKind} {c : Context} {sought : Sought} {i z : Position} → Stuck f c class.head i z
      → Stuck f c (class.chain sought) i z
  chain_suffixes : {f : SyntaxKind} {c : Context} {sought : Sought} {e : Expr} {i j z : Position}
      → Spelled every_rule c (thing.head e) i j → Stuck f c (class.suffixes sought) j z
      → Stuck f c (class.chain sought) i z
  own_chain : {f : SyntaxKind} {c : Context} {sought : Sought} {i z : Position}
      → Stuck f c (class.chain sought) (fresh i) z
      → Stuck f c (class.own_chain sought) i z
  head : {c : Context} {i : Position} → begins_chain (at.kind i) ≡ false → Stuck fault.Unexpected c class.head i i
  head_level : {c : Context} {i : Position} → Sees kind.LeftParen i → IsFull c → Stuck fault.TooDeep c class.head i i
  suffix_line : {c : Context} {sought : Sought} {i : Position} → Sees kind.LeftParen i → (IsNear i → ⊥)
      → Stuck fault.Ambiguous c (class.suffixes sought) i i
  suffix_level : {c : Context} {sought : Sought} {i : Position} → nests_suffix (at.kind i) ≡ true → IsNearCall i
      → IsFull c
      → Stuck fault.TooDeep c (class.suffixes sought) i i
  suffix_count : {c : Context} {sought : Sought} {i : Position} → begins_suffix (at.kind i) ≡ true → IsNearCall i
      → (nests_suffix (at.kind i) ≡ true → HasLevel c) → (HasCount sought i → ⊥)
      → Stuck fault.TooLong c (class.suffixes sought) i i
  suffix : {f : SyntaxKind} {c : Context} {sought : Sought} {i z : Position} → begins_suffix (at.kind i) ≡ true
      → HasCount sought i
      → Stuck f c class.suffix (counted i) z → Stuck f c (class.suffixes sought) i z
  suffixes : {f : SyntaxKind} {c : Context} {sought : Sought} {s : Suffix} {i j z : Position}
      → begins_suffix (at.kind i) ≡ true
      → HasCount sought i → Spelled every_rule c (thing.suffix s) (counted i) j → Stuck f c (class.suffixes sought) j z
      → Stuck f c (class.suffixes sought) i z
  arguments : {c : Context} {i : Position} → begins_arguments (at.kind i) ≡ false
      → Stuck fault.Unexpected c class.arguments i i
  arguments_line : {c : Context} {i : Position} → Sees kind.LeftParen i → (IsNear i → ⊥)
      → Stuck fault.Ambiguous c class.arguments i i
  arguments_level : {c : Context} {i : Position} → nests_suffix (at.kind i) ≡ true → begins_arguments (at.kind i) ≡ true
      → IsNearCall i
      → IsFull c → Stuck fault.TooDeep c class.arguments i i
  -- ---- lists of expressions, and table constructors

  first_expression : {f : SyntaxKind} {c : Context} {i z : Position} → Stuck f c class.expression i z
      → Stuck f c class.list i z
  more_expressions : {f : SyntaxKind} {c : Context} {e : Expr} {i j k z : Position}
      → Spelled every_rule c (thing.expression e) i j
      → Takes kind.Comma j k → Stuck f c class.list k z → Stuck f c class.list i z
  constructor_level : {c : Context} {i : Position} → Sees kind.LeftBrace i → IsFull c
      → Stuck fault.TooDeep c class.constructor i i
  first_field : {f : SyntaxKind} {c : Context} {i z : Position} → SeesNot kind.RightBrace i → Stuck f c class.field i z
      → Stuck f c class.fields i z
  more_fields : {f : SyntaxKind} {c : Context} {e : Field} {i j k z : Position} → SeesNot kind.RightBrace i
      → Spelled every_rule c (thing.field e) i j → at.is_separator (at.kind j) ≡ true → Passes j k
      → Stuck f c class.fields k z
      → Stuck f c class.fields i z
  plain : {f : SyntaxKind} {c : Context} {i z : Position} → SeesNot kind.LeftBracket i → at.names_field i ≡ false
      → Stuck f c class.expression i z → Stuck f c class.field i z
  -- ---- functions

  no_parameters : {c : Context} {line : ℕ} {method : Bool} {i : Position} → SeesNot kind.LeftParen i → HasLevel c
      → Stuck fault.Unexpected c (class.function_body line method) i i
  in_parameters : {f : SyntaxKind} {c : Context} {line number : ℕ} {method : Bool} {i j k z : Position}
      → at.BeginsBody number i j
      → Takes kind.LeftParen j k → HasLevel c → Stuck f c class.parameters k z
      → Stuck f c (class.function_body line method) i z
  body_refused : {f : SyntaxKind} {c : Context} {line number : ℕ} {method varargs : Bool} {names : List Name}
      {i j k l z : Position}
      {p : Part} {rest : List Part} → at.BeginsBody number i j → Takes kind.LeftParen j k → HasLevel c
      → Spelled every_rule c (thing.parameters names varargs) k l → Read (body_rest c varargs) l (p ∷ rest) z
      → Refuses f p z
      → Stuck f c (class.function_body line method) i z
  body_inside : {f : SyntaxKind} {c : Context} {line number : ℕ} {method varargs : Bool} {names : List Name}
      {i j k l m z : Position}
      → at.BeginsBody number i j → Takes kind.LeftParen j k → HasLevel c
      → Spelled every_rule c (thing.parameters names varargs) k l
      → Takes kind.RightParen l m → Stuck f (context.function varargs c) class.block m z
      → Stuck f c (class.function_body line method) i z
  parameter : {c : Context} {i : Position} → begins_parameter (at.kind i) ≡ false
      → Stuck fault.Unexpected c class.parameters i i
  more_parameters : {f : SyntaxKind} {c : Context} {n : Name} {i j k z : Position} → TakesName n i j
      → Takes kind.Comma j k
      → SeesNot kind.RightParen k → Stuck f c class.parameters k z → Stuck f c class.parameters i z
  last_comma : {c : Context} {n : Name} {i j k : Position} → TakesName n i j → Takes kind.Comma j k
      → Sees kind.RightParen k
      → Stuck fault.Unexpected c class.parameters i k
  -- ---- the last statement of a block

  break_statement : {c : Context} {i : Position} → Sees kind.Break i → c.in_loop ≡ false
      → Stuck fault.NoLoop c class.last_deed i i
  -- ---- statements

  deed : {c : Context} {i : Position} → begins_deed (at.kind i) ≡ false → Stuck fault.Unexpected c class.deed i i
  deed_level : {c : Context} {i : Position} → nests_statement (at.kind i) ≡ true → IsFull c
      → Stuck fault.TooDeep c class.deed i i
  local_level : {c : Context} {i j : Position} → Takes kind.Local i j → Sees kind.Function j → IsFull c
      → Stuck fault.TooDeep c class.deed i j
  function_refused : {f : SyntaxKind} {c : Context} {p : Part} {rest : List Part} {i j : Position}
      → Sees kind.Function i → HasLevel c
      → Read (named_function c (at.line i)) i (p ∷ rest) j → Refuses f p j → Stuck f c class.deed i j
  function_inside : {f : SyntaxKind} {c : Context} {rest : List Part} {i j z : Position} → Sees kind.Function i
      → HasLevel c
      → Read (named_function c (at.line i)) i (part.some c class.path ∷ rest) j → Stuck f c class.path j z
      → Stuck f c class.deed i z
  function_statement : {f : SyntaxKind} {c : Context} {i j z : Position} → Sees kind.Function i → HasLevel c
      → Read (named_function c (at.line i)) i [] j → SeesNot kind.Colon j
      → Stuck f c (class.function_body (at.line i) false) j z
      → Stuck f c class.deed i z
  method_refused : {f : SyntaxKind} {c : Context} {p : Part} {rest : List Part} {i j k z : Position}
      → Sees kind.Function i → HasLevel c
      → Read (named_function c (at.line i)) i [] j → Takes kind.Colon j k
      → Read (method_rest c (at.line i)) k (p ∷ rest) z → Refuses f p z
      → Stuck f c class.deed i z
  method_inside : {f : SyntaxKind} {c : Context} {n : Name} {i j k l z : Position} → Sees kind.Function i → HasLevel c
      → Read (named_function c (at.line i)) i [] j → Takes kind.Colon j k → TakesName n k l
      → Stuck f c (class.function_body (at.line i) true) l z
      → Stuck f c class.deed i z
  name : {c : Context} {i : Position} → SeesNot kind.Name i → Stuck fault.Unexpected c class.names i i
  more_names : {f : SyntaxKind} {c : Context} {n : Name} {i j k z : Position} → TakesName n i j → Takes kind.Comma j k
      → Stuck f c class.names k z → Stuck f c class.names i z
  for_names : {f : SyntaxKind} {c : Context} {i z : Position} → HasLevel c → Stuck f c class.names i z
      → Stuck f c class.for_range i z
  for_in : {c : Context} {ns : List Name} {i j : Position} → HasLevel c → SeesNot kind.Assign (at.next i)
      → Spelled every_rule c (thing.names ns) i j → SeesNot kind.In j → Stuck fault.Unexpected c class.for_range i j
  for_list : {f : SyntaxKind} {c : Context} {ns : List Name} {i j k z : Position} → HasLevel c
      → Spelled every_rule c (thing.names ns) i j → Takes kind.In j k → Stuck f c class.list k z
      → Stuck f c class.for_range i z
  for_block : {f : SyntaxKind} {c : Context} {ns : List Name} {es : List Expr} {i j k l z : Position} → HasLevel c
      → Spelled every_rule c (thing.names ns) i j → Takes kind.In j k → Spelled every_rule c (thing.list es) k l
      → Stuck f c class.loop_block l z → Stuck f c class.for_range i z
  -- ---- calls and assignments

  front : {f : SyntaxKind} {c : Context} {i z : Position} → begins_chain (at.kind i) ≡ true
      → Stuck f c (class.own_chain class.front) i z
      → Stuck f c class.deed i z
  -- a parenthesis alone
  alone : {c : Context} {e : Expr} {i j : Position} → Spelled every_rule c (thing.own_chain e []) i j → (IsName e → ⊥)
      → Stuck fault.Unexpected c class.deed i j
  more_of_targets : {f : SyntaxKind} {c : Context} {t : Target} {i j k z : Position}
      → Spelled every_rule c (thing.target t) i j
      → Takes kind.Comma j k → Stuck f c class.targets k z → Stuck f c class.deed i z
  no_assign : {c : Context} {ts : List Target} {i j : Position} → Spelled every_rule c (thing.targets ts) i j
      → SeesNot kind.Assign j
      → Stuck fault.Unexpected c class.deed i j
  assigned : {f : SyntaxKind} {c : Context} {ts : List Target} {i j k z : Position}
      → Spelled every_rule c (thing.targets ts) i j
      → Takes kind.Assign j k → Stuck f c class.list k z → Stuck f c class.deed i z
  first_target : {f : SyntaxKind} {c : Context} {i z : Position} → Stuck f c class.target i z
      → Stuck f c class.targets i z
  more_targets : {f : SyntaxKind} {c : Context} {t : Target} {i j k z : Position}
      → Spelled every_rule c (thing.target t) i j
      → Takes kind.Comma j k → Stuck f c class.targets k z → Stuck f c class.targets i z
  target : {f : SyntaxKind} {c : Context} {i z : Position} → Stuck f c (class.own_chain class.target) i z
      → Stuck f c class.target i z
  -- neither a name nor a field nor an index, and a further suffix would be within the limit
  no_target : {c : Context} {e : Expr} {all : List Suffix} {i j k : Position}
      → Spelled every_rule c (thing.chain e all) (fresh i) k
      → at.ResumesExpression i k j → (EndsInCall all → k.suffixes < 1000) → (IsSought class.target e all → ⊥)
      → Stuck fault.Unexpected c class.target i j

-- the words from `i` on are no text, where the next word at `z` has this fault
pub data Halts : SyntaxKind → Position → Position → Type 0 where
  in_block : {f : SyntaxKind} {i z : Position} → Stuck f context.main_text class.block i z → Halts f i z
  -- a block ends there, but the text does not
  behind_block : {block : List Stat} {i z : Position} → Spelled every_rule context.main_text (thing.block block) i z
      → IsSome (at.kind z)
      → Halts fault.Unexpected i z
