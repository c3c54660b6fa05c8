-- The grammar of Lua (Lua 5.1 manual, 8): which words are a text, and which tree it has.
use Rattle.std.specs.Prelude.{◌≡◌, ℕ, ◌+◌, ◌≤◌, Bool, true, false, List, [], ◌∷◌, ◌++◌, Option, Some, None, ℤ}
use Rattle.lua_lex.specs.declared.kinds.TokenKind.TheVariants as kind
use Rattle.lua_grammar.specs.declared.kinds.SyntaxKind.TheVariants as fault
use Rattle.lua_grammar.specs.declared.context.Context.{Context}
use Rattle.lua_grammar.specs.declared.operators.Unary.{Unary}
use Rattle.lua_grammar.specs.declared.operators.Binary.{Binary}
use Rattle.lua_grammar.specs.declared.expressions.Name.{Name}
use Rattle.lua_grammar.specs.declared.expressions.Expr.{Expr}
use Rattle.lua_grammar.specs.declared.expressions.Expr.TheVariants as expr
use Rattle.lua_grammar.specs.declared.expressions.Link.{Link}
use Rattle.lua_grammar.specs.declared.expressions.Suffix.{Suffix}
use Rattle.lua_grammar.specs.declared.expressions.Suffix.TheVariants as suffix_of
use Rattle.lua_grammar.specs.declared.expressions.Key.{Key}
use Rattle.lua_grammar.specs.declared.expressions.Key.TheVariants as key
use Rattle.lua_grammar.specs.declared.expressions.Call.{Call}
use Rattle.lua_grammar.specs.declared.expressions.Call.TheVariants as call_of
use Rattle.lua_grammar.specs.declared.expressions.Field.{Field}
use Rattle.lua_grammar.specs.declared.expressions.Field.TheVariants as field_of
use Rattle.lua_grammar.specs.declared.statements.Stat.{Stat}
use Rattle.lua_grammar.specs.declared.statements.Deed.{Deed}
use Rattle.lua_grammar.specs.declared.statements.Deed.TheVariants as deed_of
use Rattle.lua_grammar.specs.declared.statements.Branch.{Branch}
use Rattle.lua_grammar.specs.declared.statements.Target.{Target}
use Rattle.lua_grammar.specs.declared.statements.Target.TheVariants as target_of
use Rattle.lua_grammar.specs.Words.{begins_suffix, ends_block, ends_return}
use Rattle.lua_grammar.specs.Positions as at
use Rattle.lua_grammar.specs.Positions.{Position, Takes, TakesName, TakesText, Sees, SeesNot, IsNear}
use Rattle.lua_grammar.specs.Contexts as context
use Rattle.lua_grammar.specs.Contexts.{Rules, Kept, HasRoom, IsShort}
use Rattle.lua_grammar.specs.Things as thing
use Rattle.lua_grammar.specs.Things.{Thing}
use Rattle.lua_grammar.specs.Parts.{suffixed, row, link_of, stat_of, branch_of, IsReturn}

-- in this context the words from `i` to `j` spell the thing, by these rules
pub data Spelled (rules : Rules) : Context → Thing → Position → Position → Type 0 where
  -- ---- expressions

  -- exp: the operators and suffixes of each are counted by themselves
  expression : {c : Context} {e : Expr} {i j k l : Position} → at.BeginsExpression i j
      → Spelled rules c (thing.operand 1 e) j k → at.ResumesExpression i k l → Spelled rules c (thing.expression e) i l
  -- an operand of a rank up to 6: operands of the next rank, with operators of this one between them
  operands : {c : Context} {rank : ℕ} {first : Expr} {links : List Link} {i j k : Position} → rank ≤ 6
      → Spelled rules c (thing.operand (rank + 1) first) i j → Spelled rules c (thing.links rank links) j k
      → Spelled rules c (thing.operand rank (row first links)) i k
  -- unop exp: the operand is a level deeper. It takes in a power behind the operator, but no other binary operator
  unary : {c : Context} {by : Unary} {e : Expr} {i j k : Position} → at.sign i ≡ Some by → at.Passes i j
      → HasRoom rules c
      → Spelled rules (context.inner c) (thing.operand 7 e) j k
      → Spelled rules c (thing.operand 7 (expr.Unary by e)) i k
  power : {c : Context} {base : Expr} {links : List Link} {i j k : Position} → at.sign i ≡ None
      → Spelled rules c (thing.simple base) i j → Spelled rules c (thing.links 7 links) j k
      → Spelled rules c (thing.operand 7 (row base links)) i k
  -- behind `^` an operand may have unary operators
  unary_exponent : {c : Context} {by : Unary} {e : Expr} {i j k : Position} → at.sign i ≡ Some by → at.Passes i j
      → HasRoom rules c
      → Spelled rules (context.inner c) (thing.operand 7 e) j k
      → Spelled rules c (thing.operand 8 (expr.Unary by e)) i k
  exponent : {c : Context} {e : Expr} {i j : Position} → at.sign i ≡ None
      → Spelled rules c (thing.simple e) i j → Spelled rules c (thing.operand 8 e) i j
  no_links : {c : Context} {rank : ℕ} {i : Position} → at.joint rank i ≡ None
      → Spelled rules c (thing.links rank []) i i
  more_links : {c : Context} {rank : ℕ} {by : Binary} {e : Expr} {links : List Link} {i j k l : Position}
      → at.joint rank i ≡ Some by → IsShort rules i.operators → at.PassesOperator i j
      → Spelled rules c (thing.operand (rank + 1) e) j k
      → Spelled rules c (thing.links rank links) k l → Spelled rules c (thing.links rank (link_of by e ∷ links)) i l
  nil_value : {c : Context} {i j : Position} → Takes kind.Nil i j → Spelled rules c (thing.simple expr.Nil) i j
  false_value : {c : Context} {i j : Position} → Takes kind.False i j → Spelled rules c (thing.simple expr.False) i j
  true_value : {c : Context} {i j : Position} → Takes kind.True i j → Spelled rules c (thing.simple expr.True) i j
  number : {c : Context} {n : ℤ} {i j : Position} → Takes (kind.Number n) i j
      → Spelled rules c (thing.simple (expr.Number n)) i j
  text : {c : Context} {number : ℕ} {i j : Position} → TakesText number i j
      → Spelled rules c (thing.simple (expr.Text number)) i j
  varargs : {c : Context} {i j : Position} → Takes kind.Dots i j → Kept (rules fault.NoVararg) (c.varargs ≡ true)
      → Spelled rules c (thing.simple expr.Varargs) i j
  function : {c : Context} {line number : ℕ} {i j k : Position} → line ≡ at.line i → Takes kind.Function i j
      → Spelled rules c (thing.function_body line false number) j k
      → Spelled rules c (thing.simple (expr.Function number)) i k
  table : {c : Context} {fields : List Field} {i j : Position}
      → Spelled rules c (thing.constructor fields) i j → Spelled rules c (thing.simple (expr.Table fields)) i j
  prefix : {c : Context} {head : Expr} {suffixes : List Suffix} {i j : Position}
      → Spelled rules c (thing.chain head suffixes) i j → Spelled rules c (thing.simple (suffixed head suffixes)) i j
  -- ---- names and parentheses, and what goes on with them

  chain : {c : Context} {head : Expr} {suffixes : List Suffix} {i j k : Position}
      → Spelled rules c (thing.head head) i j → Spelled rules c (thing.suffixes suffixes) j k
      → Spelled rules c (thing.chain head suffixes) i k
  name : {c : Context} {n : Name} {i j : Position} → TakesName n i j → Spelled rules c (thing.head (expr.Name n)) i j
  -- ( exp )
  parenthesis : {c : Context} {e : Expr} {i j k l : Position} → Takes kind.LeftParen i j → HasRoom rules c
      → Spelled rules (context.inner c) (thing.expression e) j k → Takes kind.RightParen k l
      → Spelled rules c (thing.head (expr.Paren e)) i l
  -- all goes on with a head that can: a `(` behind it never begins a statement
  no_suffixes : {c : Context} {i : Position} → begins_suffix (at.kind i) ≡ false
      → Spelled rules c (thing.suffixes []) i i
  more_suffixes : {c : Context} {suffix : Suffix} {suffixes : List Suffix} {i j k l : Position}
      → IsShort rules i.suffixes → at.CountsSuffix i j
      → Spelled rules c (thing.suffix suffix) j k → Spelled rules c (thing.suffixes suffixes) k l
      → Spelled rules c (thing.suffixes (suffix ∷ suffixes)) i l
  -- . Name
  member : {c : Context} {n : Name} {i j k : Position} → Takes kind.Dot i j → TakesName n j k
      → Spelled rules c (thing.suffix (suffix_of.Key (key.Field n))) i k
  -- [ exp ]
  index : {c : Context} {e : Expr} {i j k l : Position} → Takes kind.LeftBracket i j → HasRoom rules c
      → Spelled rules (context.inner c) (thing.expression e) j k → Takes kind.RightBracket k l
      → Spelled rules c (thing.suffix (suffix_of.Key (key.Index e))) i l
  call : {c : Context} {es : List Expr} {i j : Position}
      → Spelled rules c (thing.arguments es) i j
      → Spelled rules c (thing.suffix (suffix_of.Call (call_of.Plain es))) i j
  -- : Name args
  method : {c : Context} {n : Name} {es : List Expr} {i j k l : Position} → Takes kind.Colon i j → TakesName n j k
      → Spelled rules c (thing.arguments es) k l
      → Spelled rules c (thing.suffix (suffix_of.Call (call_of.Method n es))) i l
  -- ( [exps] ): the `(` stands on the line of the word before it
  no_arguments : {c : Context} {i j k : Position} → Takes kind.LeftParen i j → Kept (rules fault.Ambiguous) (IsNear i)
      → HasRoom rules c
      → Takes kind.RightParen j k → Spelled rules c (thing.arguments []) i k
  arguments : {c : Context} {es : List Expr} {i j k l : Position} → Takes kind.LeftParen i j
      → Kept (rules fault.Ambiguous) (IsNear i) → HasRoom rules c
      → Spelled rules (context.inner c) (thing.list es) j k → Takes kind.RightParen k l
      → Spelled rules c (thing.arguments es) i l
  table_argument : {c : Context} {fields : List Field} {i j : Position}
      → Spelled rules c (thing.constructor fields) i j → Spelled rules c (thing.arguments (expr.Table fields ∷ [])) i j
  text_argument : {c : Context} {number : ℕ} {i j : Position} → TakesText number i j
      → Spelled rules c (thing.arguments (expr.Text number ∷ [])) i j
  -- ---- lists of expressions, and table constructors

  last_expression : {c : Context} {e : Expr} {i j : Position}
      → Spelled rules c (thing.expression e) i j → SeesNot kind.Comma j → Spelled rules c (thing.list (e ∷ [])) i j
  more_expressions : {c : Context} {e : Expr} {es : List Expr} {i j k l : Position}
      → Spelled rules c (thing.expression e) i j → Takes kind.Comma j k → Spelled rules c (thing.list es) k l
      → Spelled rules c (thing.list (e ∷ es)) i l
  -- { [field {sep field} [sep]] }
  constructor : {c : Context} {fields : List Field} {i j k l : Position} → Takes kind.LeftBrace i j → HasRoom rules c
      → Spelled rules (context.inner c) (thing.fields fields) j k → Takes kind.RightBrace k l
      → Spelled rules c (thing.constructor fields) i l
  no_fields : {c : Context} {i : Position} → Sees kind.RightBrace i → Spelled rules c (thing.fields []) i i
  last_field : {c : Context} {f : Field} {i j : Position} → SeesNot kind.RightBrace i
      → Spelled rules c (thing.field f) i j → at.is_separator (at.kind j) ≡ false
      → Spelled rules c (thing.fields (f ∷ [])) i j
  more_fields : {c : Context} {f : Field} {fields : List Field} {i j k l : Position} → SeesNot kind.RightBrace i
      → Spelled rules c (thing.field f) i j → at.is_separator (at.kind j) ≡ true → at.Passes j k
      → Spelled rules c (thing.fields fields) k l
      → Spelled rules c (thing.fields (f ∷ fields)) i l
  -- [ exp ] = exp
  keyed : {c : Context} {k e : Expr} {i j l m n o : Position} → Takes kind.LeftBracket i j
      → Spelled rules c (thing.expression k) j l
      → Takes kind.RightBracket l m → Takes kind.Assign m n → Spelled rules c (thing.expression e) n o
      → Spelled rules c (thing.field (field_of.Keyed k e)) i o
  -- Name = exp
  named : {c : Context} {n : Name} {e : Expr} {i j k l : Position} → TakesName n i j → Takes kind.Assign j k
      → Spelled rules c (thing.expression e) k l
      → Spelled rules c (thing.field (field_of.Named n e)) i l
  plain : {c : Context} {e : Expr} {i j : Position} → at.names_field i ≡ false
      → Spelled rules c (thing.expression e) i j
      → Spelled rules c (thing.field (field_of.Plain e)) i j
  -- ---- functions

  -- body: a place is kept for it among the bodies, so that they stand in the order of their words `function`
  function_body : {c : Context} {line number : ℕ} {method varargs : Bool} {names : List Name} {block : List Stat}
      {i j k l m n o p : Position}
      → at.BeginsBody number i j → Takes kind.LeftParen j k → Spelled rules c (thing.parameters names varargs) k l
      → Takes kind.RightParen l m
      → HasRoom rules c → Spelled rules (context.function varargs c) (thing.block block) m n → Takes kind.End n o
      → at.EndsBody number (record {
        line = line;
        method = method;
        parameters = names;
        varargs = varargs;
        block = block;
      }) o p
      → Spelled rules c (thing.function_body line method number) i p
  no_parameters : {c : Context} {i : Position} → Sees kind.RightParen i
      → Spelled rules c (thing.parameters [] false) i i
  only_varargs : {c : Context} {i j : Position} → Takes kind.Dots i j → Spelled rules c (thing.parameters [] true) i j
  last_parameter : {c : Context} {n : Name} {i j : Position} → TakesName n i j → SeesNot kind.Comma j
      → Spelled rules c (thing.parameters (n ∷ []) false) i j
  more_parameters : {c : Context} {n : Name} {names : List Name} {varargs : Bool} {i j k l : Position} → TakesName n i j
      → Takes kind.Comma j k
      → SeesNot kind.RightParen k → Spelled rules c (thing.parameters names varargs) k l
      → Spelled rules c (thing.parameters (n ∷ names) varargs) i l
  -- ---- blocks

  no_statements : {c : Context} {i : Position} → ends_block (at.kind i) ≡ true → Spelled rules c (thing.block []) i i
  last_statement : {c : Context} {last : Stat} {i j : Position}
      → Spelled rules c (thing.last last) i j → ends_block (at.kind j) ≡ true
      → Spelled rules c (thing.block (last ∷ [])) i j
  more_statements : {c : Context} {stat : Stat} {stats : List Stat} {i j k : Position}
      → Spelled rules c (thing.statement stat) i j → Spelled rules c (thing.block stats) j k
      → Spelled rules c (thing.block (stat ∷ stats)) i k
  -- stat [;] and last [;]: the line is that of the first word
  statement : {c : Context} {line : ℕ} {deed : Deed} {i j k : Position} → line ≡ at.line i
      → Spelled rules c (thing.deed deed) i j → at.PassesSemicolon j k
      → Spelled rules c (thing.statement (stat_of line deed)) i k
  last : {c : Context} {line : ℕ} {deed : Deed} {i j k : Position} → line ≡ at.line i
      → Spelled rules c (thing.last_deed deed) i j → at.PassesSemicolon j k
      → Spelled rules c (thing.last (stat_of line deed)) i k
  break_statement : {c : Context} {i j : Position} → Takes kind.Break i j → Kept (rules fault.NoLoop) (c.in_loop ≡ true)
      → Spelled rules c (thing.last_deed deed_of.Break) i j
  return_nothing : {c : Context} {i j : Position} → Takes kind.Return i j → ends_return (at.kind j) ≡ true
      → Spelled rules c (thing.last_deed (deed_of.Return [])) i j
  return_values : {c : Context} {es : List Expr} {deed : Deed} {i j k : Position} → Takes kind.Return i j
      → ends_return (at.kind j) ≡ false
      → Spelled rules c (thing.list es) j k → IsReturn es deed → Spelled rules c (thing.last_deed deed) i k
  -- ---- statements

  do_block : {c : Context} {block : List Stat} {i j k l : Position} → Takes kind.Do i j → HasRoom rules c
      → Spelled rules (context.inner c) (thing.block block) j k → Takes kind.End k l
      → Spelled rules c (thing.deed (deed_of.Do block)) i l
  while_loop : {c : Context} {e : Expr} {block : List Stat} {i j k l : Position} → Takes kind.While i j
      → Spelled rules c (thing.expression e) j k → Spelled rules c (thing.loop_block block) k l
      → Spelled rules c (thing.deed (deed_of.While e block)) i l
  repeat_loop : {c : Context} {e : Expr} {block : List Stat} {i j k l m : Position} → Takes kind.Repeat i j
      → HasRoom rules c
      → Spelled rules (context.looped c) (thing.block block) j k → Takes kind.Until k l
      → Spelled rules c (thing.expression e) l m
      → Spelled rules c (thing.deed (deed_of.Repeat block e)) i m
  if_statement : {c : Context} {branch : Branch} {branches : List Branch} {block : List Stat} {i j k l m n : Position}
      → Takes kind.If i j
      → Spelled rules c (thing.branch branch) j k → Spelled rules c (thing.branches branches) k l
      → Spelled rules c (thing.otherwise block) l m
      → Takes kind.End m n → Spelled rules c (thing.deed (deed_of.If (branch ∷ branches) block)) i n
  no_branches : {c : Context} {i : Position} → SeesNot kind.ElseIf i → Spelled rules c (thing.branches []) i i
  more_branches : {c : Context} {branch : Branch} {branches : List Branch} {i j k l : Position} → Takes kind.ElseIf i j
      → Spelled rules c (thing.branch branch) j k → Spelled rules c (thing.branches branches) k l
      → Spelled rules c (thing.branches (branch ∷ branches)) i l
  -- exp then block
  branch : {c : Context} {e : Expr} {block : List Stat} {i j k l : Position}
      → Spelled rules c (thing.expression e) i j → Takes kind.Then j k → HasRoom rules c
      → Spelled rules (context.inner c) (thing.block block) k l → Spelled rules c (thing.branch (branch_of e block)) i l
  no_else : {c : Context} {i : Position} → SeesNot kind.Else i → Spelled rules c (thing.otherwise []) i i
  else_block : {c : Context} {block : List Stat} {i j k : Position} → Takes kind.Else i j → HasRoom rules c
      → Spelled rules (context.inner c) (thing.block block) j k → Spelled rules c (thing.otherwise block) i k
  for_loop : {c : Context} {deed : Deed} {i j k : Position} → Takes kind.For i j
      → Spelled rules c (thing.for_range deed) j k
      → Spelled rules c (thing.deed deed) i k
  -- Name = exp , exp [, exp] do block end
  numeric_for : {c : Context} {name : Name} {begin limit : Expr} {step : Option Expr} {block : List Stat}
      {i j k l m n o p : Position}
      → TakesName name i j → Takes kind.Assign j k → Spelled rules c (thing.expression begin) k l → Takes kind.Comma l m
      → Spelled rules c (thing.expression limit) m n → Spelled rules c (thing.step step) n o
      → Spelled rules c (thing.loop_block block) o p
      → Spelled rules c (thing.for_range (deed_of.For name begin limit step block)) i p
  no_step : {c : Context} {i : Position} → SeesNot kind.Comma i → Spelled rules c (thing.step None) i i
  step : {c : Context} {e : Expr} {i j k : Position} → Takes kind.Comma i j → Spelled rules c (thing.expression e) j k
      → Spelled rules c (thing.step (Some e)) i k
  -- names in exps do block end
  generic_for : {c : Context} {names : List Name} {es : List Expr} {block : List Stat} {i j k l m : Position}
      → Spelled rules c (thing.names names) i j → Takes kind.In j k → Spelled rules c (thing.list es) k l
      → Spelled rules c (thing.loop_block block) l m
      → Spelled rules c (thing.for_range (deed_of.ForIn names es block)) i m
  -- do block end, of a loop
  loop_block : {c : Context} {block : List Stat} {i j k l : Position} → Takes kind.Do i j → HasRoom rules c
      → Spelled rules (context.looped c) (thing.block block) j k → Takes kind.End k l
      → Spelled rules c (thing.loop_block block) i l
  -- function Name {. Name} body
  function_statement : {c : Context} {name : Name} {path : List Name} {line number : ℕ} {i j k l m : Position}
      → line ≡ at.line i
      → Takes kind.Function i j → TakesName name j k → Spelled rules c (thing.path path) k l → SeesNot kind.Colon l
      → Spelled rules c (thing.function_body line false number) l m
      → Spelled rules c (thing.deed (deed_of.Function name path number)) i m
  -- function Name {. Name} : Name body
  method_statement : {c : Context} {name last : Name} {path : List Name} {line number : ℕ} {i j k l m n o : Position}
      → line ≡ at.line i
      → Takes kind.Function i j → TakesName name j k → Spelled rules c (thing.path path) k l → Takes kind.Colon l m
      → TakesName last m n
      → Spelled rules c (thing.function_body line true number) n o
      → Spelled rules c (thing.deed (deed_of.Function name (path ++ last ∷ []) number)) i o
  no_path : {c : Context} {i : Position} → SeesNot kind.Dot i → Spelled rules c (thing.path []) i i
  more_path : {c : Context} {n : Name} {path : List Name} {i j k l : Position} → Takes kind.Dot i j → TakesName n j k
      → Spelled rules c (thing.path path) k l → Spelled rules c (thing.path (n ∷ path)) i l
  -- local function Name body
  local_function : {c : Context} {name : Name} {line number : ℕ} {i j k l m : Position} → Takes kind.Local i j
      → line ≡ at.line j
      → Takes kind.Function j k → TakesName name k l → Spelled rules c (thing.function_body line false number) l m
      → Spelled rules c (thing.deed (deed_of.LocalFunction name number)) i m
  -- local names [= exps]
  local : {c : Context} {names : List Name} {es : List Expr} {i j k l : Position} → Takes kind.Local i j
      → Spelled rules c (thing.names names) j k → Spelled rules c (thing.values es) k l
      → Spelled rules c (thing.deed (deed_of.Local names es)) i l
  one_name : {c : Context} {n : Name} {i j : Position} → TakesName n i j → SeesNot kind.Comma j
      → Spelled rules c (thing.names (n ∷ [])) i j
  more_names : {c : Context} {n : Name} {names : List Name} {i j k l : Position} → TakesName n i j
      → Takes kind.Comma j k
      → Spelled rules c (thing.names names) k l → Spelled rules c (thing.names (n ∷ names)) i l
  no_values : {c : Context} {i : Position} → SeesNot kind.Assign i → Spelled rules c (thing.values []) i i
  values : {c : Context} {es : List Expr} {i j k : Position} → Takes kind.Assign i j
      → Spelled rules c (thing.list es) j k
      → Spelled rules c (thing.values es) i k
  -- vars = exps
  assign : {c : Context} {targets : List Target} {es : List Expr} {i j k l : Position}
      → Spelled rules c (thing.targets targets) i j → Takes kind.Assign j k → Spelled rules c (thing.list es) k l
      → Spelled rules c (thing.deed (deed_of.Assign targets es)) i l
  one_target : {c : Context} {target : Target} {i j : Position}
      → Spelled rules c (thing.target target) i j → SeesNot kind.Comma j
      → Spelled rules c (thing.targets (target ∷ [])) i j
  more_targets : {c : Context} {target : Target} {targets : List Target} {i j k l : Position}
      → Spelled rules c (thing.target target) i j → Takes kind.Comma j k → Spelled rules c (thing.targets targets) k l
      → Spelled rules c (thing.targets (target ∷ targets)) i l
  -- a target, or a call as a statement, is an expression of its own, too
  own_chain : {c : Context} {head : Expr} {suffixes : List Suffix} {i j k l : Position} → at.BeginsExpression i j
      → Spelled rules c (thing.chain head suffixes) j k → at.ResumesExpression i k l
      → Spelled rules c (thing.own_chain head suffixes) i l
  name_target : {c : Context} {n : Name} {i j : Position}
      → Spelled rules c (thing.own_chain (expr.Name n) []) i j → Spelled rules c (thing.target (target_of.Name n)) i j
  index_target : {c : Context} {head : Expr} {all : List Suffix} {k : Key} {i j : Position} (suffixes : List Suffix)
      → Spelled rules c (thing.own_chain head all) i j → all ≡ suffixes ++ suffix_of.Key k ∷ []
      → Spelled rules c (thing.target (target_of.Index (suffixed head suffixes) k)) i j
  call_statement : {c : Context} {head : Expr} {all : List Suffix} {how : Call} {i j : Position}
      (suffixes : List Suffix)
      → Spelled rules c (thing.own_chain head all) i j → all ≡ suffixes ++ suffix_of.Call how ∷ []
      → Spelled rules c (thing.deed (deed_of.Call (suffixed head suffixes) how)) i j
