-- The parts of what is spelled, chosen by the next words: one form for each thing at each first word.
use Rattle.std.specs.Prelude.{◌≡◌, ◌≢◌, ◌⊎◌, ℕ, suc, ◌+◌, ◌≤◌, Bool, true, false, List, [], ◌∷◌, ◌++◌, Option, Some}
use Rattle.std.specs.Prelude.{None}
use Rattle.lua_lex.specs.declared.kinds.TokenKind.{TokenKind}
use Rattle.lua_lex.specs.declared.kinds.TokenKind.TheVariants as kind
use Rattle.lua_grammar.specs.declared.kinds.SyntaxKind.TheVariants as fault
use Rattle.lua_grammar.specs.declared.context.Context.{Context}
use Rattle.lua_grammar.specs.declared.operators.Unary.{Unary}
use Rattle.lua_grammar.specs.declared.operators.Binary.{Binary}
use Rattle.lua_grammar.specs.declared.expressions.Name.{Name}
use Rattle.lua_grammar.specs.declared.expressions.Expr.{Expr}
use Rattle.lua_grammar.specs.declared.expressions.Expr.TheVariants as expr
use Rattle.lua_grammar.specs.declared.expressions.Link.{Link}
use Rattle.lua_grammar.specs.declared.expressions.Suffix.{Suffix}
use Rattle.lua_grammar.specs.declared.expressions.Suffix.TheVariants as suffix_of
use Rattle.lua_grammar.specs.declared.expressions.Key.{Key}
use Rattle.lua_grammar.specs.declared.expressions.Key.TheVariants as key
use Rattle.lua_grammar.specs.declared.expressions.Call.{Call}
use Rattle.lua_grammar.specs.declared.expressions.Call.TheVariants as call_of
use Rattle.lua_grammar.specs.declared.expressions.Field.{Field}
use Rattle.lua_grammar.specs.declared.expressions.Field.TheVariants as field_of
use Rattle.lua_grammar.specs.declared.statements.Stat.{Stat}
use Rattle.lua_grammar.specs.declared.statements.Deed.{Deed}
use Rattle.lua_grammar.specs.declared.statements.Deed.TheVariants as deed_of
use Rattle.lua_grammar.specs.declared.statements.Branch.{Branch}
use Rattle.lua_grammar.specs.declared.statements.Target.{Target}
use Rattle.lua_grammar.specs.declared.statements.Target.TheVariants as target_of
use Rattle.lua_grammar.specs.Words.{begins_suffix, ends_block, ends_return}
use Rattle.lua_grammar.specs.Positions as at
use Rattle.lua_grammar.specs.Positions.{Position, Takes, TakesName, Sees, SeesNot, IsNear}
use Rattle.lua_grammar.specs.Contexts as context
use Rattle.lua_grammar.specs.Contexts.{Rules, Kept, HasRoom, IsShort}
use Rattle.lua_grammar.specs.Things as thing
use Rattle.lua_grammar.specs.Things.{Thing}
use Rattle.lua_grammar.specs.Parts.{suffixed, row, link_of, stat_of, branch_of, IsReturn}
use Rattle.lua_grammar.specs.Grammar.{Spelled}
use Rattle.lua_grammar.specs.Productions.{begins_last}
use Rattle.lua_grammar.specs.Stuck.{fresh, counted}

-- the one where the word is of this kind, the other where it is not
abbrev pub IfIs : Option TokenKind → TokenKind → Type 0 → Type 0 → Type 0
IfIs w k A B = (w ≡ Some k → A) × (w ≢ Some k → B)

-- ---- expressions

-- behind an operator, which is counted
abbrev pub behind_operator : Position → Position
behind_operator i = at.next (record i { operators = suc i.operators })

abbrev pub ExpressionForm : Rules → Context → Expr → Position → Position → Type 0
ExpressionForm rules c e i z = (k : Position) × Spelled rules c (thing.operand 1 e) (fresh i) k
    × at.ResumesExpression i k z

abbrev pub RowForm : Rules → Context → ℕ → Expr → Position → Position → Type 0
RowForm rules c rank e i z = (first : Expr) × (links : List Link) × (k : Position) × (e ≡ row first links)
    × Spelled rules c (thing.operand (rank + 1) first) i k × Spelled rules c (thing.links rank links) k z

abbrev pub UnaryForm : Unary → Rules → Context → Expr → Position → Position → Type 0
UnaryForm by rules c e i z = (operand : Expr) × (e ≡ expr.Unary by operand) × HasRoom rules c
    × Spelled rules (context.inner c) (thing.operand 7 operand) (at.next i) z

abbrev pub PowerForm : Option Unary → Rules → Context → Expr → Position → Position → Type 0
PowerForm (Some by) rules c e i z = UnaryForm by rules c e i z
PowerForm None rules c e i z = (base : Expr) × (links : List Link) × (k : Position) × (e ≡ row base links)
    × Spelled rules c (thing.simple base) i k × Spelled rules c (thing.links 7 links) k z

abbrev pub ExponentForm : Option Unary → Rules → Context → Expr → Position → Position → Type 0
ExponentForm (Some by) rules c e i z = UnaryForm by rules c e i z
ExponentForm None rules c e i z = Spelled rules c (thing.simple e) i z

abbrev pub OperandForm : Rules → Context → ℕ → Expr → Position → Position → Type 0
OperandForm rules c rank e i z = (rank ≤ 6 → RowForm rules c rank e i z)
    × (rank ≡ 7 → PowerForm (at.sign i) rules c e i z)
    × (rank ≡ 8 → ExponentForm (at.sign i) rules c e i z)

abbrev pub LinksForm : Option Binary → Rules → Context → ℕ → List Link → Position → Position → Type 0
LinksForm None rules c rank links i z = (links ≡ []) × (z ≡ i)
LinksForm (Some by) rules c rank links i z = (e : Expr) × (rest : List Link) × (k : Position)
    × (links ≡ link_of by e ∷ rest)
    × IsShort rules i.operators × Spelled rules c (thing.operand (rank + 1) e) (behind_operator i) k
    × Spelled rules c (thing.links rank rest) k z

abbrev pub PrefixForm : Rules → Context → Expr → Position → Position → Type 0
PrefixForm rules c e i z = (head : Expr) × (suffixes : List Suffix) × (e ≡ suffixed head suffixes)
    × Spelled rules c (thing.chain head suffixes) i z

abbrev pub SimpleForm : Option TokenKind → Rules → Context → Expr → Position → Position → Type 0
SimpleForm (Some kind.Nil) rules c e i z = (e ≡ expr.Nil) × (z ≡ at.next i)
SimpleForm (Some kind.False) rules c e i z = (e ≡ expr.False) × (z ≡ at.next i)
SimpleForm (Some kind.True) rules c e i z = (e ≡ expr.True) × (z ≡ at.next i)
SimpleForm (Some (kind.Number n)) rules c e i z = (e ≡ expr.Number n) × (z ≡ at.next i)
SimpleForm (Some kind.Text) rules c e i z = (e ≡ expr.Text (at.name i).text) × (z ≡ at.next i)
SimpleForm (Some kind.Dots) rules c e i z = (e ≡ expr.Varargs) × (z ≡ at.next i)
    × Kept (rules fault.NoVararg) (c.varargs ≡ true)
SimpleForm (Some kind.Function) rules c e i z = (number : ℕ) × (e ≡ expr.Function number)
    × Spelled rules c (thing.function_body (at.line i) false number) (at.next i) z
SimpleForm (Some kind.LeftBrace) rules c e i z = (fields : List Field) × (e ≡ expr.Table fields)
    × Spelled rules c (thing.constructor fields) i z
SimpleForm (Some kind.Name) rules c e i z = PrefixForm rules c e i z
SimpleForm (Some kind.LeftParen) rules c e i z = PrefixForm rules c e i z
SimpleForm _ rules c e i z = ⊥

abbrev pub HeadForm : Option TokenKind → Rules → Context → Expr → Position → Position → Type 0
HeadForm (Some kind.Name) rules c e i z = (e ≡ expr.Name (at.name i)) × (z ≡ at.next i)
HeadForm (Some kind.LeftParen) rules c e i z = (inside : Expr) × (k : Position) × (e ≡ expr.Paren inside)
    × HasRoom rules c
    × Spelled rules (context.inner c) (thing.expression inside) (at.next i) k × Takes kind.RightParen k z
HeadForm _ rules c e i z = ⊥

abbrev pub ChainForm : Rules → Context → Expr → List Suffix → Position → Position → Type 0
ChainForm rules c head suffixes i z = (k : Position) × Spelled rules c (thing.head head) i k
    × Spelled rules c (thing.suffixes suffixes) k z

abbrev pub OwnChainForm : Rules → Context → Expr → List Suffix → Position → Position → Type 0
OwnChainForm rules c head suffixes i z = (k : Position) × Spelled rules c (thing.chain head suffixes) (fresh i) k
    × at.ResumesExpression i k z

abbrev pub SuffixesForm : Bool → Rules → Context → List Suffix → Position → Position → Type 0
SuffixesForm false rules c suffixes i z = (suffixes ≡ []) × (z ≡ i)
SuffixesForm true rules c suffixes i z = (suffix : Suffix) × (rest : List Suffix) × (k : Position)
    × (suffixes ≡ suffix ∷ rest)
    × IsShort rules i.suffixes × Spelled rules c (thing.suffix suffix) (counted i) k
    × Spelled rules c (thing.suffixes rest) k z

abbrev pub CallForm : Rules → Context → Suffix → Position → Position → Type 0
CallForm rules c suffix i z = (es : List Expr) × (suffix ≡ suffix_of.Call (call_of.Plain es))
    × Spelled rules c (thing.arguments es) i z

abbrev pub SuffixForm : Option TokenKind → Rules → Context → Suffix → Position → Position → Type 0
SuffixForm (Some kind.Dot) rules c suffix i z = (n : Name) × (suffix ≡ suffix_of.Key (key.Field n))
    × TakesName n (at.next i) z
SuffixForm (Some kind.LeftBracket) rules c suffix i z = (e : Expr) × (k : Position)
    × (suffix ≡ suffix_of.Key (key.Index e))
    × HasRoom rules c × Spelled rules (context.inner c) (thing.expression e) (at.next i) k × Takes kind.RightBracket k z
SuffixForm (Some kind.Colon) rules c suffix i z = (n : Name) × (es : List Expr) × (k : Position)
    × (suffix ≡ suffix_of.Call (call_of.Method n es)) × TakesName n (at.next i) k
    × Spelled rules c (thing.arguments es) k z
SuffixForm (Some kind.LeftParen) rules c suffix i z = CallForm rules c suffix i z
SuffixForm (Some kind.LeftBrace) rules c suffix i z = CallForm rules c suffix i z
SuffixForm (Some kind.Text) rules c suffix i z = CallForm rules c suffix i z
SuffixForm _ rules c suffix i z = ⊥

abbrev pub ArgumentsForm : Option TokenKind → Rules → Context → List Expr → Position → Position → Type 0
ArgumentsForm (Some kind.LeftParen) rules c es i z = Kept (rules fault.Ambiguous) (IsNear i) × HasRoom rules c
    × IfIs (at.kind (at.next i)) kind.RightParen ((es ≡ []) × (z ≡ at.next (at.next i)))
    ((k : Position) × Spelled rules (context.inner c) (thing.list es) (at.next i) k × Takes kind.RightParen k z)
ArgumentsForm (Some kind.LeftBrace) rules c es i z = (fields : List Field) × (es ≡ expr.Table fields ∷ [])
    × Spelled rules c (thing.constructor fields) i z
ArgumentsForm (Some kind.Text) rules c es i z = (es ≡ expr.Text (at.name i).text ∷ []) × (z ≡ at.next i)
ArgumentsForm _ rules c es i z = ⊥

-- ---- lists of expressions, and table constructors

abbrev pub ListForm : Rules → Context → List Expr → Position → Position → Type 0
ListForm rules c es i z = (e : Expr) × (k : Position) × Spelled rules c (thing.expression e) i k
    × IfIs (at.kind k) kind.Comma ((rest : List Expr) × (es ≡ e ∷ rest)
    × Spelled rules c (thing.list rest) (at.next k) z)
    ((es ≡ e ∷ []) × (z ≡ k))

abbrev pub ConstructorForm : Rules → Context → List Field → Position → Position → Type 0
ConstructorForm rules c fields i z = (k : Position) × HasRoom rules c
    × Spelled rules (context.inner c) (thing.fields fields) (at.next i) k × Takes kind.RightBrace k z

-- behind a field
abbrev pub FieldsRest : Bool → Rules → Context → Field → List Field → Position → Position → Type 0
FieldsRest true rules c f fields k z = (rest : List Field) × (fields ≡ f ∷ rest)
    × Spelled rules c (thing.fields rest) (at.next k) z
FieldsRest false rules c f fields k z = (fields ≡ f ∷ []) × (z ≡ k)

abbrev pub FieldsForm : Rules → Context → List Field → Position → Position → Type 0
FieldsForm rules c fields i z = IfIs (at.kind i) kind.RightBrace ((fields ≡ []) × (z ≡ i))
    ((f : Field) × (k : Position) × Spelled rules c (thing.field f) i k
    × FieldsRest (at.is_separator (at.kind k)) rules c f fields k z)

abbrev pub UnkeyedForm : Bool → Rules → Context → Field → Position → Position → Type 0
UnkeyedForm true rules c f i z = (e : Expr) × (f ≡ field_of.Named (at.name i) e)
    × Spelled rules c (thing.expression e) (at.next (at.next i)) z
UnkeyedForm false rules c f i z = (e : Expr) × (f ≡ field_of.Plain e) × Spelled rules c (thing.expression e) i z

abbrev pub FieldForm : Rules → Context → Field → Position → Position → Type 0
FieldForm rules c f i z = IfIs (at.kind i) kind.LeftBracket
    ((k : Expr) × (e : Expr) × (l : Position) × (m : Position) × (n : Position) × (f ≡ field_of.Keyed k e)
    × Spelled rules c (thing.expression k) (at.next i) l × Takes kind.RightBracket l m × Takes kind.Assign m n
    × Spelled rules c (thing.expression e) n z)
    (UnkeyedForm (at.names_field i) rules c f i z)

-- ---- functions

abbrev pub FunctionForm : Rules → Context → ℕ → Bool → ℕ → Position → Position → Type 0
FunctionForm rules c line method number i z = (names : List Name) × (varargs : Bool) × (block : List Stat)
    × (j : Position) × (k : Position) × (l : Position) × (m : Position) × (n : Position) × (o : Position)
    × at.BeginsBody number i j × Takes kind.LeftParen j k × Spelled rules c (thing.parameters names varargs) k l
    × Takes kind.RightParen l m × HasRoom rules c × Spelled rules (context.function varargs c) (thing.block block) m n
    × Takes kind.End n o
    × at.EndsBody number (record { line = line; method = method; parameters = names; varargs = varargs; block = block })
    o z

abbrev pub ParametersForm : Option TokenKind → Rules → Context → List Name → Bool → Position → Position → Type 0
ParametersForm (Some kind.RightParen) rules c names varargs i z = (names ≡ []) × (varargs ≡ false) × (z ≡ i)
ParametersForm (Some kind.Dots) rules c names varargs i z = (names ≡ []) × (varargs ≡ true) × (z ≡ at.next i)
ParametersForm (Some kind.Name) rules c names varargs i z = IfIs (at.kind (at.next i)) kind.Comma
    ((rest : List Name) × (names ≡ at.name i ∷ rest) × SeesNot kind.RightParen (at.next (at.next i))
    × Spelled rules c (thing.parameters rest varargs) (at.next (at.next i)) z)
    ((names ≡ at.name i ∷ []) × (varargs ≡ false) × (z ≡ at.next i))
ParametersForm _ rules c names varargs i z = ⊥

abbrev pub NamesForm : Rules → Context → List Name → Position → Position → Type 0
NamesForm rules c names i z = Sees kind.Name i × IfIs (at.kind (at.next i)) kind.Comma
    ((rest : List Name) × (names ≡ at.name i ∷ rest) × Spelled rules c (thing.names rest) (at.next (at.next i)) z)
    ((names ≡ at.name i ∷ []) × (z ≡ at.next i))

-- ---- blocks

-- whether the block ends there, and whether `break` or `return` comes
abbrev pub BlockForm : Bool → Bool → Rules → Context → List Stat → Position → Position → Type 0
BlockForm true _ rules c stats i z = (stats ≡ []) × (z ≡ i)
BlockForm false true rules c stats i z = (last : Stat) × (stats ≡ last ∷ []) × Spelled rules c (thing.last last) i z
    × (ends_block (at.kind z) ≡ true)
BlockForm false false rules c stats i z = (stat : Stat) × (rest : List Stat) × (k : Position) × (stats ≡ stat ∷ rest)
    × Spelled rules c (thing.statement stat) i k × Spelled rules c (thing.block rest) k z

abbrev pub StatementForm : Rules → Context → Stat → Position → Position → Type 0
StatementForm rules c stat i z = (deed : Deed) × (k : Position) × (stat ≡ stat_of (at.line i) deed)
    × Spelled rules c (thing.deed deed) i k × at.PassesSemicolon k z

abbrev pub LastForm : Rules → Context → Stat → Position → Position → Type 0
LastForm rules c stat i z = (deed : Deed) × (k : Position) × (stat ≡ stat_of (at.line i) deed)
    × Spelled rules c (thing.last_deed deed) i k × at.PassesSemicolon k z

-- whether the `return` ends before the next word
abbrev pub ReturnForm : Bool → Rules → Context → Deed → Position → Position → Type 0
ReturnForm true rules c deed i z = (deed ≡ deed_of.Return []) × (z ≡ i)
ReturnForm false rules c deed i z = (es : List Expr) × Spelled rules c (thing.list es) i z × IsReturn es deed

abbrev pub LastDeedForm : Option TokenKind → Rules → Context → Deed → Position → Position → Type 0
LastDeedForm (Some kind.Break) rules c deed i z = (deed ≡ deed_of.Break) × (z ≡ at.next i)
    × Kept (rules fault.NoLoop) (c.in_loop ≡ true)
LastDeedForm (Some kind.Return) rules c deed i z =
    ReturnForm (ends_return (at.kind (at.next i))) rules c deed (at.next i) z
LastDeedForm _ rules c deed i z = ⊥

-- ---- statements

abbrev pub BranchForm : Rules → Context → Branch → Position → Position → Type 0
BranchForm rules c branch i z = (e : Expr) × (block : List Stat) × (k : Position) × (l : Position)
    × (branch ≡ branch_of e block)
    × Spelled rules c (thing.expression e) i k × Takes kind.Then k l × HasRoom rules c
    × Spelled rules (context.inner c) (thing.block block) l z

abbrev pub BranchesForm : Rules → Context → List Branch → Position → Position → Type 0
BranchesForm rules c branches i z = IfIs (at.kind i) kind.ElseIf
    ((branch : Branch) × (rest : List Branch) × (k : Position) × (branches ≡ branch ∷ rest)
    × Spelled rules c (thing.branch branch) (at.next i) k × Spelled rules c (thing.branches rest) k z)
    ((branches ≡ []) × (z ≡ i))

abbrev pub OtherwiseForm : Rules → Context → List Stat → Position → Position → Type 0
OtherwiseForm rules c block i z = IfIs (at.kind i) kind.Else
    (HasRoom rules c × Spelled rules (context.inner c) (thing.block block) (at.next i) z) ((block ≡ []) × (z ≡ i))

abbrev pub LoopBlockForm : Rules → Context → List Stat → Position → Position → Type 0
LoopBlockForm rules c block i z = (k : Position) × HasRoom rules c
    × Spelled rules (context.looped c) (thing.block block) (at.next i) k × Takes kind.End k z

abbrev pub StepForm : Rules → Context → Option Expr → Position → Position → Type 0
StepForm rules c step i z = IfIs (at.kind i) kind.Comma
    ((e : Expr) × (step ≡ Some e) × Spelled rules c (thing.expression e) (at.next i) z)
    ((step ≡ None) × (z ≡ i))

abbrev pub ForRangeForm : Rules → Context → Deed → Position → Position → Type 0
ForRangeForm rules c deed i z = IfIs (at.kind (at.next i)) kind.Assign
    ((begin : Expr) × (limit : Expr) × (step : Option Expr) × (block : List Stat)
    × (l : Position) × (m : Position) × (n : Position) × (o : Position)
    × (deed ≡ deed_of.For (at.name i) begin limit step block)
    × Spelled rules c (thing.expression begin) (at.next (at.next i)) l × Takes kind.Comma l m
    × Spelled rules c (thing.expression limit) m n × Spelled rules c (thing.step step) n o
    × Spelled rules c (thing.loop_block block) o z)
    ((names : List Name) × (es : List Expr) × (block : List Stat) × (k : Position) × (l : Position) × (m : Position)
    × (deed ≡ deed_of.ForIn names es block) × Spelled rules c (thing.names names) i k × Takes kind.In k l
    × Spelled rules c (thing.list es) l m × Spelled rules c (thing.loop_block block) m z)

abbrev pub PathForm : Rules → Context → List Name → Position → Position → Type 0
PathForm rules c path i z = IfIs (at.kind i) kind.Dot
    ((n : Name) × (rest : List Name) × (k : Position) × (path ≡ n ∷ rest) × TakesName n (at.next i) k
    × Spelled rules c (thing.path rest) k z)
    ((path ≡ []) × (z ≡ i))

abbrev pub ValuesForm : Rules → Context → List Expr → Position → Position → Type 0
ValuesForm rules c es i z = IfIs (at.kind i) kind.Assign (Spelled rules c (thing.list es) (at.next i) z)
    ((es ≡ []) × (z ≡ i))

abbrev pub TargetForm : Rules → Context → Target → Position → Position → Type 0
TargetForm rules c target i z = (head : Expr) × (all : List Suffix) × Spelled rules c (thing.own_chain head all) i z
    × (((n : Name) × (head ≡ expr.Name n) × (all ≡ []) × (target ≡ target_of.Name n))
    ⊎ ((suffixes : List Suffix) × (k : Key) × (all ≡ suffixes ++ suffix_of.Key k ∷ [])
    × (target ≡ target_of.Index (suffixed head suffixes) k)))

abbrev pub TargetsForm : Rules → Context → List Target → Position → Position → Type 0
TargetsForm rules c targets i z = (target : Target) × (k : Position) × Spelled rules c (thing.target target) i k
    × IfIs (at.kind k) kind.Comma ((rest : List Target) × (targets ≡ target ∷ rest)
    × Spelled rules c (thing.targets rest) (at.next k) z)
    ((targets ≡ target ∷ []) × (z ≡ k))

-- an assignment, or a call
abbrev pub ChainDeedForm : Rules → Context → Deed → Position → Position → Type 0
ChainDeedForm rules c deed i z =
    ((targets : List Target) × (es : List Expr) × (k : Position) × (l : Position) × (deed ≡ deed_of.Assign targets es)
    × Spelled rules c (thing.targets targets) i k × Takes kind.Assign k l × Spelled rules c (thing.list es) l z)
    ⊎ ((head : Expr) × (all : List Suffix) × (suffixes : List Suffix) × (how : Call)
    × (deed ≡ deed_of.Call (suffixed head suffixes) how)
    × Spelled rules c (thing.own_chain head all) i z × (all ≡ suffixes ++ suffix_of.Call how ∷ []))

abbrev pub DeedForm : Option TokenKind → Rules → Context → Deed → Position → Position → Type 0
DeedForm (Some kind.Do) rules c deed i z = (block : List Stat) × (k : Position) × (deed ≡ deed_of.Do block)
    × HasRoom rules c
    × Spelled rules (context.inner c) (thing.block block) (at.next i) k × Takes kind.End k z
DeedForm (Some kind.While) rules c deed i z = (e : Expr) × (block : List Stat) × (k : Position)
    × (deed ≡ deed_of.While e block)
    × Spelled rules c (thing.expression e) (at.next i) k × Spelled rules c (thing.loop_block block) k z
DeedForm (Some kind.Repeat) rules c deed i z = (block : List Stat) × (e : Expr) × (k : Position) × (l : Position)
    × (deed ≡ deed_of.Repeat block e) × HasRoom rules c × Spelled rules (context.looped c) (thing.block block)
    (at.next i) k
    × Takes kind.Until k l × Spelled rules c (thing.expression e) l z
DeedForm (Some kind.If) rules c deed i z = (branch : Branch) × (branches : List Branch) × (block : List Stat)
    × (k : Position) × (l : Position) × (m : Position) × (deed ≡ deed_of.If (branch ∷ branches) block)
    × Spelled rules c (thing.branch branch) (at.next i) k × Spelled rules c (thing.branches branches) k l
    × Spelled rules c (thing.otherwise block) l m × Takes kind.End m z
DeedForm (Some kind.For) rules c deed i z = Spelled rules c (thing.for_range deed) (at.next i) z
DeedForm (Some kind.Function) rules c deed i z = (name : Name) × (path : List Name) × (k : Position) × (l : Position)
    × TakesName name (at.next i) k × Spelled rules c (thing.path path) k l
    × IfIs (at.kind l) kind.Colon
    ((last : Name) × (number : ℕ) × (m : Position) × (deed ≡ deed_of.Function name (path ++ last ∷ []) number)
    × TakesName last (at.next l) m × Spelled rules c (thing.function_body (at.line i) true number) m z)
    ((number : ℕ) × (deed ≡ deed_of.Function name path number)
    × Spelled rules c (thing.function_body (at.line i) false number) l z)
DeedForm (Some kind.Local) rules c deed i z = IfIs (at.kind (at.next i)) kind.Function
    ((name : Name) × (number : ℕ) × (k : Position) × (deed ≡ deed_of.LocalFunction name number)
    × TakesName name (at.next (at.next i)) k × Spelled rules c (thing.function_body (at.line (at.next i)) false number)
    k z)
    ((names : List Name) × (es : List Expr) × (k : Position) × (deed ≡ deed_of.Local names es)
    × Spelled rules c (thing.names names) (at.next i) k × Spelled rules c (thing.values es) k z)
DeedForm (Some kind.Name) rules c deed i z = ChainDeedForm rules c deed i z
DeedForm (Some kind.LeftParen) rules c deed i z = ChainDeedForm rules c deed i z
DeedForm _ rules c deed i z = ⊥

-- ---- all

abbrev pub Form : Rules → Context → Thing → Position → Position → Type 0
Form rules c (thing.expression e) i z = ExpressionForm rules c e i z
Form rules c (thing.operand rank e) i z = OperandForm rules c rank e i z
Form rules c (thing.links rank links) i z = LinksForm (at.joint rank i) rules c rank links i z
Form rules c (thing.simple e) i z = SimpleForm (at.kind i) rules c e i z
Form rules c (thing.head e) i z = HeadForm (at.kind i) rules c e i z
Form rules c (thing.chain head suffixes) i z = ChainForm rules c head suffixes i z
Form rules c (thing.own_chain head suffixes) i z = OwnChainForm rules c head suffixes i z
Form rules c (thing.suffixes suffixes) i z = SuffixesForm (begins_suffix (at.kind i)) rules c suffixes i z
Form rules c (thing.suffix suffix) i z = SuffixForm (at.kind i) rules c suffix i z
Form rules c (thing.arguments es) i z = ArgumentsForm (at.kind i) rules c es i z
Form rules c (thing.list es) i z = ListForm rules c es i z
Form rules c (thing.constructor fields) i z = ConstructorForm rules c fields i z
Form rules c (thing.fields fields) i z = FieldsForm rules c fields i z
Form rules c (thing.field f) i z = FieldForm rules c f i z
Form rules c (thing.names names) i z = NamesForm rules c names i z
Form rules c (thing.parameters names varargs) i z = ParametersForm (at.kind i) rules c names varargs i z
Form rules c (thing.function_body line method number) i z = FunctionForm rules c line method number i z
Form rules c (thing.block stats) i z = BlockForm (ends_block (at.kind i)) (begins_last (at.kind i)) rules c stats i z
Form rules c (thing.statement stat) i z = StatementForm rules c stat i z
Form rules c (thing.deed deed) i z = DeedForm (at.kind i) rules c deed i z
Form rules c (thing.last stat) i z = LastForm rules c stat i z
Form rules c (thing.last_deed deed) i z = LastDeedForm (at.kind i) rules c deed i z
Form rules c (thing.loop_block block) i z = LoopBlockForm rules c block i z
Form rules c (thing.branches branches) i z = BranchesForm rules c branches i z
Form rules c (thing.branch branch) i z = BranchForm rules c branch i z
Form rules c (thing.otherwise block) i z = OtherwiseForm rules c block i z
Form rules c (thing.for_range deed) i z = ForRangeForm rules c deed i z
Form rules c (thing.step step) i z = StepForm rules c step i z
Form rules c (thing.path path) i z = PathForm rules c path i z
Form rules c (thing.values es) i z = ValuesForm rules c es i z
Form rules c (thing.targets targets) i z = TargetsForm rules c targets i z
Form rules c (thing.target target) i z = TargetForm rules c target i z
