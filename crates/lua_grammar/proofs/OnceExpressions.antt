-- An expression that begins somewhere has one tree and one end, if its parts have.
use Rattle.std.proofs.Common.{◌≡◌, ℕ, ◌+◌, ◌≤◌, ℤ, true, false, List, [], ◌∷◌, Some, None, sym, ap, ap₂, ◌∙◌}
use Rattle.lua_lex.specs.declared.kinds.TokenKind.TheVariants as kind
use Rattle.lua_grammar.specs.declared.kinds.SyntaxKind.TheVariants as fault
use Rattle.lua_grammar.specs.declared.context.Context.{Context}
use Rattle.lua_grammar.specs.declared.operators.Unary.{Unary}
use Rattle.lua_grammar.specs.declared.operators.Binary.{Binary}
use Rattle.lua_grammar.specs.declared.expressions.Name.{Name}
use Rattle.lua_grammar.specs.declared.expressions.Expr.{Expr}
use Rattle.lua_grammar.specs.declared.expressions.Expr.TheVariants as expr
use Rattle.lua_grammar.specs.declared.expressions.Link.{Link}
use Rattle.lua_grammar.specs.declared.expressions.Suffix.{Suffix}
use Rattle.lua_grammar.specs.declared.expressions.Suffix.TheVariants as suffix_of
use Rattle.lua_grammar.specs.declared.expressions.Key.TheVariants as key
use Rattle.lua_grammar.specs.declared.expressions.Call.TheVariants as call_of
use Rattle.lua_grammar.specs.declared.expressions.Field.{Field}
use Rattle.lua_grammar.specs.Words.{begins_suffix}
use Rattle.lua_grammar.specs.Positions as at
use Rattle.lua_grammar.specs.Positions.{Position, Takes, TakesName, TakesText, Sees, SeesNot, IsNear}
use Rattle.lua_grammar.specs.Contexts as context
use Rattle.lua_grammar.specs.Contexts.{Rules, Kept, HasRoom, IsShort}
use Rattle.lua_grammar.specs.Things as thing
use Rattle.lua_grammar.specs.Parts.{suffixed, row, link_of}
use Rattle.lua_grammar.specs.Productions.{begins_chain, begins_arguments}
use Rattle.lua_grammar.proofs.FirstWords.{begins_table}
use Rattle.lua_grammar.proofs.Inversions.{moved, on_line, takes_at, unseen_at, table_word, form, power_at, exponent_at}
use Rattle.lua_grammar.proofs.Inversions.{links_at, simple_at, prefix_at, head_at, suffixes_at, suffix_at, call_at}
use Rattle.lua_grammar.proofs.Inversions.{arguments_at}
use Rattle.lua_grammar.proofs.Unique.{Unique, resumed, onward, same_name_taken}

abbrev linked : Binary → Expr → List Link → List Link
linked by e links = link_of by e ∷ links

pub expression_once : {rules : Rules} {c : Context} {e : Expr} {i j k l : Position} → at.BeginsExpression i j
    → Unique rules c (thing.operand 1 e) j k → at.ResumesExpression i k l → Unique rules c (thing.expression e) i l
expression_once {i = i} b x r e' z s =
    let (k', x', r') = form s in
    let (same, to) = x _ _ (moved (sym b.begun) x') in
    (same, r.resumed ∙ ap (resumed i) to ∙ sym r'.resumed)

pub operands_once : {rules : Rules} {c : Context} {rank : ℕ} {first : Expr} {links : List Link} {i j k : Position}
    → rank ≤ 6
    → Unique rules c (thing.operand (rank + 1) first) i j → Unique rules c (thing.links rank links) j k
    → Unique rules c (thing.operand rank (row first links)) i k
operands_once le x ls e' z s =
    let (first', links', k', is, x', ls') = (form s).0 le in
    let (same, to) = x _ _ x' in
    let (rest, end) = ls _ _ (moved (sym to) ls') in
    (ap₂ row same rest ∙ sym is, end)

pub unary_once : {rules : Rules} {c : Context} {by : Unary} {e : Expr} {i j k : Position} → at.sign i ≡ Some by
    → at.Passes i j
    → HasRoom rules c → Unique rules (context.inner c) (thing.operand 7 e) j k
    → Unique rules c (thing.operand 7 (expr.Unary by e)) i k
unary_once {by = by} g p r x e' z s =
    let (operand', is, r', x') = power_at g s in
    let (same, end) = x _ _ (moved (sym p.taken) x') in
    (ap (expr.Unary by) same ∙ sym is, end)

pub power_once : {rules : Rules} {c : Context} {base : Expr} {links : List Link} {i j k : Position} → at.sign i ≡ None
    → Unique rules c (thing.simple base) i j → Unique rules c (thing.links 7 links) j k
    → Unique rules c (thing.operand 7 (row base links)) i k
power_once g x ls e' z s =
    let (base', links', k', is, x', ls') = power_at g s in
    let (same, to) = x _ _ x' in
    let (rest, end) = ls _ _ (moved (sym to) ls') in
    (ap₂ row same rest ∙ sym is, end)

pub unary_exponent_once : {rules : Rules} {c : Context} {by : Unary} {e : Expr} {i j k : Position} → at.sign i ≡ Some by
    → at.Passes i j → HasRoom rules c → Unique rules (context.inner c) (thing.operand 7 e) j k
    → Unique rules c (thing.operand 8 (expr.Unary by e)) i k
unary_exponent_once {by = by} g p r x e' z s =
    let (operand', is, r', x') = exponent_at g s in
    let (same, end) = x _ _ (moved (sym p.taken) x') in
    (ap (expr.Unary by) same ∙ sym is, end)

pub exponent_once : {rules : Rules} {c : Context} {e : Expr} {i j : Position} → at.sign i ≡ None
    → Unique rules c (thing.simple e) i j → Unique rules c (thing.operand 8 e) i j
exponent_once g x e' z s = x _ _ (exponent_at g s)

pub no_links_once : {rules : Rules} {c : Context} {rank : ℕ} {i : Position} → at.joint rank i ≡ None
    → Unique rules c (thing.links rank []) i i
no_links_once e links' z s =
    let (is, end) = links_at e s in
    (sym is, sym end)

pub more_links_once : {rules : Rules} {c : Context} {rank : ℕ} {by : Binary} {e : Expr} {links : List Link}
    {i j k l : Position}
    → at.joint rank i ≡ Some by → IsShort rules i.operators → at.PassesOperator i j
    → Unique rules c (thing.operand (rank + 1) e) j k → Unique rules c (thing.links rank links) k l
    → Unique rules c (thing.links rank (link_of by e ∷ links)) i l
more_links_once {by = by} e h p x xs links' z s =
    let (operand', rest', k', is, h', x', xs') = links_at e s in
    let (same, to) = x _ _ (moved (sym p.taken) x') in
    let (rest, end) = xs _ _ (moved (sym to) xs') in
    (ap₂ (linked by) same rest ∙ sym is, end)

pub nil_value_once : {rules : Rules} {c : Context} {i j : Position} → Takes kind.Nil i j
    → Unique rules c (thing.simple expr.Nil) i j
nil_value_once t e' z s =
    let (is, end) = simple_at t.seen s in
    (sym is, t.taken ∙ sym end)

pub false_value_once : {rules : Rules} {c : Context} {i j : Position} → Takes kind.False i j
    → Unique rules c (thing.simple expr.False) i j
false_value_once t e' z s =
    let (is, end) = simple_at t.seen s in
    (sym is, t.taken ∙ sym end)

pub true_value_once : {rules : Rules} {c : Context} {i j : Position} → Takes kind.True i j
    → Unique rules c (thing.simple expr.True) i j
true_value_once t e' z s =
    let (is, end) = simple_at t.seen s in
    (sym is, t.taken ∙ sym end)

pub number_once : {rules : Rules} {c : Context} {n : ℤ} {i j : Position} → Takes (kind.Number n) i j
    → Unique rules c (thing.simple (expr.Number n)) i j
number_once t e' z s =
    let (is, end) = simple_at t.seen s in
    (sym is, t.taken ∙ sym end)

pub text_once : {rules : Rules} {c : Context} {number : ℕ} {i j : Position} → TakesText number i j
    → Unique rules c (thing.simple (expr.Text number)) i j
text_once t e' z s =
    let (is, end) = simple_at t.seen s in
    (ap expr.Text t.number_is ∙ sym is, t.taken ∙ sym end)

pub varargs_once : {rules : Rules} {c : Context} {i j : Position} → Takes kind.Dots i j
    → Kept (rules fault.NoVararg) (c.varargs ≡ true) → Unique rules c (thing.simple expr.Varargs) i j
varargs_once t k e' z s =
    let (is, end, k') = simple_at t.seen s in
    (sym is, t.taken ∙ sym end)

pub function_once : {rules : Rules} {c : Context} {line number : ℕ} {i j k : Position} → line ≡ at.line i
    → Takes kind.Function i j → Unique rules c (thing.function_body line false number) j k
    → Unique rules c (thing.simple (expr.Function number)) i k
function_once l t b e' z s =
    let (number', is, b') = simple_at t.seen s in
    let (same, end) = b _ _ (on_line (sym l) (moved (sym t.taken) b')) in
    (ap expr.Function same ∙ sym is, end)

pub table_once : {rules : Rules} {c : Context} {fields : List Field} {i j : Position}
    → Unique rules c (thing.constructor fields) i j → begins_table (at.kind i) ≡ true
    → Unique rules c (thing.simple (expr.Table fields)) i j
table_once x first e' z s =
    let (fields', is, x') = simple_at (table_word _ first) s in
    let (same, end) = x _ _ x' in
    (ap expr.Table same ∙ sym is, end)

pub prefix_once : {rules : Rules} {c : Context} {head : Expr} {suffixes : List Suffix} {i j : Position}
    → Unique rules c (thing.chain head suffixes) i j → begins_chain (at.kind i) ≡ true
    → Unique rules c (thing.simple (suffixed head suffixes)) i j
prefix_once x first e' z s =
    let (head', suffixes', is, x') = prefix_at first s in
    let (same, rest, end) = x _ _ _ x' in
    (ap₂ suffixed same rest ∙ sym is, end)

-- ---- names and parentheses, and what goes on with them
pub chain_once : {rules : Rules} {c : Context} {head : Expr} {suffixes : List Suffix} {i j k : Position}
    → Unique rules c (thing.head head) i j → Unique rules c (thing.suffixes suffixes) j k
    → Unique rules c (thing.chain head suffixes) i k
chain_once x xs head' suffixes' z s =
    let (k', x', xs') = form s in
    let (same, to) = x _ _ x' in
    let (rest, end) = xs _ _ (moved (sym to) xs') in
    (same, rest, end)

pub own_chain_once : {rules : Rules} {c : Context} {head : Expr} {suffixes : List Suffix} {i j k l : Position}
    → at.BeginsExpression i j → Unique rules c (thing.chain head suffixes) j k → at.ResumesExpression i k l
    → Unique rules c (thing.own_chain head suffixes) i l
own_chain_once {i = i} b x r head' suffixes' z s =
    let (k', x', r') = form s in
    let (same, rest, to) = x _ _ _ (moved (sym b.begun) x') in
    (same, rest, r.resumed ∙ ap (resumed i) to ∙ sym r'.resumed)

pub name_once : {rules : Rules} {c : Context} {n : Name} {i j : Position} → TakesName n i j
    → Unique rules c (thing.head (expr.Name n)) i j
name_once t e' z s =
    let (is, end) = head_at t.seen s in
    (ap expr.Name t.name_is ∙ sym is, t.taken ∙ sym end)

pub parenthesis_once : {rules : Rules} {c : Context} {e : Expr} {i j k l : Position} → Takes kind.LeftParen i j
    → HasRoom rules c → Unique rules (context.inner c) (thing.expression e) j k → Takes kind.RightParen k l
    → Unique rules c (thing.head (expr.Paren e)) i l
parenthesis_once t r x u e' z s =
    let (inside', k', is, r', x', u') = head_at t.seen s in
    let (same, to) = x _ _ (moved (sym t.taken) x') in
    (ap expr.Paren same ∙ sym is, onward u.taken to u'.taken)

pub no_suffixes_once : {rules : Rules} {c : Context} {i : Position} → begins_suffix (at.kind i) ≡ false
    → Unique rules c (thing.suffixes []) i i
no_suffixes_once e suffixes' z s =
    let (is, end) = suffixes_at e s in
    (sym is, sym end)

pub more_suffixes_once : {rules : Rules} {c : Context} {suffix : Suffix} {suffixes : List Suffix} {i j k l : Position}
    → IsShort rules i.suffixes → at.CountsSuffix i j → Unique rules c (thing.suffix suffix) j k
    → Unique rules c (thing.suffixes suffixes) k l → begins_suffix (at.kind i) ≡ true
    → Unique rules c (thing.suffixes (suffix ∷ suffixes)) i l
more_suffixes_once h n x xs first suffixes' z s =
    let (suffix', rest', k', is, h', x', xs') = suffixes_at first s in
    let (same, to) = x _ _ (moved (sym n.counted) x') in
    let (rest, end) = xs _ _ (moved (sym to) xs') in
    (ap₂ ◌∷◌ same rest ∙ sym is, end)

pub member_once : {rules : Rules} {c : Context} {n : Name} {i j k : Position} → Takes kind.Dot i j → TakesName n j k
    → Unique rules c (thing.suffix (suffix_of.Key (key.Field n))) i k
member_once t n suffix' z s =
    let (name', is, n') = suffix_at t.seen s in
    let (same, end) = same_name_taken n t.taken n' in
    (ap (λ (m : Name). suffix_of.Key (key.Field m)) same ∙ sym is, end)

pub index_once : {rules : Rules} {c : Context} {e : Expr} {i j k l : Position} → Takes kind.LeftBracket i j
    → HasRoom rules c
    → Unique rules (context.inner c) (thing.expression e) j k → Takes kind.RightBracket k l
    → Unique rules c (thing.suffix (suffix_of.Key (key.Index e))) i l
index_once t r x u suffix' z s =
    let (e', k', is, r', x', u') = suffix_at t.seen s in
    let (same, to) = x _ _ (moved (sym t.taken) x') in
    (ap (λ (e : Expr). suffix_of.Key (key.Index e)) same ∙ sym is, onward u.taken to u'.taken)

pub call_once : {rules : Rules} {c : Context} {es : List Expr} {i j : Position}
    → Unique rules c (thing.arguments es) i j
    → begins_arguments (at.kind i) ≡ true → Unique rules c (thing.suffix (suffix_of.Call (call_of.Plain es))) i j
call_once x first suffix' z s =
    let (es', is, x') = call_at first s in
    let (same, end) = x _ _ x' in
    (ap (λ (es : List Expr). suffix_of.Call (call_of.Plain es)) same ∙ sym is, end)

pub method_once : {rules : Rules} {c : Context} {n : Name} {es : List Expr} {i j k l : Position} → Takes kind.Colon i j
    → TakesName n j k → Unique rules c (thing.arguments es) k l
    → Unique rules c (thing.suffix (suffix_of.Call (call_of.Method n es))) i l
method_once t n x suffix' z s =
    let (name', es', k', is, n', x') = suffix_at t.seen s in
    let (same_name, to) = same_name_taken n t.taken n' in
    let (same, end) = x _ _ (moved (sym to) x') in
    (ap₂ (λ (m : Name) (es : List Expr). suffix_of.Call (call_of.Method m es)) same_name same ∙ sym is, end)

pub no_arguments_once : {rules : Rules} {c : Context} {i j k : Position} → Takes kind.LeftParen i j
    → Kept (rules fault.Ambiguous) (IsNear i) → HasRoom rules c → Takes kind.RightParen j k
    → Unique rules c (thing.arguments []) i k
no_arguments_once t n r u es' z s =
    let (n', r', rest) = arguments_at t.seen s in
    let u' = takes_at t.taken u in
    let (is, end) = rest.0 u'.seen in
    (sym is, u'.taken ∙ sym end)

pub arguments_once : {rules : Rules} {c : Context} {es : List Expr} {i j k l : Position} → Takes kind.LeftParen i j
    → Kept (rules fault.Ambiguous) (IsNear i) → HasRoom rules c → Unique rules (context.inner c) (thing.list es) j k
    → Takes kind.RightParen k l → SeesNot kind.RightParen j → Unique rules c (thing.arguments es) i l
arguments_once t n r x u open_still es' z s =
    let (n', r', rest) = arguments_at t.seen s in
    let (k', x', u') = rest.1 (unseen_at t.taken open_still) in
    let (same, to) = x _ _ (moved (sym t.taken) x') in
    (same, onward u.taken to u'.taken)

pub table_argument_once : {rules : Rules} {c : Context} {fields : List Field} {i j : Position}
    → Unique rules c (thing.constructor fields) i j → begins_table (at.kind i) ≡ true
    → Unique rules c (thing.arguments (expr.Table fields ∷ [])) i j
table_argument_once x first es' z s =
    let (fields', is, x') = arguments_at (table_word _ first) s in
    let (same, end) = x _ _ x' in
    (ap (λ (fields : List Field). expr.Table fields ∷ []) same ∙ sym is, end)

pub text_argument_once : {rules : Rules} {c : Context} {number : ℕ} {i j : Position} → TakesText number i j
    → Unique rules c (thing.arguments (expr.Text number ∷ [])) i j
text_argument_once t es' z s =
    let (is, end) = arguments_at t.seen s in
    (ap (λ (n : ℕ). expr.Text n ∷ []) t.number_is ∙ sym is, t.taken ∙ sym end)
