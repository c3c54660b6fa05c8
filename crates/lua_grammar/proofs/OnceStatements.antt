-- A block or a statement that begins somewhere has one tree and one end, if its parts have.
use Rattle.std.proofs.Common.{◌≡◌, ℕ, true, false, List, [], ◌∷◌, ◌++◌, Option, Some, None, refl, sym, ap, ap₂, ◌∙◌}
use Rattle.std.proofs.Common.{subst}
use Rattle.lua_lex.specs.declared.kinds.TokenKind.TheVariants as kind
use Rattle.lua_grammar.specs.declared.kinds.SyntaxKind.TheVariants as fault
use Rattle.lua_grammar.specs.declared.context.Context.{Context}
use Rattle.lua_grammar.specs.declared.expressions.Name.{Name}
use Rattle.lua_grammar.specs.declared.expressions.Expr.{Expr}
use Rattle.lua_grammar.specs.declared.statements.Stat.{Stat}
use Rattle.lua_grammar.specs.declared.statements.Deed.{Deed}
use Rattle.lua_grammar.specs.declared.statements.Deed.TheVariants as deed_of
use Rattle.lua_grammar.specs.declared.statements.Branch.{Branch}
use Rattle.lua_grammar.specs.Words.{ends_block, ends_return}
use Rattle.lua_grammar.specs.Positions as at
use Rattle.lua_grammar.specs.Positions.{Position, Takes, TakesName, TakesText, Sees, SeesNot, IsNear}
use Rattle.lua_grammar.specs.Contexts as context
use Rattle.lua_grammar.specs.Contexts.{Rules, Kept, HasRoom, IsShort}
use Rattle.lua_grammar.specs.Things as thing
use Rattle.lua_grammar.specs.Parts.{stat_of, branch_of, IsReturn}
use Rattle.lua_grammar.specs.Productions.{begins_last}
use Rattle.lua_grammar.specs.Stuck.{begins_deed}
use Rattle.lua_grammar.proofs.Ends.{same_return}
use Rattle.lua_grammar.proofs.Inversions.{moved, on_line, takes_at, unseen_at, ends_at, statements_go_on}
use Rattle.lua_grammar.proofs.Inversions.{statements_are_not_last, last_goes_on, form, block_at, last_deed_at}
use Rattle.lua_grammar.proofs.Inversions.{return_at, deed_at}
use Rattle.lua_grammar.proofs.Unique.{Unique, onward, same_name_taken}

abbrev behind_semicolon : Position → Position
behind_semicolon i = at.behind_semicolon (at.kind i) i

same_for : {n n' : Name} {begin begin' limit limit' : Expr} {step step' : Option Expr} {block block' : List Stat}
    → n ≡ n' → begin ≡ begin'
    → limit ≡ limit' → step ≡ step' → block ≡ block' → deed_of.For n begin limit step block
    ≡ deed_of.For n' begin' limit' step' block'
same_for p q r s t = cc

same_for_in : {names names' : List Name} {es es' : List Expr} {block block' : List Stat} → names ≡ names' → es ≡ es'
    → block ≡ block'
    → deed_of.ForIn names es block ≡ deed_of.ForIn names' es' block'
same_for_in p q r = cc

same_function : {name name' : Name} {path path' : List Name} {number number' : ℕ} → name ≡ name' → path ≡ path'
    → number ≡ number'
    → deed_of.Function name path number ≡ deed_of.Function name' path' number'
same_function p q r = cc

same_method : {name name' last last' : Name} {path path' : List Name} {number number' : ℕ} {deed : Deed} → name ≡ name'
    → path ≡ path'
    → last ≡ last' → number ≡ number' → deed ≡ deed_of.Function name' (path' ++ last' ∷ []) number'
    → deed_of.Function name (path ++ last ∷ []) number ≡ deed
same_method p q r s is = cc

pub no_statements_once : {rules : Rules} {c : Context} {i : Position} → ends_block (at.kind i) ≡ true
    → Unique rules c (thing.block []) i i
no_statements_once e stats' z s =
    let (is, end) = block_at e refl s in
    (sym is, sym end)

pub last_statement_once : {rules : Rules} {c : Context} {last : Stat} {i j : Position}
    → Unique rules c (thing.last last) i j
    → ends_block (at.kind j) ≡ true → begins_last (at.kind i) ≡ true → Unique rules c (thing.block (last ∷ [])) i j
last_statement_once x e first stats' z s =
    let (last', is, x', e') = block_at (last_goes_on _ first) first s in
    let (same, end) = x _ _ x' in
    (ap (λ (stat : Stat). stat ∷ []) same ∙ sym is, end)

pub more_statements_once : {rules : Rules} {c : Context} {stat : Stat} {stats : List Stat} {i j k : Position}
    → Unique rules c (thing.statement stat) i j → Unique rules c (thing.block stats) j k
    → begins_deed (at.kind i) ≡ true
    → Unique rules c (thing.block (stat ∷ stats)) i k
more_statements_once x xs first stats' z s =
    let (stat', rest', k', is, x', xs') = block_at (statements_go_on _ first) (statements_are_not_last _ first) s in
    let (same, to) = x _ _ x' in
    let (rest, end) = xs _ _ (moved (sym to) xs') in
    (ap₂ ◌∷◌ same rest ∙ sym is, end)

pub statement_once : {rules : Rules} {c : Context} {line : ℕ} {deed : Deed} {i j k : Position} → line ≡ at.line i
    → Unique rules c (thing.deed deed) i j → at.PassesSemicolon j k
    → Unique rules c (thing.statement (stat_of line deed)) i k
statement_once l x p stat' z s =
    let (deed', k', is, x', p') = form s in
    let (same, to) = x _ _ x' in
    (ap₂ stat_of l same ∙ sym is, p.taken ∙ ap behind_semicolon to ∙ sym p'.taken)

pub last_once : {rules : Rules} {c : Context} {line : ℕ} {deed : Deed} {i j k : Position} → line ≡ at.line i
    → Unique rules c (thing.last_deed deed) i j → at.PassesSemicolon j k
    → Unique rules c (thing.last (stat_of line deed)) i k
last_once l x p stat' z s =
    let (deed', k', is, x', p') = form s in
    let (same, to) = x _ _ x' in
    (ap₂ stat_of l same ∙ sym is, p.taken ∙ ap behind_semicolon to ∙ sym p'.taken)

pub break_statement_once : {rules : Rules} {c : Context} {i j : Position} → Takes kind.Break i j
    → Kept (rules fault.NoLoop) (c.in_loop ≡ true) → Unique rules c (thing.last_deed deed_of.Break) i j
break_statement_once t k deed' z s =
    let (is, end, k') = last_deed_at t.seen s in
    (sym is, t.taken ∙ sym end)

pub return_nothing_once : {rules : Rules} {c : Context} {i j : Position} → Takes kind.Return i j
    → ends_return (at.kind j) ≡ true → Unique rules c (thing.last_deed (deed_of.Return [])) i j
return_nothing_once t e deed' z s =
    let (is, end) = return_at t.seen (ends_at t.taken e) s in
    (sym is, t.taken ∙ sym end)

pub return_values_once : {rules : Rules} {c : Context} {es : List Expr} {deed : Deed} {i j k : Position}
    → Takes kind.Return i j
    → ends_return (at.kind j) ≡ false → Unique rules c (thing.list es) j k → IsReturn es deed
    → Unique rules c (thing.last_deed deed) i k
return_values_once {deed = deed} t e x r deed' z s =
    let (es', x', r') = return_at t.seen (ends_at t.taken e) s in
    let (same, end) = x _ _ (moved (sym t.taken) x') in
    (same_return (subst (λ (es : List Expr). IsReturn es deed) same r) r', end)

-- ---- statements
pub do_block_once : {rules : Rules} {c : Context} {block : List Stat} {i j k l : Position} → Takes kind.Do i j
    → HasRoom rules c
    → Unique rules (context.inner c) (thing.block block) j k → Takes kind.End k l
    → Unique rules c (thing.deed (deed_of.Do block)) i l
do_block_once t r x u deed' z s =
    let (block', k', is, r', x', u') = deed_at t.seen s in
    let (same, to) = x _ _ (moved (sym t.taken) x') in
    (ap deed_of.Do same ∙ sym is, onward u.taken to u'.taken)

pub while_loop_once : {rules : Rules} {c : Context} {e : Expr} {block : List Stat} {i j k l : Position}
    → Takes kind.While i j
    → Unique rules c (thing.expression e) j k → Unique rules c (thing.loop_block block) k l
    → Unique rules c (thing.deed (deed_of.While e block)) i l
while_loop_once t x y deed' z s =
    let (e', block', k', is, x', y') = deed_at t.seen s in
    let (same, to) = x _ _ (moved (sym t.taken) x') in
    let (same_block, end) = y _ _ (moved (sym to) y') in
    (ap₂ deed_of.While same same_block ∙ sym is, end)

pub repeat_loop_once : {rules : Rules} {c : Context} {e : Expr} {block : List Stat} {i j k l m : Position}
    → Takes kind.Repeat i j → HasRoom rules c → Unique rules (context.looped c) (thing.block block) j k
    → Takes kind.Until k l
    → Unique rules c (thing.expression e) l m → Unique rules c (thing.deed (deed_of.Repeat block e)) i m
repeat_loop_once t r x u y deed' z s =
    let (block', e', k', l', is, r', x', u', y') = deed_at t.seen s in
    let (same_block, to) = x _ _ (moved (sym t.taken) x') in
    let (same, end) = y _ _ (moved (sym (onward u.taken to u'.taken)) y') in
    (ap₂ deed_of.Repeat same_block same ∙ sym is, end)

pub if_statement_once : {rules : Rules} {c : Context} {branch : Branch} {branches : List Branch} {block : List Stat}
    {i j k l m n : Position}
    → Takes kind.If i j → Unique rules c (thing.branch branch) j k → Unique rules c (thing.branches branches) k l
    → Unique rules c (thing.otherwise block) l m → Takes kind.End m n
    → Unique rules c (thing.deed (deed_of.If (branch ∷ branches) block)) i n
if_statement_once t x xs y u deed' z s =
    let (branch', branches', block', k', l', m', is, x', xs', y', u') = deed_at t.seen s in
    let (same, to) = x _ _ (moved (sym t.taken) x') in
    let (rest, on) = xs _ _ (moved (sym to) xs') in
    let (same_block, end) = y _ _ (moved (sym on) y') in
    (ap₂ deed_of.If (ap₂ ◌∷◌ same rest) same_block ∙ sym is, onward u.taken end u'.taken)

pub no_branches_once : {rules : Rules} {c : Context} {i : Position} → SeesNot kind.ElseIf i
    → Unique rules c (thing.branches []) i i
no_branches_once n branches' z s =
    let (is, end) = (form s).1 n in
    (sym is, sym end)

pub more_branches_once : {rules : Rules} {c : Context} {branch : Branch} {branches : List Branch} {i j k l : Position}
    → Takes kind.ElseIf i j → Unique rules c (thing.branch branch) j k → Unique rules c (thing.branches branches) k l
    → Unique rules c (thing.branches (branch ∷ branches)) i l
more_branches_once t x xs branches' z s =
    let (branch', rest', k', is, x', xs') = (form s).0 t.seen in
    let (same, to) = x _ _ (moved (sym t.taken) x') in
    let (rest, end) = xs _ _ (moved (sym to) xs') in
    (ap₂ ◌∷◌ same rest ∙ sym is, end)

pub branch_once : {rules : Rules} {c : Context} {e : Expr} {block : List Stat} {i j k l : Position}
    → Unique rules c (thing.expression e) i j → Takes kind.Then j k → HasRoom rules c
    → Unique rules (context.inner c) (thing.block block) k l → Unique rules c (thing.branch (branch_of e block)) i l
branch_once x t r y branch' z s =
    let (e', block', k', l', is, x', t', r', y') = form s in
    let (same, to) = x _ _ x' in
    let (same_block, end) = y _ _ (moved (sym (onward t.taken to t'.taken)) y') in
    (ap₂ branch_of same same_block ∙ sym is, end)

pub no_else_once : {rules : Rules} {c : Context} {i : Position} → SeesNot kind.Else i
    → Unique rules c (thing.otherwise []) i i
no_else_once n block' z s =
    let (is, end) = (form s).1 n in
    (sym is, sym end)

pub else_block_once : {rules : Rules} {c : Context} {block : List Stat} {i j k : Position} → Takes kind.Else i j
    → HasRoom rules c → Unique rules (context.inner c) (thing.block block) j k
    → Unique rules c (thing.otherwise block) i k
else_block_once t r x block' z s =
    let (r', x') = (form s).0 t.seen in
    x _ _ (moved (sym t.taken) x')

pub for_loop_once : {rules : Rules} {c : Context} {deed : Deed} {i j k : Position} → Takes kind.For i j
    → Unique rules c (thing.for_range deed) j k → Unique rules c (thing.deed deed) i k
for_loop_once t x deed' z s = x _ _ (moved (sym t.taken) (deed_at t.seen s))

pub numeric_for_once : {rules : Rules} {c : Context} {name : Name} {begin limit : Expr} {step : Option Expr}
    {block : List Stat} {i j k l m n o p : Position}
    → TakesName name i j → Takes kind.Assign j k → Unique rules c (thing.expression begin) k l → Takes kind.Comma l m
    → Unique rules c (thing.expression limit) m n → Unique rules c (thing.step step) n o
    → Unique rules c (thing.loop_block block) o p
    → Unique rules c (thing.for_range (deed_of.For name begin limit step block)) i p
numeric_for_once t u x v y st b deed' z s =
    let u' = takes_at t.taken u in
    let (begin', limit', step', block', l', m', n', o', is, x', v', y', st', b') = (form s).0 u'.seen in
    let (same_begin, to) = x _ _ (moved (sym u'.taken) x') in
    let (same_limit, on) = y _ _ (moved (sym (onward v.taken to v'.taken)) y') in
    let (same_step, further) = st _ _ (moved (sym on) st') in
    let (same_block, end) = b _ _ (moved (sym further) b') in
    (same_for t.name_is same_begin same_limit same_step same_block ∙ sym is, end)

pub no_step_once : {rules : Rules} {c : Context} {i : Position} → SeesNot kind.Comma i
    → Unique rules c (thing.step None) i i
no_step_once n step' z s =
    let (is, end) = (form s).1 n in
    (sym is, sym end)

pub step_once : {rules : Rules} {c : Context} {e : Expr} {i j k : Position} → Takes kind.Comma i j
    → Unique rules c (thing.expression e) j k → Unique rules c (thing.step (Some e)) i k
step_once t x step' z s =
    let (e', is, x') = (form s).0 t.seen in
    let (same, end) = x _ _ (moved (sym t.taken) x') in
    (ap (λ (e : Expr). Some e) same ∙ sym is, end)

pub generic_for_once : {rules : Rules} {c : Context} {names : List Name} {es : List Expr} {block : List Stat}
    {i j k l m : Position}
    → Unique rules c (thing.names names) i j → Takes kind.In j k → Unique rules c (thing.list es) k l
    → Unique rules c (thing.loop_block block) l m → SeesNot kind.Assign (at.next i)
    → Unique rules c (thing.for_range (deed_of.ForIn names es block)) i m
generic_for_once x t y b generic deed' z s =
    let (names', es', block', k', l', m', is, x', t', y', b') = (form s).1 generic in
    let (same_names, to) = x _ _ x' in
    let (same, on) = y _ _ (moved (sym (onward t.taken to t'.taken)) y') in
    let (same_block, end) = b _ _ (moved (sym on) b') in
    (same_for_in same_names same same_block ∙ sym is, end)

pub loop_block_once : {rules : Rules} {c : Context} {block : List Stat} {i j k l : Position} → Takes kind.Do i j
    → HasRoom rules c → Unique rules (context.looped c) (thing.block block) j k → Takes kind.End k l
    → Unique rules c (thing.loop_block block) i l
loop_block_once t r x u block' z s =
    let (k', r', x', u') = form s in
    let (same, to) = x _ _ (moved (sym t.taken) x') in
    (same, onward u.taken to u'.taken)

pub function_statement_once : {rules : Rules} {c : Context} {name : Name} {path : List Name} {line number : ℕ}
    {i j k l m : Position}
    → line ≡ at.line i → Takes kind.Function i j → TakesName name j k → Unique rules c (thing.path path) k l
    → SeesNot kind.Colon l → Unique rules c (thing.function_body line false number) l m
    → Unique rules c (thing.deed (deed_of.Function name path number)) i m
function_statement_once l t n p no_colon x deed' z s =
    let (name', path', k', l', n', p', rest) = deed_at t.seen s in
    let (same_name, to) = same_name_taken n t.taken n' in
    let (same_path, on) = p _ _ (moved (sym to) p') in
    let (number', is, x') = rest.1 (unseen_at on no_colon) in
    let (same, end) = x _ _ (on_line (sym l) (moved (sym on) x')) in
    (same_function same_name same_path same ∙ sym is, end)

pub method_statement_once : {rules : Rules} {c : Context} {name last : Name} {path : List Name} {line number : ℕ}
    {i j k l m n o : Position}
    → line ≡ at.line i → Takes kind.Function i j → TakesName name j k → Unique rules c (thing.path path) k l
    → Takes kind.Colon l m → TakesName last m n → Unique rules c (thing.function_body line true number) n o
    → Unique rules c (thing.deed (deed_of.Function name (path ++ last ∷ []) number)) i o
method_statement_once l t n p u m x deed' z s =
    let (name', path', k', l', n', p', rest) = deed_at t.seen s in
    let (same_name, to) = same_name_taken n t.taken n' in
    let (same_path, on) = p _ _ (moved (sym to) p') in
    let u' = takes_at on u in
    let (last', number', j', is, m', x') = rest.0 u'.seen in
    let (same_last, behind) = same_name_taken m u'.taken m' in
    let (same, end) = x _ _ (on_line (sym l) (moved (sym behind) x')) in
    (same_method same_name same_path same_last same is, end)

pub no_path_once : {rules : Rules} {c : Context} {i : Position} → SeesNot kind.Dot i
    → Unique rules c (thing.path []) i i
no_path_once n path' z s =
    let (is, end) = (form s).1 n in
    (sym is, sym end)

pub more_path_once : {rules : Rules} {c : Context} {n : Name} {path : List Name} {i j k l : Position}
    → Takes kind.Dot i j
    → TakesName n j k → Unique rules c (thing.path path) k l → Unique rules c (thing.path (n ∷ path)) i l
more_path_once t n p path' z s =
    let (name', rest', k', is, n', p') = (form s).0 t.seen in
    let (same, to) = same_name_taken n t.taken n' in
    let (rest, end) = p _ _ (moved (sym to) p') in
    (ap₂ ◌∷◌ same rest ∙ sym is, end)

pub local_function_once : {rules : Rules} {c : Context} {name : Name} {line number : ℕ} {i j k l m : Position}
    → Takes kind.Local i j → line ≡ at.line j → Takes kind.Function j k → TakesName name k l
    → Unique rules c (thing.function_body line false number) l m
    → Unique rules c (thing.deed (deed_of.LocalFunction name number)) i m
local_function_once t l u n x deed' z s =
    let u' = takes_at t.taken u in
    let (name', number', k', is, n', x') = (deed_at t.seen s).0 u'.seen in
    let (same_name, to) = same_name_taken n u'.taken n' in
    let (same, end) = x _ _ (on_line (sym (l ∙ ap at.line t.taken)) (moved (sym to) x')) in
    (ap₂ deed_of.LocalFunction same_name same ∙ sym is, end)

pub local_once : {rules : Rules} {c : Context} {names : List Name} {es : List Expr} {i j k l : Position}
    → Takes kind.Local i j
    → Unique rules c (thing.names names) j k → Unique rules c (thing.values es) k l → SeesNot kind.Function j
    → Unique rules c (thing.deed (deed_of.Local names es)) i l
local_once t x y no_function deed' z s =
    let (names', es', k', is, x', y') = (deed_at t.seen s).1 (unseen_at t.taken no_function) in
    let (same_names, to) = x _ _ (moved (sym t.taken) x') in
    let (same, end) = y _ _ (moved (sym to) y') in
    (ap₂ deed_of.Local same_names same ∙ sym is, end)

pub no_values_once : {rules : Rules} {c : Context} {i : Position} → SeesNot kind.Assign i
    → Unique rules c (thing.values []) i i
no_values_once n es' z s =
    let (is, end) = (form s).1 n in
    (sym is, sym end)

pub values_once : {rules : Rules} {c : Context} {es : List Expr} {i j k : Position} → Takes kind.Assign i j
    → Unique rules c (thing.list es) j k → Unique rules c (thing.values es) i k
values_once t x es' z s = x _ _ (moved (sym t.taken) ((form s).0 t.seen))
