-- A list, a table's constructor or a function that begins somewhere has one tree and one end, if its parts have.
use Rattle.std.proofs.Common.{◌≡◌, ℕ, Bool, true, false, List, [], ◌∷◌, sym, ap, ap₂, ◌∙◌, subst, slice_set}
use Rattle.lua_lex.specs.declared.kinds.TokenKind.TheVariants as kind
use Rattle.lua_grammar.specs.declared.context.Context.{Context}
use Rattle.lua_grammar.specs.declared.expressions.Name.{Name}
use Rattle.lua_grammar.specs.declared.expressions.Expr.{Expr}
use Rattle.lua_grammar.specs.declared.expressions.Field.{Field}
use Rattle.lua_grammar.specs.declared.expressions.Field.TheVariants as field_of
use Rattle.lua_grammar.specs.declared.statements.Stat.{Stat}
use Rattle.lua_grammar.specs.declared.statements.Body.{Body}
use Rattle.lua_grammar.specs.Positions as at
use Rattle.lua_grammar.specs.Positions.{Position, Takes, TakesName, TakesText, Sees, SeesNot, IsNear}
use Rattle.lua_grammar.specs.Contexts as context
use Rattle.lua_grammar.specs.Contexts.{Rules, Kept, HasRoom, IsShort}
use Rattle.lua_grammar.specs.Things as thing
use Rattle.lua_grammar.specs.Grammar.{Spelled}
use Rattle.lua_grammar.proofs.Inversions.{moved, takes_at, unseen_at, names_it, form, rest_at, unkeyed_at}
use Rattle.lua_grammar.proofs.Inversions.{parameters_at}
use Rattle.lua_grammar.proofs.Unique.{Unique, onward}

in_function : {rules : Rules} (c : Context) {varargs varargs' : Bool} {block : List Stat} {i z : Position}
    → varargs ≡ varargs'
    → Spelled rules (context.function varargs c) (thing.block block) i z
    → Spelled rules (context.function varargs' c) (thing.block block) i z
in_function {rules} c {block = block} {i} {z} e x =
    subst (λ (v : Bool). Spelled rules (context.function v c) (thing.block block) i z) e x

bodies_same : (line : ℕ) (method : Bool) {names names' : List Name} {varargs varargs' : Bool} {block block' : List Stat}
    → names ≡ names' → varargs ≡ varargs' → block ≡ block'
    → ◌≡◌ {A = Body} (record { line = line; method = method; parameters = names; varargs = varargs; block = block })
    (record { line = line; method = method; parameters = names'; varargs = varargs'; block = block' })
bodies_same line method p q r = cc

abbrev ended : Position → ℕ → Body → Position
ended i number body = record i { bodies = slice_set i.bodies number body }

ended_same : {i i' : Position} {number number' : ℕ} {body body' : Body} → number ≡ number' → body ≡ body' → i ≡ i'
    → ended i number body ≡ ended i' number' body'
ended_same {i} {number' = number'} {body' = body'} p q r =
    ap₂ (ended i) p q ∙ ap (λ (j : Position). ended j number' body') r

pub last_expression_once : {rules : Rules} {c : Context} {e : Expr} {i j : Position}
    → Unique rules c (thing.expression e) i j
    → SeesNot kind.Comma j → Unique rules c (thing.list (e ∷ [])) i j
last_expression_once x n es' z s =
    let (e', k', x', rest) = form s in
    let (same, to) = x _ _ x' in
    let (is, end) = rest.1 (unseen_at to n) in
    (ap (λ (e : Expr). e ∷ []) same ∙ sym is, to ∙ sym end)

pub more_expressions_once : {rules : Rules} {c : Context} {e : Expr} {es : List Expr} {i j k l : Position}
    → Unique rules c (thing.expression e) i j → Takes kind.Comma j k → Unique rules c (thing.list es) k l
    → Unique rules c (thing.list (e ∷ es)) i l
more_expressions_once x t xs es' z s =
    let (e', k', x', rest) = form s in
    let (same, to) = x _ _ x' in
    let t' = takes_at to t in
    let (rest', is, xs') = rest.0 t'.seen in
    let (more, end) = xs _ _ (moved (sym t'.taken) xs') in
    (ap₂ ◌∷◌ same more ∙ sym is, end)

pub constructor_once : {rules : Rules} {c : Context} {fields : List Field} {i j k l : Position}
    → Takes kind.LeftBrace i j
    → HasRoom rules c → Unique rules (context.inner c) (thing.fields fields) j k → Takes kind.RightBrace k l
    → Unique rules c (thing.constructor fields) i l
constructor_once t r x u fields' z s =
    let (k', r', x', u') = form s in
    let (same, to) = x _ _ (moved (sym t.taken) x') in
    (same, onward u.taken to u'.taken)

pub no_fields_once : {rules : Rules} {c : Context} {i : Position} → Sees kind.RightBrace i
    → Unique rules c (thing.fields []) i i
no_fields_once h fields' z s =
    let (is, end) = (form s).0 h in
    (sym is, sym end)

pub last_field_once : {rules : Rules} {c : Context} {f : Field} {i j : Position} → SeesNot kind.RightBrace i
    → Unique rules c (thing.field f) i j → at.is_separator (at.kind j) ≡ false
    → Unique rules c (thing.fields (f ∷ [])) i j
last_field_once n x e fields' z s =
    let (f', k', x', rest) = (form s).1 n in
    let (same, to) = x _ _ x' in
    let (is, end) = rest_at _ _ _ _ _ to e rest in
    (ap (λ (f : Field). f ∷ []) same ∙ sym is, to ∙ sym end)

pub more_fields_once : {rules : Rules} {c : Context} {f : Field} {fields : List Field} {i j k l : Position}
    → SeesNot kind.RightBrace i → Unique rules c (thing.field f) i j → at.is_separator (at.kind j) ≡ true
    → at.Passes j k
    → Unique rules c (thing.fields fields) k l → Unique rules c (thing.fields (f ∷ fields)) i l
more_fields_once n x e p xs fields' z s =
    let (f', k', x', rest) = (form s).1 n in
    let (same, to) = x _ _ x' in
    let (rest', is, xs') = rest_at _ _ _ _ _ to e rest in
    let (more, end) = xs _ _ (moved (sym (p.taken ∙ ap at.next to)) xs') in
    (ap₂ ◌∷◌ same more ∙ sym is, end)

pub keyed_once : {rules : Rules} {c : Context} {k e : Expr} {i j l m n o : Position} → Takes kind.LeftBracket i j
    → Unique rules c (thing.expression k) j l → Takes kind.RightBracket l m → Takes kind.Assign m n
    → Unique rules c (thing.expression e) n o → Unique rules c (thing.field (field_of.Keyed k e)) i o
keyed_once t x u v y f' z s =
    let (k', e', l', m', n', is, x', u', v', y') = (form s).0 t.seen in
    let (same_key, to) = x _ _ (moved (sym t.taken) x') in
    let on = onward v.taken (onward u.taken to u'.taken) v'.taken in
    let (same, end) = y _ _ (moved (sym on) y') in
    (ap₂ field_of.Keyed same_key same ∙ sym is, end)

pub named_once : {rules : Rules} {c : Context} {n : Name} {e : Expr} {i j k l : Position} → TakesName n i j
    → Takes kind.Assign j k → Unique rules c (thing.expression e) k l
    → Unique rules c (thing.field (field_of.Named n e)) i l
named_once t u x f' z s =
    let u' = takes_at t.taken u in
    let (e', is, x') = unkeyed_at (names_it _ t.seen u'.seen) (λ b. cc (b, t.seen)) s in
    let (same, end) = x _ _ (moved (sym u'.taken) x') in
    (ap₂ field_of.Named t.name_is same ∙ sym is, end)

pub plain_once : {rules : Rules} {c : Context} {e : Expr} {i j : Position} → at.names_field i ≡ false
    → Unique rules c (thing.expression e) i j → SeesNot kind.LeftBracket i
    → Unique rules c (thing.field (field_of.Plain e)) i j
plain_once n x unkeyed f' z s =
    let (e', is, x') = unkeyed_at n unkeyed s in
    let (same, end) = x _ _ x' in
    (ap field_of.Plain same ∙ sym is, end)

-- ---- functions
pub function_body_once : {rules : Rules} {c : Context} {line number : ℕ} {method varargs : Bool} {names : List Name}
    {block : List Stat} {i j k l m n o p : Position}
    → at.BeginsBody number i j → Takes kind.LeftParen j k → Unique rules c (thing.parameters names varargs) k l
    → Takes kind.RightParen l m → HasRoom rules c → Unique rules (context.function varargs c) (thing.block block) m n
    → Takes kind.End n o
    → at.EndsBody number (record { line = line; method = method; parameters = names; varargs = varargs; block = block })
    o p
    → Unique rules c (thing.function_body line method number) i p
function_body_once {c = c} {line = line} {method = method} b t ps u r x v e number' z s =
    let (names', varargs', block', j', k', l', m', n', o', b', t', ps', u', r', x', v', e') = form s in
    let begun = b.begun ∙ sym b'.begun in
    let inside = onward t.taken begun t'.taken in
    let (same_names, same_varargs, to) = ps _ _ _ (moved (sym inside) ps') in
    let behind = onward u.taken to u'.taken in
    let (same_block, end) = x _ _ (moved (sym behind) (in_function c (sym same_varargs) x')) in
    let same_number = b.number_is ∙ sym b'.number_is in
    let same_body = bodies_same line method same_names same_varargs same_block in
    (same_number, e.ended ∙ ended_same same_number same_body (onward v.taken end v'.taken) ∙ sym e'.ended)

pub no_parameters_once : {rules : Rules} {c : Context} {i : Position} → Sees kind.RightParen i
    → Unique rules c (thing.parameters [] false) i i
no_parameters_once h names' varargs' z s =
    let (is, plain, end) = parameters_at h s in
    (sym is, sym plain, sym end)

pub only_varargs_once : {rules : Rules} {c : Context} {i j : Position} → Takes kind.Dots i j
    → Unique rules c (thing.parameters [] true) i j
only_varargs_once t names' varargs' z s =
    let (is, dots, end) = parameters_at t.seen s in
    (sym is, sym dots, t.taken ∙ sym end)

pub last_parameter_once : {rules : Rules} {c : Context} {n : Name} {i j : Position} → TakesName n i j
    → SeesNot kind.Comma j
    → Unique rules c (thing.parameters (n ∷ []) false) i j
last_parameter_once t n names' varargs' z s =
    let (is, plain, end) = (parameters_at t.seen s).1 (unseen_at t.taken n) in
    (ap (λ (m : Name). m ∷ []) t.name_is ∙ sym is, sym plain, t.taken ∙ sym end)

pub more_parameters_once : {rules : Rules} {c : Context} {n : Name} {names : List Name} {varargs : Bool}
    {i j k l : Position}
    → TakesName n i j → Takes kind.Comma j k → SeesNot kind.RightParen k
    → Unique rules c (thing.parameters names varargs) k l
    → Unique rules c (thing.parameters (n ∷ names) varargs) i l
more_parameters_once t u n ps names' varargs' z s =
    let u' = takes_at t.taken u in
    let (rest', is, n', ps') = (parameters_at t.seen s).0 u'.seen in
    let (same, same_varargs, end) = ps _ _ _ (moved (sym u'.taken) ps') in
    (ap₂ ◌∷◌ t.name_is same ∙ sym is, same_varargs, end)

pub one_name_once : {rules : Rules} {c : Context} {n : Name} {i j : Position} → TakesName n i j → SeesNot kind.Comma j
    → Unique rules c (thing.names (n ∷ [])) i j
one_name_once t n names' z s =
    let (is, end) = (form s).1.1 (unseen_at t.taken n) in
    (ap (λ (m : Name). m ∷ []) t.name_is ∙ sym is, t.taken ∙ sym end)

pub more_names_once : {rules : Rules} {c : Context} {n : Name} {names : List Name} {i j k l : Position}
    → TakesName n i j
    → Takes kind.Comma j k → Unique rules c (thing.names names) k l → Unique rules c (thing.names (n ∷ names)) i l
more_names_once t u ns names' z s =
    let u' = takes_at t.taken u in
    let (rest', is, ns') = (form s).1.0 u'.seen in
    let (same, end) = ns _ _ (moved (sym u'.taken) ns') in
    (ap₂ ◌∷◌ t.name_is same ∙ sym is, end)
