-- What is spelled has the parts that its next words call for.
use Rattle.std.proofs.Common.{◌≡◌, ◌≢◌, inl, inr, ℕ, Bool, true, false, List, [], ◌∷◌, Option, Some, None, refl, sym}
use Rattle.std.proofs.Common.{ap, ◌∙◌, subst, subst₂, arith}
use Rattle.lua_lex.specs.declared.kinds.TokenKind.{TokenKind}
use Rattle.lua_lex.specs.declared.kinds.TokenKind.TheVariants as kind
use Rattle.lua_grammar.specs.declared.context.Context.{Context}
use Rattle.lua_grammar.specs.declared.operators.Unary.{Unary}
use Rattle.lua_grammar.specs.declared.operators.Binary.{Binary}
use Rattle.lua_grammar.specs.declared.expressions.Name.{Name}
use Rattle.lua_grammar.specs.declared.expressions.Expr.{Expr}
use Rattle.lua_grammar.specs.declared.expressions.Expr.TheVariants as expr
use Rattle.lua_grammar.specs.declared.expressions.Link.{Link}
use Rattle.lua_grammar.specs.declared.expressions.Suffix.{Suffix}
use Rattle.lua_grammar.specs.declared.expressions.Field.{Field}
use Rattle.lua_grammar.specs.declared.expressions.Field.TheVariants as field_of
use Rattle.lua_grammar.specs.declared.statements.Stat.{Stat}
use Rattle.lua_grammar.specs.declared.statements.Deed.{Deed}
use Rattle.lua_grammar.specs.declared.statements.Deed.TheVariants as deed_of
use Rattle.lua_grammar.specs.Words.{begins_suffix, ends_block, ends_return}
use Rattle.lua_grammar.specs.Positions as at
use Rattle.lua_grammar.specs.Positions.{Position, Takes, TakesName, Sees, SeesNot}
use Rattle.lua_grammar.specs.Contexts.{Rules}
use Rattle.lua_grammar.specs.Things as thing
use Rattle.lua_grammar.specs.Things.{Thing}
use Rattle.lua_grammar.specs.Parts.{stat_of}
use Rattle.lua_grammar.specs.Grammar as by
use Rattle.lua_grammar.specs.Grammar.{Spelled}
use Rattle.lua_grammar.specs.Productions.{begins_chain, begins_arguments, begins_last}
use Rattle.lua_grammar.specs.Stuck.{begins_deed}
use Rattle.lua_grammar.proofs.FirstWords.{first_word, begins_names, begins_table, begins_expression}
use Rattle.lua_grammar.proofs.Forms.{IfIs, PowerForm, ExponentForm, LinksForm, PrefixForm, SimpleForm, HeadForm}
use Rattle.lua_grammar.proofs.Forms.{SuffixesForm, CallForm, SuffixForm, ArgumentsForm, FieldsRest, UnkeyedForm}
use Rattle.lua_grammar.proofs.Forms.{ParametersForm, NamesForm, BlockForm, ReturnForm, LastDeedForm, ChainDeedForm}
use Rattle.lua_grammar.proofs.Forms.{DeedForm, Form}

-- ---- what is said of one position, at an equal one

pub moved : {rules : Rules} {c : Context} {t : Thing} {i j z : Position} → j ≡ i → Spelled rules c t j z
    → Spelled rules c t i z
moved {rules} {c} {t} {z = z} e x = subst (λ (p : Position). Spelled rules c t p z) e x

pub on_line : {rules : Rules} {c : Context} {line line' number : ℕ} {method : Bool} {i z : Position} → line ≡ line'
    → Spelled rules c (thing.function_body line method number) i z
    → Spelled rules c (thing.function_body line' method number) i z
on_line {rules} {c} {number = number} {method} {i} {z} e x =
    subst (λ (n : ℕ). Spelled rules c (thing.function_body n method number) i z) e x

pub takes_at : {k : TokenKind} {i j z : Position} → j ≡ i → Takes k j z → Takes k i z
takes_at {k} {z = z} e t = subst (λ (p : Position). Takes k p z) e t

pub name_at : {n : Name} {i j z : Position} → j ≡ i → TakesName n j z → TakesName n i z
name_at {n} {z = z} e t = subst (λ (p : Position). TakesName n p z) e t

pub unseen_at : {k : TokenKind} {i j : Position} → j ≡ i → SeesNot k j → SeesNot k i
unseen_at {k} e n = subst (λ (p : Position). SeesNot k p) e n

pub ends_at : {i j : Position} {b : Bool} → j ≡ i → ends_return (at.kind j) ≡ b → ends_return (at.kind i) ≡ b
ends_at {b = b} e h = subst (λ (p : Position). ends_return (at.kind p) ≡ b) e h

-- ---- which of two forms it is

pub sees : {w : Option TokenKind} {k : TokenKind} {A B : Type 0} → w ≡ Some k → A → IfIs w k A B
sees s a = (λ _. a, λ n. absurd (n s))

pub sees_not : {w : Option TokenKind} {k : TokenKind} {A B : Type 0} → w ≢ Some k → B → IfIs w k A B
sees_not n b = (λ s. absurd (n s), λ _. b)

-- a word with which the thing does not begin
pub not_first : (first : Option TokenKind → Bool) {v w : Option TokenKind} → first w ≡ true → first v ≡ false → w ≡ v
    → ⊥
not_first first h n e = cc (ap first e)

pub table_word : (w : Option TokenKind) → begins_table w ≡ true → w ≡ Some kind.LeftBrace
table_word (Some kind.LeftBrace) h = refl
table_word w h = cc

pub statements_go_on : (w : Option TokenKind) → begins_deed w ≡ true → ends_block w ≡ false
statements_go_on None h = cc
statements_go_on (Some kind.End) h = cc
statements_go_on (Some kind.Else) h = cc
statements_go_on (Some kind.ElseIf) h = cc
statements_go_on (Some kind.Until) h = cc
statements_go_on w h = refl

pub statements_are_not_last : (w : Option TokenKind) → begins_deed w ≡ true → begins_last w ≡ false
statements_are_not_last (Some kind.Break) h = cc
statements_are_not_last (Some kind.Return) h = cc
statements_are_not_last w h = refl

pub last_goes_on : (w : Option TokenKind) → begins_last w ≡ true → ends_block w ≡ false
last_goes_on None h = cc
last_goes_on (Some kind.End) h = cc
last_goes_on (Some kind.Else) h = cc
last_goes_on (Some kind.ElseIf) h = cc
last_goes_on (Some kind.Until) h = cc
last_goes_on w h = refl

simple_prefix : {rules : Rules} {c : Context} {e : Expr} {i z : Position} (w : Option TokenKind) → begins_chain w ≡ true
    → PrefixForm rules c e i z → SimpleForm w rules c e i z
simple_prefix (Some kind.Name) h p = p
simple_prefix (Some kind.LeftParen) h p = p
simple_prefix w h p = cc

suffix_call : {rules : Rules} {c : Context} {suffix : Suffix} {i z : Position} (w : Option TokenKind)
    → begins_arguments w ≡ true
    → CallForm rules c suffix i z → SuffixForm w rules c suffix i z
suffix_call (Some kind.LeftParen) h p = p
suffix_call (Some kind.LeftBrace) h p = p
suffix_call (Some kind.Text) h p = p
suffix_call w h p = cc

deed_chain : {rules : Rules} {c : Context} {deed : Deed} {i z : Position} (w : Option TokenKind) → begins_chain w ≡ true
    → ChainDeedForm rules c deed i z → DeedForm w rules c deed i z
deed_chain (Some kind.Name) h p = p
deed_chain (Some kind.LeftParen) h p = p
deed_chain w h p = cc

-- behind the first of the names of a `for .. in` stands a `,` or the `in`
pub no_assignment : {rules : Rules} {c : Context} {names : List Name} (i : Position) {j k : Position}
    → NamesForm rules c names i j
    → Takes kind.In j k → SeesNot kind.Assign (at.next i)
no_assignment i f t s =
    let unseen : SeesNot kind.Comma (at.next i) = λ e. cc in
    let (names_are, end) = f.1.1 unseen in
    cc (ap at.kind end, t.seen)

pub names_it : (i : Position) → Sees kind.Name i → Sees kind.Assign (at.next i) → at.names_field i ≡ true
names_it i s t = ap (λ (w : Option TokenKind). at.is_named w (at.kind (at.next i))) s
    ∙ ap (at.is_named (Some kind.Name)) t

pub form : {rules : Rules} {c : Context} {t : Thing} {i z : Position} → Spelled rules c t i z → Form rules c t i z
form (by.expression b x r) = (_, moved b.begun x, r)
form (by.operands le x ls) = (λ h. (_, _, _, refl, x, ls), λ h. absurd (omega arith), λ h. absurd (omega arith))
form (by.unary s p r x) = (
  λ h. absurd (omega arith),
  λ h. rw s (_, refl, r, moved p.taken x),
  λ h. absurd (omega arith),
)
form (by.power s x ls) = (λ h. absurd (omega arith), λ h. rw s (_, _, _, refl, x, ls), λ h. absurd (omega arith))
form (by.unary_exponent s p r x) = (
  λ h. absurd (omega arith),
  λ h. absurd (omega arith),
  λ h. rw s (_, refl, r, moved p.taken x),
)
form (by.exponent s x) = (λ h. absurd (omega arith), λ h. absurd (omega arith), λ h. rw s x)
form (by.no_links e) = rw e (refl, refl)
form (by.more_links e s p x xs) = rw e (_, _, _, refl, s, moved p.taken x, xs)
form (by.nil_value t) = rw t.seen (refl, t.taken)
form (by.false_value t) = rw t.seen (refl, t.taken)
form (by.true_value t) = rw t.seen (refl, t.taken)
form (by.number t) = rw t.seen (refl, t.taken)
form (by.text t) = rw t.seen (ap expr.Text t.number_is, t.taken)
form (by.varargs t k) = rw t.seen (refl, t.taken, k)
form (by.function l t b) = rw t.seen (_, refl, on_line l (moved t.taken b))
form (by.table x) = rw (table_word _ (first_word x)) (_, refl, x)
form (by.prefix x) = simple_prefix _ (first_word x) (_, _, refl, x)
form (by.chain x ss) = (_, x, ss)
form (by.name t) = rw t.seen (ap expr.Name t.name_is, t.taken)
form (by.parenthesis t r x u) = rw t.seen (_, _, refl, r, moved t.taken x, u)
form (by.no_suffixes e) = rw e (refl, refl)
form (by.more_suffixes s n x xs) = rw (first_word (moved n.counted x)) (_, _, _, refl, s, moved n.counted x, xs)
form (by.member t n) = rw t.seen (_, refl, name_at t.taken n)
form (by.index t r x u) = rw t.seen (_, _, refl, r, moved t.taken x, u)
form (by.call x) = suffix_call _ (first_word x) (_, refl, x)
form (by.method t n x) = rw t.seen (_, _, _, refl, name_at t.taken n, x)
form (by.no_arguments t n r u) =
    let u' = takes_at t.taken u in
    rw t.seen (n, r, sees u'.seen (refl, u'.taken))
form (by.arguments t n r x u) =
    let x' = moved t.taken x in
    rw t.seen (n, r, sees_not (not_first begins_expression (first_word x') refl) (_, x', u))
form (by.table_argument x) = rw (table_word _ (first_word x)) (_, refl, x)
form (by.text_argument t) = rw t.seen (ap (λ (n : ℕ). expr.Text n ∷ []) t.number_is, t.taken)
form (by.last_expression x n) = (_, _, x, sees_not n (refl, refl))
form (by.more_expressions x t xs) = (_, _, x, sees t.seen (_, refl, moved t.taken xs))
form (by.constructor t r x u) = (_, r, moved t.taken x, u)
form (by.no_fields s) = sees s (refl, refl)
form (by.last_field n x e) = sees_not n (_, _, x, rw e (refl, refl))
form (by.more_fields n x e p xs) = sees_not n (_, _, x, rw e (_, refl, moved p.taken xs))
form (by.keyed t x u v y) = sees t.seen (_, _, _, _, _, refl, moved t.taken x, u, v, y)
form (by.named {e = e} t u x) =
    let u' = takes_at t.taken u in
    sees_not (λ s. cc (s, t.seen))
    (rw (names_it _ t.seen u'.seen) (_, ap (λ (n : Name). field_of.Named n e) t.name_is, moved u'.taken x))
form (by.plain n x) = sees_not (not_first begins_expression (first_word x) refl) (rw n (_, refl, x))
form (by.function_body b t ps u r x v e) = (_, _, _, _, _, _, _, _, _, b, t, ps, u, r, x, v, e)
form (by.no_parameters s) = rw s (refl, refl, refl)
form (by.only_varargs t) = rw t.seen (refl, refl, t.taken)
form (by.last_parameter t n) =
    rw t.seen (sees_not (unseen_at t.taken n) (ap (λ (m : Name). m ∷ []) t.name_is, refl, t.taken))
form (by.more_parameters {names = names} t u n ps) =
    let u' = takes_at t.taken u in
    rw t.seen (sees u'.seen (_, ap (λ (m : Name). m ∷ names) t.name_is, unseen_at u'.taken n, moved u'.taken ps))
form (by.no_statements e) = rw e (refl, refl)
form (by.last_statement x e) = let h = first_word x in rw (last_goes_on _ h, h) (_, refl, x, e)
form (by.more_statements x xs) =
    let h = first_word x in
    rw (statements_go_on _ h, statements_are_not_last _ h) (_, _, _, refl, x, xs)
form (by.statement {deed = deed} l x s) = (_, _, ap (λ (n : ℕ). stat_of n deed) l, x, s)
form (by.last {deed = deed} l x s) = (_, _, ap (λ (n : ℕ). stat_of n deed) l, x, s)
form (by.break_statement t k) = rw t.seen (refl, t.taken, k)
form (by.return_nothing t e) = rw t.seen (rw (ends_at t.taken e) (refl, t.taken))
form (by.return_values t e x r) = rw t.seen (rw (ends_at t.taken e) (_, moved t.taken x, r))
form (by.do_block t r x u) = rw t.seen (_, _, refl, r, moved t.taken x, u)
form (by.while_loop t x y) = rw t.seen (_, _, _, refl, moved t.taken x, y)
form (by.repeat_loop t r x u y) = rw t.seen (_, _, _, _, refl, r, moved t.taken x, u, y)
form (by.if_statement t x xs y u) = rw t.seen (_, _, _, _, _, _, refl, moved t.taken x, xs, y, u)
form (by.no_branches n) = sees_not n (refl, refl)
form (by.more_branches t x xs) = sees t.seen (_, _, _, refl, moved t.taken x, xs)
form (by.branch x t r y) = (_, _, _, _, refl, x, t, r, y)
form (by.no_else n) = sees_not n (refl, refl)
form (by.else_block t r x) = sees t.seen (r, moved t.taken x)
form (by.for_loop t x) = rw t.seen (moved t.taken x)
form (by.numeric_for {begin = begin} {limit = limit} {step = step} {block = block} t u x v y s b) =
    let u' = takes_at t.taken u in
    sees u'.seen (
      _,
      _,
      _,
      _,
      _,
      _,
      _,
      _,
      ap (λ (n : Name). deed_of.For n begin limit step block) t.name_is,
      moved u'.taken x,
      v,
      y,
      s,
      b,
    )
form (by.no_step n) = sees_not n (refl, refl)
form (by.step t x) = sees t.seen (_, refl, moved t.taken x)
form (by.generic_for x t y b) = sees_not (no_assignment _ (form x) t) (_, _, _, _, _, _, refl, x, t, y, b)
form (by.loop_block t r x u) = (_, r, moved t.taken x, u)
form (by.function_statement l t n p s x) =
    rw t.seen (_, _, _, _, name_at t.taken n, p, sees_not s (_, refl, on_line l x))
form (by.method_statement l t n p u m x) =
    rw t.seen (_, _, _, _, name_at t.taken n, p, sees u.seen (_, _, _, refl, name_at u.taken m, on_line l x))
form (by.no_path n) = sees_not n (refl, refl)
form (by.more_path t n p) = sees t.seen (_, _, _, refl, name_at t.taken n, p)
form (by.local_function t l u n x) =
    let u' = takes_at t.taken u in
    rw t.seen (sees u'.seen (_, _, _, refl, name_at u'.taken n, on_line (l ∙ ap at.line t.taken) x))
form (by.local t x y) =
    let x' = moved t.taken x in
    rw t.seen (sees_not (not_first begins_names (first_word x') refl) (_, _, _, refl, x', y))
form (by.one_name t n) = (t.seen, sees_not (unseen_at t.taken n) (ap (λ (m : Name). m ∷ []) t.name_is, t.taken))
form (by.more_names {names = names} t u ns) =
    let u' = takes_at t.taken u in
    (t.seen, sees u'.seen (_, ap (λ (m : Name). m ∷ names) t.name_is, moved u'.taken ns))
form (by.no_values n) = sees_not n (refl, refl)
form (by.values t x) = sees t.seen (moved t.taken x)
form (by.assign x t y) = deed_chain _ (first_word x) (inl (_, _, _, _, refl, x, t, y))
form (by.one_target x n) = (_, _, x, sees_not n (refl, refl))
form (by.more_targets x t xs) = (_, _, x, sees t.seen (_, refl, moved t.taken xs))
form (by.own_chain b x r) = (_, moved b.begun x, r)
form (by.name_target x) = (_, _, x, inl (_, refl, refl, refl))
form (by.index_target ss x e) = (_, _, x, inr (ss, _, e, refl))
form (by.call_statement ss x e) = deed_chain _ (first_word x) (inr (_, _, ss, _, refl, x, e))

-- ---- the parts, where the next word is known

pub power_at : {rules : Rules} {c : Context} {e : Expr} {i z : Position} {w : Option Unary} → at.sign i ≡ w
    → Spelled rules c (thing.operand 7 e) i z → PowerForm w rules c e i z
power_at {rules} {c} {e} {i} {z} s x = subst (λ (w : Option Unary). PowerForm w rules c e i z) s ((form x).1 refl)

pub exponent_at : {rules : Rules} {c : Context} {e : Expr} {i z : Position} {w : Option Unary} → at.sign i ≡ w
    → Spelled rules c (thing.operand 8 e) i z → ExponentForm w rules c e i z
exponent_at {rules} {c} {e} {i} {z} s x = subst (λ (w : Option Unary). ExponentForm w rules c e i z) s ((form x).2 refl)

pub links_at : {rules : Rules} {c : Context} {rank : ℕ} {links : List Link} {i z : Position} {w : Option Binary}
    → at.joint rank i ≡ w
    → Spelled rules c (thing.links rank links) i z → LinksForm w rules c rank links i z
links_at {rules} {c} {rank} {links} {i} {z} s x =
    subst (λ (w : Option Binary). LinksForm w rules c rank links i z) s (form x)

pub simple_at : {rules : Rules} {c : Context} {e : Expr} {i z : Position} {w : Option TokenKind} → at.kind i ≡ w
    → Spelled rules c (thing.simple e) i z → SimpleForm w rules c e i z
simple_at {rules} {c} {e} {i} {z} s x = subst (λ (w : Option TokenKind). SimpleForm w rules c e i z) s (form x)

prefix_of : {rules : Rules} {c : Context} {e : Expr} {i z : Position} (w : Option TokenKind) → begins_chain w ≡ true
    → SimpleForm w rules c e i z → PrefixForm rules c e i z
prefix_of (Some kind.Name) h p = p
prefix_of (Some kind.LeftParen) h p = p
prefix_of w h p = cc

pub prefix_at : {rules : Rules} {c : Context} {e : Expr} {i z : Position} → begins_chain (at.kind i) ≡ true
    → Spelled rules c (thing.simple e) i z → PrefixForm rules c e i z
prefix_at h x = prefix_of _ h (form x)

pub head_at : {rules : Rules} {c : Context} {e : Expr} {i z : Position} {w : Option TokenKind} → at.kind i ≡ w
    → Spelled rules c (thing.head e) i z → HeadForm w rules c e i z
head_at {rules} {c} {e} {i} {z} s x = subst (λ (w : Option TokenKind). HeadForm w rules c e i z) s (form x)

pub suffixes_at : {rules : Rules} {c : Context} {suffixes : List Suffix} {i z : Position} {b : Bool}
    → begins_suffix (at.kind i) ≡ b
    → Spelled rules c (thing.suffixes suffixes) i z → SuffixesForm b rules c suffixes i z
suffixes_at {rules} {c} {suffixes} {i} {z} s x = subst (λ (b : Bool). SuffixesForm b rules c suffixes i z) s (form x)

pub suffix_at : {rules : Rules} {c : Context} {suffix : Suffix} {i z : Position} {w : Option TokenKind} → at.kind i ≡ w
    → Spelled rules c (thing.suffix suffix) i z → SuffixForm w rules c suffix i z
suffix_at {rules} {c} {suffix} {i} {z} s x =
    subst (λ (w : Option TokenKind). SuffixForm w rules c suffix i z) s (form x)

call_of_suffix : {rules : Rules} {c : Context} {suffix : Suffix} {i z : Position} (w : Option TokenKind)
    → begins_arguments w ≡ true
    → SuffixForm w rules c suffix i z → CallForm rules c suffix i z
call_of_suffix (Some kind.LeftParen) h p = p
call_of_suffix (Some kind.LeftBrace) h p = p
call_of_suffix (Some kind.Text) h p = p
call_of_suffix w h p = cc

pub call_at : {rules : Rules} {c : Context} {suffix : Suffix} {i z : Position} → begins_arguments (at.kind i) ≡ true
    → Spelled rules c (thing.suffix suffix) i z → CallForm rules c suffix i z
call_at h x = call_of_suffix _ h (form x)

pub arguments_at : {rules : Rules} {c : Context} {es : List Expr} {i z : Position} {w : Option TokenKind}
    → at.kind i ≡ w
    → Spelled rules c (thing.arguments es) i z → ArgumentsForm w rules c es i z
arguments_at {rules} {c} {es} {i} {z} s x = subst (λ (w : Option TokenKind). ArgumentsForm w rules c es i z) s (form x)

pub rest_at : (rules : Rules) (c : Context) (f : Field) (fields : List Field) (z : Position) {j k : Position} {b : Bool}
    → j ≡ k
    → at.is_separator (at.kind j) ≡ b → FieldsRest (at.is_separator (at.kind k)) rules c f fields k z
    → FieldsRest b rules c f fields k z
rest_at rules c f fields z {k = k} to e rest =
    let s = ap (λ (p : Position). at.is_separator (at.kind p)) (sym to) ∙ e in
    subst (λ (b : Bool). FieldsRest b rules c f fields k z) s rest

pub unkeyed_at : {rules : Rules} {c : Context} {f : Field} {i z : Position} {b : Bool} → at.names_field i ≡ b
    → SeesNot kind.LeftBracket i
    → Spelled rules c (thing.field f) i z → UnkeyedForm b rules c f i z
unkeyed_at {rules} {c} {f} {i} {z} s n x = subst (λ (b : Bool). UnkeyedForm b rules c f i z) s ((form x).1 n)

pub parameters_at : {rules : Rules} {c : Context} {names : List Name} {varargs : Bool} {i z : Position}
    {w : Option TokenKind} → at.kind i ≡ w
    → Spelled rules c (thing.parameters names varargs) i z → ParametersForm w rules c names varargs i z
parameters_at {rules} {c} {names} {varargs} {i} {z} s x =
    subst (λ (w : Option TokenKind). ParametersForm w rules c names varargs i z) s (form x)

pub block_at : {rules : Rules} {c : Context} {stats : List Stat} {i z : Position} {a b : Bool}
    → ends_block (at.kind i) ≡ a
    → begins_last (at.kind i) ≡ b → Spelled rules c (thing.block stats) i z → BlockForm a b rules c stats i z
block_at {rules} {c} {stats} {i} {z} s t x = subst₂ (λ (a b : Bool). BlockForm a b rules c stats i z) s t (form x)

pub last_deed_at : {rules : Rules} {c : Context} {deed : Deed} {i z : Position} {w : Option TokenKind} → at.kind i ≡ w
    → Spelled rules c (thing.last_deed deed) i z → LastDeedForm w rules c deed i z
last_deed_at {rules} {c} {deed} {i} {z} s x =
    subst (λ (w : Option TokenKind). LastDeedForm w rules c deed i z) s (form x)

pub return_at : {rules : Rules} {c : Context} {deed : Deed} {i z : Position} {b : Bool} → Sees kind.Return i
    → ends_return (at.kind (at.next i)) ≡ b → Spelled rules c (thing.last_deed deed) i z
    → ReturnForm b rules c deed (at.next i) z
return_at {rules} {c} {deed} {i} {z} s e x =
    subst (λ (b : Bool). ReturnForm b rules c deed (at.next i) z) e (last_deed_at s x)

pub deed_at : {rules : Rules} {c : Context} {deed : Deed} {i z : Position} {w : Option TokenKind} → at.kind i ≡ w
    → Spelled rules c (thing.deed deed) i z → DeedForm w rules c deed i z
deed_at {rules} {c} {deed} {i} {z} s x = subst (λ (w : Option TokenKind). DeedForm w rules c deed i z) s (form x)

chain_deed_of : {rules : Rules} {c : Context} {deed : Deed} {i z : Position} (w : Option TokenKind)
    → begins_chain w ≡ true
    → DeedForm w rules c deed i z → ChainDeedForm rules c deed i z
chain_deed_of (Some kind.Name) h p = p
chain_deed_of (Some kind.LeftParen) h p = p
chain_deed_of w h p = cc

pub chain_deed_at : {rules : Rules} {c : Context} {deed : Deed} {i z : Position} → begins_chain (at.kind i) ≡ true
    → Spelled rules c (thing.deed deed) i z → ChainDeedForm rules c deed i z
chain_deed_at h x = chain_deed_of _ h (form x)
