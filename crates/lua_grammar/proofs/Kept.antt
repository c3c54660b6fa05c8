-- What leaves the count of suffixes as it was, and which suffixes are calls.
use Rattle.std.proofs.Common.{◌≡◌, ℕ, Bool, true, false, List, [], ◌∷◌, Option, Some, refl, sym, ap, ◌∙◌, subst}
use Rattle.lua_lex.specs.declared.kinds.TokenKind.{TokenKind}
use Rattle.lua_lex.specs.declared.kinds.TokenKind.TheVariants as kind
use Rattle.lua_grammar.specs.declared.context.Context.{Context}
use Rattle.lua_grammar.specs.declared.words.Word.{Word}
use Rattle.lua_grammar.specs.declared.expressions.Name.{Name}
use Rattle.lua_grammar.specs.declared.expressions.Expr.{Expr}
use Rattle.lua_grammar.specs.declared.expressions.Suffix.{Suffix}
use Rattle.lua_grammar.specs.declared.expressions.Field.{Field}
use Rattle.lua_grammar.specs.Positions as at
use Rattle.lua_grammar.specs.Positions.{Position, Takes, TakesName, TakesText, Passes}
use Rattle.lua_grammar.specs.Contexts.{Rules}
use Rattle.lua_grammar.specs.Things as thing
use Rattle.lua_grammar.specs.Grammar as by
use Rattle.lua_grammar.specs.Grammar.{Spelled}
use Rattle.lua_grammar.specs.Stuck.{begins_call}
use Rattle.lua_grammar.specs.Productions.{begins_arguments}
use Rattle.lua_grammar.proofs.FirstWords.{first_word}
use Rattle.lua_grammar.proofs.Continuations.{EndIn}

-- ---- what leaves the count of suffixes as it was

behind_kept : (i : Position) (words : List Word) → (at.behind i words).suffixes ≡ i.suffixes
behind_kept i [] = refl
behind_kept i (word ∷ words) = refl

at_next : (i : Position) {j : Position} → j ≡ at.next i → j.suffixes ≡ i.suffixes
at_next i e = ap (λ (p : Position). p.suffixes) e ∙ behind_kept i i.words

takes_kept : {k : TokenKind} {i j : Position} → Takes k i j → j.suffixes ≡ i.suffixes
takes_kept {i = i} t = at_next i t.taken

takes_name_kept : {n : Name} {i j : Position} → TakesName n i j → j.suffixes ≡ i.suffixes
takes_name_kept {i = i} t = at_next i t.taken

takes_text_kept : {number : ℕ} {i j : Position} → TakesText number i j → j.suffixes ≡ i.suffixes
takes_text_kept {i = i} t = at_next i t.taken

passes_kept : {i j : Position} → Passes i j → j.suffixes ≡ i.suffixes
passes_kept {i = i} t = at_next i t.taken

pub expression_kept : {rules : Rules} {c : Context} {e : Expr} {i j : Position}
    → Spelled rules c (thing.expression e) i j → j.suffixes ≡ i.suffixes
expression_kept (by.expression b x r) = ap (λ (p : Position). p.suffixes) r.resumed

pub list_kept : {rules : Rules} {c : Context} {es : List Expr} {i j : Position} → Spelled rules c (thing.list es) i j
    → j.suffixes ≡ i.suffixes
list_kept (by.last_expression x n) = expression_kept x
list_kept (by.more_expressions x t xs) = list_kept xs ∙ takes_kept t ∙ expression_kept x

field_kept : {rules : Rules} {c : Context} {f : Field} {i j : Position} → Spelled rules c (thing.field f) i j
    → j.suffixes ≡ i.suffixes
field_kept (by.keyed t x u v y) = expression_kept y ∙ takes_kept v ∙ takes_kept u ∙ expression_kept x ∙ takes_kept t
field_kept (by.named n t x) = expression_kept x ∙ takes_kept t ∙ takes_name_kept n
field_kept (by.plain n x) = expression_kept x

fields_kept : {rules : Rules} {c : Context} {fields : List Field} {i j : Position}
    → Spelled rules c (thing.fields fields) i j
    → j.suffixes ≡ i.suffixes
fields_kept (by.no_fields s) = refl
fields_kept (by.last_field n x e) = field_kept x
fields_kept (by.more_fields n x e p xs) = fields_kept xs ∙ passes_kept p ∙ field_kept x

pub constructor_kept : {rules : Rules} {c : Context} {fields : List Field} {i j : Position}
    → Spelled rules c (thing.constructor fields) i j
    → j.suffixes ≡ i.suffixes
constructor_kept (by.constructor t r x u) = takes_kept u ∙ fields_kept x ∙ takes_kept t

pub arguments_kept : {rules : Rules} {c : Context} {es : List Expr} {i j : Position}
    → Spelled rules c (thing.arguments es) i j
    → j.suffixes ≡ i.suffixes
arguments_kept (by.no_arguments t n r u) = takes_kept u ∙ takes_kept t
arguments_kept (by.arguments t n r x u) = takes_kept u ∙ list_kept x ∙ takes_kept t
arguments_kept (by.table_argument x) = constructor_kept x
arguments_kept (by.text_argument t) = takes_text_kept t

pub suffix_kept : {rules : Rules} {c : Context} {suffix : Suffix} {i j : Position}
    → Spelled rules c (thing.suffix suffix) i j
    → j.suffixes ≡ i.suffixes
suffix_kept (by.member t n) = takes_name_kept n ∙ takes_kept t
suffix_kept (by.index t r x u) = takes_kept u ∙ expression_kept x ∙ takes_kept t
suffix_kept (by.call x) = arguments_kept x
suffix_kept (by.method t n x) = arguments_kept x ∙ takes_name_kept n ∙ takes_kept t

pub head_kept : {rules : Rules} {c : Context} {e : Expr} {i j : Position} → Spelled rules c (thing.head e) i j
    → j.suffixes ≡ i.suffixes
head_kept (by.name n) = takes_name_kept n
head_kept (by.parenthesis t r x u) = takes_kept u ∙ expression_kept x ∙ takes_kept t

-- ---- which suffixes are calls

arguments_call : (w : Option TokenKind) → begins_arguments w ≡ true → begins_call w ≡ true
arguments_call (Some kind.LeftParen) e = refl
arguments_call (Some kind.LeftBrace) e = refl
arguments_call (Some kind.Text) e = refl
arguments_call w e = cc

ends_as : (suffix : Suffix) {a b : Bool} → b ≡ a → EndIn a (suffix ∷ []) → EndIn b (suffix ∷ [])
ends_as suffix e end = subst (λ (x : Bool). EndIn x (suffix ∷ [])) (sym e) end

-- the first word of a suffix tells whether it is a call or a key
pub suffix_ends : {rules : Rules} {c : Context} {suffix : Suffix} {i j : Position}
    → Spelled rules c (thing.suffix suffix) i j
    → EndIn (begins_call (at.kind i)) (suffix ∷ [])
suffix_ends {suffix = suffix} (by.member t n) = ends_as suffix {a = false} (ap begins_call t.seen) ([], _, refl)
suffix_ends {suffix = suffix} (by.index t r x u) = ends_as suffix {a = false} (ap begins_call t.seen) ([], _, refl)
suffix_ends {suffix = suffix} (by.call x) = ends_as suffix {a = true} (arguments_call _ (first_word x)) ([], _, refl)
suffix_ends {suffix = suffix} (by.method t n x) = ends_as suffix {a = true} (ap begins_call t.seen) ([], _, refl)

pub end_in_more : (call : Bool) (s : Suffix) (all : List Suffix) → EndIn call all → EndIn call (s ∷ all)
end_in_more true s all (suffixes, how, is) = (s ∷ suffixes, how, ap (λ (xs : List Suffix). s ∷ xs) is)
end_in_more false s all (suffixes, k, is) = (s ∷ suffixes, k, ap (λ (xs : List Suffix). s ∷ xs) is)
