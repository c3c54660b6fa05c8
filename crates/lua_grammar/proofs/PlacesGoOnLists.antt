-- Words that stop inside a list, or inside a table constructor, go on to it.
use Rattle.std.proofs.Common.{◌≡◌, ◌⊎◌, inl, inr, ℕ, ◌<◌, ◌≤◌, true, false, List, [], ◌∷◌, ◌++◌, length, Option, Some}
use Rattle.std.proofs.Common.{option_and_then, refl, sym, ap, ◌∙◌, subst, arith}
use Rattle.std.proofs.lemmas.Bool.{cases_Bool}
use Rattle.lua_lex.specs.declared.kinds.TokenKind.{TokenKind}
use Rattle.lua_lex.specs.declared.kinds.TokenKind.TheVariants as kind
use Rattle.lua_grammar.specs.declared.kinds.SyntaxKind.{SyntaxKind}
use Rattle.lua_grammar.specs.declared.kinds.SyntaxKind.TheVariants as fault
use Rattle.lua_grammar.specs.declared.context.Context.{Context}
use Rattle.lua_grammar.specs.declared.words.Word.{Word}
use Rattle.lua_grammar.specs.declared.expressions.Name.{Name}
use Rattle.lua_grammar.specs.declared.expressions.Expr.{Expr}
use Rattle.lua_grammar.specs.declared.expressions.Expr.TheVariants as expr
use Rattle.lua_grammar.specs.declared.expressions.Field.{Field}
use Rattle.lua_grammar.specs.declared.expressions.Field.TheVariants as field_of
use Rattle.lua_grammar.specs.Operators.{unary_operator}
use Rattle.lua_grammar.specs.Positions as at
use Rattle.lua_grammar.specs.Positions.{Position, Takes, TakesName, Passes, Sees, SeesNot}
use Rattle.lua_grammar.specs.Contexts.{Rules, every_rule}
use Rattle.lua_grammar.specs.Things as thing
use Rattle.lua_grammar.specs.Grammar as by
use Rattle.lua_grammar.specs.Grammar.{Spelled}
use Rattle.lua_grammar.specs.Classes as class
use Rattle.lua_grammar.specs.Stuck.{fresh}
use Rattle.lua_grammar.proofs.Once.{once}
use Rattle.lua_grammar.proofs.Continuations.{instead, lead, EndsOperand, Mode, GoesOn}
use Rattle.lua_grammar.proofs.Modes.{within, nothing_seen}
use Rattle.lua_grammar.proofs.Instead.{kind_shown, takes_less, passes_less, takes_instead, name_instead, passes_instead}
use Rattle.lua_grammar.proofs.Carry.{carry_shown}
use Rattle.lua_grammar.proofs.Least.{lone_expression, nil_words, nil_list, name_words, one_name, no_fields, no_suffixes}
use Rattle.lua_grammar.proofs.Least.{lead_is}
use Rattle.lua_grammar.proofs.PlacesGoOn.{or_least}

-- ---- expressions

pub first_expression_goes_on : {rules : Rules} {c : Context} (n : ℕ) (i : Position)
    → GoesOn rules c class.expression n i
    → GoesOn rules c class.list n i
first_expression_goes_on n i g t follow =
    let (more, j, x, end) = g t (λ e. (follow []).0) in
    let last : SeesNot kind.Comma j = λ s. (follow []).1 (sym (lead_is j end) ∙ s) in
    (more, j, (x.0 ∷ [], by.last_expression x.1 last), end)

pub more_expressions_goes_on : {f : SyntaxKind} {c : Context} {e : Expr} {i j k z : Position} {rules : Rules} {n : ℕ}
    → Spelled every_rule c (thing.expression e) i j → Takes kind.Comma j k → Mode f z rules n
    → length z.words ≤ length k.words
    → (n < length k.words → GoesOn rules c class.list n k) → GoesOn rules c class.list n i
more_expressions_goes_on {e = e} {k = k} {rules = rules} {n = n} x t m le g s follow =
    let left : n ≤ length k.words = omega (arith, within m, le) in
    let (more, j', xs, end) = or_least class.list n k nil_words left (λ q s e follow. nil_list q e (follow [])) g s
    follow in
    let x' = carry_shown x rules (inl (takes_less t left)) in
    (more, j', (e ∷ xs.0, by.more_expressions x' (takes_instead n (more ++ s) t left) xs.1), end)

-- ---- names

pub name_goes_on : {rules : Rules} {c : Context} {n : ℕ} (i : Position) → Mode fault.Unexpected i rules n
    → n < length i.words
    → GoesOn rules c class.names n i
name_goes_on i m less = absurd (nothing_seen m i (omega arith) less)

pub more_names_goes_on : {f : SyntaxKind} {c : Context} {name : Name} {i j k z : Position} {rules : Rules} {n : ℕ}
    → TakesName name i j → Takes kind.Comma j k → Mode f z rules n → length z.words ≤ length k.words
    → (n < length k.words → GoesOn rules c class.names n k) → GoesOn rules c class.names n i
more_names_goes_on {c = c} {name = name} {j = j} {k = k} {n = n} x t m le g s follow =
    let left : n ≤ length k.words = omega (arith, within m, le) in
    let (more, j', xs, end) = or_least class.names n k name_words left (λ q s e follow. one_name q e (follow [])) g s
    follow in
    let before : n < length j.words = takes_less t left in
    let x' = name_instead n (more ++ s) x (omega (arith, before)) in
    (more, j', (name ∷ xs.0, by.more_names x' (takes_instead n (more ++ s) t left) xs.1), end)

-- ---- fields

pub first_field_goes_on : {rules : Rules} {c : Context} (n : ℕ) (i : Position) → SeesNot kind.RightBrace i
    → n < length i.words
    → GoesOn rules c class.field n i → GoesOn rules c class.fields n i
first_field_goes_on n i unseen less g t follow =
    let (more, j, x, end) = g t (λ e. follow []) in
    let unseen' : SeesNot kind.RightBrace (instead n (more ++ t) i) = λ s. unseen (sym (kind_shown i (inl less)) ∙ s) in
    let last : at.is_separator (at.kind j) ≡ false = ap at.is_separator (lead_is j end ∙ follow []) in
    (more, j, (x.0 ∷ [], by.last_field unseen' x.1 last), end)

pub more_fields_goes_on : {f : SyntaxKind} {c : Context} {e : Field} {i j k z : Position} {rules : Rules} {n : ℕ}
    → SeesNot kind.RightBrace i
    → Spelled every_rule c (thing.field e) i j → at.is_separator (at.kind j) ≡ true → Passes j k → Mode f z rules n
    → length z.words ≤ length k.words → n < length i.words → (n < length k.words → GoesOn rules c class.fields n k)
    → GoesOn rules c class.fields n i
more_fields_goes_on {e = e} {i = i} {j} {k} {rules = rules} {n = n} unseen x sep p m le less g t follow =
    let left : n ≤ length k.words = omega (arith, within m, le) in
    let (more, j', xs, end) = or_least class.fields n k [] left (λ q s e follow. no_fields q e (follow [])) g t follow
    in
    let before : n < length j.words = passes_less p left in
    let unseen' : SeesNot kind.RightBrace (instead n (more ++ t) i) = λ s. unseen (sym (kind_shown i (inl less)) ∙ s) in
    let sep' : at.is_separator (at.kind (instead n (more ++ t) j)) ≡ true =
    ap at.is_separator (kind_shown j (inl before)) ∙ sep in
    let x' = carry_shown x rules (inl before) in
    (more, j', (e ∷ xs.0, by.more_fields unseen' x' sep' (passes_instead n (more ++ t) p left) xs.1), end)

-- a name before a `=` is an expression that ends there

named_first : (v w : Option TokenKind) → at.is_named v w ≡ true → v ≡ Some kind.Name
named_first (Some kind.Name) w e = refl
named_first v w e = absurd (cc)

named_behind : (v w : Option TokenKind) → at.is_named v w ≡ true → w ≡ Some kind.Assign
named_behind (Some kind.Name) (Some kind.Assign) e = refl
named_behind v w e = absurd (cc)

behind_alike : (p q : Position) (all : List Word) → p.words ≡ q.words
    → (at.behind p all).words ≡ (at.behind q all).words
behind_alike p q [] e = e
behind_alike p q (word ∷ all) e = refl

name_ends : {rules : Rules} {c : Context} {e : Expr} {i j : Position} → at.names_field i ≡ true
    → Spelled rules c (thing.expression e) i j
    → Sees kind.Assign j
name_ends {rules} {c} {e} {i} {j} named x =
    let p = fresh i in
    let q = at.next p in
    let seen : Sees kind.Name p = named_first (at.kind i) (at.kind (at.next i)) named in
    let alike : q.words ≡ (at.next i).words = behind_alike p i i.words refl in
    let assign : lead q.words ≡ Some kind.Assign =
    ap lead alike ∙ named_behind (at.kind i) (at.kind (at.next i)) named in
    let ends : EndsOperand (lead q.words) = subst EndsOperand (sym assign) (refl, refl) in
    let head : Spelled rules c (thing.head (expr.Name (at.name p))) p q =
    by.name (record { seen = seen; name_is = refl; taken = refl }) in
    let lone : Spelled rules c (thing.simple (expr.Name (at.name p))) p q =
    by.prefix (by.chain head (no_suffixes q refl ends)) in
    let whole = lone_expression i (ap (λ w. option_and_then unary_operator w) seen) lone refl ends in
    let same = once whole _ _ x in
    ap at.kind (sym same.1) ∙ assign

names_none : {rules : Rules} {c : Context} {e : Expr} {i j : Position} → Spelled rules c (thing.expression e) i j
    → Sees kind.RightBrace j
    → at.names_field i ≡ false
names_none {i = i} x s = by_cases (cases_Bool (at.names_field i)) where
  by_cases : (at.names_field i ≡ true) ⊎ (at.names_field i ≡ false) → at.names_field i ≡ false
  by_cases (inl e) = let s' = name_ends e x in absurd (cc)
  by_cases (inr e) = e

pub plain_goes_on : {rules : Rules} {c : Context} (n : ℕ) (i : Position) → GoesOn rules c class.expression n i
    → GoesOn rules c class.field n i
plain_goes_on n i g t follow =
    let closes : lead t ≡ Some kind.RightBrace = follow (field_of.Plain expr.Nil) in
    let (more, j, x, end) = g t (λ e. subst EndsOperand (sym closes) (refl, refl)) in
    (more, j, (field_of.Plain x.0, by.plain (names_none x.1 (lead_is j end ∙ closes)) x.1), end)
