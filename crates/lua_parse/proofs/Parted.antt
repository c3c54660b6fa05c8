-- Trees put together and taken apart.
use Rattle.std.proofs.Common.{◌≡◌, ℕ, List, [], ◌∷◌, ◌++◌, length, refl, sym, ap, ◌∙◌, subst}
use Rattle.lua_grammar.specs.declared.context.Context.{Context}
use Rattle.std.proofs.lemmas.List.{same_from_push}
use Rattle.lua_grammar.specs.declared.expressions.Expr.{Expr}
use Rattle.lua_grammar.specs.declared.expressions.Expr.TheVariants as expr
use Rattle.lua_grammar.specs.declared.expressions.Link.{Link}
use Rattle.lua_grammar.specs.declared.statements.Target.{Target}
use Rattle.lua_grammar.specs.declared.expressions.Suffix.{Suffix}
use Rattle.lua_grammar.specs.declared.expressions.Key.{Key}
use Rattle.lua_grammar.specs.declared.statements.Deed.TheVariants as deed_of
use Rattle.lua_grammar.specs.declared.statements.Target.TheVariants as target_of
use Rattle.lua_grammar.specs.Positions.{Position}
use Rattle.lua_grammar.specs.Contexts.{every_rule}
use Rattle.lua_grammar.specs.declared.kinds.SyntaxKind.TheVariants as fault
use Rattle.lua_grammar.specs.Classes as class
use Rattle.lua_grammar.specs.Classes.{Sought}
use Rattle.lua_grammar.specs.Stuck as stuck
use Rattle.lua_grammar.specs.Stuck.{Stuck}
use Rattle.lua_grammar.specs.Things as thing
use Rattle.lua_grammar.specs.declared.expressions.Call.{Call}
use Rattle.lua_grammar.specs.declared.expressions.Suffix.TheVariants as suffix_of
use Rattle.lua_grammar.specs.Parts as part
use Rattle.lua_grammar.specs.Parts.{IsReturn}
use Rattle.lua_grammar.specs.Grammar as rule
use Rattle.lua_grammar.specs.Grammar.{Spelled}
use Rattle.lua_grammar.proofs.Ends.{same_suffixed}
use Rattle.lua_parse.specs.declared.trees.Front.{Front}
use Rattle.lua_parse.specs.declared.trees.Front.TheVariants as front
use Rattle.lua_parse.specs.Fronts.{IsFront}

nothing_is_end : {A : Type 0} (xs : List A) (x : A) → [] ≡ xs ++ x ∷ [] → ⊥
nothing_is_end [] x e = cc
nothing_is_end (a ∷ xs) x e = cc

no_key : {k : Key} {how : Call} → suffix_of.Key k ≡ suffix_of.Call how → ⊥
no_key e = cc

pub suffixed-some : (head : Expr) (suffixes : List Suffix) → (suffixes ≡ [] → ⊥)
    → part.suffixed head suffixes ≡ expr.Suffixed head suffixes
suffixed-some head [] some = absurd (some refl)
suffixed-some head (suffix ∷ suffixes) some = refl

pub row-some : (first : Expr) (links : List Link) → (links ≡ [] → ⊥) → part.row first links ≡ expr.Row first links
row-some first [] some = absurd (some refl)
row-some first (link ∷ links) some = refl

-- ---- what was read at the front of a statement

pub own : {c : Context} {sought : Sought} {found : Front} {i j : Position} (f : IsFront c sought found i j)
    → Spelled every_rule c (thing.own_chain f.head f.all) i j
own f = rule.own_chain (record { begun = refl }) f.spelled f.resumes

pub front_call : {c : Context} {sought : Sought} (e : Expr) (how : Call) {i j : Position}
    → IsFront c sought (front.Call e how) i j
    → Spelled every_rule c (thing.deed (deed_of.Call e how)) i j
front_call {c} e how {i} {j} f =
    let P : Expr → Type 0 = λ x. Spelled every_rule c (thing.deed (deed_of.Call x how)) i j in
    subst P (sym f.is.1) (rule.call_statement f.is.0 (own f) f.is.2)

pub front_target : {c : Context} {sought : Sought} (target : Target) {i j : Position}
    → IsFront c sought (front.Target target) i j
    → Spelled every_rule c (thing.target target) i j
front_target {c} (target_of.Name n) {i} {j} f =
    let P : Expr → Type 0 = λ e. Spelled every_rule c (thing.own_chain e f.all) i j in
    let Q : List Suffix → Type 0 = λ xs. Spelled every_rule c (thing.own_chain (expr.Name n) xs) i j in
    rule.name_target (subst Q f.is.1 (subst P f.is.0 (own f)))
front_target {c} (target_of.Index e k) {i} {j} f =
    let P : Expr → Type 0 = λ x. Spelled every_rule c (thing.target (target_of.Index x k)) i j in
    subst P (sym f.is.1) (rule.index_target f.is.0 (own f) f.is.2)

-- a parenthesis alone is no statement
pub front_neither : {c : Context} {sought : Sought} {i j : Position} → IsFront c sought front.Neither i j
    → Stuck fault.Unexpected c class.deed i j
front_neither {c} {i = i} {j} f =
    let P : List Suffix → Type 0 = λ xs. Spelled every_rule c (thing.own_chain f.head xs) i j in
    stuck.alone (subst P f.is.0 (own f)) (λ name. f.is.1 name.0 name.1)

-- neither it nor a call is assigned to
pub no_front_target : {c : Context} {i j : Position} (found : Front) → IsFront c class.target found i j
    → ((target : Target) → found ≡ front.Target target → ⊥) → Stuck fault.Unexpected c class.target i j
no_front_target (front.Target target) f other = absurd (other target refl)
no_front_target (front.Call e how) f other =
    stuck.no_target f.spelled f.resumes (f.few refl) (λ sought. sought.1 (f.is.0, how, f.is.2))
no_front_target front.Neither f other =
    stuck.no_target f.spelled f.resumes (f.few refl) (λ sought. let name = sought.0 f.is.0 in f.is.1 name.0 name.1)

-- a `return` of one value that is no call
pub no_call : (value : Expr) (values : List Expr) → values ≡ value ∷ []
    → ((head : Expr) (suffixes : List Suffix) (how : Call)
    → value ≡ expr.Suffixed head (suffixes ++ suffix_of.Call how ∷ []) → ⊥)
    → IsReturn (value ∷ []) (deed_of.Return values)
no_call value values e none =
    let P : List Expr → Type 0 = λ xs. IsReturn (value ∷ []) (deed_of.Return xs) in
    subst P (sym e) (part.of_values (λ function how s. let same : value ≡ s.0 = cc in
    none s.2.head s.2.suffixes how (same ∙ s.2.is)))

pub many_no_call : (values : List Expr) → (length values ≡ 1 → ⊥) → IsReturn values (deed_of.Return values)
many_no_call values none = part.of_values (λ function how s. none (ap length s.1))

-- a `return` of one call
pub a_call : (head : Expr) (all suffixes : List Suffix) (how : Call) (function : Expr)
    → all ≡ suffixes ++ suffix_of.Call how ∷ [] → function ≡ part.suffixed head suffixes
    → IsReturn (expr.Suffixed head all ∷ []) (deed_of.ReturnCall function how)
a_call head all suffixes how function e is =
    part.of_call (
      expr.Suffixed head all,
      refl,
      record { head = head; suffixes = suffixes; called = is; is = ap (λ xs. expr.Suffixed head xs) e },
    )

-- no call ends suffixes that end in a key, nor no suffixes
pub key_last : (head : Expr) (all before : List Suffix) (k : Key) → all ≡ before ++ suffix_of.Key k ∷ []
    → (head' : Expr) (suffixes : List Suffix) (how : Call)
    → expr.Suffixed head all ≡ expr.Suffixed head' (suffixes ++ suffix_of.Call how ∷ []) → ⊥
key_last head all before k e head' suffixes how is =
    no_key (same_from_push before suffixes (suffix_of.Key k) (suffix_of.Call how)
    (sym e ∙ (same_suffixed head head' all (suffixes ++ suffix_of.Call how ∷ []) is).1)).1

pub none_last : (head : Expr) (all : List Suffix) → all ≡ []
    → (head' : Expr) (suffixes : List Suffix) (how : Call)
    → expr.Suffixed head all ≡ expr.Suffixed head' (suffixes ++ suffix_of.Call how ∷ []) → ⊥
none_last head all e head' suffixes how is =
    nothing_is_end suffixes (suffix_of.Call how)
    (sym e ∙ (same_suffixed head head' all (suffixes ++ suffix_of.Call how ∷ []) is).1)
