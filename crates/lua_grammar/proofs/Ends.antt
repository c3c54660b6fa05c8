-- What two lists or two trees that are equal have in common.
use Rattle.std.proofs.Common.{◌≡◌, List, [], ◌∷◌, ◌++◌, refl, sym, ap, ap₂, ◌∙◌}
use Rattle.std.proofs.lemmas.List.{same_from_push}
use Rattle.lua_grammar.specs.declared.expressions.Name.{Name}
use Rattle.lua_grammar.specs.declared.expressions.Expr.{Expr, out-Expr}
use Rattle.lua_grammar.specs.declared.expressions.Call.TheViews.{out-roll-Expr}
use Rattle.lua_grammar.specs.declared.expressions.Expr.TheVariants.{rolls-Suffixed}
use Rattle.lua_grammar.specs.declared.expressions.Expr.TheVariants as expr
use Rattle.lua_grammar.specs.declared.expressions.Call.TheOpen.{Expr-F}
use Rattle.lua_grammar.specs.declared.expressions.Suffix.{Suffix}
use Rattle.lua_grammar.specs.declared.expressions.Suffix.TheVariants as suffix_of
use Rattle.lua_grammar.specs.declared.expressions.Key.{Key}
use Rattle.lua_grammar.specs.declared.expressions.Call.{Call}
use Rattle.lua_grammar.specs.declared.statements.Deed.{Deed}
use Rattle.lua_grammar.specs.declared.statements.Deed.TheVariants as deed_of
use Rattle.lua_grammar.specs.Parts.{suffixed, IsReturn, of_values, of_call}

pub nothing_is_end : {A : Type 0} (xs : List A) (x : A) → [] ≡ xs ++ x ∷ [] → ⊥
nothing_is_end [] x e = cc
nothing_is_end (a ∷ xs) x e = cc

pub no_call : {k : Key} {how : Call} → suffix_of.Key k ≡ suffix_of.Call how → ⊥
no_call e = cc

pub same_key : {k k' : Key} → suffix_of.Key k ≡ suffix_of.Key k' → k ≡ k'
same_key e = cc

pub same_call : {how how' : Call} → suffix_of.Call how ≡ suffix_of.Call how' → how ≡ how'
same_call e = cc

pub same_name : {n n' : Name} → expr.Name n ≡ expr.Name n' → n ≡ n'
same_name e = cc

abbrev head_in : {A B C D E F : Type 0} → B → Expr-F A B C D E F → B
head_in other (Expr-F.Suffixed head all) = head
head_in other _ = other

abbrev suffixes_in : {A B C D E F : Type 0} → Expr-F A B C D E F → List E
suffixes_in (Expr-F.Suffixed head all) = all
suffixes_in _ = []

pub suffixed_out : (head : Expr) (all : List Suffix) → out-Expr (expr.Suffixed head all) ≡ Expr-F.Suffixed head all
suffixed_out head all = ap out-Expr (sym (rolls-Suffixed head all)) ∙ out-roll-Expr _

pub same_suffixed : (head head' : Expr) (all all' : List Suffix) → expr.Suffixed head all ≡ expr.Suffixed head' all'
    → (head ≡ head') × (all ≡ all')
same_suffixed head head' all all' e =
    let out = sym (suffixed_out head all) ∙ ap out-Expr e ∙ suffixed_out head' all' in
    (ap (head_in head) out, ap suffixes_in out)

-- a `return` with the same values does the same
pub same_return : {es : List Expr} {deed deed' : Deed} → IsReturn es deed → IsReturn es deed' → deed ≡ deed'
same_return (of_values n) (of_values n') = refl
same_return (of_values n) (of_call s) = absurd (n _ _ s)
same_return (of_call s) (of_values n) = absurd (n _ _ s)
same_return (of_call (e, is, call)) (of_call (e', is', call')) =
    let same_e : e ≡ e' = cc in
    let (head, all) = same_suffixed call.head call'.head _ _ (sym call.is ∙ same_e ∙ call'.is) in
    let (suffixes, how) = same_from_push call.suffixes call'.suffixes _ _ all in
    ap₂ deed_of.ReturnCall (call.called ∙ ap₂ suffixed head suffixes ∙ sym call'.called) (same_call how)
