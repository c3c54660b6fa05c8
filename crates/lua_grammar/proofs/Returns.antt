-- What a `return` with given values does.
use Rattle.std.proofs.Common.{◌≡◌, ◌⊎◌, inl, inr, List, [], ◌∷◌, ◌++◌, refl, sym, ap, ◌∙◌}
use Rattle.std.proofs.lemmas.List.{same_from_push}
use Rattle.lua_grammar.specs.declared.expressions.Expr.{Expr, out-Expr}
use Rattle.lua_grammar.specs.declared.expressions.Call.TheViews.{roll-Expr, roll-out-Expr}
use Rattle.lua_grammar.specs.declared.expressions.Call.TheOpen.{Expr-F}
use Rattle.lua_grammar.specs.declared.expressions.Expr.TheVariants.{rolls-Suffixed}
use Rattle.lua_grammar.specs.declared.expressions.Expr.TheVariants as expr
use Rattle.lua_grammar.specs.declared.expressions.Suffix.{Suffix}
use Rattle.lua_grammar.specs.declared.expressions.Suffix.TheVariants as suffix_of
use Rattle.lua_grammar.specs.declared.expressions.Key.{Key}
use Rattle.lua_grammar.specs.declared.expressions.Call.{Call}
use Rattle.lua_grammar.specs.declared.statements.Deed.{Deed}
use Rattle.lua_grammar.specs.declared.statements.Deed.TheVariants as deed_of
use Rattle.lua_grammar.specs.Parts.{suffixed, IsReturn, IsCall, IsSingleCall, of_values, of_call}
use Rattle.lua_grammar.proofs.Ends.{nothing_is_end, no_call, suffixed_out, same_suffixed}

suffixed_or : {A B C D E F : Type 0} (x : Expr-F A B C D E F)
    → ((head : B) × (all : List E) × (x ≡ Expr-F.Suffixed head all))
    ⊎ ((head : B) (all : List E) → x ≡ Expr-F.Suffixed head all → ⊥)
suffixed_or (Expr-F.Suffixed head all) = inl (head, all, refl)
suffixed_or _ = inr (λ head all e. cc)

-- an expression has suffixes, or has none
abbrev IsSuffixed : Expr → Type 0
IsSuffixed e = (head : Expr) × (all : List Suffix) × (e ≡ expr.Suffixed head all)

has_suffixes : (e : Expr) → IsSuffixed e ⊎ (IsSuffixed e → ⊥)
has_suffixes e = by_out (suffixed_or (out-Expr e)) where
  by_out : ((head : Expr) × (all : List Suffix) × (out-Expr e ≡ Expr-F.Suffixed head all))
      ⊎ ((head : Expr) (all : List Suffix) → out-Expr e ≡ Expr-F.Suffixed head all → ⊥)
      → IsSuffixed e ⊎ (IsSuffixed e → ⊥)
  by_out (inl (head, all, is)) = inl (head, all, sym (roll-out-Expr e) ∙ ap roll-Expr is ∙ rolls-Suffixed head all)
  by_out (inr none) = inr (λ (head, all, is). none head all (ap out-Expr is ∙ suffixed_out head all))

-- the last of these, or that there is none
abbrev EndsIn : List Suffix → Type 0
EndsIn all = (before : List Suffix) × (last : Suffix) × (all ≡ before ++ last ∷ [])

ends_in : (all : List Suffix) → (all ≡ []) ⊎ EndsIn all
ends_in [] = inl refl
ends_in (s ∷ all) = longer (ends_in all) where
  longer : (all ≡ []) ⊎ EndsIn all → (s ∷ all ≡ []) ⊎ EndsIn (s ∷ all)
  longer (inl e) = inr ([], s, ap (λ (ss : List Suffix). s ∷ ss) e)
  longer (inr (before, last, e)) = inr (s ∷ before, last, ap (λ (ss : List Suffix). s ∷ ss) e)

-- a call, or none
abbrev IsSomeCall : Expr → Type 0
IsSomeCall e = (function : Expr) × (how : Call) × IsCall function how e

no_suffixes_no_call : (e head : Expr) (all : List Suffix) → e ≡ expr.Suffixed head all → all ≡ [] → IsSomeCall e → ⊥
no_suffixes_no_call e head all is none (function, how, call) =
    let (_, same) = same_suffixed head call.head all _ (sym is ∙ call.is) in
    nothing_is_end call.suffixes (suffix_of.Call how) (sym none ∙ same)

key_no_call : (e head : Expr) (all before : List Suffix) (k : Key) → e ≡ expr.Suffixed head all
    → all ≡ before ++ suffix_of.Key k ∷ []
    → IsSomeCall e → ⊥
key_no_call e head all before k is ends (function, how, call) =
    let (_, same) = same_suffixed head call.head all _ (sym is ∙ call.is) in
    no_call (same_from_push before call.suffixes _ _ (sym ends ∙ same)).1

some_call : (e : Expr) → IsSomeCall e ⊎ (IsSomeCall e → ⊥)
some_call e = by_form (has_suffixes e) where
  by_end : (head : Expr) (all : List Suffix) → e ≡ expr.Suffixed head all → (all ≡ []) ⊎ EndsIn all
      → IsSomeCall e ⊎ (IsSomeCall e → ⊥)
  by_end head all is (inl none) = inr (no_suffixes_no_call e head all is none)
  by_end head all is (inr (before, suffix_of.Key k, ends)) = inr (key_no_call e head all before k is ends)
  by_end head all is (inr (before, suffix_of.Call how, ends)) =
      inl (
        suffixed head before,
        how,
        record {
          head = head;
          suffixes = before;
          called = refl;
          is = is
              ∙ ap (expr.Suffixed head) ends;
        },
      )

  by_form : IsSuffixed e ⊎ (IsSuffixed e → ⊥) → IsSomeCall e ⊎ (IsSomeCall e → ⊥)
  by_form (inl (head, all, is)) = by_end head all is (ends_in all)
  by_form (inr none) = inr (λ (function, how, call). none (call.head, _, call.is))

no_single : (e e' : Expr) (es : List Expr) (function : Expr) (how : Call) → IsSingleCall (e ∷ e' ∷ es) function how → ⊥
no_single e e' es function how s = cc (s.1)

single : (e : Expr) → IsSomeCall e ⊎ (IsSomeCall e → ⊥) → (deed : Deed) × IsReturn (e ∷ []) deed
single e (inl (function, how, call)) = (deed_of.ReturnCall function how, of_call (e, refl, call))
single e (inr none) = (
  deed_of.Return (e ∷ []),
  of_values (λ function how (e', is, call).
      let same : e' ≡ e = cc in
      let whole : IsCall function how e = record {
        head = call.head;
        suffixes = call.suffixes;
        called = call.called;
        is = sym same ∙ call.is;
      } in
      none (function, how, whole)),
)

pub returns : (es : List Expr) → (deed : Deed) × IsReturn es deed
returns [] = (deed_of.Return [], of_values (λ function how s. cc (s.1)))
returns (e ∷ []) = single e (some_call e)
returns (e ∷ e' ∷ es) = (deed_of.Return (e ∷ e' ∷ es), of_values (no_single e e' es))
