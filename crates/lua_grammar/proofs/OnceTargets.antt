-- An assignment or a call that begins somewhere has one tree and one end, if its parts have; and no text is both.
use Rattle.std.proofs.Common.{◌≡◌, inl, inr, true, List, [], ◌∷◌, ◌++◌, sym, ap, ap₂, ◌∙◌, refl}
use Rattle.std.proofs.lemmas.List.{same_from_push}
use Rattle.lua_lex.specs.declared.kinds.TokenKind.TheVariants as kind
use Rattle.lua_grammar.specs.declared.context.Context.{Context}
use Rattle.lua_grammar.specs.declared.expressions.Name.{Name}
use Rattle.lua_grammar.specs.declared.expressions.Expr.{Expr}
use Rattle.lua_grammar.specs.declared.expressions.Expr.TheVariants as expr
use Rattle.lua_grammar.specs.declared.expressions.Suffix.{Suffix}
use Rattle.lua_grammar.specs.declared.expressions.Suffix.TheVariants as suffix_of
use Rattle.lua_grammar.specs.declared.expressions.Key.{Key}
use Rattle.lua_grammar.specs.declared.expressions.Call.{Call}
use Rattle.lua_grammar.specs.declared.statements.Deed.{Deed}
use Rattle.lua_grammar.specs.declared.statements.Deed.TheVariants as deed_of
use Rattle.lua_grammar.specs.declared.statements.Target.{Target}
use Rattle.lua_grammar.specs.declared.statements.Target.TheVariants as target_of
use Rattle.lua_grammar.specs.Positions as at
use Rattle.lua_grammar.specs.Positions.{Position, Takes, TakesName, TakesText, Sees, SeesNot, IsNear}
use Rattle.lua_grammar.specs.Contexts.{Rules}
use Rattle.lua_grammar.specs.Things as thing
use Rattle.lua_grammar.specs.Parts.{suffixed}
use Rattle.lua_grammar.specs.Grammar as by
use Rattle.lua_grammar.specs.Grammar.{Spelled}
use Rattle.lua_grammar.specs.Productions.{begins_chain}
use Rattle.lua_grammar.specs.Classes as class
use Rattle.lua_grammar.specs.Classes.{Reads}
use Rattle.lua_grammar.proofs.Forms.{ChainDeedForm, TargetForm}
use Rattle.lua_grammar.proofs.Ends.{nothing_is_end, no_call, same_key, same_call, same_name}
use Rattle.lua_grammar.proofs.Inversions.{moved, takes_at, unseen_at, form, chain_deed_at}
use Rattle.lua_grammar.proofs.Unique.{Unique, onward}

-- a target is a chain that is no call
pub target_chain : {rules : Rules} {c : Context} {target : Target} {i z : Position}
    → Spelled rules c (thing.target target) i z
    → Reads rules c (class.own_chain class.target) i z
target_chain (by.name_target x) = ((_, [], ((λ e. (_, refl)), (λ (ss, how, e). nothing_is_end ss _ e))), x)
target_chain (by.index_target ss x e) = (
  (
    _,
    _,
    (
      (λ none. absurd (nothing_is_end ss _ (sym none ∙ e))),
      (λ (before, how, e'). no_call (same_from_push ss before _ _ (sym e ∙ e')).1),
    ),
  ),
  x,
)

pub targets_chain : {rules : Rules} {c : Context} {targets : List Target} {i z : Position}
    → Spelled rules c (thing.targets targets) i z
    → (k : Position) × Reads rules c (class.own_chain class.target) i k
targets_chain (by.one_target x n) = (_, target_chain x)
targets_chain (by.more_targets x t xs) = (_, target_chain x)

assigned : {rules : Rules} {c : Context} {targets : List Target} {es : List Expr} {i j k l z : Position} {deed : Deed}
    → Unique rules c (thing.targets targets) i j → Takes kind.Assign j k → Unique rules c (thing.list es) k l
    → ChainDeedForm rules c deed i z
    → (deed_of.Assign targets es ≡ deed) × (l ≡ z)
assigned x t y (inl (targets', es', k', l', is, x', t', y')) =
    let (same_targets, to) = x.0 _ _ x' in
    let (same, end) = y _ _ (moved (sym (onward t.taken to t'.taken)) y') in
    (ap₂ deed_of.Assign same_targets same ∙ sym is, end)
assigned x t y (inr (head, all, suffixes, how, is, x', e)) = absurd (x.1 head all suffixes how _ x' e)

called : {rules : Rules} {c : Context} {head : Expr} {all : List Suffix} {how : Call} {i j z : Position} {deed : Deed}
    (suffixes : List Suffix)
    → Unique rules c (thing.own_chain head all) i j → all ≡ suffixes ++ suffix_of.Call how ∷ []
    → ChainDeedForm rules c deed i z
    → (deed_of.Call (suffixed head suffixes) how ≡ deed) × (j ≡ z)
called {how = how} suffixes x e (inl (targets', es', k', l', is, x', t', y')) =
    let (m, ((head', all', sought), s)) = targets_chain x' in
    let (same, rest, to) = x _ _ _ s in
    absurd (sought.1 (suffixes, how, sym rest ∙ e))
called suffixes x e (inr (head', all', suffixes', how', is, x', e')) =
    let (same, rest, end) = x _ _ _ x' in
    let (front, last) = same_from_push suffixes suffixes' _ _ (sym e ∙ rest ∙ e') in
    (ap₂ deed_of.Call (ap₂ suffixed same front) (same_call last) ∙ sym is, end)

name_targeted : {rules : Rules} {c : Context} {n : Name} {i j z : Position} {target : Target}
    → Unique rules c (thing.own_chain (expr.Name n) []) i j → TargetForm rules c target i z
    → (target_of.Name n ≡ target) × (j ≡ z)
name_targeted x (head, all, x', inl (n', h, e, is)) =
    let (same, rest, end) = x _ _ _ x' in
    (ap target_of.Name (same_name (same ∙ h)) ∙ sym is, end)
name_targeted x (head, all, x', inr (suffixes, k, e, is)) =
    let (same, rest, end) = x _ _ _ x' in
    absurd (nothing_is_end suffixes _ (rest ∙ e))

index_targeted : {rules : Rules} {c : Context} {head : Expr} {all : List Suffix} {k : Key} {i j z : Position}
    {target : Target}
    (suffixes : List Suffix) → Unique rules c (thing.own_chain head all) i j → all ≡ suffixes ++ suffix_of.Key k ∷ []
    → TargetForm rules c target i z → (target_of.Index (suffixed head suffixes) k ≡ target) × (j ≡ z)
index_targeted suffixes x e (head', all', x', inl (n', h, e', is)) =
    let (same, rest, end) = x _ _ _ x' in
    absurd (nothing_is_end suffixes _ (sym e' ∙ sym rest ∙ e))
index_targeted suffixes x e (head', all', x', inr (suffixes', k', e', is)) =
    let (same, rest, end) = x _ _ _ x' in
    let (front, last) = same_from_push suffixes suffixes' _ _ (sym e ∙ rest ∙ e') in
    (ap₂ target_of.Index (ap₂ suffixed same front) (same_key last) ∙ sym is, end)

pub assign_once : {rules : Rules} {c : Context} {targets : List Target} {es : List Expr} {i j k l : Position}
    → Unique rules c (thing.targets targets) i j → Takes kind.Assign j k → Unique rules c (thing.list es) k l
    → begins_chain (at.kind i) ≡ true → Unique rules c (thing.deed (deed_of.Assign targets es)) i l
assign_once x t y first deed' z s = assigned x t y (chain_deed_at first s)

pub one_target_once : {rules : Rules} {c : Context} {target : Target} {i j : Position}
    → Unique rules c (thing.target target) i j → SeesNot kind.Comma j → Unique rules c (thing.targets (target ∷ [])) i j
one_target_once x n = (
  λ targets' z s.
      let (target', k', x', rest) = form s in
      let (same, to) = x.0 _ _ x' in
      let (is, end) = rest.1 (unseen_at to n) in
      (ap (λ (target : Target). target ∷ []) same ∙ sym is, to ∙ sym end),
  x.1,
)

pub more_targets_once : {rules : Rules} {c : Context} {target : Target} {targets : List Target} {i j k l : Position}
    → Unique rules c (thing.target target) i j → Takes kind.Comma j k → Unique rules c (thing.targets targets) k l
    → Unique rules c (thing.targets (target ∷ targets)) i l
more_targets_once x t xs = (
  λ targets' z s.
      let (target', k', x', rest) = form s in
      let (same, to) = x.0 _ _ x' in
      let t' = takes_at to t in
      let (rest', is, xs') = rest.0 t'.seen in
      let (more, end) = xs.0 _ _ (moved (sym t'.taken) xs') in
      (ap₂ ◌∷◌ same more ∙ sym is, end),
  x.1,
)

pub name_target_once : {rules : Rules} {c : Context} {n : Name} {i j : Position}
    → Unique rules c (thing.own_chain (expr.Name n) []) i j → Unique rules c (thing.target (target_of.Name n)) i j
name_target_once x = (
  λ target' z s. name_targeted x (form s),
  λ head all suffixes how z s e.
      let (same, rest, to) = x _ _ _ s in
      nothing_is_end suffixes _ (rest ∙ e),
)

pub index_target_once : {rules : Rules} {c : Context} {head : Expr} {all : List Suffix} {k : Key}
    {i j : Position} (suffixes : List Suffix)
    → Unique rules c (thing.own_chain head all) i j → all ≡ suffixes ++ suffix_of.Key k ∷ []
    → Unique rules c (thing.target (target_of.Index (suffixed head suffixes) k)) i j
index_target_once suffixes x e = (
  λ target' z s. index_targeted suffixes x e (form s),
  λ head all suffixes' how z s e'.
      let (same, rest, to) = x _ _ _ s in
      no_call (same_from_push suffixes suffixes' _ _ (sym e ∙ rest ∙ e')).1,
)

pub call_statement_once : {rules : Rules} {c : Context} {head : Expr} {all : List Suffix} {how : Call}
    {i j : Position} (suffixes : List Suffix)
    → Unique rules c (thing.own_chain head all) i j → all ≡ suffixes ++ suffix_of.Call how ∷ []
    → begins_chain (at.kind i) ≡ true → Unique rules c (thing.deed (deed_of.Call (suffixed head suffixes) how)) i j
call_statement_once suffixes x e first deed' z s = called suffixes x e (chain_deed_at first s)
