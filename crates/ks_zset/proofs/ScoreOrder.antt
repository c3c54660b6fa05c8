-- The order of score and then member is total, and tells all members with their scores apart.
use Rattle.std.proofs.Common.{◌≡◌, ℤ, Bool, true, false, cond, not, ◌&&◌, ◌⊎◌, inl, inr, Ordering, int_lt, refl, sym}
use Rattle.std.proofs.Common.{ap, ◌∙◌}
use mathlib.Core.Bool.{true≢false}
use Rattle.std.specs.Ordering.{is_eq, is_lt, eq_by_cmp, int_cmp, ordering_then}
use Rattle.std.specs.Cmp.{IsTotalOrder}
use Rattle.std.specs.declared.cmp.Ordering.TheVariants.{Less, Equal, Greater}
use Rattle.std.specs.FinMap.{IsAntisymmetric, int_cmp-IsAntisymmetric}
use Rattle.std.proofs.lemmas.Cmp.{int_cmp_total, nat_list_cmp_total, on_total, then_total}
use Rattle.ks_tree.specs.Order.{bytes_cmp}
use Rattle.ks_tree.proofs.ByteOrder.{bytes_exact}
use Rattle.ks_zset.specs.Zset.{ScoredMember, by_score, is_below}

pub score_total : IsTotalOrder by_score
score_total = then_total (on_total (λ (p : ScoredMember). p.1) int_cmp_total)
    (on_total (λ (p : ScoredMember). p.0) nat_list_cmp_total)

then_equal : (r s : Ordering) → ordering_then r s ≡ Equal → (r ≡ Equal) × (s ≡ Equal)
then_equal Less s e = absurd (true≢false (sym (ap is_eq e)))
then_equal Equal s e = (refl, e)
then_equal Greater s e = absurd (true≢false (sym (ap is_eq e)))

pub score_exact : IsAntisymmetric by_score
score_exact a b e =
    let parts = then_equal (int_cmp a.1 b.1) (bytes_cmp a.0 b.0) e in
    let scores = int_cmp-IsAntisymmetric a.1 b.1 parts.0 in
    let members = bytes_exact a.0 b.0 parts.1 in
    λ i. (members i, scores i)

then_is_eq : (r s : Ordering) → is_eq (ordering_then r s) ≡ (is_eq s && is_eq r)
then_is_eq Less Less = refl
then_is_eq Less Equal = refl
then_is_eq Less Greater = refl
then_is_eq Equal Less = refl
then_is_eq Equal Equal = refl
then_is_eq Equal Greater = refl
then_is_eq Greater Less = refl
then_is_eq Greater Equal = refl
then_is_eq Greater Greater = refl

-- members with scores are the same where the members and the scores are
pub same_scored : (a b : ScoredMember)
    → eq_by_cmp by_score a b ≡ (eq_by_cmp bytes_cmp a.0 b.0 && eq_by_cmp int_cmp a.1 b.1)
same_scored a b = then_is_eq (int_cmp a.1 b.1) (bytes_cmp a.0 b.0)

lt_by_cmp : (x y : ℤ) → int_lt x y ≡ is_lt (int_cmp x y)
lt_by_cmp x y =
    elim (int_lt x y) as (λ b. b ≡ is_lt (cond b Less (cond (int_lt y x) Greater Equal))) [
      | true ↦ refl
      | false ↦ elim (int_lt y x) as (λ b. false ≡ is_lt (cond b Greater Equal)) [ true ↦ refl | false ↦ refl ]
    ]

less_or_same : (x y : ℤ) (s : Ordering) → ordering_then (int_cmp x y) s ≡ Less → (int_cmp x y ≡ Less) ⊎ (x ≡ y)
less_or_same x y s e =
    elim (int_cmp x y) as (λ r. int_cmp x y ≡ r → ordering_then r s ≡ Less → (int_cmp x y ≡ Less) ⊎ (x ≡ y)) [
      | Less ↦ λ is t. inl is
      | Equal ↦ λ is t. inr (int_cmp-IsAntisymmetric x y is)
      | Greater ↦ λ is t. absurd (true≢false (sym (ap is_lt t)))
    ] refl e

is_less : (r : Ordering) → is_lt r ≡ true → r ≡ Less
is_less Less e = refl
is_less Equal e = absurd (true≢false (sym e))
is_less Greater e = absurd (true≢false (sym e))

not_true : (b : Bool) → (b ≡ true → ⊥) → not b ≡ true
not_true true h = absurd (h refl)
not_true false h = refl

turned_false : (b : Bool) → not b ≡ true → b ≡ true → ⊥
turned_false true e t = true≢false (sym e)
turned_false false e t = true≢false (sym t)

-- what comes before a score below the bound has such a score too
pub below_falls : (or_equal : Bool) (bound : ℤ) (a b : ScoredMember) → by_score a b ≡ Less
    → is_below or_equal bound b.1 ≡ true → is_below or_equal bound a.1 ≡ true
below_falls true bound a b e passes =
    elim (less_or_same a.1 b.1 (bytes_cmp a.0 b.0) e) [
      | inl below ↦ not_true (int_lt bound a.1) (λ t. turned_false (int_lt bound b.1) passes
          (lt_by_cmp bound b.1 ∙ ap is_lt
          (int_cmp_total.trans bound a.1 b.1 (is_less (int_cmp bound a.1) (sym (lt_by_cmp bound a.1) ∙ t)) below)))
      | inr same ↦ ap (λ s. not (int_lt bound s)) same ∙ passes
    ]
below_falls false bound a b e passes =
    elim (less_or_same a.1 b.1 (bytes_cmp a.0 b.0) e) [
      | inl below ↦ lt_by_cmp a.1 bound
          ∙ ap is_lt (int_cmp_total.trans a.1 b.1 bound below
          (is_less (int_cmp b.1 bound) (sym (lt_by_cmp b.1 bound) ∙ passes)))
      | inr same ↦ ap (λ s. int_lt s bound) same ∙ passes
    ]
