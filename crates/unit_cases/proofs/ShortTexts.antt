-- Values that a store may hold, with one more text.
use Rattle.std.proofs.Common.{◌≡◌, ℕ, ℤ, cond, List, [], ◌∷◌, Some, refl, sym, subst, ◌∙◌}
use Rattle.std.specs.BTreeSet.{insert_key}
use Rattle.std.specs.FinMap as finite
use Rattle.std.specs.FinMap.{nat_cmp-IsAntisymmetric, slice_cmp-IsAntisymmetric}
use Rattle.std.specs.List.{All}
use Rattle.std.specs.Ordering.{is_eq, match_ordering}
use Rattle.std.specs.Str.{bytes_eq}
use Rattle.std.specs.declared.cmp.Ordering.TheVariants.{Less, Equal, Greater}
use Rattle.std.proofs.lemmas.Bool.{cond_both}
use Rattle.std.proofs.lemmas.Cmp.{nat_list_cmp_total}
use Rattle.std.proofs.lemmas.List.Elements.{All-cons, All-head, All-tail}
use Rattle.ks_value.specs.Fields.{Pairs, set_field}
use Rattle.ks_zset.specs.Zset.{ScoreMap}
use Rattle.ks_space.specs.Store.{bytes_cmp, IsShort}

abbrev pub IsShortPair : (List ℕ × List ℕ) → Type 0
IsShortPair p = IsShort p.0 × IsShort p.1

pub set_field-short : (pairs : Pairs) (field value : List ℕ) → All IsShortPair pairs → IsShort field → IsShort value
    → All IsShortPair (set_field pairs field value)
set_field-short [] field value all f v = All-cons IsShortPair (field, value) [] (f, v) all
set_field-short (p ∷ pairs) field value all f v =
    cond_both (bytes_eq field p.0) ((p.0, value) ∷ pairs) (p ∷ set_field pairs field value) (All IsShortPair)
    (λ yes. All-cons IsShortPair (p.0, value) pairs ((All-head IsShortPair p pairs all).0, v)
    (All-tail IsShortPair p pairs all))
    (λ no. All-cons IsShortPair p (set_field pairs field value) (All-head IsShortPair p pairs all)
    (set_field-short pairs field value (All-tail IsShortPair p pairs all) f v))

pub member-short : (members : List (List ℕ)) (member : List ℕ) → All IsShort members → IsShort member
    → All IsShort (insert_key bytes_cmp members member)
member-short [] member all short = All-cons IsShort member [] short all
member-short (x ∷ xs) member all short =
    elim (bytes_cmp member x) as (λ o.
    All IsShort (match_ordering o (member ∷ x ∷ xs) (x ∷ xs) (x ∷ insert_key bytes_cmp xs member))) [
      | Less ↦ All-cons IsShort member (x ∷ xs) short all
      | Equal ↦ all
      | Greater ↦ All-cons IsShort x (insert_key bytes_cmp xs member) (All-head IsShort x xs all)
          (member-short xs member (All-tail IsShort x xs all) short)
    ]

-- each member of a sorted set is short
abbrev pub AreShort : ScoreMap → Type 0
AreShort scores = (member : List ℕ) (score : ℤ) → finite.get scores member ≡ Some score → IsShort member

pub score-short : (scores : ScoreMap) (member : List ℕ) (score : ℤ) → AreShort scores → IsShort member
    → AreShort (finite.insert scores member score)
score-short scores member score all short q found at =
    elim (bytes_cmp q member) as (λ o. bytes_cmp q member ≡ o
    → cond (is_eq o) (Some score) (finite.get scores q) ≡ Some found → IsShort q) [
      | Less ↦ λ e was. all q found was
      | Equal ↦ λ e was. subst IsShort (sym (exact q member e)) short
      | Greater ↦ λ e was. all q found was
    ] refl (sym (finite.get-insert nat_list_cmp_total scores member score q) ∙ at)
  where
    exact : (a b : List ℕ) → bytes_cmp a b ≡ Equal → a ≡ b
    exact = slice_cmp-IsAntisymmetric nat_cmp-IsAntisymmetric
