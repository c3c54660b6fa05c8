-- All members of a sorted set, by their ranks.
use Rattle.std.proofs.Common.{◌≡◌, ℕ, ◌+◌, ◌≤◌, List, [], ◌∷◌, length, slice_range, arith}
use Rattle.std.specs.declared.cmp.Ordering.{Ordering}
use Rattle.std.specs.declared.cmp.Ordering.TheVariants.{Less, Equal, Greater}
use Rattle.std.specs.Ordering.{match_ordering}
use Rattle.std.specs.BTreeSet.{insert_key}
use Rattle.std.specs.FinMap as finite
use Rattle.std.proofs.lemmas.List.{take_all}
use Rattle.ks_tree.specs.Order.{in_order}
use Rattle.ks_zset.specs.Zset.{ScoreMap, by_score, ranking_of}

module _ {K : Type 0} (R : K → K → Ordering) where
  insert-length : (xs : List K) (k : K) → length (insert_key R xs k) ≤ length xs + 1
  insert-length [] k = omega arith
  insert-length (x ∷ xs) k =
      let later = insert-length xs k in
      elim (R k x) as
      (λ o. length (match_ordering o (k ∷ x ∷ xs) (x ∷ xs) (x ∷ insert_key R xs k)) ≤ length (x ∷ xs) + 1) [
        | Less ↦ omega arith
        | Equal ↦ omega arith
        | Greater ↦ omega arith
      ]

  order-length : (xs : List K) → length (in_order R xs) ≤ length xs
  order-length [] = omega arith
  order-length (x ∷ xs) = let later = order-length xs in let more = insert-length (in_order R xs) x in omega arith

-- the members at the ranks below the number of members are all members
pub all-ranked : (z : ScoreMap) (n : ℕ) → n ≡ finite.len z → slice_range (ranking_of z) 0 n ≡ ranking_of z
all-ranked z n n_is =
    let few = order-length by_score (finite.entries z) in
    let long = finite.len-entries z in
    take_all _ (ranking_of z) (omega arith)
