-- Scores stay whole numbers within 53 bits.
use Rattle.std.proofs.Common.{◌≡◌, ℕ, ℤ, Bool, true, false, cond, List, Some, None, sym, ap, subst, ◌∙◌}
use Rattle.std.proofs.Common.{unwrap_or}
use Rattle.std.specs.FinMap as finite
use Rattle.std.specs.Ordering.{eq_by_cmp}
use Rattle.rs_whole.specs.Wholes.{IsWhole}
use Rattle.ks_tree.specs.Order.{bytes_cmp}
use Rattle.ks_tree.proofs.ByteOrder.{bytes_total}
use Rattle.ks_zset.specs.Zset.{ScoreMap, HasWholeScores}

pub whole-empty : HasWholeScores finite.empty
whole-empty member score at = none (sym (finite.get-empty bytes_cmp member) ∙ at)
  where
    none : None ≡ Some score → IsWhole score
    none e = absurd (cc)

pub whole-insert : (z : ScoreMap) (m : List ℕ) (s : ℤ) → HasWholeScores z → IsWhole s
    → HasWholeScores (finite.insert z m s)
whole-insert z m s whole is q found at =
    by_member (eq_by_cmp bytes_cmp q m) (sym (finite.get-insert bytes_total z m s q) ∙ at)
  where
    by_member : (b : Bool) → cond b (Some s) (finite.get z q) ≡ Some found → IsWhole found
    by_member true same = subst IsWhole (ap (λ o. unwrap_or o s) same) is
    by_member false other = whole q found other

pub whole-remove : (z : ScoreMap) (m : List ℕ) → HasWholeScores z → HasWholeScores (finite.remove z m)
whole-remove z m whole q found at =
    by_member (eq_by_cmp bytes_cmp q m) (sym (finite.get-remove bytes_total z m q) ∙ at)
  where
    by_member : (b : Bool) → cond b None (finite.get z q) ≡ Some found → IsWhole found
    by_member true none = absurd (cc)
    by_member false other = whole q found other
