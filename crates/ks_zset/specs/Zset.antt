-- Sorted sets (Redis manual, sorted sets): each member has one score, and they are ordered by score and then member.
use Rattle.std.specs.Prelude.{◌≡◌, ℕ, ℤ, Bool, if◌then◌else◌, not, ◌&&◌, List, Some, int_lt}
use Rattle.std.specs.declared.cmp.Ordering.{Ordering}
use Rattle.std.specs.Ordering.{int_cmp, int_eq, ordering_then}
use Rattle.std.specs.Str.{bytes_eq}
use Rattle.std.specs.Cmp.{IsPartialEquivalence, IsEquivalence, partial_equiv_from_equiv, on_equiv, and_equiv}
use Rattle.std.specs.Cmp.{int_eq_equiv}
use Rattle.std.specs.Cmp.Lexicographic.{pointwise}
use Rattle.std.proofs.lemmas.Cmp.{nat_list_eq_equiv, lists_equiv}
use Rattle.std.specs.FinMap as finite
use Rattle.ks_tree.specs.Order.{bytes_cmp, in_order}
use Rattle.rs_whole.specs.Wholes.{IsWhole}

-- the members with their scores
abbrev pub ScoreMap : Type 0
ScoreMap = finite.FinMap bytes_cmp ℤ

-- each score is a whole number of magnitude at most 2^53
abbrev pub HasWholeScores : ScoreMap → Type 0
HasWholeScores z = (member : List ℕ) (score : ℤ) → finite.get z member ≡ Some score → IsWhole score

-- a member with its score
abbrev pub ScoredMember : Type 0
ScoredMember = List ℕ × ℤ

-- by score, and of equal scores by the bytes of the members
abbrev pub by_score : ScoredMember → ScoredMember → Ordering
by_score a b = ordering_then (int_cmp a.1 b.1) (bytes_cmp a.0 b.0)

-- the members with their scores, in ascending order of score and then member
abbrev pub ranking_of : ScoreMap → List ScoredMember
ranking_of z = in_order by_score (finite.entries z)

-- whether a score is below the bound, or with `or_equal` at most the bound
abbrev pub is_below : Bool → ℤ → ℤ → Bool
is_below or_equal bound score = if or_equal then not (int_lt bound score) else int_lt score bound

-- whether two maps have the same members with the same scores
abbrev pub is_same : ScoreMap → ScoreMap → Bool
is_same y z =
    pointwise (λ (a b : ScoredMember). bytes_eq a.0 b.0 && int_eq a.1 b.1) (finite.entries y) (finite.entries z)

pub is_same_equiv : IsEquivalence is_same
is_same_equiv =
    on_equiv finite.entries (lists_equiv (and_equiv
    (on_equiv (λ (scored : ScoredMember). scored.0) nat_list_eq_equiv)
    (on_equiv (λ (scored : ScoredMember). scored.1) int_eq_equiv)))

pub is_same_per : IsPartialEquivalence is_same
is_same_per = partial_equiv_from_equiv is_same_equiv
