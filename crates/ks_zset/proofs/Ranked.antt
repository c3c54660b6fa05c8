-- What the ranking of a map of scores holds, and how it changes with the map.
use Rattle.std.proofs.Common.{◌≡◌, ℕ, suc, length, ℤ, Bool, true, false, cond, ◌&&◌, ◌||◌, T, List, [], ◌∷◌}
use Rattle.std.proofs.Common.{Option, Some, None, refl, sym, ap, subst, ◌∙◌}
use mathlib.Core.Bool.{true≢false}
use Rattle.std.specs.List.{Contains, position}
use Rattle.std.specs.Str.{bytes_eq}
use Rattle.std.proofs.lemmas.Map.Views.{list_any-from_Contains, Contains-from_any}
use Rattle.std.proofs.lemmas.Map.Text.{is_eq-slice_cmp}
use Rattle.std.specs.Ordering.{is_eq, is_lt, eq_by_cmp, int_cmp}
use Rattle.std.specs.Cmp.Lexicographic.{pointwise}
use Rattle.std.specs.Cmp.{Equal-is, eq_by_cmp_equiv}
use Rattle.std.specs.declared.cmp.Ordering.{Ordering}
use Rattle.std.specs.declared.cmp.Ordering.TheVariants.{Less, Equal, Greater}
use Rattle.std.specs.BTreeSet.{insert_key}
use Rattle.std.specs.Set.{remove_key}
use Rattle.std.specs.List.Sorted.{IsStrictlySortedBy}
use Rattle.std.specs.FinMap as finite
use Rattle.std.specs.FinMap.Entries.{find, below_all, is_sorted}
use Rattle.std.proofs.lemmas.Cmp.{int_cmp_total, tied_itself}
use Rattle.ks_tree.specs.Order.{bytes_cmp}
use Rattle.ks_tree.proofs.ByteOrder.{bytes_total, bytes_exact}
use Rattle.ks_tree.proofs.Order.{has, same_items, sorted-in_order, sorted-insert_key, sorted-remove_key, has-in_order}
use Rattle.ks_tree.proofs.Order.{has-insert_key, has-remove_key, all_by_has}
use Rattle.ks_tree.proofs.Places.{place_of, position_found, position_none}
use Rattle.ks_zset.specs.Zset.{ScoreMap, ScoredMember, by_score, ranking_of}
use Rattle.ks_zset.proofs.ScoreOrder.{score_total, score_exact, same_scored}

-- whether an optional score is this one
abbrev pub is_score : ℤ → Option ℤ → Bool
is_score s None = false
is_score s (Some t) = eq_by_cmp int_cmp s t

first : (a b : Bool) → T (a && b) → T a
first true b p = tt
first false b p = p

second : (a b : Bool) → T (a && b) → T b
second true b p = p
second false b p = absurd p

less : (r : Ordering) → T (is_lt r) → is_eq r ≡ false
less Less p = refl
less Equal p = absurd p
less Greater p = absurd p

or_none : (a : Bool) → (a || false) ≡ a
or_none true = refl
or_none false = refl

-- a member below those of all entries is not among them
none_above : (m : List ℕ) (s : ℤ) (es : List ScoredMember) → T (below_all bytes_cmp m es)
    → has by_score es (m, s) ≡ false
none_above m s [] h = refl
none_above m s (e ∷ es) h =
    ap (λ b. b || has by_score es (m, s)) (same_scored (m, s) e
    ∙ ap (λ b. b && eq_by_cmp int_cmp s e.1) (less (bytes_cmp m e.0) (first _ _ h)))
    ∙ none_above m s es (second (is_lt (bytes_cmp m e.0)) _ h)

-- among entries in the members' order, a member is there with a score just where it is found with it
has-find : (es : List ScoredMember) (m : List ℕ) (s : ℤ) → T (is_sorted bytes_cmp es)
    → has by_score es (m, s) ≡ is_score s (find bytes_cmp m es)
has-find [] m s h = refl
has-find (e ∷ es) m s h =
    ap (λ b. b || has by_score es (m, s)) (same_scored (m, s) e)
    ∙ elim (eq_by_cmp bytes_cmp m e.0) as (λ b. eq_by_cmp bytes_cmp m e.0 ≡ b
    → ((b && eq_by_cmp int_cmp s e.1) || has by_score es (m, s))
    ≡ is_score s (cond b (Some e.1) (find bytes_cmp m es))) [
      | true ↦ λ here.
          let m_is = bytes_exact m e.0 ((Equal-is (bytes_cmp m e.0)).0 here) in
          ap (λ b. eq_by_cmp int_cmp s e.1 || b)
          (none_above m s es (subst (λ k. T (below_all bytes_cmp k es)) (sym m_is) (first _ _ h)))
          ∙ or_none (eq_by_cmp int_cmp s e.1)
      | false ↦ λ here. has-find es m s (second (below_all bytes_cmp e.0 es) _ h)
    ] refl

-- a map's ranking has just its members with their scores
pub has-ranking : (z : ScoreMap) (m : List ℕ) (s : ℤ) → has by_score (ranking_of z) (m, s) ≡ is_score s (finite.get z m)
has-ranking z m s =
    has-in_order score_total (finite.entries z) (m, s) ∙ has-find (finite.entries z) m s (finite.entries_sorted z)
    ∙ ap (is_score s) (sym (finite.get-entries z m))

pub sorted-ranking : (z : ScoreMap) → IsStrictlySortedBy by_score (ranking_of z)
sorted-ranking z = sorted-in_order score_total (finite.entries z)

same_score : (s t : ℤ) → eq_by_cmp int_cmp s t ≡ true → s ≡ t
same_score s t e = finite.int_cmp-IsAntisymmetric s t ((Equal-is (int_cmp s t)).0 e)

is_score-itself : (s : ℤ) → is_score s (Some s) ≡ true
is_score-itself s = ap is_eq (tied_itself int_cmp_total s)

pub score_apart : (s t : ℤ) → (s ≡ t → ⊥) → eq_by_cmp int_cmp s t ≡ false
score_apart s t apart =
    elim (eq_by_cmp int_cmp s t) as (λ b. eq_by_cmp int_cmp s t ≡ b → b ≡ false) [
      | true ↦ λ e. absurd (apart (same_score s t e))
      | false ↦ λ e. refl
    ] refl

-- the member is ranked by its score, and by no other one; where it is absent by none
pub is_ranked : (z : ScoreMap) (m : List ℕ) (s : ℤ) → finite.get z m ≡ Some s
    → has by_score (ranking_of z) (m, s) ≡ true
is_ranked z m s is = has-ranking z m s ∙ ap (is_score s) is ∙ is_score-itself s

pub lacks_absent : (z : ScoreMap) (m : List ℕ) (s : ℤ) → finite.get z m ≡ None
    → has by_score (ranking_of z) (m, s) ≡ false
lacks_absent z m s is = has-ranking z m s ∙ ap (is_score s) is

pub lacks_other : (z : ScoreMap) (m : List ℕ) (s old : ℤ) → finite.get z m ≡ Some old → (s ≡ old → ⊥)
    → has by_score (ranking_of z) (m, s) ≡ false
lacks_other z m s old is apart = has-ranking z m s ∙ ap (is_score s) is ∙ score_apart s old apart

-- a list in the same order that has them is the map's ranking
ranking_by : (z : ScoreMap) (ranking : List ScoredMember) → IsStrictlySortedBy by_score ranking
    → ((m : List ℕ) (s : ℤ) → has by_score ranking (m, s) ≡ is_score s (finite.get z m)) → ranking_of z ≡ ranking
ranking_by z ranking h is = same_items score_total score_exact (ranking_of z) ranking (sorted-ranking z) h
    (λ q. has-ranking z q.0 q.1 ∙ sym (is q.0 q.1))

turned : (k q : List ℕ) → eq_by_cmp bytes_cmp k q ≡ eq_by_cmp bytes_cmp q k
turned k q = (eq_by_cmp_equiv bytes_total).symm k q

module _ (z : ScoreMap) (m : List ℕ) where
  member_is : (q : List ℕ) → eq_by_cmp bytes_cmp q m ≡ true → q ≡ m
  member_is q e = bytes_exact q m ((Equal-is (bytes_cmp q m)).0 e)

  -- a new member is put at its place
  pub ranking-insert_new : (s : ℤ) → finite.get z m ≡ None
      → ranking_of (finite.insert z m s) ≡ insert_key by_score (ranking_of z) (m, s)
  ranking-insert_new s absent =
      ranking_by (finite.insert z m s) (insert_key by_score (ranking_of z) (m, s))
      (sorted-insert_key score_total (m, s) (ranking_of z) (sorted-ranking z)) (λ q t.
      has-insert_key score_total (m, s) (ranking_of z) (q, t)
      ∙ ap (λ b. b || has by_score (ranking_of z) (q, t)) (same_scored (q, t) (m, s))
      ∙ ap (λ b. (eq_by_cmp bytes_cmp q m && eq_by_cmp int_cmp t s) || b) (has-ranking z q t)
      ∙ elim (eq_by_cmp bytes_cmp q m) as (λ b. eq_by_cmp bytes_cmp q m ≡ b
      → ((b && eq_by_cmp int_cmp t s) || is_score t (finite.get z q))
      ≡ is_score t (cond b (Some s) (finite.get z q))) [
        | true ↦ λ e. ap (λ o. eq_by_cmp int_cmp t s || is_score t o) (ap (finite.get z) (member_is q e) ∙ absent)
            ∙ or_none (eq_by_cmp int_cmp t s)
        | false ↦ λ e. refl
      ] refl
      ∙ ap (is_score t) (sym (finite.get-insert bytes_total z m s q)))

  -- a member leaves the ranking with the map
  pub ranking-remove : (old : ℤ) → finite.get z m ≡ Some old
      → ranking_of (finite.remove z m) ≡ remove_key (eq_by_cmp by_score (m, old)) (ranking_of z)
  ranking-remove old is =
      ranking_by (finite.remove z m) (remove_key (eq_by_cmp by_score (m, old)) (ranking_of z))
      (sorted-remove_key score_total (eq_by_cmp by_score (m, old)) (ranking_of z) (sorted-ranking z)) (λ q t.
      has-remove_key score_total score_exact (m, old) (ranking_of z) (q, t) (sorted-ranking z)
      ∙ ap (λ b. cond b false (has by_score (ranking_of z) (q, t))) (same_scored (m, old) (q, t)
      ∙ ap (λ b. b && eq_by_cmp int_cmp old t) (turned m q))
      ∙ ap (cond (eq_by_cmp bytes_cmp q m && eq_by_cmp int_cmp old t) false) (has-ranking z q t)
      ∙ elim (eq_by_cmp bytes_cmp q m) as (λ b. eq_by_cmp bytes_cmp q m ≡ b
      → cond (b && eq_by_cmp int_cmp old t) false (is_score t (finite.get z q))
      ≡ is_score t (cond b None (finite.get z q))) [
        | true ↦ λ e. ap (λ o. cond (eq_by_cmp int_cmp old t) false (is_score t o)) (ap (finite.get z) (member_is q e)
            ∙ is) ∙ both_ways old t
        | false ↦ λ e. refl
      ] refl
      ∙ ap (is_score t) (sym (finite.get-remove bytes_total z m q)))
    where
      once : (b : Bool) → cond b false b ≡ false
      once true = refl
      once false = refl

      both_ways : (old t : ℤ) → cond (eq_by_cmp int_cmp old t) false (eq_by_cmp int_cmp t old) ≡ false
      both_ways old t = ap (λ b. cond b false (eq_by_cmp int_cmp t old)) ((eq_by_cmp_equiv int_cmp_total).symm old t)
          ∙ once (eq_by_cmp int_cmp t old)

  pub ranking-remove_absent : finite.get z m ≡ None → ranking_of (finite.remove z m) ≡ ranking_of z
  ranking-remove_absent absent =
      ap ranking_of (finite.same_map bytes_total bytes_exact (finite.remove z m) z
      (λ q. finite.get-remove bytes_total z m q
      ∙ elim (eq_by_cmp bytes_cmp q m) as (λ b. eq_by_cmp bytes_cmp q m ≡ b
      → cond b None (finite.get z q) ≡ finite.get z q) [
        | true ↦ λ e. sym (ap (finite.get z) (member_is q e) ∙ absent)
        | false ↦ λ e. refl
      ] refl))

  -- a member comes in with its new score, and leaves with the old one
  pub ranking-insert_again : (old s : ℤ) → finite.get z m ≡ Some old → (old ≡ s → ⊥)
      → ranking_of (finite.insert z m s)
      ≡ remove_key (eq_by_cmp by_score (m, old)) (insert_key by_score (ranking_of z) (m, s))
  ranking-insert_again old s is apart =
      let grown = insert_key by_score (ranking_of z) (m, s) in
      let grown_sorted = sorted-insert_key score_total (m, s) (ranking_of z) (sorted-ranking z) in
      ranking_by (finite.insert z m s) (remove_key (eq_by_cmp by_score (m, old)) grown)
      (sorted-remove_key score_total (eq_by_cmp by_score (m, old)) grown grown_sorted) (λ q t.
      has-remove_key score_total score_exact (m, old) grown (q, t) grown_sorted
      ∙ ap (λ b. cond b false (has by_score grown (q, t))) (same_scored (m, old) (q, t)
      ∙ ap (λ b. b && eq_by_cmp int_cmp old t) (turned m q))
      ∙ ap (cond (eq_by_cmp bytes_cmp q m && eq_by_cmp int_cmp old t) false)
      (has-insert_key score_total (m, s) (ranking_of z) (q, t)
      ∙ ap (λ b. b || has by_score (ranking_of z) (q, t)) (same_scored (q, t) (m, s))
      ∙ ap (λ b. (eq_by_cmp bytes_cmp q m && eq_by_cmp int_cmp t s) || b) (has-ranking z q t))
      ∙ elim (eq_by_cmp bytes_cmp q m) as (λ b. eq_by_cmp bytes_cmp q m ≡ b
      → cond (b && eq_by_cmp int_cmp old t) false ((b && eq_by_cmp int_cmp t s) || is_score t (finite.get z q))
      ≡ is_score t (cond b (Some s) (finite.get z q))) [
        | true ↦ λ e. ap (λ o. cond (eq_by_cmp int_cmp old t) false (eq_by_cmp int_cmp t s || is_score t o))
            (ap (finite.get z) (member_is q e) ∙ is) ∙ moved t
        | false ↦ λ e. refl
      ] refl
      ∙ ap (is_score t) (sym (finite.get-insert bytes_total z m s q)))
    where
      moved : (t : ℤ) → cond (eq_by_cmp int_cmp old t) false (eq_by_cmp int_cmp t s || eq_by_cmp int_cmp t old)
          ≡ eq_by_cmp int_cmp t s
      moved t =
          elim (eq_by_cmp int_cmp old t) as (λ b. eq_by_cmp int_cmp old t ≡ b
          → cond b false (eq_by_cmp int_cmp t s || eq_by_cmp int_cmp t old) ≡ eq_by_cmp int_cmp t s) [
            | true ↦ λ e. sym (score_apart t s (λ same. apart (same_score old t e ∙ same)))
            | false ↦ λ e. ap (λ b. eq_by_cmp int_cmp t s || b) ((eq_by_cmp_equiv int_cmp_total).symm t old ∙ e)
                ∙ or_none (eq_by_cmp int_cmp t s)
          ] refl

-- no members have an empty ranking
pub ranking-empty : ranking_of finite.empty ≡ []
ranking-empty = ranking_by finite.empty [] (sorted-in_order score_total [])
    (λ m s. ap (is_score s) (sym (finite.get-empty bytes_cmp m)))

or_true : (a b : Bool) → b ≡ true → (a || b) ≡ true
or_true true b e = refl
or_true false b e = e

-- a member with its old score is still there when it has come in with the new one
pub is_ranked_still : (z : ScoreMap) (m : List ℕ) (s old : ℤ) → finite.get z m ≡ Some old
    → has by_score (insert_key by_score (ranking_of z) (m, s)) (m, old) ≡ true
is_ranked_still z m s old is = has-insert_key score_total (m, s) (ranking_of z) (m, old)
    ∙ or_true (eq_by_cmp by_score (m, old) (m, s)) (has by_score (ranking_of z) (m, old)) (is_ranked z m old is)

module _ (z : ScoreMap) (m : List ℕ) where
  named : (q : List ℕ) → bytes_eq q m ≡ eq_by_cmp bytes_cmp m q
  named q = sym (is_eq-slice_cmp q m) ∙ turned q m

  -- the place of a member: that of its score, and none where it is absent
  pub rank_found : (s : ℤ) → finite.get z m ≡ Some s
      → position (λ scored. bytes_eq scored.0 m) (ranking_of z) ≡ Some (place_of by_score (ranking_of z) (m, s))
  rank_found s is =
      position_found score_total (λ scored. bytes_eq scored.0 m) (m, s) (ranking_of z) (sorted-ranking z)
      (is_ranked z m s is) (all_by_has score_total
      (λ scored. bytes_eq scored.0 m ≡ eq_by_cmp by_score (m, s) scored) (ranking_of z) (λ scored there.
      named scored.0 ∙ alone scored (sym (has-ranking z scored.0 scored.1) ∙ there) ∙ sym (same_scored (m, s) scored)))
    where
      alone : (scored : ScoredMember) → is_score scored.1 (finite.get z scored.0) ≡ true
          → eq_by_cmp bytes_cmp m scored.0 ≡ (eq_by_cmp bytes_cmp m scored.0 && eq_by_cmp int_cmp s scored.1)
      alone scored there =
          elim (eq_by_cmp bytes_cmp m scored.0) as (λ b. eq_by_cmp bytes_cmp m scored.0 ≡ b
          → b ≡ (b && eq_by_cmp int_cmp s scored.1)) [
            | true ↦ λ e. let m_is = bytes_exact m scored.0 ((Equal-is (bytes_cmp m scored.0)).0 e) in
                sym ((eq_by_cmp_equiv int_cmp_total).symm s scored.1
                ∙ ap (is_score scored.1) (sym (ap (finite.get z) (sym m_is) ∙ is)) ∙ there)
            | false ↦ λ e. refl
          ] refl

  pub rank_absent : finite.get z m ≡ None → position (λ scored. bytes_eq scored.0 m) (ranking_of z) ≡ None
  rank_absent is =
      position_none score_total (λ scored. bytes_eq scored.0 m) (ranking_of z)
      (all_by_has score_total (λ scored. bytes_eq scored.0 m ≡ false) (ranking_of z) (λ scored there.
      named scored.0 ∙ apart scored (sym (has-ranking z scored.0 scored.1) ∙ there)))
    where
      apart : (scored : ScoredMember) → is_score scored.1 (finite.get z scored.0) ≡ true
          → eq_by_cmp bytes_cmp m scored.0 ≡ false
      apart scored there =
          elim (eq_by_cmp bytes_cmp m scored.0) as (λ b. eq_by_cmp bytes_cmp m scored.0 ≡ b → b ≡ false) [
            | true ↦ λ e. let m_is = bytes_exact m scored.0 ((Equal-is (bytes_cmp m scored.0)).0 e) in
                absurd (true≢false (sym there ∙ ap (is_score scored.1) (ap (finite.get z) (sym m_is) ∙ is)))
            | false ↦ λ e. refl
          ] refl

-- a score that a member has already changes nothing
pub insert_same : (z : ScoreMap) (m : List ℕ) (s : ℤ) → finite.get z m ≡ Some s → z ≡ finite.insert z m s
insert_same z m s is =
    finite.same_map bytes_total bytes_exact z (finite.insert z m s)
    (λ q. elim (eq_by_cmp bytes_cmp q m) as (λ b. eq_by_cmp bytes_cmp q m ≡ b
    → finite.get z q ≡ cond b (Some s) (finite.get z q)) [
      | true ↦ λ e. ap (finite.get z) (member_is z m q e) ∙ is
      | false ↦ λ e. refl
    ] refl ∙ sym (finite.get-insert bytes_total z m s q))

some_score : (s : ℤ) (o : Option ℤ) → is_score s o ≡ true → o ≡ Some s
some_score s None e = absurd (true≢false (sym e))
some_score s (Some t) e = ap Some (sym (same_score s t e))

-- a member is ranked by a score just where it has it
pub score_from_ranked : (z : ScoreMap) (m : List ℕ) (s : ℤ) → Contains (ranking_of z) (m, s) → finite.get z m ≡ Some s
score_from_ranked z m s there =
    some_score s (finite.get z m) (sym (has-ranking z m s)
    ∙ list_any-from_Contains (eq_by_cmp_equiv score_total) (m, s) (ranking_of z) there)

pub ranked_from_score : (z : ScoreMap) (m : List ℕ) (s : ℤ) → finite.get z m ≡ Some s → Contains (ranking_of z) (m, s)
ranked_from_score z m s is = Contains-from_any (λ x y e. score_exact x y ((Equal-is (by_score x y)).0 e)) (m, s)
    (ranking_of z) (is_ranked z m s is)

and_false : (a b : Bool) → b ≡ false → (a && b) ≡ false
and_false true b e = e
and_false false b e = refl

-- lists of different lengths are not the same
pub pointwise_apart : {A : Type 0} (E : A → A → Bool) (xs ys : List A) → (length xs ≡ length ys → ⊥)
    → pointwise E xs ys ≡ false
pointwise_apart E [] [] apart = absurd (apart refl)
pointwise_apart E [] (y ∷ ys) apart = refl
pointwise_apart E (x ∷ xs) [] apart = refl
pointwise_apart E (x ∷ xs) (y ∷ ys) apart =
    and_false (E x y) (pointwise E xs ys) (pointwise_apart E xs ys (λ e. apart (ap suc e)))
