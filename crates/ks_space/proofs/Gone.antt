-- The keys whose deadline has passed, one after another.
use Rattle.std.proofs.Common.{◌≡◌, ℕ, ◌<◌, ◌≤◌, nat_lt, Bool, true, false, cond, Ordering, List, [], ◌∷◌, Option}
use Rattle.std.proofs.Common.{Some, None, map, filter, fold, not, ◌&&◌, slice_get, unwrap_or, refl, sym, ap, subst}
use Rattle.std.proofs.Common.{◌∙◌, Less, Equal, Greater, nat_cmp, arith, ◌||◌}
use Rattle.std.specs.List.{AllByRecursion, list_any}
use Rattle.std.specs.List.Sorted.{IsStrictlySortedBy}
use Rattle.std.specs.Ordering.{is_eq, eq_by_cmp, ordering_then}
use Rattle.std.specs.Cmp.{tied_itself, ranked, Equal-is}
use Rattle.std.proofs.lemmas.Bool.Decides.{nat_tests}
use Rattle.std.specs.FinMap as finite
use Rattle.std.specs.FinMap.{nat_cmp-IsAntisymmetric}
use Rattle.ks_space.specs.declared.deadlines.Due.{Due}
use Rattle.ks_space.specs.Store.{bytes_cmp, Store, deadline_at}
use Rattle.ks_space.specs.Purge.{due_cmp, dues, gone, purged}
use Rattle.ks_space.specs.Index.{IsIndex, is_due, is_at, has_due}
use Rattle.ks_space.proofs.Dues.{any-dues, due_total, index_of, dues-remove}

pub is_at-true : (d : Option ℕ) (n : ℕ) → is_at d n ≡ true → d ≡ Some n
is_at-true None n e = absurd (cc)
is_at-true (Some a) n e = ap Some (sym (nat_cmp-IsAntisymmetric n a ((Equal-is (nat_cmp n a)).0 e)))

-- the first due is one of the store
pub deadline-first : (store : Store) (due : Due) (rest : List Due) → dues store ≡ due ∷ rest
    → deadline_at store due.key ≡ Some due.at
deadline-first store due rest e =
    is_at-true (deadline_at store due.key) due.at (sym (any-dues store due) ∙ ap (list_any (eq_by_cmp due_cmp due)) e
    ∙ ap (λ r. is_eq r || list_any (eq_by_cmp due_cmp due) rest) (tied_itself due_total due))

not_before : (due other : Due) (time : ℕ) → due_cmp due other ≡ Less → time ≤ due.at → nat_lt other.at time ≡ false
not_before due other time e late = by_order (nat_cmp due.at other.at) refl e
  where
    by_order : (r : Ordering) → r ≡ nat_cmp due.at other.at → ordering_then r (bytes_cmp due.key other.key) ≡ Less
        → nat_lt other.at time ≡ false
    by_order Less is less = let more = ranked due.at other.at Less is in grind (arith, nat_tests)
    by_order Equal is less = let same = ranked due.at other.at Equal is in grind (arith, nat_tests)
    by_order Greater is less = absurd (cc)

none_after : (due : Due) (list : List Due) (time : ℕ) → AllByRecursion (λ other. due_cmp due other ≡ Less) list
    → time ≤ due.at → filter (λ other. nat_lt other.at time) list ≡ []
none_after due [] time h late = refl
none_after due (other ∷ list) time h late =
    ap (λ b. cond b (other ∷ filter (λ x. nat_lt x.at time) list) (filter (λ x. nat_lt x.at time) list))
    (not_before due other time h.0 late) ∙ none_after due list time h.1 late

-- where the first due is not before the time, none is
pub none_before : (due : Due) (list : List Due) (time : ℕ) → IsStrictlySortedBy due_cmp list
    → slice_get list 0 ≡ Some due → time ≤ due.at → filter (λ other. nat_lt other.at time) list ≡ []
unfolding IsStrictlySortedBy
none_before due [] time h first late = refl
none_before due (head ∷ list) time h first late =
    let same : head ≡ due = ap (λ o. unwrap_or o head) first in
    let late' : time ≤ head.at = subst (λ (d : Due). time ≤ d.at) (sym same) late in
    let test : nat_lt head.at time ≡ false = grind (arith, nat_tests) in
    ap (λ b. cond b (head ∷ filter (λ x. nat_lt x.at time) list) (filter (λ x. nat_lt x.at time) list)) test
    ∙ none_after head list time h.0 late'

pub gone-none : (store : Store) (time : ℕ) → filter (λ due. nat_lt due.at time) (dues store) ≡ [] → gone store time ≡ []
unfolding gone
gone-none store time e = ap (map (λ (due : Due). due.key)) e

pub gone-first : (store after : Store) (time : ℕ) (due : Due) (rest : List Due) → dues store ≡ due ∷ rest
    → rest ≡ dues after → due.at < time → gone store time ≡ due.key ∷ gone after time
unfolding gone
gone-first store after time due rest e is below =
    let test : nat_lt due.at time ≡ true = grind (arith, nat_tests) in
    ap (λ l. map (λ (d : Due). d.key) (filter (λ (d : Due). nat_lt d.at time) l)) e
    ∙ ap (λ b. map (λ (d : Due). d.key)
    (cond b (due ∷ filter (λ (d : Due). nat_lt d.at time) rest) (filter (λ (d : Due). nat_lt d.at time) rest))) test
    ∙ ap (λ l. due.key ∷ map (λ (d : Due). d.key) (filter (λ (d : Due). nat_lt d.at time) l)) is

pub purged-none : (store : Store) (time : ℕ) → gone store time ≡ [] → purged store time ≡ store
unfolding purged
purged-none store time e = ap (fold finite.remove store) e

pub purged-first : (store after : Store) (time : ℕ) (key : List ℕ) → gone store time ≡ key ∷ gone after time
    → after ≡ finite.remove store key → purged store time ≡ purged after time
unfolding purged
purged-first store after time key e is = ap (fold finite.remove store) e
    ∙ ap (λ s. fold finite.remove s (gone after time)) (sym is)

-- the first due leaves with its key
pub popped : (store after : Store) (due : Due) (list rest : List Due) → list ≡ dues store → list ≡ due ∷ rest
    → ((test : Due → Bool) → IsIndex list test → IsIndex rest (λ q. not (is_due (Some due) q) && test q))
    → after ≡ finite.remove store due.key → rest ≡ dues after
popped store after due list rest is first index after_is =
    dues-remove store due.key rest (Some due.at) (sym (deadline-first store due rest (sym is ∙ first)))
    (index (has_due store) (index_of store list is)) ∙ ap dues (sym after_is)
