-- Which keys leave at a purge, and what it keeps.
use Rattle.std.proofs.Common.{◌≡◌, ◌↔◌, ℕ, ◌<◌, ◌≤◌, nat_lt, Bool, true, false, cond, List, [], ◌∷◌, Option, Some}
use Rattle.std.proofs.Common.{None, option_and_then, map, filter, fold, Contains, IfSome, IsSomeAnd, refl, sym, ap}
use Rattle.std.proofs.Common.{subst, ◌∙◌, Less, nat_cmp, arith, ◌||◌, ◌&&◌, true≢false}
use Rattle.std.specs.List.{AllByRecursion, list_any}
use Rattle.std.specs.List.Sorted.{IsStrictlySortedBy}
use Rattle.std.specs.Ordering.{is_eq, eq_by_cmp, ordering_then}
use Rattle.std.specs.Option.{unwrap_or}
use Rattle.std.specs.Cmp.{tied_itself, nat_cmp_total, both_ways, eq_by_cmp_equiv, Equal-is}
use Rattle.std.proofs.lemmas.Bool.Decides.{nat_tests}
use Rattle.std.proofs.lemmas.List.Kept.{IsStrictlySortedBy-filter}
use Rattle.std.proofs.lemmas.Map.Views.{list_any-from_Contains, Contains-from_any}
use Rattle.std.specs.FinMap as finite
use Rattle.ks_space.specs.declared.entry.Entry.{Entry}
use Rattle.ks_space.specs.declared.deadlines.Due.{Due}
use Rattle.ks_space.specs.Store.{bytes_cmp, Store, deadline_at}
use Rattle.ks_space.specs.Purge.{due_cmp, dues, gone, purged, by_deadline, IsTimely}
use Rattle.ks_space.specs.Index.{is_at}
use Rattle.ks_tree.proofs.ByteOrder.{bytes_total, bytes_exact}
use Rattle.ks_space.proofs.Dues.{any-dues, sorted-dues, due_total, due_exact}
use Rattle.ks_space.proofs.Gone.{is_at-true}

is_past : Option ℕ → ℕ → Bool
is_past None time = false
is_past (Some at) time = nat_lt at time

-- a key among the dues that pass a test

any_more : {A : Type 0} (f g : A → Bool) → ((x : A) → f x ≡ true → g x ≡ true) → (xs : List A) → list_any f xs ≡ true
    → list_any g xs ≡ true
any_more f g more [] h = h
any_more f g more (x ∷ xs) h =
    elim (f x) as (λ b. f x ≡ b → (b || list_any f xs) ≡ true → (g x || list_any g xs) ≡ true) [
      | true ↦ λ is h. ap (λ b. b || list_any g xs) (more x is)
      | false ↦ λ is h. elim (g x) as (λ b. (b || list_any g xs) ≡ true)
          [ true ↦ refl | false ↦ any_more f g more xs h ]
    ] refl h

any_key : (q : List ℕ) (p : Due → Bool) (ds : List Due)
    → list_any (eq_by_cmp bytes_cmp q) (map (λ (d : Due). d.key) (filter p ds))
    ≡ list_any (λ d. p d && eq_by_cmp bytes_cmp q d.key) ds
any_key q p [] = refl
any_key q p (d ∷ ds) =
    elim (p d) as (λ b. list_any (eq_by_cmp bytes_cmp q)
    (map (λ (d : Due). d.key) (cond b (d ∷ filter p ds) (filter p ds)))
    ≡ ((b && eq_by_cmp bytes_cmp q d.key) || list_any (λ d. p d && eq_by_cmp bytes_cmp q d.key) ds)) [
      | true ↦ ap (λ b. eq_by_cmp bytes_cmp q d.key || b) (any_key q p ds)
      | false ↦ any_key q p ds
    ]

either_true : (a b : Bool) → b ≡ true → (a || b) ≡ true
either_true true b e = refl
either_true false b e = e

both_true : (a b : Bool) → (a && b) ≡ true → (a ≡ true) × (b ≡ true)
both_true true b e = (refl, e)
both_true false b e = absurd (true≢false (sym e))

-- each due in the list is one of the store
AreOf : Store → List Due → Type 0
AreOf store list = (d : Due) → list_any (eq_by_cmp due_cmp d) list ≡ true → deadline_at store d.key ≡ Some d.at

AreOf-dues : (store : Store) → AreOf store (dues store)
unfolding AreOf
AreOf-dues store d h = is_at-true (deadline_at store d.key) d.at (sym (any-dues store d) ∙ h)

AreOf-head : (store : Store) (d : Due) (list : List Due) → AreOf store (d ∷ list) → deadline_at store d.key ≡ Some d.at
unfolding AreOf
AreOf-head store d list h = h d (ap (λ r. is_eq r || list_any (eq_by_cmp due_cmp d) list) (tied_itself due_total d))

AreOf-tail : (store : Store) (d : Due) (list : List Due) → AreOf store (d ∷ list) → AreOf store list
unfolding AreOf
AreOf-tail store d list h = λ other is.
    h other (either_true (eq_by_cmp due_cmp other d) (list_any (eq_by_cmp due_cmp other) list) is)

past_from_any : (store : Store) (time : ℕ) (q : List ℕ) (list : List Due) → AreOf store list
    → list_any (λ d. nat_lt d.at time && eq_by_cmp bytes_cmp q d.key) list ≡ true
    → is_past (deadline_at store q) time ≡ true
unfolding is_past
past_from_any store time q [] all h = absurd (true≢false (sym h))
past_from_any store time q (d ∷ list) all h =
    elim (nat_lt d.at time && eq_by_cmp bytes_cmp q d.key) as
    (λ b. (nat_lt d.at time && eq_by_cmp bytes_cmp q d.key) ≡ b
    → (b || list_any (λ d. nat_lt d.at time && eq_by_cmp bytes_cmp q d.key) list) ≡ true
    → is_past (deadline_at store q) time ≡ true) [
      | true ↦ λ is h. let each = both_true (nat_lt d.at time) (eq_by_cmp bytes_cmp q d.key) is in
          ap (λ k. is_past (deadline_at store k) time) (bytes_exact q d.key ((Equal-is (bytes_cmp q d.key)).0 each.1))
          ∙ ap (λ o. is_past o time) (AreOf-head store d list all) ∙ each.0
      | false ↦ λ is h. past_from_any store time q list (AreOf-tail store d list all) h
    ] refl h

any_from_past : (store : Store) (time : ℕ) (q : List ℕ) (d : Option ℕ) → deadline_at store q ≡ d
    → is_past d time ≡ true → list_any (λ x. nat_lt x.at time && eq_by_cmp bytes_cmp q x.key) (dues store) ≡ true
unfolding is_past
any_from_past store time q None is h = absurd (true≢false (sym h))
any_from_past store time q (Some at) is h =
    let due : Due = record { at = at; key = q } in
    let there : list_any (eq_by_cmp due_cmp due) (dues store) ≡ true = any-dues store due ∙ ap (λ o. is_at o at) is
    ∙ ap is_eq (tied_itself nat_cmp_total at) in
    any_more (eq_by_cmp due_cmp due) (λ x. nat_lt x.at time && eq_by_cmp bytes_cmp q x.key)
    (λ x e. subst (λ (d : Due). (nat_lt d.at time && eq_by_cmp bytes_cmp q d.key) ≡ true)
    (due_exact due x ((Equal-is (due_cmp due x)).0 e)) (λ i. h i && is_eq (tied_itself bytes_total q i)))
    (dues store) there

any-gone : (store : Store) (time : ℕ) (q : List ℕ)
    → list_any (eq_by_cmp bytes_cmp q) (gone store time) ≡ is_past (deadline_at store q) time
unfolding gone
any-gone store time q =
    any_key q (λ d. nat_lt d.at time) (dues store)
    ∙ both_ways _ _ (past_from_any store time q (dues store) (AreOf-dues store))
    (any_from_past store time q (deadline_at store q) refl)

-- what is left

left : (a b : Bool) (o : Option Entry) → cond b None (cond a None o) ≡ cond (a || b) None o
left true true o = refl
left true false o = refl
left false b o = refl

get-without : (store : Store) (ks : List (List ℕ)) (q : List ℕ)
    → finite.get (fold finite.remove store ks) q ≡ cond (list_any (eq_by_cmp bytes_cmp q) ks) None (finite.get store q)
get-without store [] q = refl
get-without store (k ∷ ks) q =
    get-without (finite.remove store k) ks q
    ∙ ap (cond (list_any (eq_by_cmp bytes_cmp q) ks) None) (finite.get-remove bytes_total store k q)
    ∙ left (eq_by_cmp bytes_cmp q k) (list_any (eq_by_cmp bytes_cmp q) ks) (finite.get store q)

get-purged : (store : Store) (time : ℕ) (q : List ℕ)
    → finite.get (purged store time) q ≡ cond (is_past (deadline_at store q) time) None (finite.get store q)
unfolding purged
get-purged store time q = get-without store (gone store time) q
    ∙ ap (λ b. cond b None (finite.get store q)) (any-gone store time q)

pub past : (store : Store) (time : ℕ) (key : List ℕ) (at : ℕ) → deadline_at store key ≡ Some at → at < time
    → finite.get (purged store time) key ≡ None
unfolding is_past
past store time key at is below =
    let test : nat_lt at time ≡ true = grind (arith, nat_tests) in
    get-purged store time key ∙ ap (λ b. cond b None (finite.get store key)) (ap (λ o. is_past o time) is ∙ test)

not_past : (time : ℕ) (d : Option ℕ) → IfSome d (λ at. time ≤ at) → is_past d time ≡ false
unfolding is_past
not_past time None h = refl
not_past time (Some at) h = grind (arith, nat_tests)

pub others : (store : Store) (time : ℕ) (key : List ℕ) → IfSome (deadline_at store key) (λ at. time ≤ at)
    → finite.get (purged store time) key ≡ finite.get store key
others store time key h = get-purged store time key
    ∙ ap (λ b. cond b None (finite.get store key)) (not_past time (deadline_at store key) h)

not_below : (time at : ℕ) → is_past (Some at) time ≡ false → time ≤ at
unfolding is_past
not_below time at t = grind (arith, nat_tests)

late : (time at : ℕ) (d : Option ℕ) (o : Option Entry) → d ≡ option_and_then (λ (e : Entry). e.deadline) o
    → option_and_then (λ (e : Entry). e.deadline) (cond (is_past d time) None o) ≡ Some at → time ≤ at
late time at d o is e = by_test (is_past d time) refl e
  where
    by_test : (b : Bool) → is_past d time ≡ b → option_and_then (λ (e : Entry). e.deadline) (cond b None o) ≡ Some at
        → time ≤ at
    by_test true p f = absurd (cc)
    by_test false p f = not_below time at (sym (ap (λ x. is_past x time) (is ∙ f)) ∙ p)

pub timely : (store : Store) (time : ℕ) → IsTimely (purged store time) time
timely store time key at e = late time at (deadline_at store key) (finite.get store key) refl
    (ap (option_and_then (λ (x : Entry). x.deadline)) (sym (get-purged store time key)) ∙ e)

-- the list of the keys

below_from_past : (time : ℕ) (d : Option ℕ) → is_past d time ≡ true → IsSomeAnd d (λ at. at < time)
unfolding is_past
below_from_past time None h = absurd (true≢false (sym h))
below_from_past time (Some at) h = grind (arith, nat_tests)

past_from_below : (time : ℕ) (d : Option ℕ) → IsSomeAnd d (λ at. at < time) → is_past d time ≡ true
unfolding is_past
past_from_below time None h = absurd h
past_from_below time (Some at) h = grind (arith, nat_tests)

pub listed : (store : Store) (time : ℕ) (key : List ℕ)
    → Contains (gone store time) key ↔ IsSomeAnd (deadline_at store key) (λ at. at < time)
listed store time key = (
  λ h. below_from_past time (deadline_at store key) (sym (any-gone store time key)
      ∙ list_any-from_Contains (eq_by_cmp_equiv bytes_total) key (gone store time) h),
  λ h. Contains-from_any (λ x y e. bytes_exact x y ((Equal-is (bytes_cmp x y)).0 e)) key (gone store time)
      (any-gone store time key ∙ past_from_below time (deadline_at store key) h),
)

same_order : (store : Store) (d e : Due) → deadline_at store d.key ≡ Some d.at → deadline_at store e.key ≡ Some e.at
    → by_deadline store d.key e.key ≡ due_cmp d e
same_order store d e one other =
    λ i. ordering_then (nat_cmp (unwrap_or (one i) 0) (unwrap_or (other i) 0)) (bytes_cmp d.key e.key)

above : (store : Store) (d : Due) (list : List Due) → deadline_at store d.key ≡ Some d.at → AreOf store list
    → AllByRecursion (λ e. due_cmp d e ≡ Less) list
    → AllByRecursion (λ k. by_deadline store d.key k ≡ Less) (map (λ (e : Due). e.key) list)
above store d [] is all h = tt
above store d (e ∷ list) is all h = (
  same_order store d e is (AreOf-head store e list all) ∙ h.0,
  above store d list is (AreOf-tail store e list all) h.1,
)

sorted_keys : (store : Store) (list : List Due) → AreOf store list → IsStrictlySortedBy due_cmp list
    → IsStrictlySortedBy (by_deadline store) (map (λ (e : Due). e.key) list)
unfolding IsStrictlySortedBy
sorted_keys store [] all h = tt
sorted_keys store (d ∷ list) all h = (
  above store d list (AreOf-head store d list all) (AreOf-tail store d list all) h.0,
  sorted_keys store list (AreOf-tail store d list all) h.1,
)

any_filtered : (p : Due → Bool) (d : Due) (list : List Due) → list_any (eq_by_cmp due_cmp d) (filter p list) ≡ true
    → list_any (eq_by_cmp due_cmp d) list ≡ true
any_filtered p d [] h = h
any_filtered p d (e ∷ list) h =
    elim (p e) as (λ b. list_any (eq_by_cmp due_cmp d) (cond b (e ∷ filter p list) (filter p list)) ≡ true
    → (eq_by_cmp due_cmp d e || list_any (eq_by_cmp due_cmp d) list) ≡ true) [
      | true ↦ λ h. elim (eq_by_cmp due_cmp d e) as (λ b. (b || list_any (eq_by_cmp due_cmp d) (filter p list)) ≡ true
          → (b || list_any (eq_by_cmp due_cmp d) list) ≡ true) [ true ↦ λ _. refl | false ↦ any_filtered p d list ] h
      | false ↦ λ h. either_true (eq_by_cmp due_cmp d e) (list_any (eq_by_cmp due_cmp d) list) (any_filtered p d list h)
    ] h

AreOf-filter : (store : Store) (p : Due → Bool) (list : List Due) → AreOf store list → AreOf store (filter p list)
unfolding AreOf
AreOf-filter store p list all = λ d h. all d (any_filtered p d list h)

pub ordered : (store : Store) (time : ℕ) → IsStrictlySortedBy (by_deadline store) (gone store time)
unfolding gone
ordered store time = sorted_keys store _ (AreOf-filter store (λ d. nat_lt d.at time) (dues store) (AreOf-dues store))
    (IsStrictlySortedBy-filter due_cmp (λ d. nat_lt d.at time) (dues store) (sorted-dues store))

pub equal : (one other : Store) → (one ≡ other) ↔ ((key : List ℕ) → finite.get one key ≡ finite.get other key)
equal one other = (λ e key. ap (λ s. finite.get s key) e, finite.same_map bytes_total bytes_exact one other)
