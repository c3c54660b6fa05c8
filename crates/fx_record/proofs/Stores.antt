-- Stores key by key.
use Rattle.std.proofs.Common.{◌≡◌, ◌≢◌, ℕ, cond, List, Some, None, ◌⊎◌, inl, inr, refl, sym, ap, subst, ◌∙◌}
use Rattle.std.specs.Ordering.{is_eq, eq_by_cmp}
use Rattle.std.specs.Cmp.{IsTotalOrder}
use Rattle.std.specs.declared.cmp.Ordering.TheVariants.{Less, Equal, Greater}
use Rattle.std.specs.FinMap as finite
use Rattle.std.specs.FinMap.{IsAntisymmetric, nat_cmp-IsAntisymmetric, slice_cmp-IsAntisymmetric}
use Rattle.std.proofs.lemmas.Cmp.{nat_list_cmp_total, tied_itself}
use Rattle.ks_space.specs.declared.entry.Entry.{Entry}
use Rattle.ks_space.specs.Store.{bytes_cmp, Store}

bytes_total : IsTotalOrder bytes_cmp
bytes_total = nat_list_cmp_total

bytes_exact : IsAntisymmetric bytes_cmp
bytes_exact = slice_cmp-IsAntisymmetric nat_cmp-IsAntisymmetric

-- two keys are the same, or they differ
pub same_or_other : (q k : List ℕ) → (q ≡ k) ⊎ (q ≢ k)
same_or_other q k =
    elim (bytes_cmp q k) as (λ r. bytes_cmp q k ≡ r → (q ≡ k) ⊎ (q ≢ k)) [
      | Less ↦
          λ e. inr (λ same. let tied : bytes_cmp q k ≡ Equal =
          subst (λ x. bytes_cmp q x ≡ Equal) same (tied_itself bytes_total q) in cc)
      | Equal ↦ λ e. inl (bytes_exact q k e)
      | Greater ↦
          λ e. inr (λ same. let tied : bytes_cmp q k ≡ Equal =
          subst (λ x. bytes_cmp q x ≡ Equal) same (tied_itself bytes_total q) in cc)
    ] refl

cond-same : {A : Type 0} (k : List ℕ) (x y : A) → cond (eq_by_cmp bytes_cmp k k) x y ≡ x
cond-same k x y = ap (λ r. cond (is_eq r) x y) (tied_itself bytes_total k)

cond-other : {A : Type 0} (q k : List ℕ) (x y : A) → q ≢ k → cond (eq_by_cmp bytes_cmp q k) x y ≡ y
cond-other q k x y apart =
    elim (bytes_cmp q k) as (λ r. bytes_cmp q k ≡ r → cond (is_eq r) x y ≡ y) [
      | Less ↦ λ e. refl
      | Equal ↦ λ e. absurd (apart (bytes_exact q k e))
      | Greater ↦ λ e. refl
    ] refl

-- what a store has at a key, and at the others, once an entry was put there, or it was taken away
pub get-insert_same : (store : Store) (key : List ℕ) (entry : Entry)
    → finite.get (finite.insert store key entry) key ≡ Some entry
get-insert_same store key entry = finite.get-insert bytes_total store key entry key
    ∙ cond-same key (Some entry) (finite.get store key)

pub get-insert_other : (store : Store) (key : List ℕ) (entry : Entry) (q : List ℕ) → q ≢ key
    → finite.get (finite.insert store key entry) q ≡ finite.get store q
get-insert_other store key entry q apart = finite.get-insert bytes_total store key entry q
    ∙ cond-other q key (Some entry) (finite.get store q) apart

pub get-remove_same : (store : Store) (key : List ℕ) → finite.get (finite.remove store key) key ≡ None
get-remove_same store key = finite.get-remove bytes_total store key key ∙ cond-same key None (finite.get store key)

pub get-remove_other : (store : Store) (key q : List ℕ) → q ≢ key
    → finite.get (finite.remove store key) q ≡ finite.get store q
get-remove_other store key q apart = finite.get-remove bytes_total store key q
    ∙ cond-other q key None (finite.get store q) apart

pub get-empty : (q : List ℕ) → finite.get {X = Entry} {R = bytes_cmp} finite.empty q ≡ None
get-empty q = finite.get-empty bytes_cmp q

-- stores that have the same at each key are the same
pub same_by_keys : (one other : Store) → ((q : List ℕ) → finite.get one q ≡ finite.get other q) → one ≡ other
same_by_keys = finite.same_map bytes_total bytes_exact

-- to put what is there, and to take what is not there, changes nothing
pub insert_there : (store : Store) (key : List ℕ) (entry : Entry) → finite.get store key ≡ Some entry
    → finite.insert store key entry ≡ store
insert_there store key entry there = same_by_keys _ store at
  where
    at : (q : List ℕ) → finite.get (finite.insert store key entry) q ≡ finite.get store q
    at q = elim (same_or_other q key) [
      | inl same ↦ subst (λ k. finite.get (finite.insert store key entry) k ≡ finite.get store k) (sym same)
          (get-insert_same store key entry ∙ sym there)
      | inr apart ↦ get-insert_other store key entry q apart
    ]

pub remove_absent : (store : Store) (key : List ℕ) → finite.get store key ≡ None → finite.remove store key ≡ store
remove_absent store key absent = same_by_keys _ store at
  where
    at : (q : List ℕ) → finite.get (finite.remove store key) q ≡ finite.get store q
    at q = elim (same_or_other q key) [
      | inl same ↦ subst (λ k. finite.get (finite.remove store key) k ≡ finite.get store k) (sym same)
          (get-remove_same store key ∙ sym absent)
      | inr apart ↦ get-remove_other store key q apart
    ]

-- to take an entry and put it back changes nothing
pub insert-remove : (store : Store) (key : List ℕ) (entry : Entry) → finite.get store key ≡ Some entry
    → finite.insert (finite.remove store key) key entry ≡ store
insert-remove store key entry there = same_by_keys _ store at
  where
    at : (q : List ℕ) → finite.get (finite.insert (finite.remove store key) key entry) q ≡ finite.get store q
    at q = elim (same_or_other q key) [
      | inl same ↦ subst (λ k. finite.get (finite.insert (finite.remove store key) key entry) k ≡ finite.get store k)
          (sym same) (get-insert_same (finite.remove store key) key entry ∙ sym there)
      | inr apart ↦ get-insert_other (finite.remove store key) key entry q apart ∙ get-remove_other store key q apart
    ]
