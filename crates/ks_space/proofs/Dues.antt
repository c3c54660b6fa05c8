-- The index of the deadlines: what it has, and how it follows the store.
use Rattle.std.proofs.Common.{◌≡◌, ◌≢◌, ℕ, Bool, true, false, cond, not, Ordering, List, [], ◌∷◌, Option, Some, None}
use Rattle.std.proofs.Common.{option_and_then, IfSome, T, ◌&&◌, ◌||◌, refl, sym, ap, subst, ◌∙◌, Less, Equal, Greater}
use Rattle.std.proofs.Common.{nat_cmp, is_lt, true≢false}
use Rattle.std.specs.List.{list_any}
use Rattle.std.specs.List.Sorted.{IsStrictlySortedBy}
use Rattle.std.specs.Ordering.{is_eq, eq_by_cmp, ordering_then}
use Rattle.std.specs.Cmp.{IsTotalOrder, eq_by_cmp_equiv, tied_then, nat_cmp_total, Equal-is}
use Rattle.std.proofs.lemmas.Cmp.{on_total, then_total}
use Rattle.std.specs.BTreeSet.{BTreeSet, Updates}
use Rattle.std.specs.FinMap as finite
use Rattle.std.specs.FinMap.{IsAntisymmetric, nat_cmp-IsAntisymmetric}
use Rattle.std.specs.FinMap.Entries.{find, is_sorted, below_all}
use Rattle.ks_tree.proofs.ByteOrder.{bytes_total, bytes_exact}
use Rattle.ks_tree.proofs.Order.{same_items, sorted-in_order, has-in_order}
use Rattle.ks_space.specs.declared.entry.Entry.{Entry}
use Rattle.ks_space.specs.declared.deadlines.Due.{Due}
use Rattle.ks_space.specs.declared.entry.Value.{Value}
use Rattle.ks_space.specs.Store.{bytes_cmp, Store, deadline_at, with_value}
use Rattle.ks_space.specs.Purge.{due_cmp, with_due, dues_of, dues}
use Rattle.ks_space.proofs.Stores.{with_value-insert, with_value-none}
use Rattle.ks_space.specs.Index.{IsIndex, due_of, is_due, is_at, has_due}

-- the order of the dues is total, and tells all dues apart
pub due_total : IsTotalOrder due_cmp
due_total = then_total (on_total (λ (d : Due). d.at) nat_cmp_total) (on_total (λ (d : Due). d.key) bytes_total)

split_Equal : (a b : Ordering) → ordering_then a b ≡ Equal → (a ≡ Equal) × (b ≡ Equal)
split_Equal Less b e = absurd (cc)
split_Equal Equal b e = (refl, e)
split_Equal Greater b e = absurd (cc)

pub due_exact : IsAntisymmetric due_cmp
due_exact x y e =
    let both = split_Equal (nat_cmp x.at y.at) (bytes_cmp x.key y.key) e in
    let at = nat_cmp-IsAntisymmetric x.at y.at both.0 in
    let key = bytes_exact x.key y.key both.1 in
    λ i. record { at = at i; key = key i }

pub tied_due : (q : Due) (at : ℕ) (key : List ℕ)
    → eq_by_cmp due_cmp q (record { at = at; key = key }) ≡ (eq_by_cmp nat_cmp q.at at && eq_by_cmp bytes_cmp q.key key)
tied_due q at key = sym (tied_then (nat_cmp q.at at) (bytes_cmp q.key key))

-- whether q is the due of a key
pub is_due-due_of : (q : Due) (key : List ℕ) (d : Option ℕ)
    → is_due (due_of key d) q ≡ (is_at d q.at && eq_by_cmp bytes_cmp q.key key)
is_due-due_of q key None = refl
is_due-due_of q key (Some at) = tied_due q at key

-- the dues of a list of entries

both : (a b : Bool) → T (a && b) → T a × T b
both true b h = (tt, h)
both false b h = absurd h

less : (r : Ordering) → T (is_lt r) → r ≡ Less
less Less h = refl
less Equal h = absurd h
less Greater h = absurd h

absent : (q k : List ℕ) (es : List (List ℕ × Entry)) → bytes_cmp q k ≡ Equal → T (below_all bytes_cmp k es)
    → find bytes_cmp q es ≡ None
absent q k [] e h = refl
absent q k (x ∷ es) e h =
    let each = both (is_lt (bytes_cmp k x.0)) (below_all bytes_cmp k es) h in
    let first = bytes_total.congr q k x.0 e ∙ less (bytes_cmp k x.0) each.0 in
    ap (λ r. cond (is_eq r) (Some x.1) (find bytes_cmp q es)) first ∙ absent q k es e each.1

only_first : (x : Bool) → ((x && true) || false) ≡ x
only_first true = refl
only_first false = refl

only_second : (x y : Bool) → ((x && false) || y) ≡ y
only_second true y = refl
only_second false y = refl

same_head : (q : Due) (k : List ℕ) (d : Option ℕ) (ds : List Due) → eq_by_cmp bytes_cmp q.key k ≡ true
    → list_any (eq_by_cmp due_cmp q) ds ≡ false → list_any (eq_by_cmp due_cmp q) (with_due k d ds) ≡ is_at d q.at
same_head q k None ds is none = none
same_head q k (Some at) ds is none =
    ap (λ b. b || list_any (eq_by_cmp due_cmp q) ds) (tied_due q at k)
    ∙ (λ i. (eq_by_cmp nat_cmp q.at at && is i) || none i) ∙ only_first (eq_by_cmp nat_cmp q.at at)

other_head : (q : Due) (k : List ℕ) (d : Option ℕ) (ds : List Due) → eq_by_cmp bytes_cmp q.key k ≡ false
    → list_any (eq_by_cmp due_cmp q) (with_due k d ds) ≡ list_any (eq_by_cmp due_cmp q) ds
other_head q k None ds is = refl
other_head q k (Some at) ds is =
    ap (λ b. b || list_any (eq_by_cmp due_cmp q) ds) (tied_due q at k ∙ ap (λ b. eq_by_cmp nat_cmp q.at at && b) is)
    ∙ only_second (eq_by_cmp nat_cmp q.at at) (list_any (eq_by_cmp due_cmp q) ds)

any-dues_of : (q : Due) (es : List (List ℕ × Entry)) → T (is_sorted bytes_cmp es)
    → list_any (eq_by_cmp due_cmp q) (dues_of es)
    ≡ is_at (option_and_then (λ e. e.deadline) (find bytes_cmp q.key es)) q.at
any-dues_of q [] h = refl
any-dues_of q (e ∷ es) h =
    let each = both (below_all bytes_cmp e.0 es) (is_sorted bytes_cmp es) h in
    let rest = any-dues_of q es each.1 in
    elim (eq_by_cmp bytes_cmp q.key e.0) as (λ b. eq_by_cmp bytes_cmp q.key e.0 ≡ b
    → list_any (eq_by_cmp due_cmp q) (with_due e.0 e.1.deadline (dues_of es))
    ≡ is_at (option_and_then (λ (x : Entry). x.deadline) (cond b (Some e.1) (find bytes_cmp q.key es))) q.at) [
      | true ↦ λ is. same_head q e.0 e.1.deadline (dues_of es) is (rest
          ∙ ap (λ o. is_at (option_and_then (λ (x : Entry). x.deadline) o) q.at)
          (absent q.key e.0 es ((Equal-is (bytes_cmp q.key e.0)).0 is) each.0))
      | false ↦ λ is. other_head q e.0 e.1.deadline (dues_of es) is ∙ rest
    ] refl

-- the dues of a store

pub any-dues : (store : Store) (q : Due) → list_any (eq_by_cmp due_cmp q) (dues store) ≡ has_due store q
unfolding dues
any-dues store q = has-in_order due_total (dues_of (finite.entries store)) q
    ∙ any-dues_of q (finite.entries store) (finite.entries_sorted store)
    ∙ ap (λ o. is_at (option_and_then (λ (x : Entry). x.deadline) o) q.at) (sym (finite.get-entries store q.key))

pub sorted-dues : (store : Store) → IsStrictlySortedBy due_cmp (dues store)
unfolding dues
sorted-dues store = sorted-in_order due_total (dues_of (finite.entries store))

pub index_of : (store : Store) (list : List Due) → list ≡ dues store → IsIndex list (has_due store)
index_of store list is = record {
  sorted = subst (IsStrictlySortedBy due_cmp) (sym is) (sorted-dues store);
  has = λ q. ap (list_any (eq_by_cmp due_cmp q)) is ∙ any-dues store q;
}

pub dues_from : (store : Store) (list : List Due) (test : Due → Bool) → IsIndex list test
    → ((q : Due) → test q ≡ has_due store q) → list ≡ dues store
dues_from store list test index alike =
    same_items due_total due_exact list (dues store) index.sorted (sorted-dues store) (λ q. index.has q ∙ alike q
    ∙ sym (any-dues store q))

-- a deadline after an insertion and a removal

at_insert : (b : Bool) (e : Entry) (o : Option Entry)
    → option_and_then (λ (x : Entry). x.deadline) (cond b (Some e) o)
    ≡ cond b e.deadline (option_and_then (λ (x : Entry). x.deadline) o)
at_insert true e o = refl
at_insert false e o = refl

at_remove : (b : Bool) (o : Option Entry)
    → option_and_then (λ (x : Entry). x.deadline) (cond b None o)
    ≡ cond b None (option_and_then (λ (x : Entry). x.deadline) o)
at_remove true o = refl
at_remove false o = refl

pub deadline_at-insert : (store : Store) (k : List ℕ) (e : Entry) (q : List ℕ)
    → deadline_at (finite.insert store k e) q ≡ cond (eq_by_cmp bytes_cmp q k) e.deadline (deadline_at store q)
deadline_at-insert store k e q =
    ap (option_and_then (λ (x : Entry). x.deadline)) (finite.get-insert bytes_total store k e q)
    ∙ at_insert (eq_by_cmp bytes_cmp q k) e (finite.get store q)

pub deadline_at-remove : (store : Store) (k q : List ℕ)
    → deadline_at (finite.remove store k) q ≡ cond (eq_by_cmp bytes_cmp q k) None (deadline_at store q)
deadline_at-remove store k q = ap (option_and_then (λ (x : Entry). x.deadline))
    (finite.get-remove bytes_total store k q) ∙ at_remove (eq_by_cmp bytes_cmp q k) (finite.get store q)

chosen : (b : Bool) (x y : Option ℕ) (n : ℕ) → is_at (cond b x y) n ≡ cond b (is_at x n) (is_at y n)
chosen true x y n = refl
chosen false x y n = refl

has_due-insert : (store : Store) (k : List ℕ) (e : Entry) (q : Due)
    → has_due (finite.insert store k e) q ≡ cond (eq_by_cmp bytes_cmp q.key k) (is_at e.deadline q.at) (has_due store q)
has_due-insert store k e q = ap (λ o. is_at o q.at) (deadline_at-insert store k e q.key)
    ∙ chosen (eq_by_cmp bytes_cmp q.key k) e.deadline (deadline_at store q.key) q.at

has_due-remove : (store : Store) (k : List ℕ) (q : Due)
    → has_due (finite.remove store k) q ≡ cond (eq_by_cmp bytes_cmp q.key k) false (has_due store q)
has_due-remove store k q = ap (λ o. is_at o q.at) (deadline_at-remove store k q.key)
    ∙ chosen (eq_by_cmp bytes_cmp q.key k) None (deadline_at store q.key) q.at

-- at the key itself, the store has the due exactly where the time is its deadline
here : (store : Store) (k : List ℕ) (d : Option ℕ) (q : Due) → d ≡ deadline_at store k
    → eq_by_cmp bytes_cmp q.key k ≡ true → has_due store q ≡ is_at d q.at
here store k d q is b = ap (λ key. is_at (deadline_at store key) q.at)
    (bytes_exact q.key k ((Equal-is (bytes_cmp q.key k)).0 b)) ∙ ap (λ o. is_at o q.at) (sym is)

-- the old due leaves and the new one comes

apart : (x y : Option ℕ) (n : ℕ) → x ≢ y → (is_at x n && is_at y n) ≡ false
apart None y n other = refl
apart (Some a) None n other = elim (eq_by_cmp nat_cmp n a) as (λ b. (b && false) ≡ false) [ true ↦ refl | false ↦ refl ]
apart (Some a) (Some c) n other =
    elim (eq_by_cmp nat_cmp n a) as (λ b. eq_by_cmp nat_cmp n a ≡ b → (b && eq_by_cmp nat_cmp n c) ≡ false) [
      | true ↦ λ first. elim (eq_by_cmp nat_cmp n c) as (λ b. eq_by_cmp nat_cmp n c ≡ b → b ≡ false) [
        | true ↦ λ second. absurd (other
            (ap Some (sym (nat_cmp-IsAntisymmetric n a ((Equal-is (nat_cmp n a)).0 first))
            ∙ nat_cmp-IsAntisymmetric n c ((Equal-is (nat_cmp n c)).0 second))))
        | false ↦ λ second. refl
      ] refl
      | false ↦ λ first. refl
    ] refl

replaced : (x y h b : Bool) → (b ≡ true → h ≡ x) → (x && y) ≡ false → (not (x && b) && ((y && b) || h)) ≡ cond b y h
replaced true true h b f g = absurd (true≢false g)
replaced true false h true f g = refl
replaced true false h false f g = refl
replaced false true h true f g = refl
replaced false true h false f g = refl
replaced false false h true f g = f refl
replaced false false h false f g = refl

undone : (x h b : Bool) → (b ≡ true → h ≡ false) → (not (x && b) && ((x && b) || h)) ≡ h
undone true h true f = sym (f refl)
undone true h false f = refl
undone false h true f = refl
undone false h false f = refl

kept : (y h b : Bool) → (b ≡ true → h ≡ y) → h ≡ cond b y h
kept y h true f = f refl
kept y h false f = refl

left : (x h b : Bool) → (b ≡ true → h ≡ x) → (not (x && b) && h) ≡ cond b false h
left true h true f = refl
left true h false f = refl
left false h true f = f refl
left false h false f = refl

module _ (store : Store) (k : List ℕ) (list : List Due) where
  pub dues-insert : (e : Entry) (d : Option ℕ) → d ≡ deadline_at store k → d ≢ e.deadline
      → IsIndex list (λ q. not (is_due (due_of k d) q) && (is_due (due_of k e.deadline) q || has_due store q))
      → list ≡ dues (finite.insert store k e)
  dues-insert e d is other index =
      dues_from (finite.insert store k e) list _ index (λ q.
      (λ i. not (is_due-due_of q k d i) && (is_due-due_of q k e.deadline i || has_due store q))
      ∙ replaced (is_at d q.at) (is_at e.deadline q.at) (has_due store q) (eq_by_cmp bytes_cmp q.key k)
      (here store k d q is) (apart d e.deadline q.at other)
      ∙ sym (has_due-insert store k e q))

  -- an entry with the deadline that the key had before
  pub dues-insert_same : (e : Entry) → deadline_at store k ≡ e.deadline → list ≡ dues store
      → list ≡ dues (finite.insert store k e)
  dues-insert_same e is index =
      dues_from (finite.insert store k e) list (has_due store) (index_of store list index) (λ q.
      kept (is_at e.deadline q.at) (has_due store q) (eq_by_cmp bytes_cmp q.key k)
      (here store k e.deadline q (sym is)) ∙ sym (has_due-insert store k e q))

  -- a due that came, of a key that is absent, leaves again
  pub dues-undone : (d : Option ℕ) → deadline_at store k ≡ None
      → IsIndex list (λ q. not (is_due (due_of k d) q) && (is_due (due_of k d) q || has_due store q))
      → list ≡ dues store
  dues-undone d none index =
      dues_from store list _ index (λ q.
      (λ i. not (is_due-due_of q k d i) && (is_due-due_of q k d i || has_due store q))
      ∙ undone (is_at d q.at) (has_due store q) (eq_by_cmp bytes_cmp q.key k) (here store k None q (sym none)))

  pub dues-remove : (d : Option ℕ) → d ≡ deadline_at store k
      → IsIndex list (λ q. not (is_due (due_of k d) q) && has_due store q) → list ≡ dues (finite.remove store k)
  dues-remove d is index =
      dues_from (finite.remove store k) list _ index (λ q.
      (λ i. not (is_due-due_of q k d i) && has_due store q)
      ∙ left (is_at d q.at) (has_due store q) (eq_by_cmp bytes_cmp q.key k) (here store k d q is)
      ∙ sym (has_due-remove store k q))

-- a value that changes in its place leaves the dues as they are
pub dues-with_value : (store : Store) (k : List ℕ) (v : Value) (list : List Due) → list ≡ dues store
    → list ≡ dues (with_value store k v)
dues-with_value store k v list index = by_found (finite.get store k) refl
  where
    by_found : (found : Option Entry) → finite.get store k ≡ found → list ≡ dues (with_value store k v)
    by_found None absent = index ∙ ap dues (sym (with_value-none store k v absent))
    by_found (Some e) there =
        dues-insert_same store k list (record e { value = v })
        (ap (option_and_then (λ (x : Entry). x.deadline)) there) index
        ∙ ap dues (sym (with_value-insert store k e v there))

pub dues-empty : [] ≡ dues finite.empty
unfolding IsStrictlySortedBy
dues-empty = dues_from finite.empty [] (λ q. false) (record { sorted = tt; has = λ q. refl })
    (λ q. ap (λ o. is_at (option_and_then (λ (x : Entry). x.deadline) o) q.at) (sym (finite.get-empty bytes_cmp q.key)))

-- a due comes into the index or leaves it

either : (a b : Bool) → cond a true b ≡ (a || b)
either true b = refl
either false b = refl

neither : (a b : Bool) → cond a false b ≡ (not a && b)
neither true b = refl
neither false b = refl

turned : (due q : Due) → eq_by_cmp due_cmp due q ≡ eq_by_cmp due_cmp q due
turned = (eq_by_cmp_equiv due_total).symm

module _ (due : Due) (old new : List Due) (test : Due → Bool) (sorted : IsStrictlySortedBy due_cmp new)
    (index : IsIndex old test) where
  pub entered : ((q : Due) → list_any (eq_by_cmp due_cmp q) new
      ≡ cond (eq_by_cmp due_cmp due q) true (list_any (eq_by_cmp due_cmp q) old))
      → IsIndex new (λ q. is_due (Some due) q || test q)
  entered has = record {
    sorted = sorted;
    has = λ q. has q
        ∙ either (eq_by_cmp due_cmp due q) (list_any (eq_by_cmp due_cmp q) old)
        ∙ (λ i. turned due q i || index.has q i);
  }

  pub removed : ((q : Due) → list_any (eq_by_cmp due_cmp q) new
      ≡ cond (eq_by_cmp due_cmp due q) false (list_any (eq_by_cmp due_cmp q) old))
      → IsIndex new (λ q. not (is_due (Some due) q) && test q)
  removed has = record {
    sorted = sorted;
    has = λ q. has q
        ∙ neither (eq_by_cmp due_cmp due q) (list_any (eq_by_cmp due_cmp q) old)
        ∙ (λ i. not (turned due q i) && index.has q i);
  }

-- the same by the dues that came and left
pub moved : (store : Store) (k : List ℕ) (list : List Due) (before after : Option ℕ) (leaving coming : Option Due)
    → leaving ≡ due_of k before → coming ≡ due_of k after
    → IsIndex list (λ q. not (is_due leaving q) && (is_due coming q || has_due store q))
    → IsIndex list (λ q. not (is_due (due_of k before) q) && (is_due (due_of k after) q || has_due store q))
moved store k list before after leaving coming one other index =
    subst (λ o. IsIndex list (λ q. not (is_due o q) && (is_due (due_of k after) q || has_due store q))) one
    (subst (λ o. IsIndex list (λ q. not (is_due leaving q) && (is_due o q || has_due store q))) other index)

pub removed_from : (result : Option Due) (old new : BTreeSet Due) (test : Due → Bool)
    → IsStrictlySortedBy due_cmp new.keys → IfSome result (λ due. Updates due_cmp old new due false)
    → IsIndex old.keys test
    → IfSome result (λ due. IsIndex new.keys (λ q. not (is_due (Some due) q) && test q))
removed_from None old new test sorted update index = tt
removed_from (Some due) old new test sorted update index = removed due old.keys new.keys test sorted index update.0
