-- Records that are kept, and stores that are told apart by their codes.
use Rattle.std.proofs.Common.{◌≡◌, ◌≢◌, true, cond, List, [], ◌↔◌, refl, ap, sym, subst, ◌∙◌}
use Rattle.std.proofs.lemmas.Bool.{and_parts, cond_both}
use Rattle.std.proofs.lemmas.Bool.Decides.{Decides-eqb}
use base.Stored.{Gv, gnil, gnum, gcons}
use Rattle.ks_space.specs.Store.{Store}
use Rattle.fx_record.specs.declared.record.Record.{Record}
use Rattle.fx_record.specs.Records.{applied}
use Rattle.fx_record.specs.Settled.{same_trees, store_code, same_store, settled}

trees_same : (one other : Gv) → same_trees one other ≡ true → one ≡ other
trees_same gnil gnil e = refl
trees_same gnil (gnum n) e = absurd (cc)
trees_same gnil (gcons c d) e = absurd (cc)
trees_same (gnum m) gnil e = absurd (cc)
trees_same (gnum m) (gnum n) e = ap gnum ((Decides-eqb m n).0 e)
trees_same (gnum m) (gcons c d) e = absurd (cc)
trees_same (gcons a b) gnil e = absurd (cc)
trees_same (gcons a b) (gnum n) e = absurd (cc)
trees_same (gcons a b) (gcons c d) e =
    let parts = and_parts (same_trees a c) (same_trees b d) e in
    let left = trees_same a c parts.0 in
    let right = trees_same b d parts.1 in
    cc

same_itself : (tree : Gv) → same_trees tree tree ≡ true
same_itself gnil = refl
same_itself (gnum n) = (Decides-eqb n n).1 refl
same_itself (gcons a b) = rw (same_itself a) (same_itself b)

pub same_store-is : (one other : Store) → same_store one other ≡ true → one ≡ other
unfolding same_store
same_store-is one other e = store_code.inj one other (trees_same (store_code.code one) (store_code.code other) e)

pub same_store-itself : (store : Store) → same_store store store ≡ true
unfolding same_store
same_store-itself store = same_itself (store_code.code store)

-- records that lead back are not kept
pub settled-back : (store : Store) (rs : List Record) → applied store rs ≡ store → settled store rs ≡ []
settled-back store rs back =
    let same : same_store (applied store rs) store ≡ true =
    subst (λ s. same_store s store ≡ true) (sym back) (same_store-itself store) in
    ap (λ t. cond t [] rs) same

-- and others are
pub settled-other : (store : Store) (rs : List Record) → applied store rs ≢ store → settled store rs ≡ rs
settled-other store rs other =
    cond_both (same_store (applied store rs) store) [] rs (λ kept. kept ≡ rs)
    (λ yes. absurd (other (same_store-is (applied store rs) store yes))) (λ no. refl)

pub settled-same : (store : Store) (rs : List Record) → applied store (settled store rs) ≡ applied store rs
settled-same store rs =
    cond_both (same_store (applied store rs) store) [] rs (λ kept. applied store kept ≡ applied store rs)
    (λ yes. sym (same_store-is (applied store rs) store yes)) (λ no. refl)

settled-none : (store : Store) (rs : List Record) → settled store rs ≡ [] → applied store rs ≡ store
settled-none store rs none = sym (settled-same store rs) ∙ ap (applied store) none

pub settled-exactly : (store : Store) (rs : List Record) → (settled store rs ≡ []) ↔ (applied store rs ≡ store)
settled-exactly store rs = (settled-none store rs, settled-back store rs)
