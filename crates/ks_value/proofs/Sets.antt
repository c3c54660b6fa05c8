-- Sets of strings in byte order.
use Rattle.std.proofs.Common.{◌≡◌, ◌≢◌, ◌↔◌, ℕ, ◌<◌, Bool, true, false, cond, ◌||◌, IsTrue, List, [], ◌∷◌, Some, None}
use Rattle.std.proofs.Common.{Contains, length, refl, sym, ap, ◌∙◌, insert, remove, slice_get}
use Rattle.std.specs.BTreeSet.{insert_key}
use Rattle.std.specs.Cmp.Lexicographic.{texts_ties, bytes_decides}
use Rattle.std.specs.List.{AllByRecursion, list_any}
use Rattle.std.specs.List.Sorted.{IsPartitionedBy}
use Rattle.std.specs.Option.{option_map_or}
use Rattle.std.specs.Ordering.{is_eq, is_lt, eq_by_cmp, match_ordering}
use Rattle.std.specs.Set.{remove_key}
use Rattle.std.specs.Str.{bytes_eq}
use Rattle.std.specs.declared.cmp.Ordering.TheVariants.{Less, Equal, Greater}
use Rattle.std.proofs.lemmas.Bool.{true≢false}
use Rattle.std.proofs.lemmas.Cmp.{nat_list_eq_equiv}
use Rattle.std.proofs.lemmas.List.Quantifiers.{position-Some}
use Rattle.std.proofs.lemmas.Map.Keys.{sorted_tail, any_passes_from_place}
use Rattle.std.proofs.lemmas.Map.Views.{Contains-from_any, list_any-from_Contains}
use Rattle.std.proofs.lemmas.Option.{slice_get-get_or}
use Rattle.ks_tree.specs.Order.{bytes_cmp}
use Rattle.ks_tree.proofs.ByteOrder.{bytes_total, bytes_exact}
use Rattle.ks_tree.proofs.Order.{has, lacks_first, sorted-insert_key, sorted-remove_key, has-insert_key}
use Rattle.ks_tree.proofs.Order.{has-remove_key, same_items}
use Rattle.ks_tree.proofs.Places.{place_of, parted_before, place_within, insert_at_place, remove_at_place}
use Rattle.ks_tree.proofs.Places.{position_found}
use Rattle.ks_value.proofs.FieldLaws.{apart}
use Rattle.ks_value.specs.Members.{IsAscending, is_member, insert_member, remove_member}

-- two strings tie in byte order exactly where they are equal
is_member-has : (members : List (List ℕ)) (member : List ℕ) → is_member members member ≡ has bytes_cmp members member
is_member-has members member = λ i. list_any (λ known. texts_ties member known i) members

remove_member-key : (members : List (List ℕ)) (member : List ℕ)
    → remove_member members member ≡ remove_key (eq_by_cmp bytes_cmp member) members
remove_member-key members member = λ i. remove_key (λ known. texts_ties member known i) members

-- ---- a member at its place
-- what stands at a place
abbrev pub stands : List (List ℕ) → ℕ → List ℕ → Bool
stands members at member = option_map_or (λ known. bytes_eq known member) (slice_get members at) false

same-test : (member : List ℕ) (members : List (List ℕ))
    → AllByRecursion (λ known. eq_by_cmp bytes_cmp member known ≡ eq_by_cmp bytes_cmp member known) members
same-test member [] = tt
same-test member (known ∷ members) = (refl, same-test member members)

-- an absent member stands at no place
stands-absent : (members : List (List ℕ)) (at : ℕ) (member : List ℕ) → is_member members member ≡ false
    → stands members at member ≡ false
stands-absent members at member absent =
    elim (slice_get members at) as (λ found. slice_get members at ≡ found
    → option_map_or (λ known. bytes_eq known member) found false ≡ false) [
      | None ↦ λ e. refl
      | Some known ↦ λ e. elim (bytes_eq known member) as (λ b. bytes_eq known member ≡ b → b ≡ false) [
        | true ↦ λ same. absurd (true≢false
            (sym (any_passes_from_place (bytes_eq member) members at known e (nat_list_eq_equiv.symm member known
            ∙ same)) ∙ absent))
        | false ↦ λ other. refl
      ] refl
    ] refl

-- a member stands at its place exactly where it is there
stands-member : (members : List (List ℕ)) (member : List ℕ) → IsAscending members
    → stands members (place_of bytes_cmp members member) member ≡ is_member members member
stands-member members member rising =
    elim (is_member members member) as (λ b. is_member members member ≡ b
    → stands members (place_of bytes_cmp members member) member ≡ b) [
      | true ↦ λ here.
          let at = place_of bytes_cmp members member in
          let found = position-Some (eq_by_cmp bytes_cmp member) members at member
          (position_found bytes_total (eq_by_cmp bytes_cmp member) member members rising
          (sym (is_member-has members member) ∙ here) (same-test member members)) in
          ap (λ known. option_map_or (λ known. bytes_eq known member) known false)
          (slice_get-get_or members at member found.0) ∙ nat_list_eq_equiv.symm _ member ∙ texts_ties member _
          ∙ found.1
      | false ↦ λ absent. stands-absent members (place_of bytes_cmp members member) member absent
    ] refl

insert_key-present : (member : List ℕ) (members : List (List ℕ)) → IsAscending members
    → has bytes_cmp members member ≡ true → insert_key bytes_cmp members member ≡ members
insert_key-present member [] rising present = absurd (true≢false (sym present))
insert_key-present member (known ∷ members) rising present =
    elim (bytes_cmp member known) as (λ r. bytes_cmp member known ≡ r → (is_eq r || has bytes_cmp members member) ≡ true
    → match_ordering r (member ∷ known ∷ members) (known ∷ members) (known ∷ insert_key bytes_cmp members member)
    ≡ known ∷ members) [
      | Less ↦ λ e there. absurd (true≢false (sym present ∙ lacks_first bytes_total member known members rising e))
      | Equal ↦ λ e there. refl
      | Greater ↦ λ e there. ap (λ rest. known ∷ rest)
          (insert_key-present member members (sorted_tail bytes_cmp known members rising) there)
    ] refl present

remove_key-absent : (test : List ℕ → Bool) (members : List (List ℕ)) → list_any test members ≡ false
    → remove_key test members ≡ members
remove_key-absent test [] absent = refl
remove_key-absent test (known ∷ members) absent =
    elim (test known) as (λ b. (b || list_any test members) ≡ false
    → cond b members (known ∷ remove_key test members) ≡ known ∷ members) [
      | true ↦ λ e. absurd (true≢false e)
      | false ↦ λ e. ap (λ rest. known ∷ rest) (remove_key-absent test members e)
    ] absent

-- what was found of a member, and where
module _ (members : List (List ℕ)) (member text : List ℕ) (at : ℕ) (answer : Bool) (rising : IsAscending members)
    (text_is : text ≡ member) (at_is : at ≡ place_of bytes_cmp members text)
    (answer_is : answer ≡ stands members at text) where
  place_is : at ≡ place_of bytes_cmp members member
  place_is = at_is ∙ ap (place_of bytes_cmp members) text_is

  pub is_member-stands : answer ≡ is_member members member
  is_member-stands = answer_is ∙ ap (stands members at) text_is ∙ ap (λ i. stands members i member) place_is
      ∙ stands-member members member rising

  has-answer : has bytes_cmp members member ≡ answer
  has-answer = sym (is_member-has members member) ∙ sym is_member-stands

  pub insert_member-at : answer ≡ false → insert members at member ≡ insert_member members member
  insert_member-at absent = ap (λ i. insert members i member) place_is
      ∙ insert_at_place bytes_total member members rising (has-answer ∙ absent)

  pub insert_member-present : answer ≡ true → insert_member members member ≡ members
  insert_member-present present = insert_key-present member members rising (has-answer ∙ present)

  pub remove_member-at : answer ≡ true → remove members at ≡ remove_member members member
  remove_member-at present = ap (remove members) place_is
      ∙ remove_at_place bytes_total member members rising (has-answer ∙ present)
      ∙ sym (remove_member-key members member)

  pub remove_member-absent : answer ≡ false → remove_member members member ≡ members
  remove_member-absent absent = remove_key-absent (bytes_eq member) members (sym is_member-stands ∙ absent)

  pub within-stands : answer ≡ true → at < length members
  within-stands present = rw place_is (place_within bytes_total member members rising (has-answer ∙ present))

-- members below this one stand before the others
pub below-partitioned : (members : List (List ℕ)) (member : List ℕ) → IsAscending members
    → IsPartitionedBy (λ known. is_lt (bytes_cmp known member)) members
below-partitioned members member = parted_before bytes_total member members

-- ---- membership
inserted : (members : List (List ℕ)) (member other : List ℕ) (b : Bool) → bytes_eq other member ≡ b
    → is_member (insert_member members member) other ≡ (b || is_member members other)
inserted members member other b e =
    is_member-has (insert_member members member) other ∙ has-insert_key bytes_total member members other
    ∙ ap (λ b. b || has bytes_cmp members other) (sym (texts_ties other member) ∙ e)
    ∙ ap (λ c. b || c) (sym (is_member-has members other))

pub is_member-inserted : (members : List (List ℕ)) (member : List ℕ)
    → is_member (insert_member members member) member ≡ true
is_member-inserted members member = inserted members member member true (nat_list_eq_equiv.refl member)

pub is_member-insert_other : (members : List (List ℕ)) (member other : List ℕ) → other ≢ member
    → is_member (insert_member members member) other ≡ is_member members other
is_member-insert_other members member other differ = inserted members member other false (apart member other differ)

removed : (members : List (List ℕ)) (member other : List ℕ) (b : Bool) → IsAscending members
    → bytes_eq member other ≡ b → is_member (remove_member members member) other
    ≡ cond b false (is_member members other)
removed members member other b rising e =
    ap (λ rest. is_member rest other) (remove_member-key members member)
    ∙ is_member-has (remove_key (eq_by_cmp bytes_cmp member) members) other
    ∙ has-remove_key bytes_total bytes_exact member members other rising
    ∙ ap (λ b. cond b false (has bytes_cmp members other)) (sym (texts_ties member other) ∙ e)
    ∙ ap (cond b false) (sym (is_member-has members other))

pub is_member-removed : (members : List (List ℕ)) (member : List ℕ) → IsAscending members
    → is_member (remove_member members member) member ≡ false
is_member-removed members member rising = removed members member member true rising (nat_list_eq_equiv.refl member)

pub is_member-remove_other : (members : List (List ℕ)) (member other : List ℕ) → IsAscending members → other ≢ member
    → is_member (remove_member members member) other ≡ is_member members other
is_member-remove_other members member other rising differ =
    removed members member other false rising (nat_list_eq_equiv.symm member other ∙ apart member other differ)

pub IsAscending-insert_member : (members : List (List ℕ)) (member : List ℕ) → IsAscending members
    → IsAscending (insert_member members member)
IsAscending-insert_member members member = sorted-insert_key bytes_total member members

pub IsAscending-remove_member : (members : List (List ℕ)) (member : List ℕ) → IsAscending members
    → IsAscending (remove_member members member)
IsAscending-remove_member members member = sorted-remove_key bytes_total (bytes_eq member) members

pub same-members : (one two : List (List ℕ)) → IsAscending one → IsAscending two
    → ((member : List ℕ) → is_member one member ≡ is_member two member) → one ≡ two
same-members one two rising also same =
    same_items bytes_total bytes_exact one two rising also (λ member. sym (is_member-has one member) ∙ same member
    ∙ is_member-has two member)

pub is_member-Contains : (members : List (List ℕ)) (member : List ℕ)
    → IsTrue (is_member members member) ↔ Contains members member
is_member-Contains members member = (
  λ h. Contains-from_any (λ x y. (bytes_decides x y).0) member members h,
  list_any-from_Contains nat_list_eq_equiv member members,
)
