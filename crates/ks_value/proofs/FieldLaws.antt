-- What setting and removing a field does to a hash.
use Rattle.std.proofs.Common.{◌≡◌, ◌≢◌, ℕ, true, false, cond, not, filter, List, [], ◌∷◌, ◌++◌, Some, None, IsSome}
use Rattle.std.proofs.Common.{refl, sym, ap, ◌∙◌, if◌then◌else◌}
use Rattle.std.specs.Cmp.Lexicographic.{bytes_decides}
use Rattle.std.specs.List.{AllByRecursion, IsDistinct}
use Rattle.std.specs.Str.{bytes_eq}
use Rattle.std.proofs.lemmas.Bool.{true≢false}
use Rattle.std.proofs.lemmas.Cmp.{nat_list_eq_equiv}
use Rattle.ks_value.specs.Fields.{Pairs, fields, HasDistinctFields, value_of, set_field, remove_field}

equal-itself : (field : List ℕ) → bytes_eq field field ≡ true
equal-itself = nat_list_eq_equiv.refl

pub apart : (field other : List ℕ) → other ≢ field → bytes_eq other field ≡ false
apart field other differ = elim (bytes_eq other field) as (λ b. bytes_eq other field ≡ b → b ≡ false)
    [ true ↦ λ e. absurd (differ ((bytes_decides other field).0 e)) | false ↦ λ e. refl ] refl

-- a field that is equal to another one is told from every third as that one
as-other : (field known other : List ℕ) → other ≢ field → bytes_eq field known ≡ true → bytes_eq other known ≡ false
as-other field known other differ e = ap (bytes_eq other) (sym ((bytes_decides field known).0 e))
    ∙ apart field other differ

pub value_of-set_field : (pairs : Pairs) (field value : List ℕ)
    → value_of (set_field pairs field value) field ≡ Some value
value_of-set_field [] field value = ap (λ b. cond b (Some value) None) (equal-itself field)
value_of-set_field (p ∷ pairs) field value =
    elim (bytes_eq field p.0) as (λ b. bytes_eq field p.0 ≡ b
    → value_of (if b then (p.0, value) ∷ pairs else p ∷ set_field pairs field value) field ≡ Some value) [
      | true ↦ λ e. ap (λ b. cond b (Some value) (value_of pairs field)) e
      | false ↦ λ e. ap (λ b. cond b (Some p.1) (value_of (set_field pairs field value) field)) e
          ∙ value_of-set_field pairs field value
    ] refl

pub value_of-set_other : (pairs : Pairs) (field value other : List ℕ) → other ≢ field
    → value_of (set_field pairs field value) other ≡ value_of pairs other
value_of-set_other [] field value other differ = ap (λ b. cond b (Some value) None) (apart field other differ)
value_of-set_other (p ∷ pairs) field value other differ =
    elim (bytes_eq field p.0) as (λ b. bytes_eq field p.0 ≡ b
    → value_of (if b then (p.0, value) ∷ pairs else p ∷ set_field pairs field value) other
    ≡ value_of (p ∷ pairs) other) [
      | true ↦ λ e. let no = as-other field p.0 other differ e in
          ap (λ b. cond b (Some value) (value_of pairs other)) no
          ∙ sym (ap (λ b. cond b (Some p.1) (value_of pairs other)) no)
      | false ↦ λ e. ap (cond (bytes_eq other p.0) (Some p.1)) (value_of-set_other pairs field value other differ)
    ] refl

pub fields-set_present : (pairs : Pairs) (field value : List ℕ) → IsSome (value_of pairs field)
    → fields (set_field pairs field value) ≡ fields pairs
fields-set_present [] field value present = absurd (true≢false (sym present))
fields-set_present (p ∷ pairs) field value present =
    elim (bytes_eq field p.0) as (λ b. IsSome (cond b (Some p.1) (value_of pairs field))
    → fields (if b then (p.0, value) ∷ pairs else p ∷ set_field pairs field value) ≡ fields (p ∷ pairs)) [
      | true ↦ λ h. refl
      | false ↦ λ h. ap (λ fs. p.0 ∷ fs) (fields-set_present pairs field value h)
    ] present

pub set_field-absent : (pairs : Pairs) (field value : List ℕ) → value_of pairs field ≡ None
    → set_field pairs field value ≡ pairs ++ (field, value) ∷ []
set_field-absent [] field value absent = refl
set_field-absent (p ∷ pairs) field value absent =
    elim (bytes_eq field p.0) as (λ b. cond b (Some p.1) (value_of pairs field) ≡ None
    → (if b then (p.0, value) ∷ pairs else p ∷ set_field pairs field value) ≡ p ∷ (pairs ++ (field, value) ∷ [])) [
      | true ↦ λ h. cc
      | false ↦ λ h. ap (λ ps. p ∷ ps) (set_field-absent pairs field value h)
    ] absent

-- no field behind one that is equal to it
none-behind : (field : List ℕ) (pairs : Pairs) (known : List ℕ) → bytes_eq field known ≡ true
    → AllByRecursion (λ y. bytes_eq known y ≡ false) (fields pairs) → value_of pairs field ≡ None
none-behind field [] known e h = refl
none-behind field (p ∷ pairs) known e h =
    ap (λ b. cond b (Some p.1) (value_of pairs field)) (nat_list_eq_equiv.congr field known p.0 e ∙ h.0)
    ∙ none-behind field pairs known e h.1

kept-behind : (field : List ℕ) (pairs : Pairs) (known : List ℕ) → bytes_eq field known ≡ true
    → AllByRecursion (λ y. bytes_eq known y ≡ false) (fields pairs)
    → filter (λ p. not (bytes_eq field p.0)) pairs ≡ pairs
kept-behind field [] known e h = refl
kept-behind field (p ∷ pairs) known e h =
    ap (λ b. cond (not b) (p ∷ filter (λ p. not (bytes_eq field p.0)) pairs)
    (filter (λ p. not (bytes_eq field p.0)) pairs)) (nat_list_eq_equiv.congr field known p.0 e ∙ h.0)
    ∙ ap (λ ps. p ∷ ps) (kept-behind field pairs known e h.1)

pub value_of-remove_field : (pairs : Pairs) (field : List ℕ) → HasDistinctFields pairs
    → value_of (remove_field pairs field) field ≡ None
unfolding IsDistinct
value_of-remove_field [] field distinct = refl
value_of-remove_field (p ∷ pairs) field distinct =
    elim (bytes_eq field p.0) as (λ b. bytes_eq field p.0 ≡ b
    → value_of (cond b pairs (p ∷ remove_field pairs field)) field ≡ None) [
      | true ↦ λ e. none-behind field pairs p.0 e distinct.0
      | false ↦ λ e. ap (λ b. cond b (Some p.1) (value_of (remove_field pairs field) field)) e
          ∙ value_of-remove_field pairs field distinct.1
    ] refl

pub value_of-remove_other : (pairs : Pairs) (field other : List ℕ) → other ≢ field
    → value_of (remove_field pairs field) other ≡ value_of pairs other
value_of-remove_other [] field other differ = refl
value_of-remove_other (p ∷ pairs) field other differ =
    elim (bytes_eq field p.0) as (λ b. bytes_eq field p.0 ≡ b
    → value_of (cond b pairs (p ∷ remove_field pairs field)) other ≡ value_of (p ∷ pairs) other) [
      | true ↦ λ e. sym (ap (λ b. cond b (Some p.1) (value_of pairs other)) (as-other field p.0 other differ e))
      | false ↦ λ e. ap (cond (bytes_eq other p.0) (Some p.1)) (value_of-remove_other pairs field other differ)
    ] refl

pub remove_field-filter : (pairs : Pairs) (field : List ℕ) → HasDistinctFields pairs
    → remove_field pairs field ≡ filter (λ p. not (bytes_eq field p.0)) pairs
unfolding IsDistinct
remove_field-filter [] field distinct = refl
remove_field-filter (p ∷ pairs) field distinct =
    elim (bytes_eq field p.0) as (λ b. bytes_eq field p.0 ≡ b
    → cond b pairs (p ∷ remove_field pairs field)
    ≡ cond (not b) (p ∷ filter (λ p. not (bytes_eq field p.0)) pairs)
    (filter (λ p. not (bytes_eq field p.0)) pairs)) [
      | true ↦ λ e. sym (kept-behind field pairs p.0 e distinct.0)
      | false ↦ λ e. ap (λ ps. p ∷ ps) (remove_field-filter pairs field distinct.1)
    ] refl

pub set_field-removed : (pairs : Pairs) (field value : List ℕ) → HasDistinctFields pairs
    → set_field (remove_field pairs field) field value ≡ remove_field pairs field ++ (field, value) ∷ []
set_field-removed pairs field value distinct =
    set_field-absent (remove_field pairs field) field value (value_of-remove_field pairs field distinct)

above-set : (known field value : List ℕ) (pairs : Pairs) → bytes_eq known field ≡ false
    → AllByRecursion (λ y. bytes_eq known y ≡ false) (fields pairs)
    → AllByRecursion (λ y. bytes_eq known y ≡ false) (fields (set_field pairs field value))
above-set known field value [] e h = (e, h)
above-set known field value (p ∷ pairs) e h =
    elim (bytes_eq field p.0) as (λ b.
    AllByRecursion (λ y. bytes_eq known y ≡ false)
    (fields (if b then (p.0, value) ∷ pairs else p ∷ set_field pairs field value))) [
      | true ↦ h
      | false ↦ (h.0, above-set known field value pairs e h.1)
    ]

pub HasDistinctFields-set_field : (pairs : Pairs) (field value : List ℕ) → HasDistinctFields pairs
    → HasDistinctFields (set_field pairs field value)
unfolding IsDistinct
HasDistinctFields-set_field [] field value distinct = (tt, tt)
HasDistinctFields-set_field (p ∷ pairs) field value distinct =
    elim (bytes_eq field p.0) as (λ b. bytes_eq field p.0 ≡ b
    → HasDistinctFields (if b then (p.0, value) ∷ pairs else p ∷ set_field pairs field value)) [
      | true ↦ λ e. distinct
      | false ↦ λ e. (
        above-set p.0 field value pairs (nat_list_eq_equiv.symm p.0 field ∙ e) distinct.0,
        HasDistinctFields-set_field pairs field value distinct.1,
      )
    ] refl

above-removed : (known field : List ℕ) (pairs : Pairs) → AllByRecursion (λ y. bytes_eq known y ≡ false) (fields pairs)
    → AllByRecursion (λ y. bytes_eq known y ≡ false) (fields (remove_field pairs field))
above-removed known field [] h = h
above-removed known field (p ∷ pairs) h =
    elim (bytes_eq field p.0) as (λ b.
    AllByRecursion (λ y. bytes_eq known y ≡ false) (fields (cond b pairs (p ∷ remove_field pairs field)))) [
      | true ↦ h.1
      | false ↦ (h.0, above-removed known field pairs h.1)
    ]

pub HasDistinctFields-remove_field : (pairs : Pairs) (field : List ℕ) → HasDistinctFields pairs
    → HasDistinctFields (remove_field pairs field)
unfolding IsDistinct
HasDistinctFields-remove_field [] field distinct = distinct
HasDistinctFields-remove_field (p ∷ pairs) field distinct =
    elim (bytes_eq field p.0) as (λ b. HasDistinctFields (cond b pairs (p ∷ remove_field pairs field))) [
      | true ↦ distinct.1
      | false ↦ (above-removed p.0 field pairs distinct.0, HasDistinctFields-remove_field pairs field distinct.1)
    ]
