-- Where many keys that are set leave a store as it was.
use Rattle.std.proofs.Common.{◌≡◌, ◌↔◌, ℕ, List, [], ◌∷◌, Option, Some, None, inl, inr, refl, sym, ap, ◌∙◌}
use Rattle.std.specs.List.{AllByRecursion}
use Rattle.std.specs.FinMap as finite
use Rattle.ks_value.specs.Fields.{Pairs, value_of, set_field}
use Rattle.ks_value.proofs.FieldLaws.{value_of-set_field, value_of-set_other}
use Rattle.ks_space.specs.Store.{Store, IsShort}
use Rattle.fx_record.specs.declared.record.Record.{Record}
use Rattle.fx_record.specs.declared.record.Record.TheVariants.{Set}
use Rattle.fx_record.specs.Records.{string_entry, applied}
use Rattle.fx_record.specs.RecordWords.{IsRecord}
use Rattle.fx_record.proofs.Stores.{same_or_other, get-insert_same, get-insert_other, same_by_keys}
use Rattle.cmd_rows.specs.Strings.{sets_of, sets_in}
use Rattle.cmd_rows.specs.Sets.{IsSet, Agrees, strings_set}

-- a store has the strings of the pairs, and the rest from the base
record Over (base : Store) (top : Pairs) (all : Store) : Type 0 where
  there : (q text : List ℕ) → value_of top q ≡ Some text → finite.get all q ≡ Some (string_entry text None)
  absent : (q : List ℕ) → value_of top q ≡ None → finite.get all q ≡ finite.get base q

over-start : (base : Store) → Over base [] base
over-start base = record {
  there = λ q text at. absurd (cc);
  absent = λ q none. refl;
}

value_of-same : (top : Pairs) (key value q : List ℕ) → q ≡ key → value_of (set_field top key value) q ≡ Some value
value_of-same top key value q same =
    ap (value_of (set_field top key value)) same ∙ value_of-set_field top key value

over-set : (base all : Store) (top : Pairs) (key value : List ℕ) → Over base top all
    → Over base (set_field top key value) (finite.insert all key (string_entry value None))
over-set base all top key value over = record { there = there; absent = absent }
  where
    there : (q text : List ℕ) → value_of (set_field top key value) q ≡ Some text
        → finite.get (finite.insert all key (string_entry value None)) q ≡ Some (string_entry text None)
    there q text at = elim (same_or_other q key) [
      | inl same ↦
          let is : value ≡ text = let some = value_of-same top key value q same in cc in
          ap (finite.get (finite.insert all key (string_entry value None))) same
          ∙ get-insert_same all key (string_entry value None) ∙ ap (λ t. Some (string_entry t None)) is
      | inr apart ↦ get-insert_other all key (string_entry value None) q apart
          ∙ over.there q text (sym (value_of-set_other top key value q apart) ∙ at)
    ]

    absent : (q : List ℕ) → value_of (set_field top key value) q ≡ None
        → finite.get (finite.insert all key (string_entry value None)) q ≡ finite.get base q
    absent q none = elim (same_or_other q key) [
      | inl same ↦ let some = value_of-same top key value q same in absurd (cc)
      | inr apart ↦ get-insert_other all key (string_entry value None) q apart
          ∙ over.absent q (sym (value_of-set_other top key value q apart) ∙ none)
    ]

over-applied : (base all : Store) (top : Pairs) (rs : List Record) → AllByRecursion IsSet rs → Over base top all
    → Over base (strings_set top rs) (applied all rs)
over-applied base all top [] sets over = over
over-applied base all top (Set key value ∷ rs) sets over =
    over-applied base (finite.insert all key (string_entry value None)) (set_field top key value) rs sets.1
    (over-set base all top key value over)
over-applied base all top (_ ∷ rs) sets over = absurd sets.0

-- what the pairs have, the store has too, where it is what the last pairs have
abbrev Told : Store → Pairs → Pairs → Type 0
Told store last top = (q text : List ℕ) → value_of top q ≡ Some text → value_of last q ≡ Some text
    → finite.get store q ≡ Some (string_entry text None)

told-set : (store : Store) (last top : Pairs) (key value : List ℕ)
    → (value_of last key ≡ Some value → finite.get store key ≡ Some (string_entry value None)) → Told store last top
    → Told store last (set_field top key value)
told-set store last top key value agrees told q text at in_last = elim (same_or_other q key) [
  | inl same ↦
      let is : value ≡ text = let some = value_of-same top key value q same in cc in
      ap (finite.get store) same ∙ agrees (ap (value_of last) (sym same) ∙ in_last ∙ ap (λ t. Some t) (sym is))
      ∙ ap (λ t. Some (string_entry t None)) is
  | inr apart ↦ told q text (sym (value_of-set_other top key value q apart) ∙ at) in_last
]

told-applied : (store : Store) (last top : Pairs) (rs : List Record) → AllByRecursion IsSet rs
    → AllByRecursion (Agrees last store) rs → Told store last top → Told store last (strings_set top rs)
told-applied store last top [] sets agree told = told
told-applied store last top (Set key value ∷ rs) sets agree told =
    told-applied store last (set_field top key value) rs sets.1 agree.1
    (told-set store last top key value agree.0 told)
told-applied store last top (_ ∷ rs) sets agree told = absurd sets.0

module _ (store : Store) (rs : List Record) (sets : AllByRecursion IsSet rs) where
  abbrev last : Pairs
  last = strings_set [] rs

  over : Over store last (applied store rs)
  over = over-applied store store [] rs sets (over-start store)

  back-agree : AllByRecursion (Agrees last store) rs → applied store rs ≡ store
  back-agree agree = same_by_keys (applied store rs) store (λ q. at q (value_of last q) refl)
    where
      told : Told store last last
      told = told-applied store last [] rs sets agree (λ q text at in_last. absurd (cc))

      at : (q : List ℕ) (found : Option (List ℕ)) → value_of last q ≡ found
          → finite.get (applied store rs) q ≡ finite.get store q
      at q None none = over.absent q none
      at q (Some text) some = over.there q text some ∙ sym (told q text some some)

  agree-back : applied store rs ≡ store → AllByRecursion (Agrees last store) rs
  agree-back back = each rs
    where
      one : (r : Record) → Agrees last store r
      one (Set key value) = λ at. sym (ap (λ (s : Store). finite.get s key) back) ∙ over.there key value at
      one _ = tt

      each : (xs : List Record) → AllByRecursion (Agrees last store) xs
      each [] = tt
      each (x ∷ xs) = (one x, each xs)

  -- the keys that are set have what they are set to last already, and only then the store stays
  pub agree-exactly : AllByRecursion (Agrees (strings_set [] rs) store) rs ↔ (applied store rs ≡ store)
  agree-exactly = (back-agree, agree-back)

set-record : (r : Record) → IsSet r → IsRecord r
set-record (Set key value) is = is
set-record _ is = absurd is

pub sets-records : (rs : List Record) → AllByRecursion IsSet rs → AllByRecursion IsRecord rs
sets-records [] sets = tt
sets-records (r ∷ rs) sets = (set-record r sets.0, sets-records rs sets.1)

-- short words make SETs that a store may hold
pub sets_of-within : (words : List (List ℕ)) → AllByRecursion IsShort words → AllByRecursion IsSet (sets_of words)
sets_of-within [] short = tt
sets_of-within (key ∷ []) short = tt
sets_of-within (key ∷ value ∷ words) short = ((short.0, short.1.0), sets_of-within words short.1.1)

pub sets_in-within : (words : List (List ℕ)) → AllByRecursion IsShort words → AllByRecursion IsSet (sets_in words)
sets_in-within [] short = tt
sets_in-within (name ∷ words) short = sets_of-within words short.1
