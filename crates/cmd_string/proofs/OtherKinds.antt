-- What a command on strings reads, by the entry at the key.
use Rattle.std.proofs.Common.{◌≡◌, ◌≢◌, ℕ, true, cond, ℤ, List, [], ◌∷◌, Option, Some, Ok, Err, refl, ap, ◌∙◌}
use Rattle.std.specs.Prelude.{codes}
use Rattle.std.specs.Option.{unwrap_or}
use Rattle.std.specs.FinMap as finite
use Rattle.ks_space.specs.declared.entry.Entry.{Entry}
use Rattle.ks_space.specs.declared.entry.Value.{Value}
use Rattle.ks_space.specs.declared.entry.Value.TheVariants as value
use Rattle.ks_space.specs.Store.{Store}
use Rattle.fx_record.specs.declared.record.Record.{Record}
use Rattle.cmd_args.specs.declared.refusal.Refusal.TheVariants.{WrongType}
use Rattle.cmd_rows.specs.Numbers.{number}
use Rattle.cmd_rows.specs.Outcomes.{Outcome, answers, does, refused, with_found, then_found, ok}
use Rattle.cmd_rows.specs.Strings.{string_of, string_in, string_at, with_string, bulk_or_null}
use Rattle.cmd_rows.proofs.Walk.{by_refusal}
use Rattle.cmd_string.specs.declared.options.SetOptions.{SetOptions}
use Rattle.cmd_string.specs.Options.{set_options, set_effect, is_met}
use Rattle.cmd_string.specs.StringLaws.{IsOtherKind}
use Rattle.cmd_string.specs.StringRows.{old_string, set_row, integer_at, fitting, kept_row, counted_row}

-- a string
pub string-there : (store : Store) (key text : List ℕ) (entry : Entry) → finite.get store key ≡ Some entry
    → entry.value ≡ value.Str text
    → string_at store key ≡ Ok (Some text)
string-there store key text entry there is = ap string_in there ∙ ap string_of is

-- a value of another kind
no_string : (v : Value) → ((text : List ℕ) → v ≢ value.Str text) → string_of v ≡ Err WrongType
no_string (value.Str text) none = absurd (none text refl)
no_string (value.List items) none = refl
no_string (value.Hash pairs) none = refl
no_string (value.Set members) none = refl
no_string (value.Sorted scores) none = refl

module _ (store : Store) (key : List ℕ) (other : IsOtherKind store key) where
  pub other_kind : string_at store key ≡ Err WrongType
  other_kind = ap string_in other.is_there ∙ no_string other.entry.value other.is_no_string

  pub other_kind-row : (row : Option (List ℕ) → Outcome) → with_string store key row ≡ refused WrongType
  other_kind-row row = by_refusal (string_at store key) row WrongType other_kind

  pub other_kind-counted : (change : ℤ → ℤ) → counted_row store key change ≡ refused WrongType
  other_kind-counted change =
      by_refusal (integer_at store key) (λ n. with_found (fitting (change n)) (kept_row key)) WrongType
      (ap (λ f. then_found f (λ text. number (unwrap_or text (codes "0")))) other_kind)

  -- SET with GET
  pub other_kind-set : (now : ℕ) (value : List ℕ) (words : List (List ℕ)) (options : SetOptions) (effect : Record)
      → set_options words ≡ Ok options → options.get ≡ true → set_effect now key value options.lasting ≡ Ok effect
      → set_row store now key value words ≡ refused WrongType
  other_kind-set now value words options effect read get is =
      ap (λ r. with_found r options_row) read ∙ ap (λ r. with_found r (effect_row options)) is
      ∙ ap (λ b. with_found (old_string store key b) (old_row options effect)) get
      ∙ ap (λ r. with_found r (old_row options effect)) other_kind
    where
      old_row : SetOptions → Record → Option (List ℕ) → Outcome
      old_row os r o =
          cond (is_met os.condition (finite.contains_key store key)) (does (cond os.get (bulk_or_null o) ok) (r ∷ []))
          (answers (bulk_or_null o))

      effect_row : SetOptions → Record → Outcome
      effect_row os r = with_found (old_string store key os.get) (old_row os r)

      options_row : SetOptions → Outcome
      options_row os = with_found (set_effect now key value os.lasting) (effect_row os)
