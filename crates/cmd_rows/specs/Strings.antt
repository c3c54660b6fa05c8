-- Strings in the store, and many of them set at once.
use Rattle.std.specs.Prelude.{ℕ, List, [], ◌∷◌, Option, Some, None, Result, Ok, Err}
use Rattle.std.specs.FinMap as finite
use Rattle.resp_reply.specs.declared.reply.Reply.{Reply}
use Rattle.resp_reply.specs.declared.reply.Reply.TheVariants.{Bulk, NullBulk}
use Rattle.ks_space.specs.declared.entry.Entry.{Entry}
use Rattle.ks_space.specs.declared.entry.Value.{Value}
use Rattle.ks_space.specs.declared.entry.Value.TheVariants.{Str}
use Rattle.ks_space.specs.Store.{Store}
use Rattle.fx_record.specs.declared.record.Record.{Record}
use Rattle.fx_record.specs.declared.record.Record.TheVariants.{Set}
use Rattle.cmd_args.specs.declared.refusal.Refusal.{Refusal}
use Rattle.cmd_args.specs.declared.refusal.Refusal.TheVariants.{WrongType}
use Rattle.cmd_rows.specs.Outcomes.{Outcome, with_found}

-- the string that a value is; a value of another kind is refused
abbrev pub string_of : Value → Result (Option (List ℕ)) Refusal
string_of (Str text) = Ok (Some text)
string_of _ = Err WrongType

abbrev pub string_in : Option Entry → Result (Option (List ℕ)) Refusal
string_in (Some entry) = string_of entry.value
string_in None = Ok None

-- the string at a key, none where the key is absent; a key of another kind is refused
abbrev pub string_at : Store → List ℕ → Result (Option (List ℕ)) Refusal
string_at store key = string_in (finite.get store key)

abbrev pub with_string : Store → List ℕ → (Option (List ℕ) → Outcome) → Outcome
with_string store key row = with_found (string_at store key) row

-- a string as it is, and none as the null bulk
abbrev pub bulk_or_null : Option (List ℕ) → Reply
bulk_or_null (Some text) = Bulk text
bulk_or_null None = NullBulk

-- a SET for each pair of a key and a string
abbrev pub sets_of : List (List ℕ) → List Record
sets_of [] = []
sets_of (key ∷ []) = []
sets_of (key ∷ value ∷ words) = Set key value ∷ sets_of words

-- for each pair behind the name
abbrev pub sets_in : List (List ℕ) → List Record
sets_in [] = []
sets_in (name ∷ words) = sets_of words
