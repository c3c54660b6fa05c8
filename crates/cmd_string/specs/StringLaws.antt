-- What the laws of the commands on strings speak of.
use Rattle.std.specs.Prelude.{◌≡◌, ◌≢◌, ℕ, true, List, [], ◌∷◌, Option, Some, None, Ok, if◌then◌else◌, codes, bytes_eq}
use Rattle.std.specs.Option.{option_or}
use Rattle.std.specs.FinMap as finite
use Rattle.resp_reply.specs.declared.reply.Reply.{Reply}
use Rattle.resp_reply.specs.declared.reply.Reply.TheVariants.{Bulk}
use Rattle.ks_space.specs.declared.entry.Entry.{Entry}
use Rattle.ks_space.specs.declared.entry.Value.TheVariants.{Str}
use Rattle.ks_space.specs.Store.{Store, deadline_at}
use Rattle.cmd_args.specs.declared.commands.StringCmd.{StringCmd}
use Rattle.cmd_args.specs.declared.commands.StringCmd.TheVariants.{Get}
use Rattle.cmd_rows.specs.declared.times.Expiry.{Expiry}
use Rattle.cmd_rows.specs.declared.times.Expiry.TheVariants.{InSeconds, InMillis, AtSecond, AtMillis}
use Rattle.cmd_rows.specs.Outcomes.{answers, ok, left_by}
use Rattle.cmd_rows.specs.Strings.{bulk_or_null}
use Rattle.cmd_rows.specs.Worlds.{World}
use Rattle.cmd_string.specs.declared.options.SetOptions.{SetOptions}
use Rattle.cmd_string.specs.Options.{set_options, is_met}
use Rattle.cmd_string.specs.StringRows.{old_string}
use Rattle.cmd_string.specs.StringRows.{string_row}

-- the store after a command
abbrev pub after : World → StringCmd → List (List ℕ) → Store
after world id words = left_by world.store (string_row world id words)

-- on this store GET gives the string, at whatever time and by whatever name; the string stays until the deadline, or for
-- ever
pub record Gives (store : Store) (key text : List ℕ) (deadline : Option ℕ) : Type 0 where
  pub get : (world : World) (name : List ℕ) → world.store ≡ store
      → string_row world Get (name ∷ key ∷ []) ≡ answers (Bulk text)
  pub deadline_is : deadline_at store key ≡ deadline

-- SET with these words writes: its options are these, the key is as they ask for it to be, and where GET stands the
-- old string is this one, or none
pub record Writes (store : Store) (key : List ℕ) (words : List (List ℕ)) (options : SetOptions)
    (old : Option (List ℕ)) : Type 0 where
  pub options_are : set_options words ≡ Ok options
  pub is_asked_for : is_met options.condition (finite.contains_key store key) ≡ true
  pub old_is : old_string store key options.get ≡ Ok old

-- what it answers then
abbrev pub written_reply : SetOptions → Option (List ℕ) → Reply
written_reply options old = if options.get then bulk_or_null old else ok

-- the option whose number is of this kind
abbrev pub expiry_word : Expiry → List ℕ
expiry_word InSeconds = codes "EX"
expiry_word InMillis = codes "PX"
expiry_word AtSecond = codes "EXAT"
expiry_word AtMillis = codes "PXAT"

-- the string of the last pair of a key
abbrev pub last_string : List ℕ → List (List ℕ) → Option (List ℕ)
last_string key [] = None
last_string key (other ∷ []) = None
last_string key (other ∷ value ∷ pairs) =
    option_or (last_string key pairs) (if bytes_eq other key then Some value else None)

-- the key holds a value that is no string
pub record IsOtherKind (store : Store) (key : List ℕ) : Type 0 where
  pub entry : Entry
  pub is_there : finite.get store key ≡ Some entry
  pub is_no_string : (text : List ℕ) → entry.value ≢ Str text
