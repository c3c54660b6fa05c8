-- The records of a command.
use Rattle.std.proofs.Common.{◌≡◌, ◌↔◌, ℕ, true, false, cond, List, [], ◌∷◌, Option, Some, None, refl, sym, ◌∙◌}
use Rattle.std.specs.List.{AllByRecursion}
use Rattle.ks_space.specs.Store.{Store, IsShort}
use Rattle.fx_record.specs.declared.record.Record.{Record}
use Rattle.fx_record.specs.Records.{applied}
use Rattle.fx_record.specs.RecordWords.{IsRecord}
use Rattle.fx_record.specs.Timely.{IsTimelyRecord}
use Rattle.fx_record.specs.Settled.{same_store, settled}
use Rattle.cmd_args.specs.declared.commands.CmdId.{CmdId}
use Rattle.cmd_args.specs.declared.commands.CmdId.TheVariants as family
use Rattle.cmd_args.specs.declared.commands.ServerCmd.{ServerCmd}
use Rattle.cmd_args.specs.declared.commands.StringCmd.{StringCmd}
use Rattle.cmd_args.specs.declared.commands.KeyCmd.{KeyCmd}
use Rattle.cmd_args.specs.declared.commands.Row.{Row}
use Rattle.cmd_args.specs.declared.refusal.Refusal.{Refusal}
use Rattle.cmd_args.specs.declared.turn.Mode.{Mode}
use Rattle.cmd_args.specs.Table.{row_named}
use Rattle.cmd_rows.specs.Outcomes.{Outcome}
use Rattle.cmd_rows.specs.Bounds.{AreTimelyWithin}
use Rattle.cmd_rows.specs.Worlds.{World}
use Rattle.cmd_string.specs.StringRows.{string_row}
use Rattle.cmd_keys.specs.ServerRows.{server_row}
use Rattle.cmd_keys.specs.KeyRows.{key_row}
use Rattle.cmd_exec.specs.Exec.{row_outcome, unless_refused, outcome_of, reason, given, exec}
use Rattle.cmd_exec.proofs.Refusing.{words_short}

-- records that keep to both keep to each
pub limits : (time : ℕ) (records : List Record) → AreTimelyWithin time records → AllByRecursion IsRecord records
limits time [] h = tt
limits time (one ∷ records) h = (h.0.0, limits time records h.1)

pub times : (time : ℕ) (records : List Record) → AreTimelyWithin time records
    → AllByRecursion (IsTimelyRecord time) records
times time [] h = tt
times time (one ∷ records) h = (h.0.1, times time records h.1)

unless_within : (time : ℕ) (why : Option Refusal) (outcome : Outcome)
    → (why ≡ None → AreTimelyWithin time outcome.records) → AreTimelyWithin time (unless_refused why outcome).records
unless_within time (Some why) outcome h = tt
unless_within time None outcome h = h refl

settled_within : (time : ℕ) (store : Store) (records : List Record) → AreTimelyWithin time records
    → AreTimelyWithin time (settled store records)
settled_within time store records within =
    elim (same_store (applied store records) store) as (λ b. AreTimelyWithin time (cond b [] records))
    [ true ↦ tt | false ↦ within ]

module _ (strings_within : (world : World) (id : StringCmd) (words : List (List ℕ)) → AllByRecursion IsShort words
    → AreTimelyWithin world.time (string_row world id words).records)
    (server_within : (world : World) (id : ServerCmd) (words : List (List ℕ))
    → AreTimelyWithin world.time (server_row world id words).records)
    (keys_within : (world : World) (id : KeyCmd) (words : List (List ℕ)) → AllByRecursion IsShort words
    → AreTimelyWithin world.time (key_row world id words).records) where
  row_within : (world : World) (id : CmdId) (words : List (List ℕ)) → AllByRecursion IsShort words
      → AreTimelyWithin world.time (row_outcome world id words).records
  unfolding row_outcome
  row_within world (family.Client id) words short = tt
  row_within world (family.Server id) words short = server_within world id words
  row_within world (family.Strings id) words short = strings_within world id words short
  row_within world (family.Keys id) words short = keys_within world id words short

  named_within : (world : World) (mode : Mode) (row : Option Row) (name : List ℕ) (words : List (List ℕ))
      → AreTimelyWithin world.time (outcome_of world mode row name words).records
  named_within world mode None name words = tt
  named_within world mode (Some row) name words =
      unless_within world.time (reason mode row words) (row_outcome world row.id words)
      (λ none. row_within world row.id words (words_short mode row words none))

  given_within : (world : World) (mode : Mode) (words : List (List ℕ))
      → AreTimelyWithin world.time (given world mode words).records
  given_within world mode [] = tt
  given_within world mode (name ∷ words) = named_within world mode (row_named name) name (name ∷ words)

  pub exec_within : (world : World) (mode : Mode) (words : List (List ℕ))
      → AreTimelyWithin world.time (exec world mode words).records
  unfolding exec
  exec_within world mode words =
      settled_within world.time world.store (given world mode words).records (given_within world mode words)

module _ (same : (store : Store) (records : List Record)
    → applied store (settled store records) ≡ applied store records)
    (none : (store : Store) (records : List Record)
    → (settled store records ≡ []) ↔ (applied store records ≡ store)) where
  pub exec_none : (world : World) (mode : Mode) (words : List (List ℕ))
      → ((exec world mode words).records ≡ []) ↔ (applied world.store (exec world mode words).records ≡ world.store)
  unfolding exec
  exec_none world mode words =
      let records = (given world mode words).records in (
        λ e. same world.store records ∙ (none world.store records).0 e,
        λ e. (none world.store records).1 (sym (same world.store records) ∙ e),
      )
