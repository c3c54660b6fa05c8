-- One command: what it answers and does (Redis manual, command by command), and the order in which it is refused.
use Rattle.std.specs.Prelude.{ℕ, Bool, true, false, not, ◌&&◌, ◌||◌, if◌then◌else◌, List, [], ◌∷◌, Option}
use Rattle.std.specs.Prelude.{Some, None}
use Rattle.cmd_args.specs.declared.commands.CmdId.{CmdId}
use Rattle.cmd_args.specs.declared.commands.CmdId.TheVariants as family
use Rattle.cmd_args.specs.declared.commands.Row.{Row}
use Rattle.cmd_args.specs.declared.refusal.Refusal.{Refusal}
use Rattle.cmd_args.specs.declared.refusal.Refusal.TheVariants.{NoWord, UnknownCommand, WordCount, NotInScript}
use Rattle.cmd_args.specs.declared.refusal.Refusal.TheVariants.{ReadOnlyScript, TooLarge}
use Rattle.cmd_args.specs.declared.turn.Mode.{Mode}
use Rattle.cmd_args.specs.declared.turn.Mode.TheVariants.{Client, Script, ScriptRo}
use Rattle.cmd_args.specs.Table.{row_named, fits}
use Rattle.cmd_args.specs.Refusals.{shown}
use Rattle.fx_record.specs.RecordWords.{are_within_limits}
use Rattle.fx_record.specs.Settled.{settled}
use Rattle.cmd_rows.specs.Outcomes.{Outcome, refused}
use Rattle.cmd_string.specs.StringRows.{string_row}
use Rattle.cmd_keys.specs.ServerRows.{server_row}
use Rattle.cmd_keys.specs.KeyRows.{key_row}
use Rattle.cmd_exec.specs.Worlds.{World}

-- clients alone may call it, or it may not stand in a script
abbrev pub is_barred : Mode → Row → Bool
is_barred Client row = row.client_only
is_barred Script row = row.client_only || not row.in_script
is_barred ScriptRo row = row.client_only || not row.in_script

abbrev pub may_only_read : Mode → Bool
may_only_read Client = false
may_only_read Script = false
may_only_read ScriptRo = true

-- why a command that is known is refused before it is carried out: for the number of its words, for where it was
-- called, for what it may do there, for its size
abbrev pub reason : Mode → Row → List (List ℕ) → Option Refusal
reason mode row words =
    if not (fits row words) then Some (WordCount row.id)
    else (if is_barred mode row then Some NotInScript
    else (if may_only_read mode && row.writes then Some ReadOnlyScript
    else (if not (are_within_limits words) then Some TooLarge else None)))

-- what the command itself gives, by its family: one that clients alone may send is not carried out here
unfoldable pub row_outcome : World → CmdId → List (List ℕ) → Outcome
row_outcome world (family.Client id) words = refused NotInScript
row_outcome world (family.Server id) words = server_row world id words
row_outcome world (family.Strings id) words = string_row world id words
row_outcome world (family.Keys id) words = key_row world id words

abbrev pub unless_refused : Option Refusal → Outcome → Outcome
unless_refused (Some why) outcome = refused why
unless_refused None outcome = outcome

abbrev pub outcome_of : World → Mode → Option Row → List ℕ → List (List ℕ) → Outcome
outcome_of world mode (Some row) name words = unless_refused (reason mode row words) (row_outcome world row.id words)
outcome_of world mode None name words = refused (UnknownCommand (shown name))

-- what the words give, before it is known whether the store changes
abbrev pub given : World → Mode → List (List ℕ) → Outcome
given world mode [] = refused NoWord
given world mode (name ∷ words) = outcome_of world mode (row_named name) name (name ∷ words)

-- one command: its reply, its records, which are none exactly where the store stays the same, and its draws
unfoldable pub exec : World → Mode → List (List ℕ) → Outcome
exec world mode words = record (given world mode words) {
  records = settled world.store (given world mode words).records;
}
