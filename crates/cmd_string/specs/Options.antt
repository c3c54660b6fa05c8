-- The options of SET and GETEX (Redis manual).
use Rattle.std.specs.Prelude.{ℕ, ℤ, Bool, true, false, not, is_none, if◌then◌else◌, pos, List, [], ◌∷◌, Option, Some}
use Rattle.std.specs.Prelude.{None, Result, Ok, Err, codes}
use Rattle.std.specs.Option.{option_map, ok_or}
use Rattle.std.specs.Result.{result_ok}
use Rattle.std.specs.Str.{str_eq_ignore_ascii_case}
use Rattle.fx_record.specs.declared.record.Record.{Record}
use Rattle.fx_record.specs.declared.record.Record.TheVariants.{Set, SetKeeping}
use Rattle.fx_record.specs.declared.record.Record.TheVariants as effect
use Rattle.cmd_args.specs.declared.commands.CmdId.{CmdId}
use Rattle.cmd_args.specs.declared.commands.CmdId.TheVariants.{Strings}
use Rattle.cmd_args.specs.declared.commands.StringCmd.TheVariants as command
use Rattle.cmd_args.specs.declared.refusal.Refusal.{Refusal}
use Rattle.cmd_args.specs.declared.refusal.Refusal.TheVariants.{Syntax, NotInteger}
use Rattle.cmd_rows.specs.declared.times.Expiry.{Expiry}
use Rattle.cmd_rows.specs.declared.times.Expiry.TheVariants.{InSeconds, InMillis, AtSecond, AtMillis}
use Rattle.cmd_rows.specs.Numbers.{number}
use Rattle.cmd_rows.specs.Times.{deadline, set_until, expire_at}
use Rattle.cmd_string.specs.declared.options.Condition.{Condition}
use Rattle.cmd_string.specs.declared.options.Condition.TheVariants.{IfAbsent, IfThere}
use Rattle.cmd_string.specs.declared.options.Lasting.{Lasting}
use Rattle.cmd_string.specs.declared.options.Lasting.TheVariants.{Keeping, Until}
use Rattle.cmd_string.specs.declared.options.SetOptions.{SetOptions}
use Rattle.cmd_string.specs.declared.options.SetWord.{SetWord}
use Rattle.cmd_string.specs.declared.options.SetWord.TheVariants.{When, Get, Keep, Expire}
use Rattle.cmd_string.specs.declared.options.Reading.{Reading}
use Rattle.cmd_string.specs.declared.getex.Change.{Change}
use Rattle.cmd_string.specs.declared.getex.Change.TheVariants.{AsBefore, Persist, ExpireAt}
use Rattle.cmd_rows.specs.Outcomes.{then_found}

-- the word is this one, in letters of either case
abbrev pub is_word : List ℕ → List ℕ → Bool
is_word word name = str_eq_ignore_ascii_case word name

-- what the number behind EX, PX, EXAT and PXAT counts
abbrev pub expiry_named : List ℕ → Option Expiry
expiry_named word =
    if is_word word (codes "EX") then Some InSeconds
    else (if is_word word (codes "PX") then Some InMillis
    else (if is_word word (codes "EXAT") then Some AtSecond
    else (if is_word word (codes "PXAT") then Some AtMillis else None)))

-- the option of SET that a word is
abbrev pub set_word : List ℕ → Option SetWord
set_word word =
    if is_word word (codes "NX") then Some (When IfAbsent)
    else (if is_word word (codes "XX") then Some (When IfThere)
    else (if is_word word (codes "GET") then Some Get
    else (if is_word word (codes "KEEPTTL") then Some Keep
    else option_map Expire (expiry_named word))))

-- the options with one more: one that stands already, or beside one that excludes it, is refused
abbrev pub with_option : SetOptions → SetWord → Result Reading Refusal
with_option options (When condition) =
    if is_none options.condition then Ok
    (record { options = record options { condition = Some condition }; waiting = None }) else Err Syntax
with_option options Get =
    if options.get then Err Syntax else Ok (record { options = record options { get = true }; waiting = None })
with_option options Keep =
    if is_none options.lasting then Ok
    (record { options = record options { lasting = Some Keeping }; waiting = None }) else Err Syntax
with_option options (Expire kind) =
    if is_none options.lasting then Ok (record { options = options; waiting = Some kind }) else Err Syntax

-- behind an option that wants a number the next word is that number, whatever it is
abbrev pub with_word : Option Expiry → SetOptions → List ℕ → Result Reading Refusal
with_word (Some kind) options word =
    Ok (record { options = record options { lasting = Some (Until kind (result_ok (number word))) }; waiting = None })
with_word None options word = then_found (ok_or (set_word word) Syntax) (with_option options)

-- one word after another
abbrev pub with_words : Reading → List (List ℕ) → Result Reading Refusal
with_words reading [] = Ok reading
with_words reading (word ∷ words) =
    then_found (with_word reading.waiting reading.options word) (λ more. with_words more words)

-- no option yet
abbrev pub no_option : Reading
no_option = record { options = record { condition = None; get = false; lasting = None }; waiting = None }

-- an option that still wants its number at the end is refused
abbrev pub complete : Reading → Result SetOptions Refusal
complete reading = if is_none reading.waiting then Ok reading.options else Err Syntax

-- the options that words are, in any order
abbrev pub set_options : List (List ℕ) → Result SetOptions Refusal
set_options words = then_found (with_words no_option words) complete

-- the deadline that a number gives: refused where the word was no integer, and then as the command refuses it
abbrev pub deadline_read : CmdId → ℕ → Expiry → Option ℤ → Result ℕ Refusal
deadline_read id now kind read = then_found (ok_or read NotInteger) (deadline id kind now)

-- what SET does to the key: without an option for it the string has no deadline
abbrev pub set_effect : ℕ → List ℕ → List ℕ → Option Lasting → Result Record Refusal
set_effect now key value None = Ok (Set key value)
set_effect now key value (Some Keeping) = Ok (SetKeeping key value)
set_effect now key value (Some (Until kind read)) =
    then_found (deadline_read (Strings command.Set) now kind read) (λ at. Ok (set_until key value now at))

-- the key is as SET asks for it to be
abbrev pub is_met : Option Condition → Bool → Bool
is_met None there = true
is_met (Some IfAbsent) there = not there
is_met (Some IfThere) there = there

-- what GETEX asks for: a deadline, none, or nothing
abbrev pub getex_change : ℕ → List (List ℕ) → Result Change Refusal
getex_change now [] = Ok AsBefore
getex_change now (word ∷ []) = if is_word word (codes "PERSIST") then Ok Persist else Err Syntax
getex_change now (word ∷ n ∷ []) =
    then_found (ok_or (expiry_named word) Syntax) (λ kind.
    then_found (deadline_read (Strings command.GetEx) now kind (result_ok (number n))) (λ at. Ok (ExpireAt at)))
getex_change now _ = Err Syntax

abbrev pub change_effects : ℕ → List ℕ → Change → List Record
change_effects now key AsBefore = []
change_effects now key Persist = effect.Persist key ∷ []
change_effects now key (ExpireAt at) = expire_at key now (pos at) ∷ []
