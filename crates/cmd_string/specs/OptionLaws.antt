-- How the options of SET and GETEX stand among the words (Redis manual, SET and GETEX).
use Rattle.std.specs.Prelude.{◌≡◌, ℕ, Bool, true, false, List, [], ◌∷◌, ◌++◌, Option, Some, None, Ok, codes}
use Rattle.std.specs.Result.{result_ok}
use Rattle.cmd_args.specs.declared.commands.StringCmd.TheVariants as command
use Rattle.cmd_args.specs.declared.refusal.Refusal.TheVariants.{Syntax}
use Rattle.cmd_rows.specs.declared.times.Expiry.{Expiry}
use Rattle.cmd_rows.specs.Numbers.{number}
use Rattle.cmd_rows.specs.Outcomes.{refused}
use Rattle.cmd_rows.specs.Worlds.{World}
use Rattle.cmd_string.specs.declared.options.Condition.{Condition}
use Rattle.cmd_string.specs.declared.options.Condition.TheVariants.{IfAbsent, IfThere}
use Rattle.cmd_string.specs.declared.options.Lasting.{Lasting}
use Rattle.cmd_string.specs.declared.options.Lasting.TheVariants.{Keeping, Until}
use Rattle.cmd_string.specs.declared.options.SetWord.{SetWord}
use Rattle.cmd_string.specs.declared.options.SetWord.TheVariants.{When, Get, Keep, Expire}
use Rattle.cmd_string.specs.Options.{is_word, set_options}
use Rattle.cmd_string.specs.StringLaws.{expiry_word}
use Rattle.cmd_string.specs.StringRows.{string_row}

-- the word of an option
abbrev pub option_word : SetWord → List ℕ
option_word (When IfAbsent) = codes "NX"
option_word (When IfThere) = codes "XX"
option_word Get = codes "GET"
option_word Keep = codes "KEEPTTL"
option_word (Expire kind) = expiry_word kind

-- the words are the option: its word, in letters of either case, and behind EX, PX, EXAT and PXAT the word that is to
-- be a number
abbrev pub Spells : SetWord → List (List ℕ) → Type 0
Spells (Expire kind) (word ∷ digits ∷ []) = is_word word (expiry_word kind) ≡ true
Spells (Expire kind) _ = ⊥
Spells option (word ∷ []) = is_word word (option_word option) ≡ true
Spells option _ = ⊥

-- the words are these options, one behind another
abbrev pub SpellsAll : List SetWord → List (List ℕ) → Type 0
SpellsAll [] words = words ≡ []
SpellsAll (option ∷ options) words =
    (one : List (List ℕ)) × (rest : List (List ℕ)) × (words ≡ one ++ rest) × Spells option one
    × SpellsAll options rest

-- the options do not stand together: NX and XX, two that say how long the string stays, and one option twice
abbrev pub Excludes : SetWord → SetWord → Type 0
Excludes (When one) (When other) = Unit {0}
Excludes Get Get = Unit {0}
Excludes Keep Keep = Unit {0}
Excludes Keep (Expire kind) = Unit {0}
Excludes (Expire kind) Keep = Unit {0}
Excludes (Expire one) (Expire other) = Unit {0}
Excludes _ _ = ⊥

-- two options of SET, one behind the other, may change places
abbrev pub NeighborsMayChangePlaces : Type 0
NeighborsMayChangePlaces =
    (world : World) (name key value : List ℕ) (options : List SetWord) (first second : SetWord)
    (before one other behind : List (List ℕ)) → SpellsAll options before → Spells first one → Spells second other
    → string_row world command.Set (name ∷ key ∷ value ∷ before ++ one ++ other ++ behind)
    ≡ string_row world command.Set (name ∷ key ∷ value ∷ before ++ other ++ one ++ behind)

-- two that exclude one another are an error in the syntax, wherever they stand
abbrev pub OneExcludesAnother : Type 0
OneExcludesAnother =
    (world : World) (name key value : List ℕ) (options others : List SetWord) (first second : SetWord)
    (before one between other behind : List (List ℕ)) → SpellsAll options before → Spells first one
    → SpellsAll others between → Spells second other → Excludes first second
    → string_row world command.Set (name ∷ key ∷ value ∷ before ++ one ++ between ++ other ++ behind) ≡ refused Syntax

-- the words ask for a condition, for the old string, or for how long the string stays, and none stand where nothing is
-- asked for
abbrev pub AskWhen : Option Condition → List (List ℕ) → Type 0
AskWhen None words = words ≡ []
AskWhen (Some condition) words = Spells (When condition) words

abbrev pub AskToGet : Bool → List (List ℕ) → Type 0
AskToGet false words = words ≡ []
AskToGet true words = Spells Get words

abbrev pub AskToLast : Option Lasting → List (List ℕ) → Type 0
AskToLast None words = words ≡ []
AskToLast (Some Keeping) words = Spells Keep words
AskToLast (Some (Until kind n)) (word ∷ digits ∷ []) =
    (is_word word (expiry_word kind) ≡ true) × (n ≡ result_ok (number digits))
AskToLast (Some (Until kind n)) _ = ⊥

-- options that do not exclude one another stand together, and each says what it says alone
abbrev pub OthersStandTogether : Type 0
OthersStandTogether =
    (condition : Option Condition) (get : Bool) (lasting : Option Lasting) (one other last : List (List ℕ))
    → AskWhen condition one → AskToGet get other → AskToLast lasting last
    → set_options (one ++ other ++ last) ≡ Ok (record { condition = condition; get = get; lasting = lasting })

-- the words are an option of GETEX
abbrev pub SpellsGetExOption : List (List ℕ) → Type 0
SpellsGetExOption (word ∷ []) = is_word word (codes "PERSIST") ≡ true
SpellsGetExOption (word ∷ digits ∷ []) = (kind : Expiry) × (is_word word (expiry_word kind) ≡ true)
SpellsGetExOption _ = ⊥

-- GETEX takes one option
abbrev pub GetExTakesOneOption : Type 0
GetExTakesOneOption =
    (world : World) (name key : List ℕ) (one other behind : List (List ℕ)) → SpellsGetExOption one
    → SpellsGetExOption other
    → string_row world command.GetEx (name ∷ key ∷ one ++ other ++ behind) ≡ refused Syntax
