-- Names of commands, in letters of either case.
use Rattle.std.proofs.Common.{◌≡◌, ℕ, List, [], ◌∷◌, refl, ap, sym, ◌∙◌, arith, subst, Bool, true, false, cond}
use Rattle.std.proofs.Common.{Option, Some, None}
use Rattle.std.proofs.lemmas.Bool.Decides.{nat_tests}
use Rattle.std.specs.Prelude.{find}
use Rattle.std.specs.Option.{option_map, option_map_or}
use Rattle.std.specs.Char.{to_ascii_lowercase, to_ascii_uppercase}
use Rattle.std.specs.Str.{bytes_eq, str_to_ascii_lowercase, str_to_ascii_uppercase}
use Rattle.cmd_args.specs.declared.commands.CmdId.{CmdId}
use Rattle.cmd_args.specs.declared.commands.CmdId.TheVariants.{Client, Server, Strings, Keys}
use Rattle.cmd_args.specs.declared.commands.ClientCmd.TheVariants.{Quit}
use Rattle.cmd_args.specs.declared.commands.ServerCmd.TheVariants.{Ping}
use Rattle.cmd_args.specs.declared.commands.StringCmd.TheVariants.{Get}
use Rattle.cmd_args.specs.declared.commands.KeyCmd.TheVariants.{Del}
use Rattle.cmd_args.specs.declared.commands.Row.{Row}
use Rattle.cmd_args.specs.Table.{command, client_command, server_command, string_command, key_command, commands}
use Rattle.cmd_args.specs.Table.{row_of, is_name, row_named}

-- each command is found by its name
pub found : (id : CmdId) → row_named (command id).name ≡ Some (row_of id)
unfolding command client_command server_command string_command key_command commands
found (Client Quit) = refl
found (Server Ping) = refl
found (Server _) = refl
found (Strings Get) = refl
found (Strings _) = refl
found (Keys Del) = refl
found (Keys _) = refl

abbrev id_of : Option Row → CmdId
id_of row = option_map_or (λ r. r.id) row (Server Ping)

-- no two commands have the same name
pub once : (one other : CmdId) → (command one).name ≡ (command other).name → one ≡ other
once one other same = ap id_of (sym (found one) ∙ ap row_named same ∙ found other)

-- what a word in lower case names
abbrev named_in_lower : List ℕ → Option Row
named_in_lower word = option_map row_of (find (λ id. bytes_eq word (str_to_ascii_lowercase (command id).name)) commands)

byte_lowered : (b : ℕ) → to_ascii_lowercase (to_ascii_lowercase b) ≡ to_ascii_lowercase b
byte_lowered b = grind (arith, nat_tests)

byte_raised : (b : ℕ) → to_ascii_lowercase (to_ascii_uppercase b) ≡ to_ascii_lowercase b
byte_raised b = grind (arith, nat_tests)

lowered : (word : List ℕ) → str_to_ascii_lowercase (str_to_ascii_lowercase word) ≡ str_to_ascii_lowercase word
lowered [] = refl
lowered (b ∷ word) = cc (byte_lowered b, lowered word)

raised : (word : List ℕ) → str_to_ascii_lowercase (str_to_ascii_uppercase word) ≡ str_to_ascii_lowercase word
raised [] = refl
raised (b ∷ word) = cc (byte_raised b, raised word)

-- a name in lower case, and in upper case, names what it names as it is
pub same_in_lower : (word : List ℕ) → row_named (str_to_ascii_lowercase word) ≡ row_named word
same_in_lower word = ap named_in_lower (lowered word)

pub same_in_upper : (word : List ℕ) → row_named (str_to_ascii_uppercase word) ≡ row_named word
same_in_upper word = ap named_in_lower (raised word)

step :
    (test : CmdId → Bool) (first id : CmdId) (later : Option CmdId) (passes : Bool) → test first ≡ passes
    → cond passes (Some first) later ≡ Some id
    → (later ≡ Some id → test id ≡ true) → test id ≡ true
step test first id later true here e more = cc
step test first id later false here e more = more e

-- what is found passes the test
passing : (test : CmdId → Bool) (ids : List CmdId) (id : CmdId) → find test ids ≡ Some id → test id ≡ true
passing test [] id e = cc
passing test (first ∷ ids) id e = step test first id (find test ids) (test first) refl e (passing test ids id)

-- the word names the row's command, and the row is that command's
abbrev IsRowFor : List ℕ → Row → Type 0
IsRowFor word row = (is_name word row.id ≡ true) × (row ≡ row_of row.id)

row_for : (word : List ℕ) (row : Row) (id : Option CmdId) → find (is_name word) commands ≡ id
    → option_map row_of id ≡ Some row → IsRowFor word row
row_for word row None here e = cc
row_for word row (Some id) here e =
    let named : is_name word id ≡ true = passing (is_name word) commands id here in
    let same : row_of id ≡ row = cc in
    subst (IsRowFor word) same (named, refl)

-- a row that is found is that of the command that the word names
pub its_own : (word : List ℕ) (row : Row) → row_named word ≡ Some row → (is_name word row.id ≡ true)
    × (row ≡ row_of row.id)
its_own word row e = row_for word row (find (is_name word) commands) refl e
