-- The keys that a command names, by their places among its words (Redis manual, key specifications).
use Rattle.std.specs.Prelude.{ℕ, List, [], ◌∷◌, take, drop}
use Rattle.cmd_args.specs.declared.commands.CmdId.{CmdId}
use Rattle.cmd_args.specs.declared.commands.CmdId.TheVariants.{Client, Server, Strings, Keys}
use Rattle.cmd_args.specs.declared.commands.StringCmd.{StringCmd}
use Rattle.cmd_args.specs.declared.commands.StringCmd.TheVariants.{MGet, MSet, MSetNx}
use Rattle.cmd_args.specs.declared.commands.KeyCmd.{KeyCmd}
use Rattle.cmd_args.specs.declared.commands.KeyCmd.TheVariants.{Del, Unlink, Exists, RandomKey, Rename, RenameNx}
use Rattle.cmd_args.specs.declared.commands.KeyCmd.TheVariants as key

-- of words that come in pairs the first of each
abbrev pub firsts : List (List ℕ) → List (List ℕ)
firsts [] = []
firsts (key ∷ []) = key ∷ []
firsts (key ∷ value ∷ words) = key ∷ firsts words

-- of the words behind a command's name those that are keys
unfoldable pub string_keys : StringCmd → List (List ℕ) → List (List ℕ)
string_keys MGet words = words
string_keys MSet words = firsts words
string_keys MSetNx words = firsts words
string_keys _ words = take 1 words

unfoldable pub key_keys : KeyCmd → List (List ℕ) → List (List ℕ)
key_keys key.Keys words = []
key_keys RandomKey words = []
key_keys Del words = words
key_keys Unlink words = words
key_keys Exists words = words
key_keys Rename words = take 2 words
key_keys RenameNx words = take 2 words
key_keys _ words = take 1 words

-- of a command's words, its name the first, those that are keys
abbrev pub keys_named : CmdId → List (List ℕ) → List (List ℕ)
keys_named (Client id) words = []
keys_named (Server id) words = []
keys_named (Strings id) words = string_keys id (drop 1 words)
keys_named (Keys id) words = key_keys id (drop 1 words)
