-- The keys that a command names are some of its words.
use Rattle.std.proofs.Common.{◌≢◌, ℕ, zero, suc, List, [], ◌∷◌, take, drop, sym, arith}
use Rattle.std.specs.List.{AllByRecursion, Contains}
use Rattle.cmd_args.specs.declared.commands.CmdId.{CmdId}
use Rattle.cmd_args.specs.declared.commands.CmdId.TheVariants.{Client, Server, Strings, Keys}
use Rattle.cmd_args.specs.declared.commands.StringCmd.{StringCmd}
use Rattle.cmd_args.specs.declared.commands.StringCmd.TheVariants.{MGet, MSet, MSetNx}
use Rattle.cmd_args.specs.declared.commands.KeyCmd.{KeyCmd}
use Rattle.cmd_args.specs.declared.commands.KeyCmd.TheVariants.{Del, Unlink, Exists, RandomKey, Rename, RenameNx}
use Rattle.cmd_args.specs.declared.commands.KeyCmd.TheVariants as key
use Rattle.cmd_args.specs.Keys.{firsts, string_keys, key_keys, keys_named}

module _ (Q : List ℕ → Type 0) where
  all-take : (count : ℕ) (words : List (List ℕ)) → AllByRecursion Q words → AllByRecursion Q (take count words)
  all-take zero words all = tt
  all-take (suc count) [] all = tt
  all-take (suc count) (word ∷ words) all = (all.0, all-take count words all.1)

  all-drop_name : (words : List (List ℕ)) → AllByRecursion Q words → AllByRecursion Q (drop 1 words)
  all-drop_name [] all = tt
  all-drop_name (name ∷ words) all = all.1

  all-firsts : (words : List (List ℕ)) → AllByRecursion Q words → AllByRecursion Q (firsts words)
  all-firsts [] all = tt
  all-firsts (key ∷ []) all = all
  all-firsts (key ∷ value ∷ words) all = (all.0, all-firsts words all.1.1)

  all-string_keys : (id : StringCmd) (words : List (List ℕ)) → AllByRecursion Q words
      → AllByRecursion Q (string_keys id words)
  unfolding string_keys
  all-string_keys MGet words all = all
  all-string_keys MSet words all = all-firsts words all
  all-string_keys MSetNx words all = all-firsts words all
  all-string_keys _ words all = all-take 1 words all

  all-key_keys : (id : KeyCmd) (words : List (List ℕ)) → AllByRecursion Q words → AllByRecursion Q (key_keys id words)
  unfolding key_keys
  all-key_keys key.Keys words all = tt
  all-key_keys RandomKey words all = tt
  all-key_keys Del words all = all
  all-key_keys Unlink words all = all
  all-key_keys Exists words all = all
  all-key_keys Rename words all = all-take 2 words all
  all-key_keys RenameNx words all = all-take 2 words all
  all-key_keys _ words all = all-take 1 words all

  -- what is so of each word is so of each key
  pub all-keys_named : (id : CmdId) (words : List (List ℕ)) → AllByRecursion Q words
      → AllByRecursion Q (keys_named id words)
  all-keys_named (Client id) words all = tt
  all-keys_named (Server id) words all = tt
  all-keys_named (Strings id) words all = all-string_keys id (drop 1 words) (all-drop_name words all)
  all-keys_named (Keys id) words all = all-key_keys id (drop 1 words) (all-drop_name words all)

-- a key that is none of these differs from each
pub apart-all : (key : List ℕ) (keys : List (List ℕ)) → (Contains keys key → ⊥) → AllByRecursion (λ k. key ≢ k) keys
apart-all key [] none = tt
apart-all key (k ∷ keys) none =
    (λ same. none (zero, omega arith, sym same), apart-all key keys (λ h. none (suc h.0, omega (arith, h.1), h.2)))
