-- Laws on every row that follow from the walk: what stays, what a fault does, and which commands have a row.
use Rattle.std.proofs.Common.{◌≡◌, ◌≢◌, ◌<◌, ℕ, List, [], length, drop, Err, sym, ap, ◌∙◌, refl, arith}
use Rattle.std.proofs.lemmas.List.{drop_all}
use Rattle.std.specs.List.{Contains}
use Rattle.std.specs.FinMap as finite
use Rattle.resp_reply.specs.declared.reply.Reply.TheVariants.{Fault}
use Rattle.cmd_args.specs.declared.commands.CmdId.TheVariants.{Strings}
use Rattle.cmd_args.specs.declared.commands.StringCmd.{StringCmd}
use Rattle.cmd_args.specs.declared.commands.StringCmd.TheVariants as command
use Rattle.cmd_args.specs.declared.refusal.Refusal.{Refusal}
use Rattle.cmd_args.specs.declared.refusal.Refusal.TheVariants.{Syntax}
use Rattle.cmd_args.specs.Keys.{keys_named}
use Rattle.cmd_args.specs.Refusals.{refusal_text}
use Rattle.cmd_args.specs.Table.{string_command}
use Rattle.cmd_args.proofs.KeyLaws.{all-keys_named, apart-all}
use Rattle.cmd_rows.specs.Outcomes.{Outcome, word_at, left_by}
use Rattle.cmd_rows.specs.Worlds.{World}
use Rattle.cmd_rows.proofs.Faults.{IsNoSyntax, fault-text}
use Rattle.cmd_rows.proofs.Reasons.{Reasons, Any, any_reason, other_reasons}
use Rattle.cmd_rows.proofs.Walk.{Good, Spares, good-records, good-nothing, good-reason, allows-any, allows-others}
use Rattle.cmd_rows.proofs.Walk.{spared, any_words}
use Rattle.cmd_rows.proofs.WordPlaces.{word_at-there}
use Rattle.cmd_string.specs.Options.{set_options, getex_change}
use Rattle.cmd_string.specs.StringRows.{string_row}
use Rattle.cmd_string.proofs.StringWalk.{good-string_row}

pub strings_stay : (world : World) (id : StringCmd) (words : List (List ℕ)) (key : List ℕ)
    → (Contains (keys_named (Strings id) words) key → ⊥)
    → finite.get (left_by world.store (string_row world id words)) key ≡ finite.get world.store key
strings_stay world id words key none =
    spared key world.store (string_row world id words).records
    (good-records Any (Spares key) (string_row world id words)
    (good-string_row Any any_reason (λ k. key ≢ k) (λ value. Unit {0}) (Spares key) world.time
    (allows-others world.time key) words (any_words words) world id refl
    (apart-all key (keys_named (Strings id) words) none) (λ place there why e. tt) (λ is why e. tt)
    (λ is why e. tt)))

module _ (world : World) (id : StringCmd) (words : List (List ℕ)) where
  good-any : (R : Refusal → Type 0) → Reasons R
      → ((place : ℕ) → place < (string_command id).least → (why : Refusal) → word_at words place ≡ Err why → R why)
      → (id ≡ command.Set → (why : Refusal) → set_options (drop 3 words) ≡ Err why → R why)
      → (id ≡ command.GetEx → (why : Refusal) → getex_change world.time (drop 2 words) ≡ Err why → R why)
      → Good R (λ effect. Unit {0}) (string_row world id words)
  good-any R reasons missing set getex =
      good-string_row R reasons (λ key. Unit {0}) (λ value. Unit {0}) (λ effect. Unit {0}) world.time
      (allows-any world.time) words (any_words words) world id refl
      (all-keys_named (λ key. Unit {0}) (Strings id) words (any_words words)) missing set getex

  pub strings_fault : (text : List ℕ) → (string_row world id words).reply ≡ Fault text
      → ((string_row world id words).records ≡ []) × ((string_row world id words).draws ≡ 0)
  strings_fault text = good-nothing Any (λ effect. Unit {0}) (string_row world id words) text
      (good-any Any any_reason (λ place there why e. tt) (λ is why e. tt) (λ is why e. tt))

-- with the fewest words there are no options
set-read : (id : StringCmd) (words : List (List ℕ)) → length words ≡ (string_command id).least → id ≡ command.Set
    → (why : Refusal) → set_options (drop 3 words) ≡ Err why → IsNoSyntax why
unfolding string_command
set-read id words fewest is why e =
    let three : length words ≡ 3 = fewest ∙ ap (λ i. (string_command i).least) is in
    let none : drop 3 words ≡ [] = drop_all 3 words (omega arith) in
    let read : set_options [] ≡ Err why = sym (ap set_options none) ∙ e in
    absurd (cc)

getex-read : (now : ℕ) (id : StringCmd) (words : List (List ℕ)) → length words ≡ (string_command id).least
    → id ≡ command.GetEx → (why : Refusal) → getex_change now (drop 2 words) ≡ Err why → IsNoSyntax why
unfolding string_command
getex-read now id words fewest is why e =
    let two : length words ≡ 2 = fewest ∙ ap (λ i. (string_command i).least) is in
    let none : drop 2 words ≡ [] = drop_all 2 words (omega arith) in
    let read : getex_change now [] ≡ Err why = sym (ap (getex_change now) none) ∙ e in
    absurd (cc)

pub strings_have_rows : (world : World) (id : StringCmd) (words : List (List ℕ))
    → length words ≡ (string_command id).least → (string_row world id words).reply ≢ Fault (refusal_text Syntax)
strings_have_rows world id words fewest fault =
    let good = good-any world id words IsNoSyntax other_reasons
    (λ place there why e. absurd (word_at-there words place why (omega arith) e)) (set-read id words fewest)
    (getex-read world.time id words fewest) in
    let found = good-reason IsNoSyntax (λ effect. Unit {0}) (string_row world id words) (refusal_text Syntax) good
    fault in
    found.1 (fault-text (refusal_text found.0) (refusal_text Syntax) (ap (λ (o : Outcome). o.reply) found.2 ∙ fault))
