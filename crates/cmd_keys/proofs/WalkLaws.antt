-- Laws on every row that follow from the walks: what stays, what a fault does, and which commands have a row.
use Rattle.std.proofs.Common.{◌≡◌, ◌≢◌, ◌<◌, ℕ, List, [], ◌∷◌, Some, None, length, slice_get, Err, refl, ap, ◌∙◌, arith}
use Rattle.std.proofs.lemmas.Option.{slice_get_past}
use Rattle.std.specs.List.{AllByRecursion, Contains}
use Rattle.std.specs.FinMap as finite
use Rattle.resp_reply.specs.declared.reply.Reply.TheVariants.{Fault}
use Rattle.fx_record.specs.declared.record.Record.{Record}
use Rattle.cmd_args.specs.declared.commands.CmdId.TheVariants.{Server, Keys}
use Rattle.cmd_args.specs.declared.commands.ServerCmd.{ServerCmd}
use Rattle.cmd_args.specs.declared.commands.ServerCmd.TheVariants.{FlushAll, FlushDb}
use Rattle.cmd_args.specs.declared.commands.KeyCmd.{KeyCmd}
use Rattle.cmd_args.specs.declared.refusal.Refusal.{Refusal}
use Rattle.cmd_args.specs.declared.refusal.Refusal.TheVariants.{Syntax}
use Rattle.cmd_args.specs.Keys.{keys_named}
use Rattle.cmd_args.specs.Refusals.{refusal_text}
use Rattle.cmd_args.specs.Table.{command, server_command}
use Rattle.cmd_args.proofs.KeyLaws.{all-keys_named, apart-all}
use Rattle.cmd_rows.specs.Worlds.{World}
use Rattle.cmd_rows.specs.Outcomes.{Outcome, word_at, left_by}
use Rattle.cmd_rows.proofs.Faults.{IsNoSyntax, fault-text}
use Rattle.cmd_rows.proofs.Reasons.{Reasons, Any, any_reason, other_reasons}
use Rattle.cmd_rows.proofs.Walk.{Good, Spares, good-records, good-nothing, good-reason, allows-any, allows-others}
use Rattle.cmd_rows.proofs.Walk.{spared, any_words}
use Rattle.cmd_rows.proofs.WordPlaces.{word_at-there}
use Rattle.cmd_keys.specs.ServerRows.{server_row}
use Rattle.cmd_keys.specs.KeyRows.{key_row}
use Rattle.cmd_keys.specs.Laws.{IsFlush}
use Rattle.cmd_keys.proofs.ServerWalk.{good-server_row}
use Rattle.cmd_keys.proofs.KeyWalk.{good-key_row}

none_of : (records : List Record) → AllByRecursion (λ effect. ⊥) records → records ≡ []
none_of [] all = refl
none_of (r ∷ records) all = absurd all.0

pub server_stays : (world : World) (id : ServerCmd) (words : List (List ℕ)) → (IsFlush id → ⊥)
    → (server_row world id words).records ≡ []
server_stays world id words other =
    none_of (server_row world id words).records
    (good-records Any (λ effect. ⊥) (server_row world id words)
    (good-server_row Any any_reason (λ effect. ⊥) world id words (λ place there why e. tt) other (λ is word e. tt)))

pub keys_stay : (world : World) (id : KeyCmd) (words : List (List ℕ)) (key : List ℕ)
    → (Contains (keys_named (Keys id) words) key → ⊥)
    → finite.get (left_by world.store (key_row world id words)) key ≡ finite.get world.store key
keys_stay world id words key none =
    spared key world.store (key_row world id words).records
    (good-records Any (Spares key) (key_row world id words)
    (good-key_row Any any_reason (λ k. key ≢ k) (λ value. Unit {0}) (Spares key) world (allows-others world.time key)
    words id (λ place there why e. tt) (apart-all key (keys_named (Keys id) words) none)))

pub server_fault : (world : World) (id : ServerCmd) (words : List (List ℕ)) (text : List ℕ)
    → (server_row world id words).reply ≡ Fault text
    → ((server_row world id words).records ≡ []) × ((server_row world id words).draws ≡ 0)
server_fault world id words text =
    good-nothing Any (λ effect. Unit {0}) (server_row world id words) text
    (good-server_row Any any_reason (λ effect. Unit {0}) world id words (λ place there why e. tt) (λ is. tt)
    (λ is word e. tt))

module _ (world : World) (id : KeyCmd) (words : List (List ℕ)) where
  good-any : (R : Refusal → Type 0) → Reasons R
      → ((place : ℕ) → place < (command (Keys id)).least → (why : Refusal) → word_at words place ≡ Err why → R why)
      → Good R (λ effect. Unit {0}) (key_row world id words)
  good-any R reasons missing =
      good-key_row R reasons (λ key. Unit {0}) (λ value. Unit {0}) (λ effect. Unit {0}) world (allows-any world.time)
      words id missing (all-keys_named (λ key. Unit {0}) (Keys id) words (any_words words))

  pub keys_fault : (text : List ℕ) → (key_row world id words).reply ≡ Fault text
      → ((key_row world id words).records ≡ []) × ((key_row world id words).draws ≡ 0)
  keys_fault text = good-nothing Any (λ effect. Unit {0}) (key_row world id words) text
      (good-any Any any_reason (λ place there why e. tt))

-- a row that is refused for other reasons is no error in the syntax
no_syntax-row : (Q : Record → Type 0) (row : Outcome) → Good IsNoSyntax Q row
    → row.reply ≡ Fault (refusal_text Syntax) → ⊥
no_syntax-row Q row good fault =
    let found = good-reason IsNoSyntax Q row (refusal_text Syntax) good fault in
    found.1 (fault-text (refusal_text found.0) (refusal_text Syntax) (ap (λ (o : Outcome). o.reply) found.2 ∙ fault))

pub keys_have_rows : (world : World) (id : KeyCmd) (words : List (List ℕ)) → length words ≡ (command (Keys id)).least
    → (key_row world id words).reply ≢ Fault (refusal_text Syntax)
keys_have_rows world id words fewest =
    no_syntax-row (λ effect. Unit {0}) (key_row world id words)
    (good-any world id words IsNoSyntax other_reasons
    (λ place there why e. absurd (word_at-there words place why (omega arith) e)))

-- with the fewest words there is no mode
flush-alone : (id : ServerCmd) → IsFlush id → (command (Server id)).least ≡ 1
unfolding server_command
flush-alone FlushAll is = refl
flush-alone FlushDb is = refl
flush-alone _ is = absurd is

pub server_has_rows : (world : World) (id : ServerCmd) (words : List (List ℕ))
    → length words ≡ (command (Server id)).least → (server_row world id words).reply ≢ Fault (refusal_text Syntax)
server_has_rows world id words fewest =
    no_syntax-row (λ effect. Unit {0}) (server_row world id words)
    (good-server_row IsNoSyntax other_reasons (λ effect. Unit {0}) world id words
    (λ place there why e. absurd (word_at-there words place why (omega arith) e)) (λ is. tt) mode)
  where
    mode : IsFlush id → (word : List ℕ) → slice_get words 1 ≡ Some word → IsNoSyntax Syntax
    mode is word e =
        let alone = flush-alone id is in
        let none : slice_get words 1 ≡ None = slice_get_past words 1 (omega arith) in
        absurd (cc)
