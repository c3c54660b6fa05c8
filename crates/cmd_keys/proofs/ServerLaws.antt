-- What the rows of the commands on the server give.
use Rattle.std.proofs.Common.{◌≡◌, ◌≢◌, ℕ, zero, suc, ◌+◌, ◌*◌, ◌/◌, ◌%◌, ◌<◌, true, false, cond, List, [], ◌∷◌, length}
use Rattle.std.proofs.Common.{Ok, Err, refl, sym, ap, subst, ◌∙◌, arith}
use Rattle.std.specs.Prelude.{ℤ, pos, negsuc, codes, decimal}
use Rattle.std.proofs.lemmas.Fmt.{decimal_digit}
use Rattle.std.specs.FinMap as finite
use Rattle.resp_reply.specs.declared.reply.Reply.TheVariants.{Int, Bulk}
use Rattle.ks_space.specs.Store.{Store}
use Rattle.fx_record.specs.declared.record.Record.TheVariants as effect
use Rattle.fx_record.proofs.SettledLaws.{settled-back, settled-other}
use Rattle.cmd_args.specs.declared.commands.ServerCmd.{ServerCmd}
use Rattle.cmd_args.specs.declared.commands.ServerCmd.TheVariants.{Select, Time, DbSize, FlushAll, FlushDb}
use Rattle.cmd_args.specs.declared.refusal.Refusal.{Refusal}
use Rattle.cmd_args.specs.declared.refusal.Refusal.TheVariants.{Syntax, DbIndex}
use Rattle.cmd_rows.specs.Worlds.{World}
use Rattle.cmd_rows.specs.Numbers.{number}
use Rattle.cmd_rows.specs.Outcomes.{Outcome, ok, array, answers, does, refused, with_found}
use Rattle.cmd_rows.proofs.NumberTexts.{number-exactly}
use Rattle.cmd_keys.specs.ServerRows.{selected, is_flush_mode}
use Rattle.cmd_keys.specs.ServerRows.{server_row}
use Rattle.cmd_keys.specs.Laws.{IsFlush, Empties}
use Rattle.cmd_keys.proofs.KeyLists.{length-keys}

selected-other : (n : ℤ) → n ≢ pos 0 → selected n ≡ refused DbIndex
selected-other (pos zero) other = absurd (other refl)
selected-other (pos (suc n)) other = refl
selected-other (negsuc n) other = refl

pub select-zero : (world : World) (name word : List ℕ) → number word ≡ Ok (pos 0)
    → server_row world Select (name ∷ word ∷ []) ≡ answers ok
unfolding server_row
select-zero world name word read = ap (λ r. with_found r selected) read

pub select-others : (world : World) (name word : List ℕ) (n : ℤ) → number word ≡ Ok n → n ≢ pos 0
    → server_row world Select (name ∷ word ∷ []) ≡ refused DbIndex
unfolding server_row
select-others world name word n read other = ap (λ r. with_found r selected) read ∙ selected-other n other

pub select-no_integer : (world : World) (name word : List ℕ) (why : Refusal) → number word ≡ Err why
    → server_row world Select (name ∷ word ∷ []) ≡ refused why
unfolding server_row
select-no_integer world name word why none = ap (λ r. with_found r selected) none

pub time-parts : (world : World) (name : List ℕ) (seconds millis : ℕ) → world.time ≡ seconds * 1000 + millis
    → millis < 1000
    → server_row world Time (name ∷ []) ≡ answers (array
    (Bulk (decimal seconds) ∷ Bulk (decimal (millis * 1000)) ∷ []))
unfolding server_row
time-parts world name seconds millis is below =
    let whole : world.time / 1000 ≡ seconds = omega arith in
    let rest : world.time % 1000 ≡ millis = omega arith in
    ap (λ n. answers (array (Bulk (decimal n) ∷ Bulk (decimal (world.time % 1000 * 1000)) ∷ []))) whole
    ∙ ap (λ n. answers (array (Bulk (decimal seconds) ∷ Bulk (decimal (n * 1000)) ∷ []))) rest

pub dbsize-length : (world : World) (name : List ℕ)
    → server_row world DbSize (name ∷ []) ≡ answers (Int (pos (length (finite.keys world.store))))
unfolding server_row
dbsize-length world name = ap (λ n. answers (Int (pos n))) (sym (length-keys world.store))

empties : (store : Store) → Empties store (does ok (effect.FlushAll ∷ []))
empties store = record {
  reply_is = refl;
  left_is = refl;
  of_keys = λ keys. settled-other store (effect.FlushAll ∷ []) (λ same. keys (sym same));
  of_none = λ none. settled-back store (effect.FlushAll ∷ []) (sym none);
}

pub flush-alone : (world : World) (id : ServerCmd) (name : List ℕ) → IsFlush id
    → Empties world.store (server_row world id (name ∷ []))
unfolding server_row
flush-alone world FlushAll name is = empties world.store
flush-alone world FlushDb name is = empties world.store
flush-alone world _ name is = absurd is

flush-mode : (world : World) (id : ServerCmd) (name mode : List ℕ) → IsFlush id
    → server_row world id (name ∷ mode ∷ []) ≡ cond (is_flush_mode mode) (does ok (effect.FlushAll ∷ []))
    (refused Syntax)
unfolding server_row
flush-mode world FlushAll name mode is = refl
flush-mode world FlushDb name mode is = refl
flush-mode world _ name mode is = absurd is

pub flush-with_mode : (world : World) (id : ServerCmd) (name mode : List ℕ) → IsFlush id → is_flush_mode mode ≡ true
    → Empties world.store (server_row world id (name ∷ mode ∷ []))
flush-with_mode world id name mode is named =
    subst (λ (o : Outcome). Empties world.store o)
    (sym (flush-mode world id name mode is
    ∙ ap (λ b. cond b (does ok (effect.FlushAll ∷ [])) (refused Syntax)) named)) (empties world.store)

pub flush-another_word : (world : World) (id : ServerCmd) (name mode : List ℕ) → IsFlush id
    → is_flush_mode mode ≡ false → server_row world id (name ∷ mode ∷ []) ≡ refused Syntax
flush-another_word world id name mode is other =
    flush-mode world id name mode is ∙ ap (λ b. cond b (does ok (effect.FlushAll ∷ [])) (refused Syntax)) other

pub zero-written : number (codes "0") ≡ Ok (pos 0)
zero-written =
    (number-exactly (codes "0") (pos 0)).1 (sym (decimal_digit 0 (omega arith)), record { sfits = omega arith })
