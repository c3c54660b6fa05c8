-- Commands that are known, and those that are refused.
use Rattle.std.proofs.Common.{◌≡◌, ℕ, List, [], ◌∷◌, ◌++◌, Some, Result, Ok, Err, IfOk, slice_get, append-nil}
use Rattle.std.proofs.Common.{sym, ap, subst, ◌∙◌}
use Rattle.rs_base.specs.declared.memory.NoMemory.{NoMemory}
use Rattle.resp_reply.specs.declared.reply.Reply.{Reply}
use Rattle.ks_space.specs.Store.{Store}
use Rattle.fx_record.specs.declared.record.Record.{Record}
use Rattle.fx_record.specs.Records.{applied}
use Rattle.fx_record.specs.Settled.{settled}
use Rattle.cmd_args.specs.declared.commands.CmdId.{CmdId}
use Rattle.cmd_args.specs.declared.commands.Row.{Row}
use Rattle.cmd_args.specs.declared.refusal.Refusal.{Refusal}
use Rattle.cmd_args.specs.declared.turn.Mode.{Mode}
use Rattle.cmd_args.specs.Table.{row_named}
use Rattle.cmd_args.specs.Draws.{state_after}
use Rattle.cmd_rows.specs.Outcomes.{Outcome, refused}
use Rattle.cmd_rows.specs.Given.{Did}
use Rattle.cmd_rows.specs.Worlds.{World}
use Rattle.cmd_rows.proofs.Followed.{settled-nothing}
use Rattle.cmd_exec.specs.Exec.{row_outcome, unless_refused, outcome_of, reason, given}

-- a command that is known
pub given_named : (world : World) (mode : Mode) (words : List (List ℕ)) (name : List ℕ) (row : Row)
    → slice_get words 0 ≡ Some name → row_named name ≡ Some row
    → given world mode words ≡ unless_refused (reason mode row words) (row_outcome world row.id words)
given_named world mode [] name row is found = absurd (cc)
given_named world mode (first ∷ words) name row is found =
    let same : first ≡ name = cc in
    let named : row_named first ≡ Some row = ap row_named same ∙ found in
    ap (λ r. outcome_of world mode r first (first ∷ words)) named

-- a command that is refused
pub did_refused : (result : Result Reply NoMemory) (world : World) (outcome : Outcome) (why : Refusal)
    (effects : List Record) → outcome ≡ refused why
    → IfOk result (λ reply. reply ≡ (refused why).reply)
    → IfOk result (λ reply. Did world outcome reply world.store effects effects world.draws)
did_refused (Ok reply) world outcome why effects is same = record {
  reply_is = same ∙ sym (ap (λ o. o.reply) is);
  store_is = sym (ap (λ o. applied world.store o.records) is);
  records_are = sym (append-nil effects)
      ∙ ap (λ rs. effects ++ rs) (sym (ap (λ o. settled world.store o.records) is ∙ settled-nothing world.store));
  draws_are = sym (ap (λ o. state_after world.draws o.draws) is);
}
did_refused (Err e) world outcome why effects is same = tt

-- a command of whose family it is known what it did
pub did_row : (result : Result Reply NoMemory) (world : World) (id known : CmdId) (words : List (List ℕ))
    (after : Store) (old new : List Record) (draws : ℕ) → id ≡ known
    → IfOk result (λ reply. Did world (row_outcome world known words) reply after old new draws)
    → IfOk result (λ reply. Did world (row_outcome world id words) reply after old new draws)
did_row result world id known words after old new draws is did =
    subst (λ i. IfOk result (λ reply. Did world (row_outcome world i words) reply after old new draws)) (sym is) did
