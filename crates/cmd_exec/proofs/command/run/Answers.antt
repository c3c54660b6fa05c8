use Rattle.std.proofs.Common.{inl, inr, ap}
use Rattle.cmd_args.specs.declared.commands.CmdId.{CmdId}
use Rattle.cmd_args.specs.declared.commands.CmdId.TheVariants.{Server, Strings, Keys}
use Rattle.cmd_args.specs.declared.refusal.Refusal.TheVariants.{NotInScript}
use Rattle.cmd_rows.specs.Worlds.{World}
use Rattle.cmd_exec.specs.Exec.{row_outcome}
use Rattle.cmd_exec.proofs.Rows.{did_refused, did_row}
use Rattle.cmd_exec.proofs.command.run.Goals as goal

pub returns-in-Client : goal.returns-in-Client
unfolding row_outcome
returns-in-Client c =
    let world : World = record { store = c.args.space.now; time = c.args.ctx.now.time; draws = c.args.draws.now } in
    did_refused c.refuse.result world (row_outcome world c.args.row.id c.args.words.now) NotInScript c.args.effects.now
    (ap (λ (id : CmdId). row_outcome world id c.args.words.now) c.in-Client.is) c.refuse.ensures

pub returns-in-Strings : goal.returns-in-Strings
unfolding row_outcome
returns-in-Strings c =
    did_row _ _ c.args.row.id (Strings c.in-Strings.field-0) _ _ _ _ _ c.in-Strings.is
    (c.run_string.ensures c.in-Strings.field-0 c.in-Strings.is)

pub returns-in-Server : goal.returns-in-Server
unfolding row_outcome
returns-in-Server c = elim c.in-Server.is [
  | inl (command, is) ↦ did_row _ _ c.args.row.id (Server command) _ _ _ _ _ is (c.run_keys.ensures.server command is)
  | inr (command, is) ↦ did_row _ _ c.args.row.id (Keys command) _ _ _ _ _ is (c.run_keys.ensures.keys command is)
]
