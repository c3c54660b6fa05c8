use Rattle.std.proofs.Common.{◌≡◌, Some, sym, ap, ◌∙◌}
use Rattle.cmd_args.specs.Table.{row_named}
use Rattle.cmd_rows.specs.Worlds.{World}
use Rattle.cmd_exec.specs.Exec.{unless_refused, row_outcome}
use Rattle.cmd_exec.proofs.Refusing.{words_short}
use Rattle.cmd_exec.proofs.Rows.{given_named, did_refused}
use Rattle.cmd_exec.proofs.command.carry_out.Goals as goal

pub returns-in-Some-reason : goal.returns-in-Some-reason
returns-in-Some-reason c =
    let world : World = record { store = c.args.space.now; time = c.args.ctx.now.time; draws = c.args.draws.now } in
    let found : row_named c.in-Some.name.now ≡ Some c.in-Some-find.row = cc in
    did_refused _ world _ c.in-Some-reason.why _
    (given_named world c.args.mode c.args.words.now c.in-Some.name.now c.in-Some-find.row
    (sym c.in-Some.ensures.value) found
    ∙ ap (λ w. unless_refused w (row_outcome world c.in-Some-find.row.id c.args.words.now))
    (sym c.in-Some-reason.ensures)) c.refuse-in-Some-reason.ensures

pub run-requires : goal.run-requires
run-requires c = words_short c.args.mode c.in-Some-find.row c.args.words.now (sym c.reason.ensures
    ∙ c.in_default-reason.is)
