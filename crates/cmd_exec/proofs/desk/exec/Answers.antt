use Rattle.std.proofs.Common.{◌≡◌, refl, sym, subst, ◌∙◌}
use Rattle.cmd_rows.specs.Worlds.{World}
use Rattle.cmd_exec.specs.Worlds.{DeskState, IsWorld, worked}
use Rattle.cmd_exec.specs.Exec.{exec}
use Rattle.cmd_exec.proofs.Worlds.{cleared_is}
use Rattle.cmd_exec.proofs.Working.{exec-reply, did_moved, did_worked}
use Rattle.cmd_exec.proofs.desk.exec.Goals as goal

pub invariant_of-desk : goal.invariant_of-desk
invariant_of-desk c =
    let world : World = record {
      store = c.desk.inside.space;
      time = c.desk.inside.ctx.time;
      draws = c.desk.inside.draws;
    } in
    subst IsWorld (sym (did_moved world c.desk.inside.mode c.args.words.now _ _ _ _ _ c.in-Ok.ensures))
    (c.commands_keep_the_world.ensures.command world c.desk.inside.mode c.args.words.now c.desk.invariant)

pub invariant_of-desk-in-Err : goal.invariant_of-desk-in-Err
invariant_of-desk-in-Err c = cleared_is _ _ c.clear.ensures

pub returns-in-Ok-clause-reply : goal.returns-in-Ok-clause-reply
returns-in-Ok-clause-reply c =
    let world : World = record {
      store = c.desk.inside.space;
      time = c.desk.inside.ctx.time;
      draws = c.desk.inside.draws;
    } in
    let desk : DeskState = record { world = world; mode = c.desk.inside.mode; effects = c.desk.inside.effects } in
    subst (λ (d : DeskState). c.in-Ok.reply ≡ (exec d.world d.mode c.args.words.now).reply) c.desk.view_is
    (c.in-Ok.ensures.reply_is ∙ sym (exec-reply world c.desk.inside.mode c.args.words.now))

pub returns-in-Ok-clause-desk : goal.returns-in-Ok-clause-desk
returns-in-Ok-clause-desk c =
    let world : World = record {
      store = c.desk.inside.space;
      time = c.desk.inside.ctx.time;
      draws = c.desk.inside.draws;
    } in
    let desk : DeskState = record { world = world; mode = c.desk.inside.mode; effects = c.desk.inside.effects } in
    did_worked desk c.args.words.now _ _ _ _ c.in-Ok.ensures
    ∙ subst (λ (d : DeskState). worked desk (exec desk.world desk.mode c.args.words.now)
    ≡ worked d (exec d.world d.mode c.args.words.now)) c.desk.view_is refl
