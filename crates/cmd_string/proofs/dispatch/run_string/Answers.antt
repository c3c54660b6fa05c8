use Rattle.std.proofs.Common.{◌≡◌, refl, subst}
use Rattle.cmd_args.specs.declared.commands.StringCmd.{StringCmd}
use Rattle.cmd_rows.specs.Given.{Follows}
use Rattle.cmd_rows.specs.Worlds.{World}
use Rattle.cmd_rows.proofs.Walk.{can_settle}
use Rattle.cmd_string.specs.StringRows.{string_row}
use Rattle.cmd_string.proofs.StringWalk.{string_row-within}
use Rattle.cmd_string.proofs.dispatch.run_string.Goals as goal

pub settle-requires : goal.settle-requires
settle-requires c =
    let world : World =
    record { store = c.args.space.now; time = c.args.ctx.now.time; draws = c.args.draws.now } in
    let gave = c.string_row-gave.result in
    let follows : Follows world.store (string_row world c.in-Strings.command c.args.words.now) gave =
    subst (λ (w : World). Follows w.store (string_row w c.in-Strings.command c.args.words.now) gave) c.new.ensures
    c.string_row-gave.ensures in
    can_settle world.time world.store (string_row world c.in-Strings.command c.args.words.now) gave
    (string_row-within world c.in-Strings.command c.args.words.now c.requires.words) follows

pub returns : goal.returns
returns c = λ command is.
    let world : World =
    record { store = c.args.space.now; time = c.args.ctx.now.time; draws = c.args.draws.now } in
    let gave = c.string_row-gave.result in
    let same : c.in-Strings.command ≡ command = cc (is, c.in-Strings.is) in
    let follows : Follows world.store (string_row world command c.args.words.now) gave =
    subst (λ (id : StringCmd). Follows world.store (string_row world id c.args.words.now) gave) same
    (subst (λ (w : World). Follows w.store (string_row w c.in-Strings.command c.args.words.now) gave) c.new.ensures
    c.string_row-gave.ensures) in
    c.settle.ensures world (string_row world command c.args.words.now) refl refl follows
