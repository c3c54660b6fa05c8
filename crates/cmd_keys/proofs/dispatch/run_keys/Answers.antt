use Rattle.std.proofs.Common.{refl}
use Rattle.cmd_rows.specs.Worlds.{World}
use Rattle.cmd_keys.specs.ServerRows.{server_row}
use Rattle.cmd_keys.specs.KeyRows.{key_row}
use Rattle.cmd_keys.proofs.Within.{can_settle-given}
use Rattle.cmd_keys.proofs.dispatch.run_keys.Goals as goal

pub settle-requires : goal.settle-requires
settle-requires c =
    let gave = rw c.new-world.ensures at c.given-gave.ensures in
    can_settle-given (record { store = c.args.space.now; time = c.args.ctx.now.time; draws = c.args.draws.now })
    c.args.row.id c.args.words.now c.given-gave.result c.requires.family c.requires.words gave.server gave.keys

pub returns-clause-server : goal.returns-clause-server
returns-clause-server c command is =
    let gave = rw c.new-world.ensures at c.given-gave.ensures in
    let world : World = record { store = c.args.space.now; time = c.args.ctx.now.time; draws = c.args.draws.now } in
    c.settle.ensures world (server_row world command c.args.words.now) refl refl (gave.server command is)

pub returns-clause-keys : goal.returns-clause-keys
returns-clause-keys c command is =
    let gave = rw c.new-world.ensures at c.given-gave.ensures in
    let world : World = record { store = c.args.space.now; time = c.args.ctx.now.time; draws = c.args.draws.now } in
    c.settle.ensures world (key_row world command c.args.words.now) refl refl (gave.keys command is)
