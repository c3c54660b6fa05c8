use Rattle.cmd_keys.proofs.RowLaws.{renamenx_moves, renamenx-there, renamenx-absent}
use Rattle.cmd_keys.proofs.laws.renamenx_moves_a_key_to_a_new_name.Goals as goal

pub returns-clause-moves : goal.returns-clause-moves
returns-clause-moves c = renamenx_moves

pub returns-clause-there : goal.returns-clause-there
returns-clause-there c = renamenx-there

pub returns-clause-absent : goal.returns-clause-absent
returns-clause-absent c = renamenx-absent
