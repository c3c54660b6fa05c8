use Rattle.cmd_keys.proofs.RowLaws.{rename_moves, rename_itself, rename_answers, rename-absent}
use Rattle.cmd_keys.proofs.laws.rename_moves_a_key.Goals as goal

pub returns-clause-moves : goal.returns-clause-moves
returns-clause-moves c = rename_moves

pub returns-clause-itself : goal.returns-clause-itself
returns-clause-itself c = rename_itself

pub returns-clause-answers_ok : goal.returns-clause-answers_ok
returns-clause-answers_ok c = rename_answers

pub returns-clause-absent : goal.returns-clause-absent
returns-clause-absent c = rename-absent
