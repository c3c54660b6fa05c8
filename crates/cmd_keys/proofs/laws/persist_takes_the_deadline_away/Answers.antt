use Rattle.cmd_keys.proofs.RowLaws.{persist-had, persist-none}
use Rattle.cmd_keys.proofs.laws.persist_takes_the_deadline_away.Goals as goal

pub returns-clause-had : goal.returns-clause-had
returns-clause-had c = persist-had

pub returns-clause-had_none : goal.returns-clause-had_none
returns-clause-had_none c = persist-none
