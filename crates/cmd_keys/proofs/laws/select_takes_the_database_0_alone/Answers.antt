use Rattle.cmd_keys.proofs.ServerLaws.{select-zero, select-others, select-no_integer, zero-written}
use Rattle.cmd_keys.proofs.laws.select_takes_the_database_0_alone.Goals as goal

pub returns-clause-zero : goal.returns-clause-zero
returns-clause-zero c = select-zero

pub returns-clause-others : goal.returns-clause-others
returns-clause-others c = select-others

pub returns-clause-no_integer : goal.returns-clause-no_integer
returns-clause-no_integer c = select-no_integer

pub returns-clause-written : goal.returns-clause-written
returns-clause-written c = zero-written
