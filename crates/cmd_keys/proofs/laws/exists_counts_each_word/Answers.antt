use Rattle.cmd_keys.proofs.DelLaws.{exists-none, exists-there, exists-absent}
use Rattle.cmd_keys.proofs.laws.exists_counts_each_word.Goals as goal

pub returns-clause-none : goal.returns-clause-none
returns-clause-none c = exists-none

pub returns-clause-there : goal.returns-clause-there
returns-clause-there c = exists-there

pub returns-clause-absent : goal.returns-clause-absent
returns-clause-absent c = exists-absent
