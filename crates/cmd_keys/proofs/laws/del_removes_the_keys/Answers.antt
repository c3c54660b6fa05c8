use Rattle.cmd_keys.proofs.DelLaws.{removal-gone, removal-others, removal-count}
use Rattle.cmd_keys.proofs.laws.del_removes_the_keys.Goals as goal

pub returns-clause-gone : goal.returns-clause-gone
returns-clause-gone c = removal-gone

pub returns-clause-others : goal.returns-clause-others
returns-clause-others c = removal-others

pub returns-clause-count : goal.returns-clause-count
returns-clause-count c = removal-count
