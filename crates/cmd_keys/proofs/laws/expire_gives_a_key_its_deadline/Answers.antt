use Rattle.cmd_keys.proofs.RowLaws.{expire-later, expire-at_once, expire-before, expire-absent, expire-out_of_range}
use Rattle.cmd_keys.proofs.RowLaws.{expire-no_integer}
use Rattle.cmd_keys.proofs.laws.expire_gives_a_key_its_deadline.Goals as goal

pub returns-clause-later : goal.returns-clause-later
returns-clause-later c = expire-later

pub returns-clause-at_once : goal.returns-clause-at_once
returns-clause-at_once c = expire-at_once

pub returns-clause-before_epoch : goal.returns-clause-before_epoch
returns-clause-before_epoch c = expire-before

pub returns-clause-absent : goal.returns-clause-absent
returns-clause-absent c = expire-absent

pub returns-clause-out_of_range : goal.returns-clause-out_of_range
returns-clause-out_of_range c = expire-out_of_range

pub returns-clause-no_integer : goal.returns-clause-no_integer
returns-clause-no_integer c = expire-no_integer
