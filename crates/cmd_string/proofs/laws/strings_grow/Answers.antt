use Rattle.cmd_string.specs.StringRows.{string_row}
use Rattle.cmd_string.proofs.GivenBySet.{append-given, append-long, setrange-given, setrange-same}
use Rattle.cmd_string.proofs.laws.strings_grow.Goals as goal

pub returns-clause-append : goal.returns-clause-append
unfolding string_row
returns-clause-append c = λ world name. append-given world.store

pub returns-clause-setrange : goal.returns-clause-setrange
unfolding string_row
returns-clause-setrange c = λ world name. setrange-given world.store

pub returns-clause-too_long : goal.returns-clause-too_long
unfolding string_row
returns-clause-too_long c = λ world name. append-long world.store

pub returns-clause-no_value : goal.returns-clause-no_value
unfolding string_row
returns-clause-no_value c = λ world name. setrange-same world.store
