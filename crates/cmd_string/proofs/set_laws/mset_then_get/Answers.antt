use Rattle.std.proofs.Common.{refl}
use Rattle.cmd_string.specs.StringRows.{string_row}
use Rattle.cmd_string.proofs.GivenBySet.{mset-given, msetnx-given, msetnx-none}
use Rattle.cmd_string.proofs.set_laws.mset_then_get.Goals as goal

pub returns-clause-mset : goal.returns-clause-mset
unfolding string_row
returns-clause-mset c = λ world name key value pairs last. (refl, mset-given world.store key value pairs last)

pub returns-clause-msetnx : goal.returns-clause-msetnx
unfolding string_row
returns-clause-msetnx c = λ world. msetnx-given world.store

pub returns-clause-msetnx_there : goal.returns-clause-msetnx_there
unfolding string_row
returns-clause-msetnx_there c = λ world. msetnx-none world.store
