use Rattle.std.proofs.Common.{None}
use Rattle.ks_space.specs.Store.{deadline_at}
use Rattle.cmd_string.specs.StringRows.{string_row}
use Rattle.cmd_string.proofs.Given.{gives-put}
use Rattle.cmd_string.proofs.GivenBySet.{set_until-given, set_until-gone}
use Rattle.cmd_string.proofs.set_laws.set_then_get.Goals as goal

pub returns-clause-plain : goal.returns-clause-plain
unfolding string_row
returns-clause-plain c = λ world name key value. gives-put world.store key value None

pub returns-clause-keepttl : goal.returns-clause-keepttl
unfolding string_row
returns-clause-keepttl c = λ world name key value. gives-put world.store key value (deadline_at world.store key)

pub returns-clause-until : goal.returns-clause-until
unfolding string_row
returns-clause-until c = λ world name. set_until-given world.store world.time

pub returns-clause-past : goal.returns-clause-past
unfolding string_row
returns-clause-past c = λ world name. set_until-gone world.store world.time
