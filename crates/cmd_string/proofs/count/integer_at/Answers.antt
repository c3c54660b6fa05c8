use Rattle.std.proofs.Common.{sym}
use Rattle.cmd_string.proofs.Counts.{integer-absent}
use Rattle.cmd_string.proofs.count.integer_at.Goals as goal

pub returns-in-None : goal.returns-in-None
returns-in-None c = sym (integer-absent c.args.world.now.store c.args.key.now (rw c.in-None.is at c.in_ok-text.ensures.value))
