use Rattle.cmd_keys.proofs.ServerLaws.{time-parts}
use Rattle.cmd_keys.proofs.laws.time_is_in_seconds_and_microseconds.Goals as goal

pub returns : goal.returns
returns c = time-parts
