use Rattle.cmd_rows.proofs.Followed.{within-limits, within-time}
use Rattle.cmd_rows.proofs.laws.records_that_keep_to_time_and_limits.Goals as goal

pub returns-clause-limits : goal.returns-clause-limits
returns-clause-limits c = within-limits

pub returns-clause-time : goal.returns-clause-time
returns-clause-time c = within-time
