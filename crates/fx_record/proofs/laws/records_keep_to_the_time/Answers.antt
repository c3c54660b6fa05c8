use Rattle.fx_record.proofs.LimitLaws.{apply-timely, applied-timely}
use Rattle.fx_record.proofs.laws.records_keep_to_the_time.Goals as goal

pub returns-clause-one : goal.returns-clause-one
returns-clause-one c = apply-timely

pub returns-clause-each : goal.returns-clause-each
returns-clause-each c = applied-timely
