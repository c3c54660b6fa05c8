use Rattle.fx_record.proofs.LimitLaws.{apply-within, applied-within}
use Rattle.fx_record.proofs.laws.records_keep_to_the_limits.Goals as goal

pub returns-clause-one : goal.returns-clause-one
returns-clause-one c = apply-within

pub returns-clause-each : goal.returns-clause-each
returns-clause-each c = applied-within
