use Rattle.fx_record.proofs.SettledLaws.{settled-same, settled-exactly, settled-other}
use Rattle.fx_record.proofs.laws.settled_records_lead_to_the_same_store.Goals as goal

pub returns-clause-same : goal.returns-clause-same
returns-clause-same c = settled-same

pub returns-clause-none : goal.returns-clause-none
returns-clause-none c = settled-exactly

pub returns-clause-all : goal.returns-clause-all
returns-clause-all c = settled-other
