use Rattle.cl_core.proofs.HistoryLaws.{history_is}
use Rattle.cl_core.proofs.laws.store_follows_history.Goals as goal

pub returns : goal.returns
returns c = history_is
