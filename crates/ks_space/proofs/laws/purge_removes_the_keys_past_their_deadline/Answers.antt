use Rattle.ks_space.proofs.Purged.{past, others, timely, listed, ordered}
use Rattle.ks_space.proofs.laws.purge_removes_the_keys_past_their_deadline.Goals as goal

pub returns-clause-past : goal.returns-clause-past
returns-clause-past c = past

pub returns-clause-others : goal.returns-clause-others
returns-clause-others c = others

pub returns-clause-timely : goal.returns-clause-timely
returns-clause-timely c = timely

pub returns-clause-listed : goal.returns-clause-listed
returns-clause-listed c = listed

pub returns-clause-ordered : goal.returns-clause-ordered
returns-clause-ordered c = ordered
