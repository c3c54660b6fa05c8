use Rattle.cmd_keys.proofs.ServerLaws.{dbsize-length}
use Rattle.cmd_keys.proofs.laws.dbsize_counts_the_keys.Goals as goal

pub returns : goal.returns
returns c = dbsize-length
