use Rattle.cmd_keys.proofs.WalkLaws.{server_stays, keys_stay}
use Rattle.cmd_keys.proofs.laws.other_keys_stay.Goals as goal

pub returns-clause-server : goal.returns-clause-server
returns-clause-server c = server_stays

pub returns-clause-keys : goal.returns-clause-keys
returns-clause-keys c = keys_stay
