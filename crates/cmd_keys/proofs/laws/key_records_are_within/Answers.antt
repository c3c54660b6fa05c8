use Rattle.cmd_keys.proofs.Within.{server_records-within, key_records-within}
use Rattle.cmd_keys.proofs.laws.key_records_are_within.Goals as goal

pub returns-clause-server : goal.returns-clause-server
returns-clause-server c = server_records-within

pub returns-clause-keys : goal.returns-clause-keys
returns-clause-keys c = key_records-within
