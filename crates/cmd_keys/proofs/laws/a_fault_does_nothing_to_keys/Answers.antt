use Rattle.cmd_keys.proofs.WalkLaws.{server_fault, keys_fault}
use Rattle.cmd_keys.proofs.laws.a_fault_does_nothing_to_keys.Goals as goal

pub returns-clause-server : goal.returns-clause-server
returns-clause-server c = server_fault

pub returns-clause-keys : goal.returns-clause-keys
returns-clause-keys c = keys_fault
