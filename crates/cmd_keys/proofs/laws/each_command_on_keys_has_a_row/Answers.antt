use Rattle.cmd_keys.proofs.WalkLaws.{server_has_rows, keys_have_rows}
use Rattle.cmd_keys.proofs.laws.each_command_on_keys_has_a_row.Goals as goal

pub returns-clause-server : goal.returns-clause-server
returns-clause-server c = server_has_rows

pub returns-clause-keys : goal.returns-clause-keys
returns-clause-keys c = keys_have_rows
