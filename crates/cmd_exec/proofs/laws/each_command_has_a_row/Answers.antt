use Rattle.cmd_exec.proofs.Refused.{exec-carried}
use Rattle.cmd_exec.proofs.laws.each_command_has_a_row.Goals as goal

pub returns : goal.returns
returns c = exec-carried c.each_command_on_strings_has_a_row.ensures
    c.each_command_on_keys_has_a_row.ensures.server c.each_command_on_keys_has_a_row.ensures.keys
