use Rattle.cmd_string.proofs.WalkLaws.{strings_have_rows}
use Rattle.cmd_string.proofs.laws.each_command_on_strings_has_a_row.Goals as goal

pub returns : goal.returns
returns c = strings_have_rows
