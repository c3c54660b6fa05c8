use Rattle.cmd_string.proofs.WalkLaws.{strings_fault}
use Rattle.cmd_string.proofs.laws.a_fault_does_nothing_to_strings.Goals as goal

pub returns : goal.returns
returns c = strings_fault
