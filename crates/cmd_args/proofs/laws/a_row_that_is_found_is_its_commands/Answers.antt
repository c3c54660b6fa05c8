use Rattle.cmd_args.proofs.TableLaws.{its_own}
use Rattle.cmd_args.proofs.laws.a_row_that_is_found_is_its_commands.Goals as goal

pub returns : goal.returns
returns c = its_own
