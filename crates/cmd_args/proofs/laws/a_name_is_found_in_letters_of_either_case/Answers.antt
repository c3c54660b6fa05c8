use Rattle.cmd_args.proofs.TableLaws.{same_in_lower, same_in_upper}
use Rattle.cmd_args.proofs.laws.a_name_is_found_in_letters_of_either_case.Goals as goal

pub returns-clause-lower : goal.returns-clause-lower
returns-clause-lower c = same_in_lower

pub returns-clause-upper : goal.returns-clause-upper
returns-clause-upper c = same_in_upper
