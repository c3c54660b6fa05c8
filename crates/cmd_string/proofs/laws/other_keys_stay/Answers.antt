use Rattle.cmd_string.proofs.WalkLaws.{strings_stay}
use Rattle.cmd_string.proofs.laws.other_keys_stay.Goals as goal

pub returns : goal.returns
returns c = strings_stay
