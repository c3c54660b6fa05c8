use Rattle.cmd_string.proofs.StringWalk.{string_row-within}
use Rattle.cmd_string.proofs.laws.string_records_are_within.Goals as goal

pub returns : goal.returns
returns c = string_row-within
