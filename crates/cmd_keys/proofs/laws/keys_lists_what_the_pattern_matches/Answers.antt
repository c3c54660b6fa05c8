use Rattle.cmd_keys.proofs.KeyLists.{keys-listed}
use Rattle.cmd_keys.proofs.laws.keys_lists_what_the_pattern_matches.Goals as goal

pub returns : goal.returns
returns c = keys-listed
