use Rattle.cmd_keys.proofs.KeyLists.{randomkey-some, randomkey-empty}
use Rattle.cmd_keys.proofs.laws.randomkey_gives_a_key.Goals as goal

pub returns-clause-some : goal.returns-clause-some
returns-clause-some c = randomkey-some

pub returns-clause-none : goal.returns-clause-none
returns-clause-none c = randomkey-empty
