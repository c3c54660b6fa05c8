use Rattle.cmd_keys.proofs.ServerLaws.{flush-alone, flush-with_mode, flush-another_word}
use Rattle.cmd_keys.proofs.laws.flush_removes_every_key.Goals as goal

pub returns-clause-alone : goal.returns-clause-alone
returns-clause-alone c = flush-alone

pub returns-clause-with_mode : goal.returns-clause-with_mode
returns-clause-with_mode c = flush-with_mode

pub returns-clause-another_word : goal.returns-clause-another_word
returns-clause-another_word c = flush-another_word
