use Rattle.cmd_glob.proofs.LawLemmas.{parts_of-set, parts_of-unclosed}
use Rattle.cmd_glob.proofs.laws.a_pattern_is_read_from_the_left.Goals as goal

pub returns-clause-set : goal.returns-clause-set
returns-clause-set c = parts_of-set

pub returns-clause-unclosed : goal.returns-clause-unclosed
returns-clause-unclosed c = parts_of-unclosed
