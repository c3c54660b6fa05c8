use Rattle.cmd_glob.proofs.LawLemmas.{Matches-set}
use Rattle.cmd_glob.proofs.laws.a_set_matches_one_of_its_bytes.Goals as goal

pub returns-clause-one : goal.returns-clause-one
returns-clause-one c = Matches-set
