use Rattle.cmd_glob.proofs.LawLemmas.{Matches-every, Matches-any, Matches-plain, Matches-escaped, Matches-behind}
use Rattle.cmd_glob.proofs.laws.a_pattern_matches_whole_texts.Goals as goal

pub returns-clause-stars : goal.returns-clause-stars
returns-clause-stars c = Matches-every

pub returns-clause-any : goal.returns-clause-any
returns-clause-any c = Matches-any

pub returns-clause-plain : goal.returns-clause-plain
returns-clause-plain c = Matches-plain

pub returns-clause-escaped : goal.returns-clause-escaped
returns-clause-escaped c = Matches-escaped

pub returns-clause-behind : goal.returns-clause-behind
returns-clause-behind c = Matches-behind
