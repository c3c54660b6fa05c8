use Rattle.resp_read.proofs.Continuations.{one-sequence}
use Rattle.resp_read.proofs.OneKind.{one-bad}
use Rattle.resp_read.proofs.GrammarLaws.{reading-is, nothing-reads, goes-on-always, left-reads, not-both, words-given}
use Rattle.resp_read.proofs.laws.reading_is_the_grammar.Goals as goal

pub returns-clause-reads : goal.returns-clause-reads
returns-clause-reads c = reading-is

pub returns-clause-goes_on : goal.returns-clause-goes_on
returns-clause-goes_on c = goes-on-always

pub returns-clause-nothing : goal.returns-clause-nothing
returns-clause-nothing c = nothing-reads

pub returns-clause-left : goal.returns-clause-left
returns-clause-left c = left-reads

pub returns-clause-one_sequence : goal.returns-clause-one_sequence
returns-clause-one_sequence c = one-sequence

pub returns-clause-one_bad : goal.returns-clause-one_bad
returns-clause-one_bad c = one-bad

pub returns-clause-not_both : goal.returns-clause-not_both
returns-clause-not_both c = not-both

pub returns-clause-words : goal.returns-clause-words
returns-clause-words c = words-given
