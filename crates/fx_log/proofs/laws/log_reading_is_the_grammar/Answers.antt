use Rattle.fx_log.proofs.GoingOn.{unfinished_goes_on}
use Rattle.fx_log.proofs.LogLaws.{log-reading-is}
use Rattle.fx_log.proofs.Staying.{bad-stays}
use Rattle.fx_log.proofs.Texts.{one-groups, one-bad, log-good}
use Rattle.fx_log.proofs.laws.log_reading_is_the_grammar.Goals as goal

pub returns-clause-reads : goal.returns-clause-reads
returns-clause-reads c = log-reading-is c.reading_is_the_grammar.ensures.reads

pub returns-clause-one_list : goal.returns-clause-one_list
returns-clause-one_list c = one-groups c.reading_is_the_grammar.ensures.one_sequence

pub returns-clause-one_bad : goal.returns-clause-one_bad
returns-clause-one_bad c = one-bad c.reading_is_the_grammar.ensures.one_sequence
    c.reading_is_the_grammar.ensures.one_bad

pub returns-clause-not_both : goal.returns-clause-not_both
returns-clause-not_both c = log-good c.reading_is_the_grammar.ensures.one_sequence
    c.reading_is_the_grammar.ensures.not_both

pub returns-clause-stays : goal.returns-clause-stays
returns-clause-stays c = λ text more place kind bad.
    (bad-stays c.reading_is_the_grammar.ensures.one_sequence c.reading_is_the_grammar.ensures.reads
    (unfinished_goes_on c.reading_is_the_grammar.ensures.goes_on) text more place kind bad).0
