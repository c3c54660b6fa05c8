use Rattle.fx_log.proofs.GoingOn.{unfinished_goes_on}
use Rattle.fx_log.proofs.Cuts.{whole-reads, cut-reads}
use Rattle.fx_log.proofs.laws.groups_are_read_back.Goals as goal

pub returns-clause-whole : goal.returns-clause-whole
returns-clause-whole c =
    whole-reads c.reading_is_the_grammar.ensures.one_sequence c.reading_is_the_grammar.ensures.not_both
    c.reading_is_the_grammar.ensures.words

pub returns-clause-cut : goal.returns-clause-cut
returns-clause-cut c =
    cut-reads c.reading_is_the_grammar.ensures.one_sequence c.reading_is_the_grammar.ensures.not_both
    c.reading_is_the_grammar.ensures.reads
    (unfinished_goes_on c.reading_is_the_grammar.ensures.goes_on) c.reading_is_the_grammar.ensures.words
