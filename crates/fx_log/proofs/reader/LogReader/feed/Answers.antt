use Rattle.std.proofs.Common.{sym, ◌∙◌}
use Rattle.fx_log.proofs.GoingOn.{unfinished_goes_on}
use Rattle.fx_log.proofs.Feeding.{failed}
use Rattle.fx_log.proofs.reader.LogReader.feed.Goals as goal

pub returns-in-Failed-clause-stops : goal.returns-in-Failed-clause-stops
returns-in-Failed-clause-stops c = λ text stands.
    failed c.reading_is_the_grammar.ensures.one_sequence c.reading_is_the_grammar.ensures.reads
    (unfinished_goes_on c.reading_is_the_grammar.ensures.goes_on)
    _ text _ (sym c.self.view_is ∙ sym c.in-Failed.ensures.value) stands
