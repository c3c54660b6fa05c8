use Rattle.std.proofs.Common.{cond, None, sym, ap, ◌∙◌}
use Rattle.fx_record.specs.RecordWords.{record_shaped}
use Rattle.fx_record.proofs.WordLaws.{IsRecord-found}
use Rattle.fx_record.proofs.record.Record.from_words.Goals as goal

pub returns-then-are_within_limits-clause-within : goal.returns-then-are_within_limits-clause-within
returns-then-are_within_limits-clause-within c =
    IsRecord-found c.args.words c.read.result
    (c.read.ensures ∙ ap (λ within. cond within (record_shaped c.args.words) None)
    (sym c.if-are_within_limits.true ∙ c.are_within_limits.ensures))
