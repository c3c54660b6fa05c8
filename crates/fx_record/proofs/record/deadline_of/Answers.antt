use Rattle.std.proofs.Common.{◌∙◌, sym, ap, arith}
use Rattle.fx_record.specs.RecordWords.{deadline_of}
use Rattle.fx_record.proofs.WordLaws.{deadline_of-decimal}
use Rattle.fx_record.proofs.record.deadline_of.Goals as goal

pub returns-then-deadline-le-MAX_DEADLINE : goal.returns-then-deadline-le-MAX_DEADLINE
returns-then-deadline-le-MAX_DEADLINE c =
    sym (ap deadline_of (sym c.as_slice.ensures.value ∙ c.in_ok-deadline.ensures.found)
    ∙ deadline_of-decimal c.in_ok-deadline.deadline (omega arith))
