use Rattle.std.proofs.Common.{◌∙◌, ap, sym}
use Rattle.std.specs.FinMap as finite
use Rattle.fx_record.proofs.Staying.{through, with_deadline-stays}
use Rattle.fx_record.proofs.steps.has_deadline.Goals as goal

pub returns-in-Some : goal.returns-in-Some
returns-in-Some c =
    through c.is_same_deadline.ensures
    (with_deadline-stays c.args.space.now c.args.key.now c.args.deadline c.in-Some.entry.now
    (ap (finite.get c.args.space.now) (sym c.as_slice.ensures.value) ∙ sym c.in-Some.ensures.entry))
