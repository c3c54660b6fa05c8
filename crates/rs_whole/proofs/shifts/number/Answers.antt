use Rattle.rs_whole.proofs.Places.{too_long, number_found}
use Rattle.rs_whole.proofs.shifts.number.Goals as goal

pub returns-in_err-number_after : goal.returns-in_err-number_after
returns-in_err-number_after c =
    rw c.from_residual.ensures (too_long c.args.front.now c.args.back.now c.in_err-number_after.ensures)

pub returns : goal.returns
returns c = number_found c.args.front.now c.args.back.now c.in_ok-number_after.field-0 _ c.in_ok-number_after.ensures.1
    c.number_after-2.ensures
