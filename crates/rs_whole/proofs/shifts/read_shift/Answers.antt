use Rattle.std.proofs.Common.{◌≡◌, sym, ◌∙◌, inl, inr, ◌⊎◌, arith}
use Rattle.rs_whole.proofs.ShiftTexts.{shift_found, shift_only}
use Rattle.rs_whole.proofs.shifts.read_shift.Goals as goal
use Rattle.rs_whole.proofs.shifts.read_shift.Goals.{else-letter-ne101-via-then-letter-ne101+else-letter-ne69}
use Rattle.rs_whole.proofs.shifts.read_shift.Goals.{else-letter-ne101-via-else-letter-ne101}

pub returns-clause-found : goal.returns-clause-found
returns-clause-found c =
    let letter : (c.in-Some.letter.now ≡ 101) ⊎ (c.in-Some.letter.now ≡ 69) =
    elim c.else-letter-ne101.branch [
      | else-letter-ne101-via-then-letter-ne101+else-letter-ne69 w ↦ inr
          (omega (arith, w.if-letter-ne69.false))
      | else-letter-ne101-via-else-letter-ne101 w ↦ inl
          (omega (arith, w.if-letter-ne101.false))
    ] in
    rw c.in-Some.ensures.cases.0
    (shift_found c.in-Some.letter.now c.in-Some.rest.now c.signed_shift.result letter c.signed_shift.ensures)

pub returns-clause-only : goal.returns-clause-only
returns-clause-only c =
    λ exponent is text. shift_only c.in-Some.letter.now c.in-Some.rest.now c.signed_shift.result c.signed_shift.ensures
    exponent is (sym c.in-Some.ensures.cases.0 ∙ text)
