use Rattle.std.proofs.Common.{ap, length, arith}
use Rattle.std.proofs.lemmas.Bool.Decides.{nat_tests}
use Rattle.rs_whole.proofs.NumeralTexts.{sixteens_read}
use Rattle.rs_whole.proofs.numerals.by_sixteens.Goals as goal
use Rattle.rs_whole.proofs.numerals.by_sixteens.Goals.{then-is_empty-via-then-is_empty}
use Rattle.rs_whole.proofs.numerals.by_sixteens.Goals.{then-is_empty-via-else-is_empty+then-not-is_empty}

pub returns-then-is_empty-clause-only : goal.returns-then-is_empty-clause-only
returns-then-is_empty-clause-only c = λ are.
    let read = sixteens_read c.args.text.now c.split_digits.result.0.now c.split_digits.result.1.now
    c.split_digits.ensures.joined c.split_digits.ensures.digits c.split_digits.ensures.ends are in
    let all = ap length read.0 in
    let none = ap length read.1 in
    let some = are.0 in
    elim c.then-is_empty.branch [
      | then-is_empty-via-then-is_empty w ↦ grind (arith, nat_tests, w.if-is_empty.ensures)
      | then-is_empty-via-else-is_empty+then-not-is_empty w ↦ grind (arith, nat_tests, w.if-not-is_empty.ensures)
    ]
