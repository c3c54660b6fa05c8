use Rattle.std.proofs.Common.{◌≡◌, ◌<◌, ◌^◌, [], ◌++◌, length, length-append, arith}
use Rattle.std.proofs.lemmas.Bool.Decides.{nat_tests}
use Rattle.std.proofs.lemmas.Grind.{common_steps}
use Rattle.rs_whole.proofs.NumeralTexts.{no_digits_none, no_shift_none, read_value, read_numeral}
use Rattle.rs_whole.proofs.numerals.by_tens.Goals as goal
use Rattle.rs_whole.proofs.numerals.by_tens.Goals.{else-is_empty-via-then-is_empty+else-is_empty-2}
use Rattle.rs_whole.proofs.numerals.by_tens.Goals.{else-is_empty-via-else-is_empty}

pub returns-then-is_empty-2-clause-only : goal.returns-then-is_empty-2-clause-only
returns-then-is_empty-2-clause-only c =
    let no_w : c.split_digits.result.0.now ≡ [] = grind (arith, nat_tests, common_steps, c.is_empty.ensures) in
    let no_f : c.split_fraction.result.0.now ≡ [] =
    grind (arith, nat_tests, common_steps, c.is_empty-then-is_empty.ensures) in
    no_digits_none c.args.text.now c.split_digits.result.0.now c.split_digits.result.1.now c.split_fraction.result.0.now
    c.split_fraction.result.1.now c.split_digits.ensures.joined c.split_digits.ensures.digits
    c.split_digits.ensures.ends c.split_fraction.ensures.found c.split_fraction.ensures.only no_w no_f

pub returns-in_err-shift-clause-only : goal.returns-in_err-shift-clause-only
returns-in_err-shift-clause-only c = λ v g e is t.
    absurd (no_shift_none c.args.text.now c.split_digits.result.0.now c.split_digits.result.1.now
    c.split_fraction.result.0.now c.split_fraction.result.1.now c.read_shift.result c.split_digits.ensures.joined
    c.split_digits.ensures.digits c.split_digits.ensures.ends c.split_fraction.ensures.found
    c.split_fraction.ensures.only c.read_shift.ensures.only c.in_err-shift.was v g e is t)

pub returns-clause-found : goal.returns-clause-found
returns-clause-found c =
    let long = length-append c.split_digits.result.0.now c.split_fraction.result.0.now in
    let some : 0 < length (c.split_digits.result.0.now ++ c.split_fraction.result.0.now) =
    elim c.else-is_empty.branch [
      | else-is_empty-via-then-is_empty+else-is_empty-2 w ↦ grind (
        arith,
        nat_tests,
        w.if-is_empty-2.ensures,
      )
      | else-is_empty-via-else-is_empty w ↦ grind (arith, nat_tests, w.if-is_empty.ensures)
    ]
    in
    read_numeral c.args.text.now c.split_digits.result.0.now c.split_digits.result.1.now c.split_fraction.result.0.now
    c.split_fraction.result.1.now c.split_digits.ensures.joined c.split_digits.ensures.digits
    c.split_fraction.ensures.found some c.in_ok-shift.ensures.found

pub returns-clause-only : goal.returns-clause-only
returns-clause-only c =
    let short : length c.args.text.now < 2 ^ 64 = omega arith in
    read_value c.args.text.now c.split_digits.result.0.now c.split_digits.result.1.now c.split_fraction.result.0.now
    c.split_fraction.result.1.now c.in_ok-shift.shift _ _ short c.split_digits.ensures.joined
    c.split_digits.ensures.digits c.split_digits.ensures.ends c.split_fraction.ensures.found
    c.split_fraction.ensures.only c.in_ok-shift.ensures.only c.shifted.ensures c.found.ensures
