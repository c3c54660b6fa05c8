use Rattle.std.proofs.Common.{arith}
use Rattle.std.proofs.lemmas.Int.Digits.{digits_value_more}
use Rattle.rs_whole.proofs.DigitTexts.{next_digit}
use Rattle.rs_whole.proofs.digits.number_up_to_last.Goals as goal

pub loop-byte-preserved : goal.loop-byte-preserved
loop-byte-preserved c =
    let next =
    next_digit 10 0 c.args.digits.now c.loop-byte.byte-index c.loop-byte-test.true c.loop-byte.invariant.0 in (
      next.1,
      omega (
        arith,
        c.loop-byte.invariant.1,
        c.saturating_mul.ensures,
        c.digit.ensures,
        c.saturating_add-n.ensures,
        digits_value_more 10 c.args.digits.now c.loop-byte.byte-index c.loop-byte-test.true,
      ),
    )
