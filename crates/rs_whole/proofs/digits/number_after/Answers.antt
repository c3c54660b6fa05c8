use Rattle.std.proofs.Common.{arith}
use Rattle.rs_whole.proofs.DigitTexts.{past}
use Rattle.rs_whole.proofs.digits.number_after.Goals as goal

pub returns-then-n-gt-MAX_WHOLE : goal.returns-then-n-gt-MAX_WHOLE
returns-then-n-gt-MAX_WHOLE c = λ n small is.
    past c.args.radix c.loop-byte.n c.from.result c.digit.result c.args.digits.now c.loop-byte.byte-index (omega arith)
    c.loop-byte-test.true c.loop-byte.invariant.1 c.from.ensures c.digit.ensures c.if-n-gt-MAX_WHOLE.true
    (omega (arith, is, c.loop-byte.invariant.2))
