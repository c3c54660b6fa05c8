use Rattle.std.proofs.Common.{arith}
use Rattle.rs_whole.proofs.Places.{raised_too_far, raised_more}
use Rattle.rs_whole.proofs.shifts.raised.Goals as goal

pub returns-then-raised-gt-MAX_WHOLE : goal.returns-then-raised-gt-MAX_WHOLE
returns-then-raised-gt-MAX_WHOLE c = raised_too_far c.args.n c.loop.raised c.loop.counter c.args.zeros
    c.loop.invariant.1 (omega arith) c.if-raised-gt-MAX_WHOLE.true

pub loop-preserved : goal.loop-preserved
loop-preserved c = (omega arith, raised_more c.args.n c.loop.raised c.loop.counter c.loop.invariant.1)
