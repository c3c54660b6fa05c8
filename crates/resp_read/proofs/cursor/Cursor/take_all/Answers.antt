use Rattle.std.proofs.Common.{◌<◌, length, arith}
use Rattle.resp_read.proofs.Positions.{StandsBehind-more, StandsBehind-stop}
use Rattle.resp_read.proofs.cursor.Cursor.take_all.Goals as goal

pub returns-in-Some-clause-bad : goal.returns-in-Some-clause-bad
returns-in-Some-clause-bad c =
    let within : c.loop-byte.byte-index < length c.args.piece.now = omega arith in
    StandsBehind-stop _ _ _ _ _ _ _ _ _ within c.loop-byte.invariant.1 (rw c.in-Some.is at c.in_ok-bad.ensures.bad)

pub loop-byte-preserved : goal.loop-byte-preserved
loop-byte-preserved c =
    let within : c.loop-byte.byte-index < length c.args.piece.now = omega arith in
    StandsBehind-more _ _ _ _ _ _ _ _ _ within c.loop-byte.invariant.1 (rw c.in_default.is at c.in_ok-bad.ensures.good)
