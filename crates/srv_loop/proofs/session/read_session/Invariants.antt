use Rattle.std.proofs.Common.{length}
use Rattle.srv_loop.proofs.Reading.{IsRead}
use Rattle.srv_loop.proofs.session.read_session.Given as goal

abbrev pub invariant-loop-rest : goal.invariant-loop-rest
invariant-loop-rest l = IsRead l.fn.session l.rest l.turns l.line

abbrev pub decreases-loop-rest : goal.decreases-loop-rest
decreases-loop-rest l = length l.rest
