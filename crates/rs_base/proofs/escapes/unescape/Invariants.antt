use Rattle.std.proofs.Common.{length}
use Rattle.rs_base.proofs.Spellings.{HasRead}
use Rattle.rs_base.proofs.escapes.unescape.Given as goal

abbrev pub invariant-loop-rest : goal.invariant-loop-rest
invariant-loop-rest l = HasRead l.fn.text l.bytes l.rest

abbrev pub decreases-loop-rest : goal.decreases-loop-rest
decreases-loop-rest l = length l.rest
