use Rattle.std.proofs.Common.{arith}
use Rattle.redscript.proofs.ReplayLaws.{Keeps-more}
use Rattle.redscript.proofs.replaying.Replaying.feed.Goals as goal

pub returns-in-Ok-clause-ok : goal.returns-in-Ok-clause-ok
returns-in-Ok-clause-ok c = λ text keeps.
    Keeps-more c.args.self.now _ text c.args.piece.now c.in-Ok.groups
    (c.in-Ok.ensures.goes text keeps.reader) c.in_ok-carry_out-in-Ok.ensures (omega arith) keeps
