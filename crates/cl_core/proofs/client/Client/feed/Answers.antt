use Rattle.cl_core.proofs.FeedLaws.{fed_open, fed_broken}
use Rattle.cl_core.proofs.client.Client.feed.Goals as goal

pub returns-in-Ok : goal.returns-in-Ok
returns-in-Ok c =
    fed_open c.self.inside.reader c.feed.new.self c.args.self c.args.piece.now c.in-Ok.commands c.self.invariant
    c.self.view_is c.in-Ok.ensures.ok.0 c.in-Ok.ensures.ok.1

pub returns-in-Err-Bad : goal.returns-in-Err-Bad
returns-in-Err-Bad c =
    rw (c.in-Err-Bad.before-is, c.in-Err-Bad.kind-is)
    (fed_broken c.self.inside.reader c.args.self c.args.piece.now c.in-Err-Bad.before c.in-Err-Bad.field-0-1
    c.in-Err-Bad.kind c.self.invariant c.self.view_is
    (rw c.in-Err-Bad.field-0-is at c.in-Err-Bad.ensures.err).0)
