use Rattle.srv_loop.proofs.Cuts.{no_line, cut-line}
use Rattle.srv_loop.proofs.session.first_line.Goals as goal

pub returns-in_err-end-clause-only : goal.returns-in_err-end-clause-only
returns-in_err-end-clause-only c = λ line rest each e. absurd (no_line c.args.text.now line rest c.in_err-end.ensures e)

pub returns-clause-only : goal.returns-clause-only
returns-clause-only c = λ line rest each e.
    cut-line c.args.text.now line rest c.split_at.result.0.now c.split_at.result.1.now c.in_ok-rest.rest.now
    c.in_ok-end.end c.in_ok-rest.field-0-0.now c.in_ok-end.ensures each e c.split_at.ensures.front
    c.split_at.ensures.back c.in_ok-rest.ensures.cases.0
