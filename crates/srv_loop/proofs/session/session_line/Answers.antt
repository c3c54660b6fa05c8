use Rattle.std.proofs.Common.{◌==◌, [], Some, length, sym, ap, ◌∙◌, append-nil}
use Rattle.srv_loop.specs.Session.{turn_line}
use Rattle.srv_loop.proofs.session.session_line.Goals as goal

pub returns-then-not-is_empty-clause-only : goal.returns-then-not-is_empty-clause-only
returns-then-not-is_empty-clause-only c = λ turn is e.
    let read = rw c.in-Some.is at (c.in_ok-turn.ensures.only turn [] is (e ∙ sym (append-nil (turn_line turn)))) in
    let no = c.if-not-is_empty.ensures ∙ ap (λ t. length t == 0) read.1 in
    absurd (cc)

pub returns-clause-only : goal.returns-clause-only
returns-clause-only c = λ turn is e.
    let read = rw c.in-Some.is at (c.in_ok-turn.ensures.only turn [] is (e ∙ sym (append-nil (turn_line turn)))) in
    ap (Some) read.0
