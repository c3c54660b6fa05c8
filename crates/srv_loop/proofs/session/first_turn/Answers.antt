use Rattle.std.proofs.Common.{◌∷◌, ◌++◌, ◌∙◌, sym, subst}
use Rattle.srv_loop.specs.Session.{IsWhat, what_text}
use Rattle.srv_loop.proofs.Lines.{line_is, same_turn}
use Rattle.srv_loop.proofs.session.first_turn.Goals as goal

pub returns-in_default-2-clause-only : goal.returns-in_default-2-clause-only
returns-in_default-2-clause-only c = λ turn more is e.
    let head = c.in-Some.ensures.only turn.clock turn.word turn.client
    (what_text turn.what ++ 10 ∷ more) is.clock is.word is.client (e ∙ line_is turn more) in
    rw c.in_default-2.is at (c.in_ok-what.ensures.only turn.what more
    (subst (λ h. IsWhat h.client turn.what) (sym head.0) is.what) head.1)

pub returns-clause-only : goal.returns-clause-only
returns-clause-only c = λ turn more is e.
    let head = c.in-Some.ensures.only turn.clock turn.word turn.client
    (what_text turn.what ++ 10 ∷ more) is.clock is.word is.client (e ∙ line_is turn more) in
    let behind = rw c.in-Some-2.is at
    (c.in_ok-what.ensures.only turn.what more
    (subst (λ h. IsWhat h.client turn.what) (sym head.0) is.what) head.1) in
    (same_turn c.in-Some.head c.in-Some-2.what turn head.0 behind.0, behind.1)
