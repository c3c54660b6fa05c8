use Rattle.std.proofs.Common.{sym, subst}
use Rattle.srv_loop.specs.Session.{IsBadLine}
use Rattle.srv_loop.proofs.playing.play.Goals as goal

pub returns-in-Ok-clause-bad_only : goal.returns-in-Ok-clause-bad_only
returns-in-Ok-clause-bad_only g c =
    λ line bad. absurd (c.in-Ok.ensures.bad_only line
    (subst (λ t. IsBadLine t line) (sym c.as_slice.ensures.value) bad))

pub returns-in-Ok-clause-anywhere : goal.returns-in-Ok-clause-anywhere
returns-in-Ok-clause-anywhere g c = rw (← c.as_slice.ensures.value) c.in-Ok.ensures.anywhere

pub returns-in-Err-clause-bad_only : goal.returns-in-Err-clause-bad_only
returns-in-Err-clause-bad_only g c =
    λ line bad. c.in-Err.ensures.bad_only line (subst (λ t. IsBadLine t line) (sym c.as_slice.ensures.value) bad)
