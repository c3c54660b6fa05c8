use Rattle.std.proofs.Common.{◌≡◌, ◌<◌, [], length, inl, ap, arith}
use Rattle.std.proofs.lemmas.Bool.Decides.{nat_tests}
use Rattle.std.proofs.lemmas.Grind.{common_steps}
use Rattle.rs_outside.specs.declared.status.Status.TheVariants.{BadInput}
use Rattle.srv_loop.proofs.Reading.{IsRead-start, IsRead-more, IsRead-bad, IsRead-same_line, IsRead-no_session}
use Rattle.srv_loop.proofs.Reading.{IsRead-session, IsRead-only, IsRead-no_bad}
use Rattle.srv_loop.proofs.session.read_session.Goals as goal

pub loop-rest-init : goal.loop-rest-init
loop-rest-init c = rw c.new-turns.ensures (IsRead-start c.args.session.now)

pub returns-in_default-clause-bad : goal.returns-in_default-clause-bad
returns-in_default-clause-bad c =
    let some : 0 < length c.loop-rest.rest.now = grind (arith, nat_tests, c.loop-rest-test.ensures) in
    IsRead-bad _ _ _ _ c.loop-rest.invariant some
    (λ turn more is e. rw c.in_default.is at (c.in_ok-turn.ensures.only turn more is e))

pub returns-in_default-clause-good_only : goal.returns-in_default-clause-good_only
returns-in_default-clause-good_only c = λ turns is.
    let some : 0 < length c.loop-rest.rest.now = grind (arith, nat_tests, c.loop-rest-test.ensures) in
    absurd (IsRead-no_session _ _ _ _ c.loop-rest.invariant some
    (λ turn more is e. rw c.in_default.is at (c.in_ok-turn.ensures.only turn more is e)) turns is)

pub returns-in_default-clause-bad_only : goal.returns-in_default-clause-bad_only
returns-in_default-clause-bad_only c = λ line bad.
    inl (ap BadInput (IsRead-same_line _ _ _ _ c.loop-rest.invariant
    (λ turn more is e. rw c.in_default.is at (c.in_ok-turn.ensures.only turn more is e)) line bad))

pub overflow_add-line : goal.overflow_add-line
overflow_add-line c =
    let some : 0 < length c.loop-rest.rest.now = grind (arith, nat_tests, c.loop-rest-test.ensures) in
    let short = c.loop-rest.invariant.short in
    omega arith

pub loop-rest-preserved : goal.loop-rest-preserved
loop-rest-preserved c =
    let found = rw c.in-Some.is at c.in_ok-turn.ensures.found in
    rw c.in_ok-push.ensures.ok (IsRead-more _ _ _ _ _ c.in-Some.turn c.loop-rest.invariant found.0 found.1
    (λ other after is e. rw c.in-Some.is at (c.in_ok-turn.ensures.only other after is e)))

pub returns-clause-good : goal.returns-clause-good
returns-clause-good c =
    let end : c.loop-rest.rest.now ≡ [] = grind (arith, nat_tests, common_steps, c.loop-rest-test.ensures) in
    IsRead-session _ _ _ _ c.loop-rest.invariant end

pub returns-clause-only : goal.returns-clause-only
returns-clause-only c =
    let end : c.loop-rest.rest.now ≡ [] = grind (arith, nat_tests, common_steps, c.loop-rest-test.ensures) in
    IsRead-only _ _ _ _ c.loop-rest.invariant end

pub returns-clause-bad_only : goal.returns-clause-bad_only
returns-clause-bad_only c =
    let end : c.loop-rest.rest.now ≡ [] = grind (arith, nat_tests, common_steps, c.loop-rest-test.ensures) in
    IsRead-no_bad _ _ _ _ c.loop-rest.invariant end
