use Rattle.std.proofs.Common.{◌≡◌, ◌<◌, [], Some, ◌∙◌, sym, ap, refl, arith, length}
use Rattle.std.proofs.lemmas.Bool.Decides.{nat_tests}
use Rattle.std.proofs.lemmas.Grind.{common_steps}
use Rattle.rs_base.specs.Escape.{spelling}
use Rattle.rs_base.proofs.Spellings.{HasRead-start, HasRead-more, HasRead-stuck, HasRead-all, HasRead-spelling}
use Rattle.rs_base.proofs.Spellings.{spelling-by_bytes, no_end}
use Rattle.rs_base.proofs.escapes.unescape.Goals as goal

pub loop-rest-init : goal.loop-rest-init
loop-rest-init c = rw c.in_ok-bytes.ensures (HasRead-start c.args.text.now)

pub returns-in_default-clause-only : goal.returns-in_default-clause-only
returns-in_default-clause-only c = λ bytes are e.
    let more : 0 < length c.loop-rest.rest.now = grind (arith, nat_tests, c.loop-rest-test.ensures) in
    let other =
    no_end c.args.text.now c.as_slice.result.now c.eq.result c.as_slice.ensures c.eq.ensures c.if-eq.false in
    absurd (HasRead-stuck c.loop-rest.invariant more (sym c.in_default.ensures) bytes are
    (spelling-by_bytes _ bytes other e))

pub loop-rest-preserved : goal.loop-rest-preserved
loop-rest-preserved c =
    rw c.in_ok-push.ensures.ok
    (HasRead-more _ _ c.loop-rest.rest.now c.in-Some.byte c.in-Some.more.now c.loop-rest.invariant
    (sym c.in-Some.ensures))

pub returns-then-is_empty-clause-only : goal.returns-then-is_empty-clause-only
returns-then-is_empty-clause-only c = λ bytes are e.
    let other =
    no_end c.args.text.now c.as_slice.result.now c.eq.result c.as_slice.ensures c.eq.ensures c.if-eq.false in
    let none : c.loop-rest.rest.now ≡ [] = grind (arith, nat_tests, common_steps, c.loop-rest-test.ensures) in
    let all = HasRead-all _ _ _ c.loop-rest.invariant none bytes are (spelling-by_bytes _ bytes other e) in
    absurd (other (e ∙ ap spelling (sym all ∙ c.if-is_empty.ensures.0 refl)))

pub returns-clause-found : goal.returns-clause-found
returns-clause-found c =
    let none : c.loop-rest.rest.now ≡ [] = grind (arith, nat_tests, common_steps, c.loop-rest-test.ensures) in
    let some : c.loop-rest.bytes ≡ [] → ⊥ = λ empty. let no = c.if-is_empty.ensures.1 empty in absurd (cc) in
    HasRead-spelling _ _ _ c.loop-rest.invariant none some

pub returns-clause-only : goal.returns-clause-only
returns-clause-only c = λ bytes are e.
    let other =
    no_end c.args.text.now c.as_slice.result.now c.eq.result c.as_slice.ensures c.eq.ensures c.if-eq.false in
    let none : c.loop-rest.rest.now ≡ [] = grind (arith, nat_tests, common_steps, c.loop-rest-test.ensures) in
    ap Some (HasRead-all _ _ _ c.loop-rest.invariant none bytes are (spelling-by_bytes _ bytes other e))
