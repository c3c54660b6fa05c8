use Rattle.std.proofs.Common.{◌≡◌, ◌+◌, length, not, ◌&&◌, drop, sym, ap, ◌∙◌, arith}
use Rattle.std.specs.Cmp.Lexicographic.{pointwise}
use Rattle.std.specs.Str.{bytes_eq}
use Rattle.ks_value.proofs.Places.{pointwise-step}
use Rattle.ks_value.proofs.set.SetValuePartialEq.eq.Goals as goal

pub returns-then-ne : goal.returns-then-ne
returns-then-ne c =
    let long : length c.args.self.now ≡ length c.args.other.now = omega arith in
    sym (pointwise-step bytes_eq c.args.self.now c.args.other.now c.loop-at.at c.at.result c.at-in-loop-at.result
    c.ne.result (omega arith) long c.at.ensures.value c.at-in-loop-at.ensures.value
    c.ne.ensures c.loop-at.invariant
    ∙ ap (λ b. not b && pointwise bytes_eq (drop (c.loop-at.at + 1) c.args.self.now)
    (drop (c.loop-at.at + 1) c.args.other.now)) c.if-ne.true)

pub loop-at-preserved : goal.loop-at-preserved
loop-at-preserved c =
    let long : length c.args.self.now ≡ length c.args.other.now = omega arith in
    pointwise-step bytes_eq c.args.self.now c.args.other.now c.loop-at.at c.at.result c.at-in-loop-at.result
    c.ne.result (omega arith) long c.at.ensures.value c.at-in-loop-at.ensures.value
    c.ne.ensures c.loop-at.invariant
    ∙ ap (λ b. not b && pointwise bytes_eq (drop (c.loop-at.at + 1) c.args.self.now)
    (drop (c.loop-at.at + 1) c.args.other.now)) c.if-ne.false
