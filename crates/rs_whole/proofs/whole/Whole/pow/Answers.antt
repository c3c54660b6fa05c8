use Rattle.std.proofs.Common.{sym, ◌∙◌}
use Rattle.rs_whole.proofs.Powers.{no_pow, pow_result}
use Rattle.rs_whole.proofs.whole.Whole.pow.Goals as goal
use Rattle.rs_whole.proofs.whole.Whole.pow.Goals.{else-other-lt0-via-then-other-lt0+else-unsigned_abs-ne1}
use Rattle.rs_whole.proofs.whole.Whole.pow.Goals.{else-other-lt0-via-else-other-lt0}

pub returns-then-unsigned_abs-ne1 : goal.returns-then-unsigned_abs-ne1
returns-then-unsigned_abs-ne1 c =
    no_pow c.self.inside.n c.other.inside.n _ _ c.unsigned_abs.result c.self.invariant c.other.invariant c.self.view_is
    c.other.view_is c.unsigned_abs.ensures.value c.if-other-lt0.true c.if-unsigned_abs-ne1.true

pub returns : goal.returns
returns c =
    pow_result c.self.inside.n c.other.inside.n _ _ c.unsigned_abs-2.result _ c.self.invariant c.other.invariant
    c.self.view_is c.other.view_is c.unsigned_abs-2.ensures.value
    (elim c.else-other-lt0.branch [
      | else-other-lt0-via-then-other-lt0+else-unsigned_abs-ne1 w ↦
          (λ below. sym w.unsigned_abs.ensures.value ∙ w.if-unsigned_abs-ne1.false)
      | else-other-lt0-via-else-other-lt0 w
          ↦ (λ below. let no = w.if-other-lt0.false in absurd (cc))
    ])
    c.power.ensures
