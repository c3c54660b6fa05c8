use Rattle.rs_whole.proofs.Division.{plain_result, moved_result}
use Rattle.rs_whole.proofs.whole.Whole.modulo.Goals as goal
use Rattle.rs_whole.proofs.whole.Whole.modulo.Goals.{else-rest-ne0-via-then-rest-ne0+else-other-lt0}
use Rattle.rs_whole.proofs.whole.Whole.modulo.Goals.{else-rest-ne0-via-else-rest-ne0}

pub returns-then-other-lt0 : goal.returns-then-other-lt0
returns-then-other-lt0 c =
    moved_result c.self.inside.n c.other.inside.n _ _ c.rem_euclid-rest.result c.self.invariant c.other.invariant
    c.self.view_is c.other.view_is c.if-other-eq0.false c.rem_euclid-rest.ensures.value c.if-rest-ne0.true
    c.if-other-lt0.true

pub returns : goal.returns
returns c =
    plain_result c.self.inside.n c.other.inside.n _ _ c.rem_euclid-rest.result c.self.invariant c.other.invariant
    c.self.view_is c.other.view_is c.if-other-eq0.false c.rem_euclid-rest.ensures.value
    (elim c.else-rest-ne0.branch [
      | else-rest-ne0-via-then-rest-ne0+else-other-lt0 w ↦ (λ below. let no =
          w.if-other-lt0.false in absurd (cc))
      | else-rest-ne0-via-else-rest-ne0 w ↦ (λ below. w.if-rest-ne0.false)
    ])
