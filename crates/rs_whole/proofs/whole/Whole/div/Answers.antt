use Rattle.rs_whole.proofs.Division.{quotient_of, quotient_within, no_quotient}
use Rattle.rs_whole.proofs.whole.Whole.div.Goals as goal

pub returns-then-self-other-ne0 : goal.returns-then-self-other-ne0
returns-then-self-other-ne0 c =
    no_quotient _ _ _ _ c.self.invariant c.other.invariant c.self.view_is c.other.view_is c.if-self-other-ne0.true

pub invariant_of-result : goal.invariant_of-result
invariant_of-result c = quotient_within c.self.inside.n c.other.inside.n c.self.invariant c.other.invariant

pub returns : goal.returns
returns c = quotient_of _ _ _ _ c.self.invariant c.other.invariant c.self.view_is c.other.view_is c.if-other-eq0.false
    c.if-self-other-ne0.false
