use Rattle.cmd_glob.proofs.SearchLemmas.{Matches-fits}
use Rattle.cmd_glob.proofs.matching.matches_from.Goals as goal

pub loop-parts-preserved : goal.loop-parts-preserved
loop-parts-preserved c =
    let step = Matches-fits c.loop-parts.here.parts.now c.in-Some-behind_byte.parts.now c.loop-parts.here.text.now
    c.in-Some-split_first.text.now c.in-Some-split_first.byte.now c.in-Some-behind_byte.ensures
    c.in-Some-split_first.ensures.cases.0 in
    (λ m. step.0 (c.loop-parts.invariant.0 m), λ m. c.loop-parts.invariant.1 (step.1 m))
