use Rattle.std.proofs.Common.{[], arith}
use Rattle.std.proofs.lemmas.Grind.{common_steps}
use Rattle.session_cases.proofs.Adding.{AddsFrames-from_took}
use Rattle.session_cases.proofs.cases.put_frames.Goals as goal

pub returns : goal.returns
returns c = AddsFrames-from_took _ _ _ _ _ (c.in-Ok.ensures.took 0 [] c.new.ensures.state) (grind (arith, common_steps))
