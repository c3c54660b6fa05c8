use Rattle.std.proofs.Common.{ap, add-one}
use Rattle.cmd_args.specs.Draws.{drawn_word}
use Rattle.cmd_args.proofs.DrawLaws.{moved}
use Rattle.cmd_args.proofs.laws.draws_follow_one_another.Goals as goal

pub returns : goal.returns
returns c state draw = rw (add-one draw) (ap drawn_word (moved state draw))
