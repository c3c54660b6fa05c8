use Rattle.cl_core.proofs.ValidLaws.{beginning_valid, step_valid, time_rises}
use Rattle.cl_core.proofs.laws.turns_keep_validity.Goals as goal

pub returns : goal.returns
returns c =
    let law = c.reading_is_the_grammar.ensures in
    let kept = c.commands_keep_the_world.ensures in
    record {
      beginning = beginning_valid kept.empty;
      turns = step_valid law.left law.nothing kept.begun kept.command;
      time = time_rises;
    }
