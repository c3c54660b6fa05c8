use Rattle.cmd_string.specs.StringRows.{string_row}
use Rattle.cmd_string.proofs.GivenByOptions.{options-plain, options-keeping, options-until, options-past, options-skip}
use Rattle.cmd_string.proofs.set_laws.set_does_as_its_options_say.Goals as goal

pub returns-clause-plain : goal.returns-clause-plain
unfolding string_row
returns-clause-plain c = λ world name. options-plain world.store world.time

pub returns-clause-keepttl : goal.returns-clause-keepttl
unfolding string_row
returns-clause-keepttl c = λ world name. options-keeping world.store world.time

pub returns-clause-until : goal.returns-clause-until
unfolding string_row
returns-clause-until c = λ world name key value words options old kind n at writes.
    options-until world.store world.time key value words options old writes kind n at

pub returns-clause-past : goal.returns-clause-past
unfolding string_row
returns-clause-past c = λ world name key value words options old kind n at writes.
    options-past world.store world.time key value words options old writes kind n at

pub returns-clause-skips : goal.returns-clause-skips
unfolding string_row
returns-clause-skips c = λ world name. options-skip world.store world.time
