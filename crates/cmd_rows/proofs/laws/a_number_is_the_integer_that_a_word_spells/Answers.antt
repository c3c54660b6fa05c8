use Rattle.cmd_rows.proofs.NumberTexts.{number-exactly}
use Rattle.cmd_rows.proofs.laws.a_number_is_the_integer_that_a_word_spells.Goals as goal

pub returns : goal.returns
returns c = number-exactly
