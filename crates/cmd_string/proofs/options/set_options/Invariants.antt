use Rattle.std.proofs.Common.{◌≡◌, drop}
use Rattle.cmd_string.specs.Options.{with_words, no_option}
use Rattle.cmd_string.proofs.options.set_options.Given as goal

abbrev pub invariant-loop-word : goal.invariant-loop-word
invariant-loop-word l = with_words no_option l.words ≡ with_words l.reading (drop l.word-index l.words)
