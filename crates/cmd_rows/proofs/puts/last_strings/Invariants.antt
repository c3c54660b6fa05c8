use Rattle.std.proofs.Common.{◌≡◌, [], drop}
use Rattle.cmd_rows.specs.Sets.{strings_set}
use Rattle.cmd_rows.proofs.puts.last_strings.Given as goal

abbrev pub invariant-loop-set : goal.invariant-loop-set
invariant-loop-set l = strings_set l.last (drop l.set-index l.sets) ≡ strings_set [] l.sets
