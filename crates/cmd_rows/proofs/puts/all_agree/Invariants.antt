use Rattle.std.proofs.Common.{◌↔◌, drop}
use Rattle.std.specs.List.{AllByRecursion}
use Rattle.cmd_rows.specs.Sets.{Agrees}
use Rattle.cmd_rows.proofs.puts.all_agree.Given as goal

abbrev pub invariant-loop-set : goal.invariant-loop-set
invariant-loop-set l = AllByRecursion (Agrees l.last l.space) (drop l.set-index l.sets) ↔ AllByRecursion
    (Agrees l.last l.space) l.sets
