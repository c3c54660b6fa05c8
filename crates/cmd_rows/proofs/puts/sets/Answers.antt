use Rattle.std.proofs.Common.{sym, subst}
use Rattle.std.specs.List.{AllByRecursion}
use Rattle.cmd_rows.specs.Sets.{IsSet}
use Rattle.cmd_rows.proofs.ManySets.{sets_in-within}
use Rattle.cmd_rows.proofs.puts.sets.Goals as goal

pub lead_back-requires : goal.lead_back-requires
lead_back-requires c = subst (AllByRecursion IsSet) (sym c.in_ok-sets.ensures)
    (sets_in-within c.args.words.now c.requires)
