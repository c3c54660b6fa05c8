use Rattle.std.proofs.Common.{◌≡◌}
use Rattle.std.specs.Vec.Iter.{into_iter_items}
use Rattle.fx_log.specs.Reading.{read_from}
use Rattle.fx_log.proofs.run.take_all.Given as goal

abbrev pub invariant-loop-command : goal.invariant-loop-command
invariant-loop-command l =
    (goal.iterator-loop-command).can_next l.command-iterator × (goal.iterator-loop-command).is_finite l.command-iterator
    × (read_from l.groups l.opened (into_iter_items l.command-iterator)
    ≡ read_from l.fn.groups l.fn.opened l.fn.commands)
