use Rattle.std.proofs.Common.{◌≡◌, ◌++◌}
use Rattle.std.specs.Vec.Iter.{into_iter_items}
use Rattle.cmd_rows.proofs.settling.append.Given as goal

abbrev pub invariant-loop-record : goal.invariant-loop-record
invariant-loop-record l =
    (goal.iterator-loop-record).can_next l.record-iterator × (goal.iterator-loop-record).is_finite l.record-iterator
    × (l.effects ++ into_iter_items l.record-iterator ≡ l.fn.effects ++ l.fn.records)
