use Rattle.std.proofs.Common.{◌≡◌, ◌++◌, drop}
use Rattle.std.specs.List.{flat_map}
use Rattle.fx_log.specs.Dump.{line_at, dump}
use Rattle.fx_log.proofs.dump_lines.dump.Given as goal

abbrev pub invariant-loop-key : goal.invariant-loop-key
invariant-loop-key l = l.out ++ flat_map (line_at l.space) (drop l.key-index l.key-items) ≡ l.initial.out
    ++ dump l.space
