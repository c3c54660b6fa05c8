use Rattle.std.proofs.Common.{◌≡◌, ◌++◌}
use Rattle.std.specs.List.{flat_map}
use Rattle.fx_log.specs.Dump.{pair_text}
use Rattle.fx_log.proofs.dump_lines.write_pairs.Given as goal

abbrev pub invariant-loop-field : goal.invariant-loop-field
invariant-loop-field l = l.out ++ flat_map pair_text l.field-iterator ≡ l.initial.out ++ flat_map pair_text l.pairs
