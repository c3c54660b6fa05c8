use Rattle.std.proofs.Common.{◌≡◌, ◌++◌}
use Rattle.std.specs.List.{flat_map}
use Rattle.fx_log.specs.Dump.{word_text}
use Rattle.fx_log.proofs.dump_lines.write_items.Given as goal

abbrev pub invariant-loop-item : goal.invariant-loop-item
invariant-loop-item l = l.out ++ flat_map word_text l.item-iterator ≡ l.initial.out ++ flat_map word_text l.items
