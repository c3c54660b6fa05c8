use Rattle.std.proofs.Common.{◌≡◌, ◌++◌}
use Rattle.std.specs.List.{flat_map}
use Rattle.fx_log.specs.Dump.{word_text}
use Rattle.fx_log.proofs.dump_lines.write_members.Given as goal

abbrev pub invariant-loop-member : goal.invariant-loop-member
invariant-loop-member l = l.out ++ flat_map word_text l.member-iterator ≡ l.initial.out ++ flat_map word_text l.members
