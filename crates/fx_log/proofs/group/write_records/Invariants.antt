use Rattle.std.proofs.Common.{◌≡◌, ◌++◌, drop}
use Rattle.std.specs.List.{flat_map}
use Rattle.fx_log.specs.Groups.{record_text}
use Rattle.fx_log.proofs.group.write_records.Given as goal

abbrev pub invariant-loop-record : goal.invariant-loop-record
invariant-loop-record l = l.out ++ flat_map record_text (drop l.record-index l.record-items) ≡ l.initial.out
    ++ flat_map record_text l.records
