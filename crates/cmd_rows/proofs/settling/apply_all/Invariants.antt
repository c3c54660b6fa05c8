use Rattle.std.proofs.Common.{◌≡◌, drop}
use Rattle.std.specs.List.{AllByRecursion}
use Rattle.fx_record.specs.Records.{applied}
use Rattle.fx_record.specs.RecordWords.{IsRecord}
use Rattle.cmd_rows.proofs.settling.apply_all.Given as goal

abbrev pub invariant-loop-record : goal.invariant-loop-record
invariant-loop-record l = record {
  store : applied l.space (drop l.record-index l.record-items) ≡ applied l.initial.space l.records;
  within : AllByRecursion IsRecord (drop l.record-index l.record-items);
}
