use Rattle.std.proofs.Common.{◌≡◌, take}
use Rattle.fx_record.specs.Records.{applied}
use Rattle.fx_log.proofs.replay.replay_into.Given as goal

abbrev pub invariant-loop-record : goal.invariant-loop-record
invariant-loop-record l = l.space ≡ applied l.initial.space (take l.record-index l.record-items)
