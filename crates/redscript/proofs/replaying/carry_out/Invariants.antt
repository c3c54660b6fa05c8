use Rattle.std.proofs.Common.{◌≡◌, fold, take}
use Rattle.fx_record.specs.Records.{apply}
use Rattle.redscript.specs.Replay.{records_of}
use Rattle.redscript.proofs.replaying.carry_out.Given as goal

abbrev pub invariant-loop-group : goal.invariant-loop-group
invariant-loop-group l = l.space ≡ fold apply l.fn.space (records_of (take l.group-index l.groups))
