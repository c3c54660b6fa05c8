use Rattle.std.proofs.Common.{◌≡◌, map, take}
use Rattle.cmd_rows.specs.Strings.{bulk_or_null}
use Rattle.cmd_string.specs.StringRows.{string_or_none}
use Rattle.cmd_string.proofs.read.mget.Given as goal

abbrev pub invariant-loop-key : goal.invariant-loop-key
invariant-loop-key l = l.texts ≡ map (λ key. bulk_or_null (string_or_none l.world.store key)) (take l.key-index l.keys)
