use Rattle.std.proofs.Common.{◌≡◌, ◌++◌, take}
use Rattle.srv_loop.specs.Transcript.{row_lines}
use Rattle.srv_loop.proofs.transcript.put_rows.Given as goal

abbrev pub invariant-loop-row : goal.invariant-loop-row
invariant-loop-row l = l.out ≡ l.initial.out ++ row_lines (take l.row-index l.row-items)
