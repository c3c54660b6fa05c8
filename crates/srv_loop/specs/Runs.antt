-- Runs of the reference machine over turns: from a state, and from the beginning.
use Rattle.std.specs.Prelude.{ℕ, List}
use Rattle.rs_outside.specs.declared.turn.Turn.{Turn}
use Rattle.rs_outside.specs.declared.turn.OutRow.{OutRow}
use Rattle.fx_log.specs.Groups.{log_text}
use Rattle.cl_core.specs.Machine.{State, Run, run_from, beginning}

-- the bytes that a run logged
abbrev pub logged_in : Run → List ℕ
logged_in run = log_text run.groups

-- the state, the rows sent and the log bytes after these turns, from the beginning
abbrev pub state : List Turn → State
state turns = (run_from beginning turns).state

abbrev pub outs : List Turn → List OutRow
outs turns = (run_from beginning turns).rows

abbrev pub log_bytes : List Turn → List ℕ
log_bytes turns = logged_in (run_from beginning turns)
