-- What `play` writes: a line for each row, how many turns, keys and log bytes there were, and the dump of the store.
use Rattle.std.specs.Prelude.{ℕ, List, [], ◌∷◌, ◌++◌, length, decimal, codes}
use Rattle.std.specs.List.{flat_map}
use Rattle.std.specs.FinMap as finite
use Rattle.rs_base.specs.Escape.{spelling}
use Rattle.resp_read.specs.Frames.{within_u64}
use Rattle.rs_outside.specs.declared.turn.Turn.{Turn}
use Rattle.rs_outside.specs.declared.turn.OutRow.{OutRow}
use Rattle.rs_outside.specs.declared.turn.OutRow.TheVariants.{Sent, Shut}
use Rattle.ks_space.specs.Store.{Store}
use Rattle.fx_log.specs.Dump.{dump}
use Rattle.srv_loop.specs.Runs.{state, outs, log_bytes}

-- `CLIENT send TEXT` or `CLIENT shut`
abbrev pub row_line : OutRow → List ℕ
row_line (Sent client bytes) = decimal client ++ codes " send " ++ spelling bytes ++ 10 ∷ []
row_line (Shut client) = decimal client ++ codes " shut" ++ 10 ∷ []

abbrev pub row_lines : List OutRow → List ℕ
row_lines rows = flat_map row_line rows

-- `end turns=T keys=K log=B`, and the dump
abbrev pub ending : ℕ → ℕ → Store → List ℕ
ending turns logged store = codes "end turns=" ++ decimal turns ++ codes " keys=" ++ decimal (finite.len store)
    ++ codes " log=" ++ decimal logged ++ 10 ∷ [] ++ dump store

-- The count of log bytes stands still at the last value of a `u64`.
abbrev pub transcript : List Turn → List ℕ
transcript turns = row_lines (outs turns)
    ++ ending (length turns) (within_u64 (length (log_bytes turns))) (state turns).store
