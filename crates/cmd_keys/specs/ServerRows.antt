-- The rows of the commands on the server and on the store as a whole (Redis manual, connection and server): PING,
-- ECHO, SELECT, TIME, DBSIZE, FLUSHALL, FLUSHDB; and at the end which words each takes.
use Rattle.std.specs.Prelude.{ℕ, zero, ◌*◌, ◌/◌, ◌%◌, Bool, ◌||◌, if◌then◌else◌, ℤ, pos, List, [], ◌∷◌, Option, Some}
use Rattle.std.specs.Prelude.{None, codes, decimal, slice_get}
use Rattle.std.specs.Str.{str_eq_ignore_ascii_case}
use Rattle.std.specs.FinMap as finite
use Rattle.resp_reply.specs.declared.reply.Reply.TheVariants.{Status, Int, Bulk}
use Rattle.fx_record.specs.declared.record.Record.TheVariants.{FlushAll}
use Rattle.cmd_args.specs.declared.refusal.Refusal.TheVariants.{Syntax, DbIndex}
use Rattle.cmd_rows.specs.Numbers.{number}
use Rattle.cmd_rows.specs.Outcomes.{Outcome, ok, array, answers, does, refused, with_found, with_word}
use Rattle.cmd_rows.specs.Worlds.{World}
use Rattle.cmd_args.specs.declared.commands.ServerCmd.{ServerCmd}
use Rattle.cmd_args.specs.declared.commands.ServerCmd.TheVariants as server

-- the status PONG, or the word as it is
abbrev pub ping_row : Option (List ℕ) → Outcome
ping_row None = answers (Status (codes "PONG"))
ping_row (Some word) = answers (Bulk word)

abbrev pub echo_row : List ℕ → Outcome
echo_row word = answers (Bulk word)

-- there is no database but 0
abbrev pub selected : ℤ → Outcome
selected (pos zero) = answers ok
selected _ = refused DbIndex

abbrev pub select_row : List ℕ → Outcome
select_row word = with_found (number word) selected

-- the seconds of the turn's time, and the microseconds behind them
abbrev pub time_row : World → Outcome
time_row world =
    answers (array (Bulk (decimal (world.time / 1000)) ∷ Bulk (decimal (world.time % 1000 * 1000)) ∷ []))

-- how many keys there are
abbrev pub dbsize_row : World → Outcome
dbsize_row world = answers (Int (pos (finite.len world.store)))

abbrev pub is_flush_mode : List ℕ → Bool
is_flush_mode word = str_eq_ignore_ascii_case word (codes "async") || str_eq_ignore_ascii_case word (codes "sync")

-- FLUSHALL and FLUSHDB: all keys leave, at once with ASYNC too
abbrev pub flush_row : Option (List ℕ) → Outcome
flush_row None = does ok (FlushAll ∷ [])
flush_row (Some word) = if is_flush_mode word then does ok (FlushAll ∷ []) else refused Syntax

-- what a command on the server gives; a row is only given words that fit it
unfoldable pub server_row : World → ServerCmd → List (List ℕ) → Outcome
server_row world server.Ping words = ping_row (slice_get words 1)
server_row world server.Echo words = with_word words echo_row
server_row world server.Select words = with_word words select_row
server_row world server.Time words = time_row world
server_row world server.DbSize words = dbsize_row world
server_row world server.FlushAll words = flush_row (slice_get words 1)
server_row world server.FlushDb words = flush_row (slice_get words 1)
