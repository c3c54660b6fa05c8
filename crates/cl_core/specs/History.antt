-- The machine in a user's words: what happens, by the bytes of clients alone, what each event makes of the world, and
-- what is
-- answered and logged.
use Rattle.std.specs.Prelude.{◌≡◌, ℕ, max, nat_lt, if◌then◌else◌, List, [], ◌∷◌, ◌++◌, Option, Some, None, map, fold}
use Rattle.std.specs.FinMap as finite
use Rattle.resp_read.specs.Reading.{Reading, Unfinished, Broken, reading}
use Rattle.resp_reply.specs.declared.reply.Reply.{Reply}
use Rattle.rs_outside.specs.declared.turn.Turn.{Turn}
use Rattle.rs_outside.specs.declared.turn.What.{What}
use Rattle.rs_outside.specs.declared.turn.What.TheVariants.{Opened, Piece, Closed, Idle}
use Rattle.rs_outside.specs.declared.turn.OutRow.{OutRow}
use Rattle.rs_outside.specs.declared.turn.OutRow.TheVariants.{Shut}
use Rattle.ks_space.specs.Purge.{gone}
use Rattle.fx_log.specs.declared.group.Group.{Group}
use Rattle.cmd_args.specs.declared.turn.Mode.TheVariants.{Client}
use Rattle.cmd_rows.specs.Outcomes.{ok}
use Rattle.cmd_exec.specs.Worlds.{World, empty_world, begun, moved_by}
use Rattle.cmd_exec.specs.Exec.{exec}
use Rattle.cl_core.specs.Machine.{Clients, Run, world_of, reply_row, group_of, removal, before_quit, quits}
use Rattle.cl_core.specs.Machine.{protocol_error, commands_of, too_many_clients}

-- what happens: a turn begins at a clock and with a word, or a client asks for a command, is told something else, or
-- is shut
pub data Event : Type 0 where
  Began : ℕ → ℕ → Event
  Asked : ℕ → List (List ℕ) → Event
  Told : ℕ → Reply → Event
  Ended : ℕ → Event

-- behind the commands of a reading
abbrev pub ending : ℕ → Reading → List Event
ending client (Unfinished forms left) = []
ending client (Broken forms place kind) = Told client (protocol_error kind) ∷ Ended client ∷ []

-- what happens where a client's bytes, those that were left and those that came, read so: nothing comes behind a QUIT
abbrev pub read_events : ℕ → Reading → List Event
read_events client read =
    if quits (commands_of read) then map (Asked client) (before_quit (commands_of read))
    ++ Told client ok ∷ Ended client ∷ []
    else map (Asked client) (commands_of read) ++ ending client read

abbrev pub keeping : ℕ → Reading → Clients → Clients
keeping client (Unfinished forms left) clients = finite.insert clients client left
keeping client (Broken forms place kind) clients = finite.remove clients client

abbrev pub clients_read : ℕ → Reading → Clients → Clients
clients_read client read clients =
    if quits (commands_of read) then finite.remove clients client else keeping client read clients

abbrev pub piece_events : ℕ → List ℕ → Option (List ℕ) → List Event
piece_events client bytes None = []
piece_events client bytes (Some left) = read_events client (reading (left ++ bytes))

abbrev pub clients_piece : ℕ → List ℕ → Option (List ℕ) → Clients → Clients
clients_piece client bytes None clients = clients
clients_piece client bytes (Some left) clients = clients_read client (reading (left ++ bytes)) clients

-- what happens in a turn behind its beginning, with these clients open
abbrev pub events_by : What → ℕ → Clients → List Event
events_by Opened client clients =
    if finite.contains_key clients client then []
    else (if nat_lt (finite.len clients) 1000 then [] else Told client too_many_clients ∷ Ended client ∷ [])
events_by (Piece bytes) client clients = piece_events client bytes (finite.get clients client)
events_by Closed client clients = []
events_by Idle client clients = []

-- the clients that are open behind a turn, each with its bytes that are left
abbrev pub clients_by : What → ℕ → Clients → Clients
clients_by Opened client clients =
    if finite.contains_key clients client then clients
    else (if nat_lt (finite.len clients) 1000 then finite.insert clients client [] else clients)
clients_by (Piece bytes) client clients = clients_piece client bytes (finite.get clients client) clients
clients_by Closed client clients = finite.remove clients client
clients_by Idle client clients = clients

-- what happens in turns, in order
abbrev pub events_from : Clients → List Turn → List Event
events_from clients [] = []
events_from clients (turn ∷ turns) =
    Began turn.clock turn.word ∷ events_by turn.what turn.client clients
    ++ events_from (clients_by turn.what turn.client clients) turns

-- what happens in turns from the beginning
abbrev pub events : List Turn → List Event
events turns = events_from finite.empty turns

-- the world behind an event: at the beginning of a turn keys leave, and a command does what it does
abbrev pub happened : World → Event → World
happened world (Began clock word) = begun world clock word
happened world (Asked client words) = moved_by world (exec world Client words)
happened world (Told client answer) = world
happened world (Ended client) = world

-- what is sent in an event
abbrev pub rows_of : World → Event → List OutRow
rows_of world (Began clock word) = []
rows_of world (Asked client words) = reply_row client (exec world Client words).reply ∷ []
rows_of world (Told client answer) = reply_row client answer ∷ []
rows_of world (Ended client) = Shut client ∷ []

-- what is logged in an event: each key that leaves as a group of its own, and what a command does as one
abbrev pub groups_of : World → Event → List Group
groups_of world (Began clock word) = map removal (gone world.store (max world.time clock))
groups_of world (Asked client words) = group_of (exec world Client words).records
groups_of world (Told client answer) = []
groups_of world (Ended client) = []

-- what is sent and logged in events, in order
abbrev pub rows_in : World → List Event → List OutRow
rows_in world [] = []
rows_in world (event ∷ others) = rows_of world event ++ rows_in (happened world event) others

abbrev pub groups_in : World → List Event → List Group
groups_in world [] = []
groups_in world (event ∷ others) = groups_of world event ++ groups_in (happened world event) others

-- the run is what these turns from the beginning tell
pub record IsHistory (run : Run) (turns : List Turn) : Type 0 where
  pub world : world_of run.state ≡ fold happened empty_world (events turns)
  pub rows : run.rows ≡ rows_in empty_world (events turns)
  pub groups : run.groups ≡ groups_in empty_world (events turns)
