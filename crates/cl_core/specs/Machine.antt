-- The reference machine: it takes turns one by one, and in them whole commands one at a time, in the order in which
-- they
-- became complete.
use Rattle.std.specs.Prelude.{ℕ, max, nat_lt, Bool, true, false, if◌then◌else◌, List, [], ◌∷◌, ◌++◌, Option, Some}
use Rattle.std.specs.Prelude.{None, map, fold, codes, refl}
use Rattle.std.specs.Coded.{Coded, code_by, coded×, coded_list, coded_ℕ}
use Rattle.std.specs.Ordering.{nat_cmp}
use Rattle.std.specs.FinMap as finite
use Rattle.resp_read.specs.Frames.{commands_in}
use Rattle.resp_read.specs.Reading.{Reading, Unfinished, Broken, reading}
use Rattle.resp_read.specs.declared.stops.BadFrame.{BadFrame}
use Rattle.resp_read.specs.declared.stops.BadFrame.TheVariants.{NoStar, Count, NoDollar, Length, NoEnd}
use Rattle.resp_reply.specs.declared.reply.Reply.{Reply}
use Rattle.resp_reply.specs.declared.reply.Reply.TheVariants as reply
use Rattle.resp_reply.specs.Replies.{reply_text}
use Rattle.rs_outside.specs.declared.turn.Turn.{Turn}
use Rattle.rs_outside.specs.declared.turn.What.{What}
use Rattle.rs_outside.specs.declared.turn.What.TheVariants.{Opened, Piece, Closed, Idle}
use Rattle.rs_outside.specs.declared.turn.OutRow.{OutRow}
use Rattle.rs_outside.specs.declared.turn.OutRow.TheVariants.{Sent, Shut}
use Rattle.ks_space.specs.Store.{Store}
use Rattle.ks_space.specs.Purge.{gone}
use Rattle.fx_record.specs.declared.record.Record.{Record}
use Rattle.fx_record.specs.declared.record.Record.TheVariants.{Del}
use Rattle.fx_log.specs.declared.group.Group.{Group}
use Rattle.cmd_args.specs.declared.commands.CmdId.TheVariants as family
use Rattle.cmd_args.specs.declared.commands.ClientCmd.TheVariants.{Quit}
use Rattle.cmd_args.specs.declared.turn.Mode.TheVariants.{Client}
use Rattle.cmd_args.specs.Table.{is_name}
use Rattle.cmd_rows.specs.Outcomes.{Outcome, ok}
use Rattle.cmd_exec.specs.Worlds.{World, empty_world, begun, moved_by, world_code}
use Rattle.cmd_exec.specs.Exec.{exec}

-- the open clients by number, each with its bytes that are not taken yet
abbrev pub Clients : Type 0
Clients = finite.FinMap nat_cmp (List ℕ)

-- what is kept from turn to turn: the store, the open clients, the time of the last turn, and the state of its draws
pub record State : Type 0 where
  pub store : Store
  pub clients : Clients
  pub time : ℕ
  pub draws : ℕ

-- what the commands of clients find, and what they leave
abbrev pub world_of : State → World
world_of state = record { store = state.store; time = state.time; draws = state.draws }

abbrev pub with_world : World → State → State
with_world world state = record { store = world.store; clients = state.clients; time = world.time; draws = world.draws }

-- a state, with the rows sent and the groups logged that led to it
pub record Run : Type 0 where
  pub state : State
  pub rows : List OutRow
  pub groups : List Group

-- nothing was sent or logged
abbrev pub silent : State → Run
silent state = record { state = state; rows = []; groups = [] }

-- no keys, no clients, and time 0
abbrev pub beginning : State
beginning = record {
  store = empty_world.store;
  clients = finite.empty;
  time = empty_world.time;
  draws = empty_world.draws;
}

-- a row more
abbrev pub sending : OutRow → Run → Run
sending row run = record run { rows = run.rows ++ row ∷ [] }

abbrev pub reply_row : ℕ → Reply → OutRow
reply_row client answer = Sent client (reply_text answer)

abbrev pub with_clients : Clients → Run → Run
with_clients clients run = record run { state = record run.state { clients = clients } }

-- the client is open, and these bytes of it are not taken yet
abbrev pub holding : ℕ → List ℕ → Run → Run
holding client left run = with_clients (finite.insert run.state.clients client left) run

-- what a command logs: nothing, or its records as one group, wrapped where they are more than one
abbrev pub group_of : List Record → List Group
group_of [] = []
group_of (one ∷ []) = record { records = one ∷ []; wrapped = false } ∷ []
group_of (one ∷ other ∷ records) = record { records = one ∷ other ∷ records; wrapped = true } ∷ []

-- a command was carried out for a client: its reply is sent, and its records are a group
abbrev pub having_done : ℕ → Outcome → Run → Run
having_done client outcome run = record {
  state = with_world (moved_by (world_of run.state) outcome) run.state;
  rows = run.rows ++ reply_row client outcome.reply ∷ [];
  groups = run.groups ++ group_of outcome.records;
}

-- one command of a client more
abbrev pub with_command : ℕ → Run → List (List ℕ) → Run
with_command client run words = having_done client (exec (world_of run.state) Client words) run

-- QUIT alone, in letters of either case
abbrev pub is_quit : List (List ℕ) → Bool
is_quit [] = false
is_quit (name ∷ []) = is_name name (family.Client Quit)
is_quit (name ∷ word ∷ words) = false

-- the commands that are carried out of these: those before the first QUIT
abbrev pub before_quit : List (List (List ℕ)) → List (List (List ℕ))
before_quit [] = []
before_quit (words ∷ commands) = if is_quit words then [] else words ∷ before_quit commands

abbrev pub quits : List (List (List ℕ)) → Bool
quits [] = false
quits (words ∷ commands) = if is_quit words then true else quits commands

-- the client is shut, and open no more
abbrev pub shutting : ℕ → Run → Run
shutting client run = sending (Shut client) (with_clients (finite.remove run.state.clients client) run)

-- a QUIT is answered, and the client shut
abbrev pub quitting : ℕ → Run → Run
quitting client run = shutting client (sending (reply_row client ok) run)

abbrev pub protocol_error : BadFrame → Reply
protocol_error NoStar = reply.Fault (codes "ERR Protocol error: expected '*'")
protocol_error Count = reply.Fault (codes "ERR Protocol error: invalid multibulk length")
protocol_error NoDollar = reply.Fault (codes "ERR Protocol error: expected '$'")
protocol_error Length = reply.Fault (codes "ERR Protocol error: invalid bulk length")
protocol_error NoEnd = reply.Fault (codes "ERR Protocol error: missing CRLF after bulk")

-- the words of the commands that a reading has whole
abbrev pub commands_of : Reading → List (List (List ℕ))
commands_of (Unfinished forms rest) = commands_in forms
commands_of (Broken forms place kind) = commands_in forms

-- behind the commands of a reading: what is left is kept, or the bad place is told and the client shut
abbrev pub settling : ℕ → Reading → Run → Run
settling client (Unfinished forms rest) run = holding client rest run
settling client (Broken forms place kind) run = shutting client (sending (reply_row client (protocol_error kind)) run)

-- The bytes of a client, those that were left and those that came, which read so: the commands in them are carried
-- out in
-- order. Behind a QUIT the client is shut, and the bytes behind it are dropped.
abbrev pub taking : ℕ → Reading → Run → Run
taking client read run =
    if quits (commands_of read) then quitting client (fold (with_command client) run (before_quit (commands_of read)))
    else settling client read (fold (with_command client) run (commands_of read))

-- what a reading means is said by the law `reading_is_the_grammar` of the crate that reads
abbrev pub piece_of : ℕ → List ℕ → Option (List ℕ) → Run → Run
piece_of client bytes None run = run
piece_of client bytes (Some left) run = taking client (reading (left ++ bytes)) run

abbrev pub too_many_clients : Reply
too_many_clients = reply.Fault (codes "ERR max number of clients reached")

-- a client opens, or is refused where the most clients are open already
abbrev pub opening : ℕ → Run → Run
opening client run =
    if finite.contains_key run.state.clients client then run
    else (if nat_lt (finite.len run.state.clients) 1000 then holding client [] run
    else sending (Shut client) (sending (reply_row client too_many_clients) run))

abbrev pub turn_by : What → ℕ → Run → Run
turn_by Opened client run = opening client run
turn_by (Piece bytes) client run = piece_of client bytes (finite.get run.state.clients client) run
turn_by Closed client run = with_clients (finite.remove run.state.clients client) run
turn_by Idle client run = run

-- a key that left since its deadline is past: a group of one record
abbrev pub removal : List ℕ → Group
removal key = record { records = Del key ∷ []; wrapped = false }

-- a turn begins: its time is the greater of the last time and the clock, the keys leave whose deadline is below it,
-- in the
-- order of their deadlines and then of their bytes, and draws begin at the turn's word
abbrev pub begun_at : ℕ → ℕ → Run → Run
begun_at clock word run = record run {
  state = with_world (begun (world_of run.state) clock word) run.state;
  groups = run.groups ++ map removal (gone run.state.store (max run.state.time clock));
}

-- a turn on top of a run
abbrev pub turn_on : Run → Turn → Run
turn_on run turn = turn_by turn.what turn.client (begun_at turn.clock turn.word run)

-- a turn from a state
abbrev pub step : State → Turn → Run
step state turn = turn_on (silent state) turn

-- a run and what came behind it
abbrev pub run_then : Run → Run → Run
run_then run more = record { state = more.state; rows = run.rows ++ more.rows; groups = run.groups ++ more.groups }

-- one turn more
abbrev pub with_turn : Run → Turn → Run
with_turn run turn = run_then run (step run.state turn)

-- the run of these turns from a state
abbrev pub run_from : State → List Turn → Run
run_from state turns = fold with_turn (silent state) turns

-- a state is stored as its world and its clients
abbrev pub state_code : Coded State
state_code =
    code_by (World × Clients) (coded× world_code (finite.code coded_ℕ (coded_list coded_ℕ)))
    (λ s. (world_of s, s.clients)) (λ p.
    record { store = p.0.store; clients = p.1; time = p.0.time; draws = p.0.draws }) (λ _. refl)
