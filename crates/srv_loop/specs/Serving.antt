-- What serving does to the server, the wire and the log.
use Rattle.std.specs.Prelude.{◌≡◌, ℕ, ◌<◌, ◌≤◌, length, List, [], ◌∷◌, ◌++◌, Option, Some, None}
use Rattle.rs_outside.specs.Known.{items_then, known_then, NoneLeft}
use Rattle.rs_outside.specs.declared.turn.Turn.{Turn}
use Rattle.rs_outside.specs.declared.turn.OutRow.{OutRow}
use Rattle.rs_outside.specs.declared.status.Status.{Status}
use Rattle.rs_outside.specs.declared.status.Status.TheVariants.{Done, LogFault, WireFault, TurnsSpent, NoMemory}
use Rattle.srv_loop.specs.declared.serving.Served.{Served}
use Rattle.srv_loop.specs.declared.serving.Served.TheVariants.{ToEnd, Spent}
use Rattle.cl_core.specs.Machine.{State, beginning, run_from, step}
use Rattle.srv_loop.specs.Runs.{logged_in}
use Rattle.srv_loop.specs.Replaying.{ReplaysTo}
use Rattle.srv_loop.specs.Taking.{CutsTurn}

-- These turns came and were taken one by one: the server is in the state of the reference machine after them, the log
-- took their log bytes, and their rows were sent. Where it began as a new server does, these log bytes replayed give
-- its store.
pub record Serves (turns : List Turn) (server server' : State) (coming coming' : Option (List Turn))
    (log log' : Option (List ℕ)) (sent sent' : Option (List OutRow)) : Type 0 where
  pub came : coming ≡ items_then turns coming'
  pub server_is : server' ≡ (run_from server turns).state
  pub logged : log' ≡ known_then log (logged_in (run_from server turns))
  pub rows : sent' ≡ known_then sent (run_from server turns).rows
  pub replays : server ≡ beginning → ReplaysTo (logged_in (run_from server turns)) server'.store

-- these turns, and the last one where there is one
abbrev pub with_last : List Turn → Option Turn → List Turn
with_last turns None = turns
with_last turns (Some turn) = turns ++ turn ∷ []

-- nothing more was taken, or the last turn ended anywhere
abbrev pub CutsLast : State → Option Turn → Option (List ℕ) → Option (List ℕ) → Option (List OutRow)
    → Option (List OutRow) → Type 0
CutsLast server None log log' sent sent' = (log' ≡ log) × (sent' ≡ sent)
CutsLast server (Some turn) log log' sent sent' =
    CutsTurn (logged_in (step server turn)) (step server turn).rows log log' sent sent'

-- Serving that may take so many turns ended anywhere: these turns were taken whole, and then one turn more came and
-- ended
-- anywhere, or none did.
pub record CutsServe (most : ℕ) (server : State) (coming coming' : Option (List Turn)) (log log' : Option (List ℕ))
    (sent sent' : Option (List OutRow)) : Type 0 where
  pub turns : List Turn
  pub last : Option Turn
  pub within : length (with_last turns last) ≤ most
  pub came : coming ≡ items_then (with_last turns last) coming'
  pub cut : CutsLast (run_from server turns).state last (known_then log (logged_in (run_from server turns))) log'
      (known_then sent (run_from server turns).rows) sent'

-- What a wire gives for the next turn: the first turn to come, or nothing exactly where none is left.
abbrev pub TakesNext : Option (List Turn) → Option (List Turn) → Option Turn → Type 0
TakesNext old new (Some turn) = old ≡ items_then (turn ∷ []) new
TakesNext old new None = (new ≡ old) × NoneLeft old

-- how a service that took these turns ended, which may have taken so many
abbrev pub EndsServed : Served → List Turn → ℕ → Option (List Turn) → Type 0
EndsServed ToEnd taken turns coming' = (length taken < turns) × NoneLeft coming'
EndsServed Spent taken turns coming' = length taken ≡ turns

-- the statuses that serving ends with
abbrev pub IsServeStatus : Status → Type 0
IsServeStatus Done = Unit {0}
IsServeStatus LogFault = Unit {0}
IsServeStatus WireFault = Unit {0}
IsServeStatus (TurnsSpent turns) = Unit {0}
IsServeStatus NoMemory = Unit {0}
IsServeStatus _ = ⊥
