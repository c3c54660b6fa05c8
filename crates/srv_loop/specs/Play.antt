-- What playing a session does to the log and the output.
use Rattle.std.specs.Prelude.{◌≡◌, ◌⊎◌, ℕ, List, [], ◌∷◌, ◌++◌, Option}
use Rattle.rs_outside.specs.Known.{known_then}
use Rattle.rs_outside.specs.declared.turn.Turn.{Turn}
use Rattle.rs_outside.specs.declared.status.Status.{Status}
use Rattle.rs_outside.specs.declared.status.Status.TheVariants.{Done, BadInput, LogFault, SinkFault, NoMemory}
use Rattle.cl_core.specs.Machine.{step}
use Rattle.srv_loop.specs.Session.{IsSession, IsBadLine}
use Rattle.srv_loop.specs.Runs.{state, outs, log_bytes, logged_in}
use Rattle.srv_loop.specs.Replaying.{ReplaysTo}
use Rattle.srv_loop.specs.Taking.{TookPrefix}
use Rattle.srv_loop.specs.Transcript.{row_lines, transcript}

-- the log was begun under this name and took the log bytes of these turns, which replayed give the store that they
-- leave,
-- and the output took their transcript
pub record Plays (name : List ℕ) (turns : List Turn) (names names' : Option (List (List ℕ)))
    (log log' out out' : Option (List ℕ)) : Type 0 where
  pub begun : names' ≡ known_then names (name ∷ [])
  pub logged : log' ≡ known_then log (log_bytes turns)
  pub replays : ReplaysTo (log_bytes turns) (state turns).store
  pub written : out' ≡ known_then out (transcript turns)

-- the log bytes of the turn after these
abbrev pub next_log : List Turn → List Turn → List ℕ
next_log whole [] = []
next_log whole (turn ∷ others) = logged_in (step (state whole) turn)

-- what the output may take once the log bytes of these turns are whole
abbrev pub lines_due : List Turn → List Turn → List ℕ
lines_due whole [] = transcript whole
lines_due whole (turn ∷ others) = row_lines (outs whole)

-- A play that ended anywhere: the log has the bytes of some first turns whole and a prefix of the next turn's, and the
-- output has a prefix of the lines of those first turns, or of the transcript where they are all.
pub record CutsPlay (turns : List Turn) (log log' out out' : Option (List ℕ)) : Type 0 where
  pub whole : List Turn
  pub others : List Turn
  pub turns_are : turns ≡ whole ++ others
  pub logged : TookPrefix (known_then log (log_bytes whole)) log' (next_log whole others)
  pub written : TookPrefix out out' (lines_due whole others)

-- Wherever a play of this text ended: nothing was begun or taken; or the text is a session, the log was begun, and the
-- play was cut.
abbrev pub StopsAnywhere : List ℕ → List ℕ → Option (List (List ℕ)) → Option (List (List ℕ)) → Option (List ℕ)
    → Option (List ℕ) → Option (List ℕ) → Option (List ℕ) → Type 0
StopsAnywhere text name names names' log log' out out' =
    ((names' ≡ names) × (log' ≡ log) × (out' ≡ out))
    ⊎ ((names' ≡ known_then names (name ∷ []))
    × ((turns : List Turn) × IsSession text turns × CutsPlay turns log log' out out'))

-- the statuses that a play ends with
abbrev pub IsPlayStatus : Status → Type 0
IsPlayStatus Done = Unit {0}
IsPlayStatus (BadInput line) = Unit {0}
IsPlayStatus LogFault = Unit {0}
IsPlayStatus SinkFault = Unit {0}
IsPlayStatus NoMemory = Unit {0}
IsPlayStatus _ = ⊥
