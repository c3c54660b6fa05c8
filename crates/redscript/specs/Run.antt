-- What a run of the program does.
use Rattle.std.specs.Prelude.{◌≡◌, ◌⊎◌, ℕ, List, Option}
use Rattle.rs_outside.specs.declared.status.Status.{Status}
use Rattle.rs_outside.specs.declared.status.Status.TheVariants.{Usage, BadInput, BadLog, SourceFault, WireFault}
use Rattle.rs_outside.specs.declared.status.Status.TheVariants.{TurnsSpent, InputTooLong}
use Rattle.rs_outside.specs.declared.turn.Turn.{Turn}
use Rattle.srv_loop.specs.Session.{IsSession, IsBadLine}
use Rattle.srv_loop.specs.Play.{Plays, StopsAnywhere}
use Rattle.redscript.specs.Input.{HasReadAll}
use Rattle.redscript.specs.Replay.{Replays, CutsReplay}
pub use Rattle.redscript.specs.Input.{PassesLimit}
pub use Rattle.redscript.specs.Replay.{FindsBadLog, PassesLogLimit, IsReplayStatus, up_to_limit}
pub use Rattle.redscript.specs.Forms.{IsPlay, IsReplay, HasNoForm}

-- the input was read to its end and is a session, and that was played
pub record PlaysToEnd (words : List (List ℕ)) (input input' : Option (List ℕ)) (names names' : Option (List (List ℕ)))
    (log log' out out' : Option (List ℕ)) : Type 0 where
  pub name : List ℕ
  pub form : IsPlay words name
  pub text : List ℕ
  pub read : HasReadAll input input' text
  pub turns : List Turn
  pub session : IsSession text turns
  pub plays : Plays name turns names names' log log' out out'

-- the input was read to its end and is a log, and that was replayed
pub record ReplaysToEnd (words : List (List ℕ)) (input input' out out' : Option (List ℕ)) : Type 0 where
  pub form : IsReplay words
  pub replays : Replays input input' out out'

-- the input of `play` was read to its end, and this is its first bad line
pub record FindsBad (words : List (List ℕ)) (input input' : Option (List ℕ)) (line : ℕ) : Type 0 where
  pub name : List ℕ
  pub form : IsPlay words name
  pub text : List ℕ
  pub read : HasReadAll input input' text
  pub bad : IsBadLine text line

-- the statuses with which nothing was begun or written
abbrev pub IsRefusal : Status → Type 0
IsRefusal Usage = Unit {0}
IsRefusal (BadInput line) = Unit {0}
IsRefusal (BadLog place) = Unit {0}
IsRefusal SourceFault = Unit {0}
IsRefusal (InputTooLong bytes) = Unit {0}
IsRefusal _ = ⊥

-- the statuses that a run ends with
abbrev pub IsRunStatus : Status → Type 0
IsRunStatus WireFault = ⊥
IsRunStatus (TurnsSpent turns) = ⊥
IsRunStatus _ = Unit {0}

-- Wherever a run ended: nothing was begun or taken; or the input was read to its end and its play stopped somewhere;
-- or the
-- input was read to its end and is a log, and the output took a prefix of what is written of it.
abbrev pub StopsRun : List (List ℕ) → Option (List ℕ) → Option (List ℕ) → Option (List (List ℕ))
    → Option (List (List ℕ)) → Option (List ℕ) → Option (List ℕ) → Option (List ℕ) → Option (List ℕ) → Type 0
StopsRun words input input' names names' log log' out out' =
    ((names' ≡ names) × (log' ≡ log) × (out' ≡ out))
    ⊎ ((name : List ℕ) × IsPlay words name × (text : List ℕ) × HasReadAll input input' text
    × StopsAnywhere text name names names' log log' out out')
    ⊎ (IsReplay words × (names' ≡ names) × (log' ≡ log) × CutsReplay input input' out out')
