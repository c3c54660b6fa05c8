-- A recorded session: a line for each turn.
use Rattle.std.specs.Prelude.{◌≡◌, ℕ, ◌+◌, ◌^◌, ◌<◌, ◌≤◌, List, [], ◌∷◌, ◌++◌, length, decimal, codes}
use Rattle.std.specs.List.{AllByRecursion, flat_map}
use Rattle.rs_base.specs.Bytes.{AreBytes}
use Rattle.rs_base.specs.Escape.{spelling}
use Rattle.rs_outside.specs.declared.turn.Turn.{Turn}
use Rattle.rs_outside.specs.declared.turn.What.{What}
use Rattle.rs_outside.specs.declared.turn.What.TheVariants.{Opened, Piece, Closed, Idle}
use Rattle.rs_outside.specs.declared.status.Status.{Status}
use Rattle.rs_outside.specs.declared.status.Status.TheVariants.{BadInput, NoMemory}

abbrev pub what_text : What → List ℕ
what_text Opened = codes "opened"
what_text (Piece bytes) = codes "piece " ++ spelling bytes
what_text Closed = codes "closed"
what_text Idle = codes "idle"

-- `NOW WORD CLIENT ` with one space behind each
abbrev pub head_text : ℕ → ℕ → ℕ → List ℕ
head_text clock word client = decimal clock ++ 32 ∷ decimal word ++ 32 ∷ decimal client ++ 32 ∷ []

-- `NOW WORD CLIENT opened`, or `piece TEXT`, `closed` or `idle` in the last place, ended by LF
abbrev pub turn_line : Turn → List ℕ
turn_line turn = head_text turn.clock turn.word turn.client ++ what_text turn.what ++ 10 ∷ []

-- what may stand in the last place, by the client: a piece of at most 1 MiB, and `idle` of no client
abbrev pub IsWhat : ℕ → What → Type 0
IsWhat client Opened = Unit {0}
IsWhat client (Piece bytes) = AreBytes bytes × (length bytes ≤ 1048576)
IsWhat client Closed = Unit {0}
IsWhat client Idle = client ≡ 0

-- what stands in one word
abbrev pub IsPlain : What → Type 0
IsPlain (Piece bytes) = ⊥
IsPlain _ = Unit {0}

-- a text that begins with the escape of this piece, ended by LF
abbrev pub SaysPiece : What → List ℕ → List ℕ → Type 0
SaysPiece (Piece bytes) text rest = AreBytes bytes × (length bytes ≤ 1048576) × (text ≡ spelling bytes ++ 10 ∷ rest)
SaysPiece _ text rest = ⊥

-- a turn that a session line can say: numbers within their types
pub record IsTurn (turn : Turn) : Type 0 where
  pub clock : turn.clock < 2 ^ 64
  pub word : turn.word < 2 ^ 64
  pub client : turn.client < 2 ^ 32
  pub what : IsWhat turn.client turn.what

-- the session that these turns make
abbrev pub session_text : List Turn → List ℕ
session_text turns = flat_map turn_line turns

pub record IsSession (text : List ℕ) (turns : List Turn) : Type 0 where
  pub each : AllByRecursion IsTurn turns
  pub text_is : text ≡ session_text turns

-- this line, counted from 1, is the first that is no session line: session lines stand before it, and what is left,
-- which is not nothing, begins with none
pub record IsBadLine (text : List ℕ) (line : ℕ) : Type 0 where
  pub before : List Turn
  pub each : AllByRecursion IsTurn before
  pub rest : List ℕ
  pub text_is : text ≡ session_text before ++ rest
  pub some : 0 < length rest
  pub bad : (turn : Turn) (more : List ℕ) → IsTurn turn → rest ≡ turn_line turn ++ more → ⊥
  pub line_is : line ≡ length before + 1

-- the status that a session gets which is not taken: its first bad line, or want of memory
abbrev pub IsJudged : List ℕ → Status → Type 0
IsJudged text (BadInput line) = IsBadLine text line
IsJudged text NoMemory = Unit {0}
IsJudged text _ = ⊥
