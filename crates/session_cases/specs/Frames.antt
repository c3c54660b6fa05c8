-- What is written of a session: its transcript, and a line for each frame of its log.
use Rattle.std.specs.Prelude.{◌≡◌, ℕ, List, [], ◌∷◌, ◌++◌, decimal, codes}
use Rattle.std.specs.List.{flat_map}
use Rattle.rs_base.specs.Escape.{spelling}
use Rattle.resp_read.specs.Frames.{Form, commands_in}
use Rattle.resp_read.specs.Reading.{reading}
use Rattle.resp_read.specs.Reading.Reading.{Unfinished}
use Rattle.rs_outside.specs.declared.turn.Turn.{Turn}
use Rattle.srv_loop.specs.Runs.{log_bytes}
use Rattle.srv_loop.specs.Transcript.{transcript}

-- `log` and the words of a frame, each in the escape of the transcript
abbrev pub frame_line : List (List ℕ) → List ℕ
frame_line words = codes "log" ++ flat_map (λ word. 32 ∷ spelling word) words ++ 10 ∷ []

-- the lines of the frames of a log
abbrev pub frame_lines : List (List (List ℕ)) → List ℕ
frame_lines frames = flat_map frame_line frames

-- the log is a row of frames, and their lines were added
pub record AddsFrames (log before after : List ℕ) : Type 0 where
  pub forms : List Form
  pub left : List ℕ
  pub reading_is : reading log ≡ Unfinished forms left
  pub after_is : after ≡ before ++ frame_lines (commands_in forms)

-- the transcript of these turns was added, and behind it the frames of their log
abbrev pub AddsPlay : List Turn → List ℕ → List ℕ → Type 0
AddsPlay turns before after = AddsFrames (log_bytes turns) (before ++ transcript turns) after

-- what is written in place of a session whose first bad line is this one
abbrev pub bad_line : ℕ → List ℕ
bad_line line = codes "bad input: line " ++ decimal line ++ 10 ∷ []
