-- What is added for a log.
use Rattle.std.proofs.Common.{◌≡◌, ℕ, List, [], ◌++◌, map, sym}
use Rattle.resp_read.specs.declared.command.Command.{Command}
use Rattle.resp_read.specs.Reading.{ReaderState, Took}
use Rattle.session_cases.specs.Frames.{frame_lines, AddsFrames}

-- the lines of the frames that a reader took of a log from its first byte
pub AddsFrames-from_took : (log before after : List ℕ) (frames : List Command) (new : ReaderState)
    → Took [] log frames new
    → after ≡ before ++ frame_lines (map (λ frame. frame.words) frames) → AddsFrames log before after
AddsFrames-from_took log before after frames new took added = record {
  forms = took.forms;
  left = took.left;
  reading_is = took.reading_is;
  after_is = rw (sym took.words_are) added;
}
