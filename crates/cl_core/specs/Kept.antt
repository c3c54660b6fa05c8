-- What an open client keeps.
use Rattle.resp_read.specs.Reading.{ReaderState, Waiting, Stopped, Spent}

-- as the reader of an open client is
abbrev pub IsWaiting : ReaderState → Type 0
IsWaiting (Waiting start rest) = Unit {0}
IsWaiting Stopped = ⊥
IsWaiting Spent = ⊥
