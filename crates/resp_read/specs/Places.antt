-- Where a reader stands in what it reads.
use Rattle.std.specs.Prelude.{◌≡◌, ℕ, ◌+◌, Bool, if◌then◌else◌, is_some, Option, Some, None, List, [], ◌∷◌, length}
use Rattle.resp_read.specs.declared.command.Command.{Command}
use Rattle.resp_read.specs.declared.cursor.BadByte.{BadByte}
use Rattle.resp_read.specs.declared.cursor.Cursor.{Cursor}
use Rattle.resp_read.specs.declared.reader.Fate.{Fate}
use Rattle.resp_read.specs.declared.reader.Fate.TheVariants.{Open, Failed, OutOfMemory}
use Rattle.resp_read.specs.Frames.{Form, sequence_text, within_u64, commands_from}
use Rattle.resp_read.specs.Automaton.{next, out, kept, kind_in}
use Rattle.resp_read.specs.Reading.{ReaderState, Waiting, Stopped, Spent, Broken, reading, Reads}

-- the place where the unfinished form begins, behind a byte that ends a form or does not
abbrev pub start_after : Bool → ℕ → ℕ → ℕ
start_after ends start waiting = if ends then within_u64 (start + within_u64 (waiting + 1)) else start

-- how many bytes it has then
abbrev pub waiting_after : Bool → ℕ → ℕ
waiting_after ends waiting = if ends then 0 else within_u64 (waiting + 1)

abbrev pub moved : Cursor → ℕ → Cursor
moved c b = record {
  parser = next c.parser b;
  start = start_after (is_some (out c.parser b)) c.start c.waiting;
  waiting = waiting_after (is_some (out c.parser b)) c.waiting;
}

-- the command that a form is, at its place
abbrev pub given_at : ℕ → Option (List (List ℕ)) → List Command
given_at place None = []
given_at place (Some words) = record { words = words; place = place } ∷ []

-- the next byte is bad
abbrev pub bad_byte : Cursor → BadByte
bad_byte c = record { place = within_u64 (c.start + c.waiting); kind = kind_in c.parser.phase }

-- the cursor stands behind this text, which began at `begun`, and these are the forms and commands of it
pub record StandsBehind (text : List ℕ) (begun : ℕ) (c : Cursor) (commands : List Command) (forms : List Form)
    : Type 0 where
  pub reads : Reads text c.parser forms
  pub start_is : c.start ≡ within_u64 (begun + length (sequence_text forms))
  pub waiting_is : c.waiting ≡ within_u64 (length (kept c.parser))
  pub commands_are : commands ≡ commands_from begun forms

-- the cursor stands at the first byte of the unfinished form that it keeps
pub record IsReady (c : Cursor) : Type 0 where
  pub reads : Reads (kept c.parser) c.parser []
  pub waiting_is : c.waiting ≡ within_u64 (length (kept c.parser))

-- the text breaks at a byte
pub record BreaksAt (text : List ℕ) (begun : ℕ) (bad : BadByte) (commands : List Command) : Type 0 where
  pub forms : List Form
  pub place : ℕ
  pub reading_is : reading text ≡ Broken forms place bad.kind
  pub place_is : bad.place ≡ within_u64 (begun + place)
  pub commands_are : commands ≡ commands_from begun forms

-- what a reader is seen as
abbrev pub seen : Fate → Cursor → ReaderState
seen Open c = Waiting c.start (kept c.parser)
seen Failed c = Stopped
seen OutOfMemory c = Spent

-- it keeps an unfinished form as long as it reads
abbrev pub IsKept : Fate → Cursor → Type 0
IsKept Open c = IsReady c
IsKept Failed c = c.waiting ≡ 0
IsKept OutOfMemory c = c.waiting ≡ 0
