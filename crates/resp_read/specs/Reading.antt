-- What a text of requests reads as, and what a reader keeps and answers.
use Rattle.std.specs.Prelude.{◌≡◌, ℕ, ◌+◌, if◌then◌else◌, List, [], ◌∷◌, ◌++◌, length, map, Result, Ok, Err}
use Rattle.std.specs.List.{AllByRecursion}
use Rattle.resp_read.specs.declared.command.Command.{Command}
use Rattle.resp_read.specs.declared.parser.Parser.{Parser}
use Rattle.resp_read.specs.declared.stops.BadFrame.{BadFrame}
use Rattle.resp_read.specs.declared.stops.FeedStop.{FeedStop}
use Rattle.resp_read.specs.declared.stops.FeedStop.TheVariants.{Bad, Failed, NoMemory}
use Rattle.resp_read.specs.Frames.{Form, IsForm, sequence_text, within_u64, commands_in, commands_from, Begins}
use Rattle.resp_read.specs.Frames.{LongestSequence, IsBadPlace, IsBad, IsWhole}
use Rattle.resp_read.specs.Limits.{Fits}
use Rattle.resp_read.specs.Automaton.{fresh, next, out, with_form, kept, is_dead, kind_in}

-- a text read from its first byte: the forms of its longest sequence, and what is left, which can go on; or the forms
-- before a bad place, the place and its kind
pub data Reading : Type 0 where
  Unfinished : List Form → List ℕ → Reading
  Broken : List Form → ℕ → BadFrame → Reading

-- a text read from a state on, behind these forms
abbrev pub read_from : Parser → List Form → List ℕ → Reading
read_from s forms [] = Unfinished forms (kept s)
read_from s forms (b ∷ text) =
    if is_dead (next s b).phase then Broken forms (length (sequence_text forms) + length (kept s)) (kind_in s.phase)
    else read_from (next s b) (with_form forms (out s b)) text

unfoldable pub reading : List ℕ → Reading
reading text = read_from fresh [] text

-- a reading is what the grammar says of the text: its longest sequence, what is left, and that the text can go on to a
-- sequence; or the longest sequence, the bad place and its kind
abbrev pub IsReadingOf : List ℕ → Reading → Type 0
IsReadingOf text (Unfinished forms left) = LongestSequence text forms left × Begins text
IsReadingOf text (Broken forms place kind) = IsBad text place kind × ((left : List ℕ) × LongestSequence text forms left)

-- the reading of a text that stands behind these forms
abbrev pub behind_forms : List Form → Reading → Reading
behind_forms before (Unfinished forms left) = Unfinished (before ++ forms) left
behind_forms before (Broken forms place kind) = Broken (before ++ forms) (length (sequence_text before) + place) kind

-- how a reading goes on where more bytes come: from what was left of it; a bad byte stays
abbrev pub going_on : Reading → List ℕ → Reading
going_on (Unfinished forms left) more = behind_forms forms (reading (left ++ more))
going_on (Broken forms place kind) more = Broken forms place kind

-- a text is read to this state, behind these forms
pub record Reads (text : List ℕ) (s : Parser) (forms : List Form) : Type 0 where
  pub each : AllByRecursion IsForm forms
  pub fits : Fits s
  pub text_is : text ≡ sequence_text forms ++ kept s
  pub run : (rest : List ℕ) → read_from fresh [] (text ++ rest) ≡ read_from s forms rest

-- what a reader keeps: the place where the unfinished form begins, and its bytes; nothing after a bad place; nothing
-- after memory ran out
pub data ReaderState : Type 0 where
  Waiting : ℕ → List ℕ → ReaderState
  Stopped : ReaderState
  Spent : ReaderState

-- what is answered where the unfinished form and the piece behind it, which begin at `start`, read so
abbrev pub answer_at : ℕ → Reading → Result (List Command) FeedStop
answer_at start (Unfinished forms left) = Ok (commands_from start forms)
answer_at start (Broken forms place kind) = Err (Bad (commands_from start forms) (within_u64 (start + place)) kind)

-- and what is kept then
abbrev pub after_at : ℕ → Reading → ReaderState
after_at start (Unfinished forms left) = Waiting (within_u64 (start + length (sequence_text forms))) left
after_at start (Broken forms place kind) = Stopped

-- what a reader answers to a piece, unless memory runs out
abbrev pub answer : ReaderState → List ℕ → Result (List Command) FeedStop
answer (Waiting start rest) piece = answer_at start (reading (rest ++ piece))
answer Stopped piece = Err Failed
answer Spent piece = Err NoMemory

-- what it keeps after a piece, unless memory runs out
abbrev pub after : ReaderState → List ℕ → ReaderState
after (Waiting start rest) piece = after_at start (reading (rest ++ piece))
after Stopped piece = Stopped
after Spent piece = Spent

-- the bytes of the unfinished form
abbrev pub unfinished : ReaderState → List ℕ
unfinished (Waiting start rest) = rest
unfinished Stopped = []
unfinished Spent = []

-- why a reader gives nothing: as `answer` says, and then it has stopped; it had stopped; memory ran out
abbrev pub Stops : ReaderState → List ℕ → FeedStop → ReaderState → Type 0
Stops old piece (Bad before place kind) new = (answer old piece ≡ Err (Bad before place kind)) × (new ≡ Stopped)
Stops old piece Failed new = (old ≡ Stopped) × (new ≡ Stopped)
Stops old piece NoMemory new = (old ≡ Stopped → ⊥) × (new ≡ Spent)

-- a reader that waits with the bytes `rest` takes a piece: the words of the commands, and what waits then
pub record Took (rest piece : List ℕ) (commands : List Command) (new : ReaderState) : Type 0 where
  pub forms : List Form
  pub left : List ℕ
  pub at : ℕ
  pub reading_is : reading (rest ++ piece) ≡ Unfinished forms left
  pub words_are : map (λ (command : Command). command.words) commands ≡ commands_in forms
  pub new_is : new ≡ Waiting at left

-- it refuses a piece: the words of the commands before the bad byte, and its kind
pub record Refused (rest piece : List ℕ) (before : List Command) (kind : BadFrame) : Type 0 where
  pub forms : List Form
  pub place : ℕ
  pub reading_is : reading (rest ++ piece) ≡ Broken forms place kind
  pub words_are : map (λ (command : Command). command.words) before ≡ commands_in forms

-- why such a reader gives nothing: `Failed` is no reason
abbrev pub RefusedBy : List ℕ → List ℕ → FeedStop → Type 0
RefusedBy rest piece (Bad before place kind) = Refused rest piece before kind
RefusedBy rest piece Failed = ⊥
RefusedBy rest piece NoMemory = Unit {0}

-- the text is all that a reader in this state has read
abbrev pub HasRead : ReaderState → List ℕ → Type 0
HasRead (Waiting start rest) text =
    (forms : List Form) × LongestSequence text forms rest × Begins text
    × (start ≡ within_u64 (length (sequence_text forms)))
HasRead Stopped text = (place : ℕ) × IsBadPlace text place
HasRead Spent text = ⊥

-- the commands that `piece` ends behind `text`
abbrev pub Adds : List ℕ → List ℕ → List Command → Type 0
Adds text piece commands = (before : List Command) → IsWhole text before → IsWhole (text ++ piece) (before ++ commands)

-- a piece behind `text` that the reader takes
pub record Goes (text piece : List ℕ) (commands : List Command) (new : ReaderState) : Type 0 where
  pub stands : HasRead new (text ++ piece)
  pub begins : Begins (text ++ piece)
  pub adds : Adds text piece commands

-- a piece behind `text` that has the bad byte: its place, as a `u64`, and its kind
pub record Breaks (text piece : List ℕ) (before : List Command) (place : ℕ) (kind : BadFrame) (new : ReaderState)
    : Type 0 where
  pub stands : HasRead new (text ++ piece)
  pub adds : Adds text piece before
  pub at : ℕ
  pub is_bad : IsBad (text ++ piece) at kind
  pub place_is : place ≡ within_u64 at

-- why a reader that has read `text` gives nothing
abbrev pub StopsAt : List ℕ → List ℕ → FeedStop → ReaderState → Type 0
StopsAt text piece (Bad before place kind) new = Breaks text piece before place kind new
StopsAt text piece Failed new = HasRead new (text ++ piece) × Adds text piece [] × ((place : ℕ) × IsBadPlace text place)
StopsAt text piece NoMemory new = new ≡ Spent
