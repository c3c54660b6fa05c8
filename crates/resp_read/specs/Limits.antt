-- The limits, of what is read of a request.
use Rattle.std.specs.Prelude.{◌≡◌, ℕ, ◌+◌, ◌≤◌, Option, Some, None, List, [], length, sum_by}
use Rattle.std.specs.List.{AllByRecursion}
use Rattle.resp_read.specs.declared.command.TheConstants.{MAX_WORDS, MAX_WORD_BYTES, MAX_COMMAND_BYTES}
use Rattle.resp_read.specs.declared.phase.Line.{Line}
use Rattle.resp_read.specs.declared.phase.Line.TheVariants.{ForCount, ForNegative, ForWord}
use Rattle.resp_read.specs.declared.phase.Phase.{Phase}
use Rattle.resp_read.specs.declared.phase.Phase.TheVariants.{AtStar, InLine, LineEnd, AtDollar, InWord, WordCr}
use Rattle.resp_read.specs.declared.phase.Phase.TheVariants.{WordLf, Dead}
use Rattle.resp_read.specs.declared.parser.Parser.{Parser}
use Rattle.resp_read.specs.Frames.{IsWord}

-- the whole words of a command of which `coming` more come, and `room` bytes in them at most
pub record HasWords (words : List (List ℕ)) (room coming : ℕ) : Type 0 where
  pub few : length words + coming ≤ MAX_WORDS
  pub each : AllByRecursion IsWord words
  pub all : sum_by length words + room ≡ MAX_COMMAND_BYTES

-- no word is read yet
pub record HasNone (words : List (List ℕ)) (word : List ℕ) (room : ℕ) : Type 0 where
  pub words_are : words ≡ []
  pub word_is : word ≡ []
  pub room_is : room ≡ MAX_COMMAND_BYTES

abbrev pub FitsLine : Line → List (List ℕ) → List ℕ → ℕ → Type 0
FitsLine ForCount words word room = HasNone words word room
FitsLine ForNegative words word room = HasNone words word room
FitsLine (ForWord behind) words word room = HasWords words room (behind + 1) × (word ≡ [])

-- a number that a line may have
abbrev pub FitsNumber : Line → ℕ → ℕ → Type 0
FitsNumber ForCount room n = n ≤ MAX_WORDS
FitsNumber ForNegative room n = (1 ≤ n) × (n ≤ MAX_WORDS)
FitsNumber (ForWord behind) room n = (n ≤ room) × (n ≤ MAX_WORD_BYTES)

abbrev pub FitsDigits : Line → ℕ → Option ℕ → Type 0
FitsDigits line room None = Unit {0}
FitsDigits line room (Some n) = FitsNumber line room n

-- a word that may stand in a command
abbrev pub FitsWord : ℕ → ℕ → Type 0
FitsWord room n = (n ≤ room) × (n ≤ MAX_WORD_BYTES)

-- the limits hold of what is read
abbrev pub FitsIn : Phase → List (List ℕ) → List ℕ → ℕ → Type 0
FitsIn AtStar words word room = HasNone words word room
FitsIn (InLine line number) words word room = FitsLine line words word room × FitsDigits line room number
FitsIn (LineEnd line n) words word room = FitsLine line words word room × FitsNumber line room n
FitsIn (AtDollar behind) words word room = HasWords words room (behind + 1) × (word ≡ [])
FitsIn (InWord behind more) words word room =
    HasWords words room (behind + 1) × FitsWord room (length word + (more + 1))
FitsIn (WordCr behind) words word room = HasWords words room (behind + 1) × FitsWord room (length word)
FitsIn (WordLf behind) words word room = HasWords words room (behind + 1) × FitsWord room (length word)
FitsIn Dead words word room = ⊥

abbrev pub Fits : Parser → Type 0
Fits s = FitsIn s.phase s.words s.word s.room
