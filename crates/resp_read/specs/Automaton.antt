-- Requests read byte by byte. What these steps amount to is stated over the grammar, in `reading_is_the_grammar`.
use Rattle.std.specs.Prelude.{ℕ, ◌+◌, ◌-◌, ◌*◌, ◌==◌, nat_le, min, Bool, true, false, ◌&&◌, if◌then◌else◌, Option}
use Rattle.std.specs.Prelude.{Some, None, List, [], ◌∷◌, ◌++◌, length, decimal, codes}
use Rattle.std.specs.List.{flat_map}
use Rattle.resp_read.specs.declared.command.TheConstants.{MAX_WORDS, MAX_WORD_BYTES, MAX_COMMAND_BYTES}
use Rattle.resp_read.specs.declared.phase.Line.{Line}
use Rattle.resp_read.specs.declared.phase.Line.TheVariants.{ForCount, ForNegative, ForWord}
use Rattle.resp_read.specs.declared.phase.Phase.{Phase}
use Rattle.resp_read.specs.declared.phase.Phase.TheVariants.{AtStar, InLine, LineEnd, AtDollar, InWord, WordCr}
use Rattle.resp_read.specs.declared.phase.Phase.TheVariants.{WordLf, Dead}
use Rattle.resp_read.specs.declared.parser.Parser.{Parser}
use Rattle.resp_read.specs.declared.stops.BadFrame.{BadFrame}
use Rattle.resp_read.specs.declared.stops.BadFrame.TheVariants.{NoStar, Count, NoDollar, Length, NoEnd}
use Rattle.resp_read.specs.Frames.{count_line, bulk, Form, Given, EmptyArray, NegativeArray}

-- the greatest number that a line may have, where the word that it begins may have `room` bytes
abbrev pub limit : ℕ → Line → ℕ
limit room ForCount = MAX_WORDS
limit room ForNegative = MAX_WORDS
limit room (ForWord behind) = min room MAX_WORD_BYTES

-- a digit behind the number `n`
abbrev pub with_digit : ℕ → Line → ℕ → ℕ → Phase
with_digit room line n b =
    if (nat_le 48 b && nat_le b 57) && nat_le (n * 10 + (b - 48)) (limit room line)
    then InLine line (Some (n * 10 + (b - 48)))
    else Dead

-- the first byte of a number: its digit, or the sign of a negative array
abbrev pub first_in_line : ℕ → Line → ℕ → Phase
first_in_line room ForCount b = if b == 45 then InLine ForNegative None else with_digit room ForCount 0 b
first_in_line room ForNegative b = if b == 48 then Dead else with_digit room ForNegative 0 b
first_in_line room (ForWord behind) b = with_digit room (ForWord behind) 0 b

-- a byte behind the number `n`: the end of its line, or a digit, but none behind 0
abbrev pub more_in_line : ℕ → Line → ℕ → ℕ → Phase
more_in_line room line n b = if b == 13 then LineEnd line n else (if n == 0 then Dead else with_digit room line n b)

-- what a line with the number `n` is followed by
abbrev pub line_ended : Line → ℕ → Phase
line_ended ForCount n = if n == 0 then AtStar else AtDollar (n - 1)
line_ended ForNegative n = AtStar
line_ended (ForWord behind) n = if n == 0 then WordCr behind else InWord behind (n - 1)

-- what a word is followed by
abbrev pub word_ended : ℕ → Phase
word_ended behind = if behind == 0 then AtStar else AtDollar (behind - 1)

-- what may come behind a byte
abbrev pub phase_after : ℕ → Phase → ℕ → Phase
phase_after room AtStar b = if b == 42 then InLine ForCount None else Dead
phase_after room (InLine line None) b = first_in_line room line b
phase_after room (InLine line (Some n)) b = more_in_line room line n b
phase_after room (LineEnd line n) b = if b == 10 then line_ended line n else Dead
phase_after room (AtDollar behind) b = if b == 36 then InLine (ForWord behind) None else Dead
phase_after room (InWord behind more) b = if more == 0 then WordCr behind else InWord behind (more - 1)
phase_after room (WordCr behind) b = if b == 13 then WordLf behind else Dead
phase_after room (WordLf behind) b = if b == 10 then word_ended behind else Dead
phase_after room Dead b = Dead

-- at the start of a request
abbrev pub fresh : Parser
fresh = record { phase = AtStar; words = []; word = []; room = MAX_COMMAND_BYTES }

-- a word is whole
abbrev pub with_word : ℕ → Parser → Parser
with_word behind s =
    if behind == 0 then fresh
    else record {
      phase = AtDollar (behind - 1);
      words = s.words ++ s.word ∷ [];
      word = [];
      room = s.room - length s.word;
    }

-- the state after a byte, in a phase
abbrev pub next_in : Phase → Parser → ℕ → Parser
next_in (InWord behind more) s b =
    record s { phase = phase_after s.room (InWord behind more) b; word = s.word ++ b ∷ [] }
next_in (WordLf behind) s b = if b == 10 then with_word behind s else record s { phase = Dead }
next_in phase s b = record s { phase = phase_after s.room phase b }

abbrev pub next : Parser → ℕ → Parser
next s b = next_in s.phase s b

-- the form that a byte ends, if it ends one
abbrev pub out_in : Phase → Parser → ℕ → Option Form
out_in (LineEnd ForCount n) s b = if b == 10 && n == 0 then Some EmptyArray else None
out_in (LineEnd ForNegative n) s b = if b == 10 then Some (NegativeArray n) else None
out_in (WordLf behind) s b = if b == 10 && behind == 0 then Some (Given (s.words ++ s.word ∷ [])) else None
out_in phase s b = None

abbrev pub out : Parser → ℕ → Option Form
out s b = out_in s.phase s b

abbrev pub with_form : List Form → Option Form → List Form
with_form forms None = forms
with_form forms (Some form) = forms ++ form ∷ []

-- the front of a command with these words, of which so many more are to come
abbrev pub front : ℕ → List (List ℕ) → List ℕ
front coming words = count_line (codes "*") (length words + coming) ++ flat_map bulk words

-- a line up to its number
abbrev pub line_front : Line → List (List ℕ) → List ℕ
line_front ForCount words = codes "*"
line_front ForNegative words = codes "*-"
line_front (ForWord behind) words = front (behind + 1) words ++ codes "$"

abbrev pub digits_of : Option ℕ → List ℕ
digits_of None = []
digits_of (Some n) = decimal n

-- the text of the unfinished form, by its whole words and what is there of the next one
abbrev pub kept_in : Phase → List (List ℕ) → List ℕ → List ℕ
kept_in AtStar words word = []
kept_in (InLine line number) words word = line_front line words ++ digits_of number
kept_in (LineEnd line n) words word = line_front line words ++ (decimal n ++ codes "\r")
kept_in (AtDollar behind) words word = front (behind + 1) words
kept_in (InWord behind more) words word =
    front (behind + 1) words ++ (count_line (codes "$") (length word + (more + 1)) ++ word)
kept_in (WordCr behind) words word = front (behind + 1) words ++ (count_line (codes "$") (length word) ++ word)
kept_in (WordLf behind) words word =
    front (behind + 1) words ++ (count_line (codes "$") (length word) ++ (word ++ codes "\r"))
kept_in Dead words word = []

abbrev pub kept : Parser → List ℕ
kept s = kept_in s.phase s.words s.word

abbrev pub is_dead : Phase → Bool
is_dead Dead = true
is_dead phase = false

-- the kind of a byte that cannot stand there
abbrev pub line_kind : Line → BadFrame
line_kind ForCount = Count
line_kind ForNegative = Count
line_kind (ForWord behind) = Length

abbrev pub kind_in : Phase → BadFrame
kind_in (InLine line number) = line_kind line
kind_in (LineEnd line n) = line_kind line
kind_in (AtDollar behind) = NoDollar
kind_in (InWord behind more) = NoEnd
kind_in (WordCr behind) = NoEnd
kind_in (WordLf behind) = NoEnd
kind_in phase = NoStar

-- the words of a command
abbrev pub words_of : Option Form → Option (List (List ℕ))
words_of (Some (Given words)) = Some words
words_of form = None
