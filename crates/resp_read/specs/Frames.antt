-- The frames of RESP2 requests: a command is an array of bulk strings, its words.
use Rattle.std.specs.Prelude.{◌≡◌, ℕ, ◌+◌, ◌-◌, ◌^◌, ◌<◌, ◌≤◌, ◌⊎◌, min, List, [], ◌∷◌, ◌++◌, length, take, decimal}
use Rattle.std.specs.Prelude.{codes, sum_by}
use Rattle.std.specs.List.{AllByRecursion, flat_map}
use Rattle.rs_base.specs.Bytes.{crlf}
use Rattle.resp_read.specs.declared.command.Command.{Command}
use Rattle.resp_read.specs.declared.stops.BadFrame.{BadFrame}
use Rattle.resp_read.specs.declared.stops.BadFrame.TheVariants.{NoStar, Count, NoDollar, Length, NoEnd}

-- a mark, a number in digits, and the end of a line: `*2` CR LF for an array of two, `$5` CR LF for five bytes
abbrev pub count_line : List ℕ → ℕ → List ℕ
count_line mark n = mark ++ decimal n ++ crlf

-- a word: how many bytes it has, the bytes, and CR LF
abbrev pub bulk : List ℕ → List ℕ
bulk word = count_line (codes "$") (length word) ++ word ++ crlf

-- a command: how many words it has, and the words
abbrev pub frame : List (List ℕ) → List ℕ
frame words = count_line (codes "*") (length words) ++ flat_map bulk words

abbrev pub IsWord : List ℕ → Type 0
IsWord word = length word ≤ 16777216

-- one word or more, within the limits
pub record IsCommand (words : List (List ℕ)) : Type 0 where
  pub some : 0 < length words
  pub few : length words ≤ 65536
  pub each : AllByRecursion IsWord words
  pub all : sum_by length words ≤ 67108864

-- what a client may send: a command, or an array that is no command and gets no reply
pub data Form : Type 0 where
  Given : List (List ℕ) → Form
  EmptyArray : Form
  NegativeArray : ℕ → Form

abbrev pub form_text : Form → List ℕ
form_text (Given words) = frame words
form_text EmptyArray = count_line (codes "*") 0
form_text (NegativeArray n) = count_line (codes "*-") n

abbrev pub IsForm : Form → Type 0
IsForm (Given words) = IsCommand words
IsForm EmptyArray = Unit {0}
IsForm (NegativeArray n) = (1 ≤ n) × (n ≤ 65536)

-- the text of forms one behind the other
abbrev pub sequence_text : List Form → List ℕ
sequence_text forms = flat_map form_text forms

pub record IsSequence (text : List ℕ) (forms : List Form) : Type 0 where
  pub each : AllByRecursion IsForm forms
  pub text_is : text ≡ sequence_text forms

-- the text can go on to a sequence of forms
abbrev pub Begins : List ℕ → Type 0
Begins text = (more : List ℕ) × (forms : List Form) × IsSequence (text ++ more) forms

-- the longest sequence of forms at the front of a text, and what is left of the text
pub record LongestSequence (text : List ℕ) (forms : List Form) (rest : List ℕ) : Type 0 where
  pub each : AllByRecursion IsForm forms
  pub text_is : text ≡ sequence_text forms ++ rest
  pub longest : (others : List Form) (left : List ℕ)
      → AllByRecursion IsForm others → text ≡ sequence_text others ++ left → length rest ≤ length left

-- the first byte, counted from 0, with which the text can no longer go on to a sequence of forms
pub record IsBadPlace (text : List ℕ) (place : ℕ) : Type 0 where
  pub within : place < length text
  pub good : Begins (take place text)
  pub bad : Begins (take (place + 1) text) → ⊥

-- the front of a command that has `count` words: its first line, and words, fewer than it says
pub record IsFront (front : List ℕ) (count : ℕ) (words : List (List ℕ)) : Type 0 where
  pub few : count ≤ 65536
  pub more : length words < count
  pub each : AllByRecursion IsWord words
  pub all : sum_by length words ≤ 67108864
  pub front_is : front ≡ count_line (codes "*") count ++ flat_map bulk words

abbrev pub IsNoLf : ℕ → Type 0
IsNoLf b = b ≡ 10 → ⊥

-- the line that `*` begins, not yet at its end
pub record IsInCount (rest : List ℕ) : Type 0 where
  pub line : List ℕ
  pub rest_is : rest ≡ codes "*" ++ line
  pub open_line : AllByRecursion IsNoLf line

-- a command up to where a word begins
pub record IsAtWord (rest : List ℕ) : Type 0 where
  pub count : ℕ
  pub words : List (List ℕ)
  pub front : IsFront rest count words

-- a command up to some byte of the line that `$` begins, not yet at its end
pub record IsInLength (rest : List ℕ) : Type 0 where
  pub before : List ℕ
  pub line : List ℕ
  pub at_word : IsAtWord before
  pub rest_is : rest ≡ before ++ codes "$" ++ line
  pub open_line : AllByRecursion IsNoLf line

-- a command up to the CR LF of a word, or up to its LF
pub record IsAtEnd (rest : List ℕ) : Type 0 where
  pub before : List ℕ
  pub word : List ℕ
  pub cr : List ℕ
  pub at_word : IsAtWord before
  pub short : IsWord word
  pub fits : sum_by length at_word.words + length word ≤ 67108864
  pub rest_is : rest ≡ before ++ (count_line (codes "$") (length word) ++ (word ++ cr))
  pub cr_is : (cr ≡ []) ⊎ (cr ≡ codes "\r")

-- the kind of a bad byte, by what stands before it of the form in which it stands
abbrev pub IsDue : BadFrame → List ℕ → Type 0
IsDue NoStar rest = rest ≡ []
IsDue Count rest = IsInCount rest
IsDue NoDollar rest = IsAtWord rest
IsDue Length rest = IsInLength rest
IsDue NoEnd rest = IsAtEnd rest

-- the bad place of a text, and the kind of its byte
pub record IsBad (text : List ℕ) (place : ℕ) (kind : BadFrame) : Type 0 where
  pub forms : List Form
  pub rest : List ℕ
  pub at : IsBadPlace text place
  pub sequence : LongestSequence (take place text) forms rest
  pub due : IsDue kind rest

-- a number as a `u64` that counts: it stands still at its last value
abbrev pub within_u64 : ℕ → ℕ
within_u64 n = min n (2 ^ 64 - 1)

-- the words of the commands among forms, in order
abbrev pub commands_in : List Form → List (List (List ℕ))
commands_in [] = []
commands_in (Given words ∷ forms) = words ∷ commands_in forms
commands_in (EmptyArray ∷ forms) = commands_in forms
commands_in (NegativeArray n ∷ forms) = commands_in forms

-- the commands of forms one behind the other, the first form at `at`, each with the place of its first byte
abbrev pub commands_from : ℕ → List Form → List Command
commands_from at [] = []
commands_from at (Given words ∷ forms) =
    record { words = words; place = within_u64 at } ∷ commands_from (at + length (frame words)) forms
commands_from at (EmptyArray ∷ forms) = commands_from (at + length (form_text EmptyArray)) forms
commands_from at (NegativeArray n ∷ forms) = commands_from (at + length (form_text (NegativeArray n))) forms

-- the commands of the longest sequence of forms at the front of a text
pub record IsWhole (text : List ℕ) (commands : List Command) : Type 0 where
  pub forms : List Form
  pub rest : List ℕ
  pub sequence : LongestSequence text forms rest
  pub commands_are : commands ≡ commands_from 0 forms
