-- Steps of a reader.
use Rattle.std.specs.Prelude.{◌≡◌, ℕ, ◌+◌, ◌≤◌, List, [], ◌∷◌, Option, Some, None}
use Rattle.lua_lex.specs.declared.kinds.TokenKind.{TokenKind}
use Rattle.lua_lex.specs.declared.kinds.TokenKind.TheVariants as kind
use Rattle.lua_grammar.specs.Positions as at
use Rattle.lua_grammar.specs.Positions.{Position}
use Rattle.lua_grammar.specs.declared.words.Word.{Word}
use Rattle.lua_grammar.specs.declared.kinds.SyntaxKind.TheVariants as fault
use Rattle.lua_parse.specs.declared.reader.Counts.{Counts}
use Rattle.lua_parse.specs.declared.stops.Halt.{Halt}
use Rattle.lua_parse.specs.declared.stops.Halt.TheVariants as halt

-- the counts of the expression at hand
abbrev pub counts_of : Position → Counts
counts_of i = record { operators = i.operators; suffixes = i.suffixes }

-- with these counts in place of those of the expression at hand
abbrev pub resumed : Counts → Position → Position
resumed counts i = record i { operators = counts.operators; suffixes = counts.suffixes }

-- a place is kept for a body, and the `(` of its parameters taken
pub record OpensBody (number : ℕ) (i k : Position) : Type 0 where
  pub kept : Position
  pub begins : at.BeginsBody number i kept
  pub takes : at.Takes kind.LeftParen kept k

-- no number: a kind of which there is one
abbrev pub IsMark : TokenKind → Type 0
IsMark (kind.Number n) = ⊥
IsMark _ = Unit {0}

-- the line of the first of these words
abbrev pub line_of : List Word → Option ℕ
line_of [] = None
line_of (word ∷ words) = Some word.line

-- the line of the next word
abbrev pub next_line : Position → Option ℕ
next_line i = line_of i.words

-- the next word is not of this kind, and the reader stays before it
pub record Lacks (k : TokenKind) (r : Halt) (i j : Position) : Type 0 where
  pub is : r ≡ halt.Syntax fault.Unexpected
  pub unseen : at.SeesNot k i
  pub stays : j ≡ i

-- the count, with those that are spared, is full
pub record IsTooLong (r : Halt) (spared count : ℕ) (i j : Position) : Type 0 where
  pub is : r ≡ halt.Syntax fault.TooLong
  pub long : 1000 ≤ count + spared
  pub stays : j ≡ i

-- no body is opened
abbrev pub OpensNone : Halt → Position → Position → Type 0
OpensNone (halt.Syntax f) i j = Lacks kind.LeftParen (halt.Syntax f) i j
OpensNone halt.NoMemory i j = Unit {0}
