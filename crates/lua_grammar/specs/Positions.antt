-- Where a reader of the words stands.
use Rattle.std.specs.Prelude.{◌≡◌, ◌≢◌, ℕ, suc, ◌==◌, Bool, true, false, if◌then◌else◌, List, [], ◌∷◌, ◌++◌, length}
use Rattle.std.specs.Prelude.{slice_set, Option, Some, None, option_and_then, IsSome}
use Rattle.lua_lex.specs.declared.kinds.TokenKind.{TokenKind}
use Rattle.lua_lex.specs.declared.kinds.TokenKind.TheVariants as mark
use Rattle.lua_grammar.specs.declared.operators.Unary.{Unary}
use Rattle.lua_grammar.specs.declared.operators.Binary.{Binary}
use Rattle.lua_grammar.specs.declared.operators.Operator.{Operator}
use Rattle.lua_grammar.specs.declared.words.Word.{Word}
use Rattle.lua_grammar.specs.declared.expressions.Name.{Name}
use Rattle.lua_grammar.specs.declared.statements.Body.{Body}
use Rattle.lua_grammar.specs.Operators.{binary_operator, unary_operator}

-- the words to come and the line of the word before them (0 at the front of the text); how many binary operators and
-- suffixes the expression at hand has so far, outside its inner brackets; and the bodies of the functions begun so far
pub record Position : Type 0 where
  pub words : List Word
  pub line : ℕ
  pub operators : ℕ
  pub suffixes : ℕ
  pub bodies : List Body

abbrev pub first_of : List Word → Option Word
first_of [] = None
first_of (word ∷ words) = Some word

abbrev pub kind_of : Option Word → Option TokenKind
kind_of None = None
kind_of (Some word) = Some word.kind

-- what kind of word comes next; none at the end of the text
abbrev pub kind : Position → Option TokenKind
kind i = kind_of (first_of i.words)

-- behind the next word
abbrev pub behind : Position → List Word → Position
behind i [] = i
behind i (word ∷ words) = record {
  words = words;
  line = word.line;
  operators = i.operators;
  suffixes = i.suffixes;
  bodies = i.bodies;
}

abbrev pub next : Position → Position
next i = behind i i.words

-- the next word is of this kind, and `j` stands behind it
pub record Takes (k : TokenKind) (i j : Position) : Type 0 where
  pub seen : kind i ≡ Some k
  pub taken : j ≡ next i

-- there is a next word, and `j` stands behind it
pub record Passes (i j : Position) : Type 0 where
  pub some : IsSome (kind i)
  pub taken : j ≡ next i

-- the next word is of this kind, or is not
abbrev pub Sees : TokenKind → Position → Type 0
Sees k i = kind i ≡ Some k

abbrev pub SeesNot : TokenKind → Position → Type 0
SeesNot k i = kind i ≢ Some k

abbrev pub name_of : Option Word → Name
name_of None = record { text = 0; line = 0; start = 0 }
name_of (Some word) = record { text = word.text; line = word.line; start = word.start }

-- the name, or the number of the text, that comes next
abbrev pub name : Position → Name
name i = name_of (first_of i.words)

-- a `,` or a `;`
abbrev pub is_separator : Option TokenKind → Bool
is_separator (Some mark.Comma) = true
is_separator (Some mark.Semicolon) = true
is_separator _ = false

-- `j` stands behind a `;`, where one comes next
abbrev pub behind_semicolon : Option TokenKind → Position → Position
behind_semicolon (Some mark.Semicolon) i = next i
behind_semicolon _ i = i

pub record PassesSemicolon (i j : Position) : Type 0 where
  pub taken : j ≡ behind_semicolon (kind i) i

-- whether a name with `=` behind it comes next
abbrev pub is_named : Option TokenKind → Option TokenKind → Bool
is_named (Some mark.Name) (Some mark.Assign) = true
is_named _ _ = false

abbrev pub names_field : Position → Bool
names_field i = is_named (kind i) (kind (next i))

-- the line of the next word
abbrev pub line : Position → ℕ
line i = (name i).line

-- the next word is this name, or is the text of this number, and `j` stands behind it
pub record TakesName (n : Name) (i j : Position) : Type 0 where
  pub seen : kind i ≡ Some mark.Name
  pub name_is : n ≡ name i
  pub taken : j ≡ next i

pub record TakesText (number : ℕ) (i j : Position) : Type 0 where
  pub seen : kind i ≡ Some mark.Text
  pub number_is : number ≡ (name i).text
  pub taken : j ≡ next i

-- the next word is on the line of the word before it
abbrev pub IsNear : Position → Type 0
IsNear i = line i ≡ i.line

abbrev pub of_rank : ℕ → Option Operator → Option Binary
of_rank rank None = None
of_rank rank (Some operator) = if operator.rank == rank then Some operator.by else None

-- the binary operator of this rank that comes next
abbrev pub joint : ℕ → Position → Option Binary
joint rank i = of_rank rank (option_and_then binary_operator (kind i))

-- the unary operator that comes next
abbrev pub sign : Position → Option Unary
sign i = option_and_then unary_operator (kind i)

-- an operator comes next, and is counted, and `j` stands behind it
pub record PassesOperator (i j : Position) : Type 0 where
  pub some : IsSome (kind i)
  pub taken : j ≡ next (record i { operators = suc i.operators })

-- a suffix that begins at `i` is counted
pub record CountsSuffix (i j : Position) : Type 0 where
  pub counted : j ≡ record i { suffixes = suc i.suffixes }

-- at `j` the counts of an expression of its own begin
pub record BeginsExpression (i j : Position) : Type 0 where
  pub begun : j ≡ record i { operators = 0; suffixes = 0 }

-- behind that expression, which ends at `j`, the counts are again those of the expression around, which `i` stands in
pub record ResumesExpression (i j k : Position) : Type 0 where
  pub resumed : k ≡ record j { operators = i.operators; suffixes = i.suffixes }

-- a function begins: a place is kept for its body among the bodies, and its number is that place
pub record BeginsBody (number : ℕ) (i j : Position) : Type 0 where
  pub number_is : number ≡ length i.bodies
  pub begun : j ≡ record i {
    bodies = i.bodies
        ++ record { line = 0; method = false; parameters = []; varargs = false; block = [] } ∷ [];
  }

-- the function ends: its body takes its place
pub record EndsBody (number : ℕ) (body : Body) (i j : Position) : Type 0 where
  pub ended : j ≡ record i { bodies = slice_set i.bodies number body }
