-- The reserved words (Lua 5.1 manual, 2.1), by their lengths.
use Rattle.std.specs.Prelude.{ℕ, ◌==◌, if◌then◌else◌, List, length, codes}
use Rattle.std.specs.Str.{bytes_eq}
use Rattle.lua_lex.specs.declared.kinds.TokenKind.{TokenKind}
use Rattle.lua_lex.specs.declared.kinds.TokenKind.TheVariants as kind

abbrev pub of_two : List ℕ → TokenKind
of_two word = if bytes_eq word (codes "do") then kind.Do
    else (if bytes_eq word (codes "if") then kind.If
    else (if bytes_eq word (codes "in") then kind.In
    else (if bytes_eq word (codes "or") then kind.Or else kind.Name)))

abbrev pub of_three : List ℕ → TokenKind
of_three word = if bytes_eq word (codes "and") then kind.And
    else (if bytes_eq word (codes "end") then kind.End
    else (if bytes_eq word (codes "for") then kind.For
    else (if bytes_eq word (codes "nil") then kind.Nil
    else (if bytes_eq word (codes "not") then kind.Not else kind.Name))))

abbrev pub of_four : List ℕ → TokenKind
of_four word = if bytes_eq word (codes "else") then kind.Else
    else (if bytes_eq word (codes "then") then kind.Then
    else (if bytes_eq word (codes "true") then kind.True else kind.Name))

abbrev pub of_five : List ℕ → TokenKind
of_five word = if bytes_eq word (codes "break") then kind.Break
    else (if bytes_eq word (codes "false") then kind.False
    else (if bytes_eq word (codes "local") then kind.Local
    else (if bytes_eq word (codes "until") then kind.Until
    else (if bytes_eq word (codes "while") then kind.While else kind.Name))))

abbrev pub of_six : List ℕ → TokenKind
of_six word = if bytes_eq word (codes "elseif") then kind.ElseIf
    else (if bytes_eq word (codes "repeat") then kind.Repeat
    else (if bytes_eq word (codes "return") then kind.Return else kind.Name))

abbrev pub of_eight : List ℕ → TokenKind
of_eight word = if bytes_eq word (codes "function") then kind.Function else kind.Name

-- the reserved word, or else a name
unfoldable pub word_kind : List ℕ → TokenKind
word_kind word = if length word == 2 then of_two word
    else (if length word == 3 then of_three word
    else (if length word == 4 then of_four word
    else (if length word == 5 then of_five word
    else (if length word == 6 then of_six word
    else (if length word == 8 then of_eight word else kind.Name)))))
