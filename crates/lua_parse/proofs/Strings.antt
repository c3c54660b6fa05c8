-- Each token lies in its text, and one of the kind of a string is a string.
use Rattle.std.proofs.Common.{◌≡◌, ℕ, ◌+◌, ◌-◌, ◌≤◌, ◌⊎◌, Bool, true, false, cond, ◌==◌, List, [], ◌∷◌, ◌++◌, length}
use Rattle.std.proofs.Common.{map, take, drop, Option, Some, None, option_map, ok_or, Result, Ok, Err, refl, sym, ap}
use Rattle.std.proofs.Common.{subst, ◌∙◌, inl, inr, arith, length-append, append_assoc}
use Rattle.std.proofs.Math.Seq.{take-append_seam, drop-append_seam}
use Rattle.std.proofs.lemmas.Bool.Decides.{nat_tests}
use Rattle.lua_lex.specs.declared.kinds.TokenKind.{TokenKind}
use Rattle.lua_lex.specs.declared.kinds.TokenKind.TheVariants as kind
use Rattle.lua_lex.specs.declared.kinds.LexKind.{LexKind}
use Rattle.lua_lex.specs.declared.kinds.LexKind.TheVariants as fault
use Rattle.lua_lex.specs.declared.kinds.Token.{Token}
use Rattle.lua_lex.specs.declared.items.Item.{Item}
use Rattle.lua_lex.specs.declared.items.Class.{Class}
use Rattle.lua_lex.specs.declared.items.Class.TheVariants as class
use Rattle.lua_lex.specs.Lines.{breaks}
use Rattle.lua_lex.specs.Long.{long_len}
use Rattle.lua_lex.specs.Pieces.{Piece, pieces_text, IsPiece, ArePieces, NoPair, NoDigit}
use Rattle.lua_lex.specs.Rules.{class_of, Rule, IsFirst, gap, token}
use Rattle.lua_lex.specs.Symbols.{single, pair, symbol, with_equal, single_operator, single_mark, or_else, points}
use Rattle.std.specs.Prelude.{codes}
use Rattle.std.specs.Str.{bytes_eq}
use Rattle.lua_lex.specs.Runs.{name_len}
use Rattle.lua_lex.specs.Words.{word_kind, of_two, of_three, of_four, of_five, of_six, of_eight}
use Rattle.lua_lex.specs.Tokens.{Lexeme, text_of, AreLexemes, token_of, tokens_behind, HasTokens}
use Rattle.lua_lex.specs.Values.{piece_byte, line_feeds, without_break}
use Rattle.lua_parse.specs.Numbers.{IsIn, IsSomeString}
use Rattle.lua_parse.proofs.LongStrings.{IsLongFront, long_front}

-- ---- words and symbols are no strings

NoText : TokenKind → Type 0
NoText kind.Text = ⊥
NoText _ = Unit {0}

no_text : (k : TokenKind) → kind.Text ≡ k → NoText k → ⊥
unfolding NoText
no_text k e none = subst NoText (sym e) none

NoneText : Option TokenKind → Type 0
NoneText None = Unit {0}
NoneText (Some k) = NoText k

NonePair : Option (TokenKind × ℕ) → Type 0
NonePair None = Unit {0}
NonePair (Some p) = NoText p.0

either : {A : Type 0} (P : A → Type 0) (t : Bool) (a b : A) → P a → P b → P (cond t a b)
either P true a b p q = p
either P false a b p q = q

of_two_no : (word : List ℕ) → NoText (of_two word)
unfolding NoText
of_two_no word = either NoText (bytes_eq word (codes "do")) (kind.Do)
    (cond (bytes_eq word (codes "if")) (kind.If)
    (cond (bytes_eq word (codes "in")) (kind.In) (cond (bytes_eq word (codes "or")) (kind.Or) (kind.Name)))) tt
    (either NoText (bytes_eq word (codes "if")) (kind.If)
    (cond (bytes_eq word (codes "in")) (kind.In) (cond (bytes_eq word (codes "or")) (kind.Or) (kind.Name))) tt
    (either NoText (bytes_eq word (codes "in")) (kind.In) (cond (bytes_eq word (codes "or")) (kind.Or) (kind.Name)) tt
    (either NoText (bytes_eq word (codes "or")) (kind.Or) (kind.Name) tt tt)))

of_three_no : (word : List ℕ) → NoText (of_three word)
unfolding NoText
of_three_no word = either NoText (bytes_eq word (codes "and")) (kind.And)
    (cond (bytes_eq word (codes "end")) (kind.End)
    (cond (bytes_eq word (codes "for")) (kind.For)
    (cond (bytes_eq word (codes "nil")) (kind.Nil) (cond (bytes_eq word (codes "not")) (kind.Not) (kind.Name))))) tt
    (either NoText (bytes_eq word (codes "end")) (kind.End)
    (cond (bytes_eq word (codes "for")) (kind.For)
    (cond (bytes_eq word (codes "nil")) (kind.Nil) (cond (bytes_eq word (codes "not")) (kind.Not) (kind.Name)))) tt
    (either NoText (bytes_eq word (codes "for")) (kind.For)
    (cond (bytes_eq word (codes "nil")) (kind.Nil) (cond (bytes_eq word (codes "not")) (kind.Not) (kind.Name))) tt
    (either NoText (bytes_eq word (codes "nil")) (kind.Nil)
    (cond (bytes_eq word (codes "not")) (kind.Not) (kind.Name)) tt
    (either NoText (bytes_eq word (codes "not")) (kind.Not) (kind.Name) tt tt))))

of_four_no : (word : List ℕ) → NoText (of_four word)
unfolding NoText
of_four_no word = either NoText (bytes_eq word (codes "else")) (kind.Else)
    (cond (bytes_eq word (codes "then")) (kind.Then) (cond (bytes_eq word (codes "true")) (kind.True) (kind.Name))) tt
    (either NoText (bytes_eq word (codes "then")) (kind.Then)
    (cond (bytes_eq word (codes "true")) (kind.True) (kind.Name)) tt
    (either NoText (bytes_eq word (codes "true")) (kind.True) (kind.Name) tt tt))

of_five_no : (word : List ℕ) → NoText (of_five word)
unfolding NoText
of_five_no word = either NoText (bytes_eq word (codes "break")) (kind.Break)
    (cond (bytes_eq word (codes "false")) (kind.False)
    (cond (bytes_eq word (codes "local")) (kind.Local)
    (cond (bytes_eq word (codes "until")) (kind.Until)
    (cond (bytes_eq word (codes "while")) (kind.While) (kind.Name))))) tt
    (either NoText (bytes_eq word (codes "false")) (kind.False)
    (cond (bytes_eq word (codes "local")) (kind.Local)
    (cond (bytes_eq word (codes "until")) (kind.Until) (cond (bytes_eq word (codes "while")) (kind.While) (kind.Name))))
    tt (either NoText (bytes_eq word (codes "local")) (kind.Local)
    (cond (bytes_eq word (codes "until")) (kind.Until)
    (cond (bytes_eq word (codes "while")) (kind.While) (kind.Name))) tt
    (either NoText (bytes_eq word (codes "until")) (kind.Until)
    (cond (bytes_eq word (codes "while")) (kind.While) (kind.Name)) tt
    (either NoText (bytes_eq word (codes "while")) (kind.While) (kind.Name) tt tt))))

of_six_no : (word : List ℕ) → NoText (of_six word)
unfolding NoText
of_six_no word = either NoText (bytes_eq word (codes "elseif")) (kind.ElseIf)
    (cond (bytes_eq word (codes "repeat")) (kind.Repeat)
    (cond (bytes_eq word (codes "return")) (kind.Return) (kind.Name))) tt
    (either NoText (bytes_eq word (codes "repeat")) (kind.Repeat)
    (cond (bytes_eq word (codes "return")) (kind.Return) (kind.Name)) tt
    (either NoText (bytes_eq word (codes "return")) (kind.Return) (kind.Name) tt tt))

of_eight_no : (word : List ℕ) → NoText (of_eight word)
unfolding NoText
of_eight_no word = either NoText (bytes_eq word (codes "function")) (kind.Function) (kind.Name) tt tt

word_no : (word : List ℕ) → NoText (word_kind word)
unfolding NoText word_kind
word_no word = either NoText (length word == 2) (of_two word)
    (cond (length word == 3) (of_three word)
    (cond (length word == 4) (of_four word) (cond (length word == 5) (of_five word)
    (cond (length word == 6) (of_six word) (cond (length word == 8) (of_eight word) (kind.Name)))))) (of_two_no word)
    (either NoText (length word == 3) (of_three word)
    (cond (length word == 4) (of_four word) (cond (length word == 5) (of_five word)
    (cond (length word == 6) (of_six word) (cond (length word == 8) (of_eight word) (kind.Name))))) (of_three_no word)
    (either NoText (length word == 4) (of_four word)
    (cond (length word == 5) (of_five word) (cond (length word == 6) (of_six word)
    (cond (length word == 8) (of_eight word) (kind.Name)))) (of_four_no word)
    (either NoText (length word == 5) (of_five word)
    (cond (length word == 6) (of_six word) (cond (length word == 8) (of_eight word) (kind.Name)))
    (of_five_no word) (either NoText (length word == 6) (of_six word)
    (cond (length word == 8) (of_eight word) (kind.Name)) (of_six_no word)
    (either NoText (length word == 8) (of_eight word) kind.Name (of_eight_no word) tt)))))

with_equal_no : (b : ℕ) → NoneText (with_equal b)
unfolding NoText NoneText
with_equal_no b = either NoneText (b == 61) (Some kind.Equal)
    (cond (b == 126) (Some kind.NotEqual) (cond (b == 60) (Some kind.LessEqual)
    (cond (b == 62) (Some kind.GreaterEqual) (None)))) tt
    (either NoneText (b == 126) (Some kind.NotEqual)
    (cond (b == 60) (Some kind.LessEqual) (cond (b == 62) (Some kind.GreaterEqual) (None))) tt
    (either NoneText (b == 60) (Some kind.LessEqual) (cond (b == 62) (Some kind.GreaterEqual) (None)) tt
    (either NoneText (b == 62) (Some kind.GreaterEqual) (None) tt tt)))

single_operator_no : (b : ℕ) → NoneText (single_operator b)
unfolding NoText NoneText
single_operator_no b = either NoneText (b == 43) (Some kind.Plus)
    (cond (b == 45) (Some kind.Minus) (cond (b == 42) (Some kind.Star)
    (cond (b == 47) (Some kind.Slash) (cond (b == 37) (Some kind.Percent)
    (cond (b == 94) (Some kind.Caret) (cond (b == 35) (Some kind.Hash)
    (cond (b == 60) (Some kind.Less) (cond (b == 62) (Some kind.Greater)
    (cond (b == 61) (Some kind.Assign) (None)))))))))) tt
    (either NoneText (b == 45) (Some kind.Minus)
    (cond (b == 42) (Some kind.Star) (cond (b == 47) (Some kind.Slash)
    (cond (b == 37) (Some kind.Percent) (cond (b == 94) (Some kind.Caret)
    (cond (b == 35) (Some kind.Hash) (cond (b == 60) (Some kind.Less)
    (cond (b == 62) (Some kind.Greater) (cond (b == 61) (Some kind.Assign) (None))))))))) tt
    (either NoneText (b == 42) (Some kind.Star)
    (cond (b == 47) (Some kind.Slash) (cond (b == 37) (Some kind.Percent)
    (cond (b == 94) (Some kind.Caret) (cond (b == 35) (Some kind.Hash)
    (cond (b == 60) (Some kind.Less) (cond (b == 62) (Some kind.Greater)
    (cond (b == 61) (Some kind.Assign) (None)))))))) tt
    (either NoneText (b == 47) (Some kind.Slash)
    (cond (b == 37) (Some kind.Percent) (cond (b == 94) (Some kind.Caret)
    (cond (b == 35) (Some kind.Hash) (cond (b == 60) (Some kind.Less)
    (cond (b == 62) (Some kind.Greater) (cond (b == 61) (Some kind.Assign)
    (None))))))) tt (either NoneText (b == 37) (Some kind.Percent)
    (cond (b == 94) (Some kind.Caret) (cond (b == 35) (Some kind.Hash)
    (cond (b == 60) (Some kind.Less) (cond (b == 62) (Some kind.Greater)
    (cond (b == 61) (Some kind.Assign) (None)))))) tt
    (either NoneText (b == 94) (Some kind.Caret)
    (cond (b == 35) (Some kind.Hash) (cond (b == 60) (Some kind.Less)
    (cond (b == 62) (Some kind.Greater) (cond (b == 61) (Some kind.Assign) (None))))) tt
    (either NoneText (b == 35) (Some kind.Hash)
    (cond (b == 60) (Some kind.Less) (cond (b == 62) (Some kind.Greater)
    (cond (b == 61) (Some kind.Assign) (None)))) tt
    (either NoneText (b == 60) (Some kind.Less)
    (cond (b == 62) (Some kind.Greater) (cond (b == 61) (Some kind.Assign) (None))) tt
    (either NoneText (b == 62) (Some kind.Greater) (cond (b == 61) (Some kind.Assign) (None)) tt
    (either NoneText (b == 61) (Some kind.Assign) (None) tt tt)))))))))

single_mark_no : (b : ℕ) → NoneText (single_mark b)
unfolding NoText NoneText
single_mark_no b = either NoneText (b == 40) (Some kind.LeftParen)
    (cond (b == 41) (Some kind.RightParen) (cond (b == 123) (Some kind.LeftBrace)
    (cond (b == 125) (Some kind.RightBrace) (cond (b == 91) (Some kind.LeftBracket)
    (cond (b == 93) (Some kind.RightBracket)
    (cond (b == 59) (Some kind.Semicolon) (cond (b == 58) (Some kind.Colon)
    (cond (b == 44) (Some kind.Comma) (cond (b == 46) (Some kind.Dot) (None)))))))))) tt
    (either NoneText (b == 41) (Some kind.RightParen)
    (cond (b == 123) (Some kind.LeftBrace) (cond (b == 125) (Some kind.RightBrace)
    (cond (b == 91) (Some kind.LeftBracket) (cond (b == 93) (Some kind.RightBracket)
    (cond (b == 59) (Some kind.Semicolon) (cond (b == 58) (Some kind.Colon)
    (cond (b == 44) (Some kind.Comma) (cond (b == 46) (Some kind.Dot) (None))))))))) tt
    (either NoneText (b == 123) (Some kind.LeftBrace)
    (cond (b == 125) (Some kind.RightBrace) (cond (b == 91) (Some kind.LeftBracket)
    (cond (b == 93) (Some kind.RightBracket)
    (cond (b == 59) (Some kind.Semicolon) (cond (b == 58) (Some kind.Colon)
    (cond (b == 44) (Some kind.Comma) (cond (b == 46) (Some kind.Dot) (None)))))))) tt
    (either NoneText (b == 125) (Some kind.RightBrace)
    (cond (b == 91) (Some kind.LeftBracket) (cond (b == 93) (Some kind.RightBracket)
    (cond (b == 59) (Some kind.Semicolon) (cond (b == 58) (Some kind.Colon)
    (cond (b == 44) (Some kind.Comma) (cond (b == 46) (Some kind.Dot)
    (None))))))) tt (either NoneText (b == 91) (Some kind.LeftBracket)
    (cond (b == 93) (Some kind.RightBracket)
    (cond (b == 59) (Some kind.Semicolon) (cond (b == 58) (Some kind.Colon)
    (cond (b == 44) (Some kind.Comma) (cond (b == 46) (Some kind.Dot) (None)))))) tt
    (either NoneText (b == 93) (Some kind.RightBracket)
    (cond (b == 59) (Some kind.Semicolon) (cond (b == 58) (Some kind.Colon)
    (cond (b == 44) (Some kind.Comma) (cond (b == 46) (Some kind.Dot) (None))))) tt
    (either NoneText (b == 59) (Some kind.Semicolon)
    (cond (b == 58) (Some kind.Colon) (cond (b == 44) (Some kind.Comma)
    (cond (b == 46) (Some kind.Dot) (None)))) tt
    (either NoneText (b == 58) (Some kind.Colon)
    (cond (b == 44) (Some kind.Comma) (cond (b == 46) (Some kind.Dot) (None))) tt
    (either NoneText (b == 44) (Some kind.Comma) (cond (b == 46) (Some kind.Dot) (None)) tt
    (either NoneText (b == 46) (Some kind.Dot) (None) tt tt)))))))))

or_else_no : {A : Type 0} (P : Option A → Type 0) (a b : Option A) → P a → P b → P (or_else a b)
or_else_no P None b p q = q
or_else_no P (Some x) b p q = p

single_no : (b : ℕ) → NoneText (single b)
unfolding single
single_no b = or_else_no NoneText (single_operator b) (single_mark b) (single_operator_no b) (single_mark_no b)

with_length : (n : ℕ) (o : Option TokenKind) → NoneText o → NonePair (option_map (λ (k : TokenKind). (k, n)) o)
unfolding NoneText NonePair
with_length n None none = tt
with_length n (Some k) none = none

points_no : (text : List ℕ) → NonePair (Some (points text))
unfolding NoText NonePair
points_no [] = tt
points_no (b ∷ text) = either (λ (p : TokenKind × ℕ). NonePair (Some p)) (b == 46) (kind.Dots, 3) (kind.Concat, 2) tt tt

pair_no : (b : ℕ) (text : List ℕ) → NonePair (pair b text)
unfolding pair NonePair
pair_no b [] = tt
pair_no b (c ∷ text) = either NonePair (c == 61) (option_map (λ (k : TokenKind). (k, 2)) (with_equal b))
    (cond (c == 46) (cond (b == 46) (Some (points text)) None) None)
    (with_length 2 (with_equal b) (with_equal_no b))
    (either NonePair (c == 46) (cond (b == 46) (Some (points text)) None) None
    (either NonePair (b == 46) (Some (points text)) None (points_no text) tt) tt)

symbol_no : (text : List ℕ) → NonePair (symbol text)
unfolding symbol NonePair
symbol_no [] = tt
symbol_no (b ∷ text) = or_else_no NonePair (pair b text) (option_map (λ (k : TokenKind). (k, 1)) (single b))
    (pair_no b text) (with_length 1 (single b) (single_no b))

-- ---- the item of a string

abbrev kind_of_item : Result Item LexKind → Option TokenKind
kind_of_item (Ok item) = item.kind
kind_of_item (Err k) = None

abbrev len_of_item : Result Item LexKind → ℕ
len_of_item (Ok item) = item.len
len_of_item (Err k) = 0

some_is : {a b : TokenKind} → Some a ≡ Some b → a ≡ b
some_is e = cc

symbol_is_none : (o : Option (TokenKind × ℕ)) (n : ℕ) → NonePair o
    → ok_or (option_map (λ (s : TokenKind × ℕ). token s.0 s.1) o) fault.BadByte ≡ Ok (token kind.Text n) → ⊥
unfolding NonePair
symbol_is_none None n none e = absurd (cc)
symbol_is_none (Some p) n none e = let same : p.0 ≡ kind.Text = some_is (ap kind_of_item e) in
    no_text p.0 (sym same) none

long_gap : (n : ℕ) (o : Option ℕ) → ok_or (option_map (λ (m : ℕ). gap (3 + m)) o) fault.OpenLong
    ≡ Ok (token kind.Text n) → ⊥
long_gap n None e = absurd (cc)
long_gap n (Some m) e = let same : None ≡ Some kind.Text = ap kind_of_item e in absurd (cc)

-- ---- the string alone

front_same : (a b c d : List ℕ) → a ++ b ≡ c ++ d → length a ≡ length c → a ≡ c
front_same a b c d e n = sym (take-append_seam a b) ∙ ap (λ m. take m (a ++ b)) n ∙ ap (λ t. take (length c) t) e
    ∙ take-append_seam c d

no_pair_front : (b quote : ℕ) (front rest : List ℕ) → NoPair b (front ++ quote ∷ rest) → NoPair b (front ++ quote ∷ [])
no_pair_front b quote [] rest lacks = lacks
no_pair_front b quote (c ∷ front) rest lacks = lacks

no_digit_front : (quote : ℕ) (front rest : List ℕ) → NoDigit (front ++ quote ∷ rest) → NoDigit (front ++ quote ∷ [])
no_digit_front quote [] rest lacks = lacks
no_digit_front quote (c ∷ front) rest lacks = lacks

digits_end : (n quote : ℕ) (front rest : List ℕ) → (n ≡ 3) ⊎ NoDigit (front ++ quote ∷ rest)
    → (n ≡ 3) ⊎ NoDigit (front ++ quote ∷ [])
digits_end n quote front rest (inl e) = inl e
digits_end n quote front rest (inr lacks) = inr (no_digit_front quote front rest lacks)

piece_front : (quote : ℕ) (p : Piece) (front rest : List ℕ) → IsPiece quote p (front ++ quote ∷ rest)
    → IsPiece quote p (front ++ quote ∷ [])
piece_front quote (Piece.plain b) front rest is = is
piece_front quote (Piece.one_break b) front rest is = (is.0, no_pair_front b quote front rest is.1)
piece_front quote (Piece.two_breaks b c) front rest is = is
piece_front quote (Piece.digits ds) front rest is =
    (is.0, is.1, is.2, is.3, digits_end (length ds) quote front rest is.4)
piece_front quote (Piece.other b) front rest is = is

pieces_front : (quote : ℕ) (pieces : List Piece) (rest : List ℕ) → ArePieces quote pieces (quote ∷ rest)
    → ArePieces quote pieces (quote ∷ [])
pieces_front quote [] rest are = tt
pieces_front quote (p ∷ pieces) rest are =
    (piece_front quote p (pieces_text pieces) rest are.0, pieces_front quote pieces rest are.1)

quoted_class : (b : ℕ) (text : List ℕ) → class_of (b ∷ text) ≡ class.Quoted → (b ≡ 34) ⊎ (b ≡ 39)
unfolding class_of
quoted_class b text is = grind (arith, nat_tests)

bracket_class : (b : ℕ) (text : List ℕ) → class_of (b ∷ text) ≡ class.LongString → b ≡ 91
unfolding class_of
bracket_class b text is = grind (arith, nat_tests)

long_class_some : class_of [] ≡ class.LongString → ⊥
unfolding class_of
long_class_some is = absurd (cc)

quoted_string : (spelled more rest : List ℕ) (quote : ℕ) (pieces : List Piece)
    → class_of (spelled ++ more) ≡ class.Quoted → ArePieces quote pieces (quote ∷ rest)
    → spelled ++ more ≡ quote ∷ pieces_text pieces ++ quote ∷ rest → length spelled ≡ 2 + length (pieces_text pieces)
    → IsSomeString spelled
quoted_string spelled more rest quote pieces is are e n =
    let whole : spelled ++ more ≡ (quote ∷ pieces_text pieces ++ quote ∷ []) ++ rest =
    e ∙ ap (λ (t : List ℕ). quote ∷ t) (sym (append_assoc (pieces_text pieces) (quote ∷ []) rest)) in
    let size : length spelled ≡ length (quote ∷ pieces_text pieces ++ quote ∷ []) =
    omega (arith, length-append (pieces_text pieces) (quote ∷ [])) in (
      map piece_byte pieces,
      inl (record {
        quote = quote;
        pieces = pieces;
        is_quote = quoted_class quote (pieces_text pieces ++ quote ∷ rest) (rw e at is);
        are = pieces_front quote pieces rest are;
        text_is = front_same spelled more (quote ∷ pieces_text pieces ++ quote ∷ []) rest whole size;
        bytes_are = refl;
      }),
    )

long_string : (spelled more : List ℕ) (n : ℕ) → class_of (spelled ++ more) ≡ class.LongString
    → long_len (drop 1 (spelled ++ more)) ≡ Some n → length spelled ≡ 1 + n
    → IsSomeString spelled
long_string [] more n is e size = absurd (omega arith)
long_string (b ∷ bracket) more n is e size =
    let fits : n ≡ length bracket = omega arith in
    let l : IsLongFront bracket = long_front bracket more (e ∙ ap Some fits) in (
      line_feeds (without_break (take (length bracket - (l.at + 2 + (l.at + 1))) (drop (l.at + 1) bracket))),
      inr (record {
        bracket = bracket;
        at = l.at;
        text_is = ap (λ (c : ℕ). c ∷ bracket) (bracket_class b (bracket ++ more) is);
        opened = l.opened;
        closed = l.closed;
        bytes_are = refl;
      }),
    )

string_alone : (spelled more : List ℕ) → IsFirst (spelled ++ more) (Ok (token kind.Text (length spelled)))
    → IsSomeString spelled
string_alone spelled more first = by_class (class_of (spelled ++ more)) refl first
  where
    by_class : (cl : Class) → class_of (spelled ++ more) ≡ cl
        → Rule cl (spelled ++ more) (Ok (token kind.Text (length spelled))) → IsSomeString spelled
    by_class class.Blank is r = let same : Some kind.Text ≡ None = ap kind_of_item r in absurd (cc)
    by_class class.LineComment is r = let same : Some kind.Text ≡ None = ap kind_of_item r in absurd (cc)
    by_class class.LongComment is r = absurd (long_gap (length spelled) (long_len (drop 3 (spelled ++ more))) (sym r))
    by_class class.Word is r = let same : kind.Text ≡ word_kind (take (name_len (spelled ++ more)) (spelled ++ more)) =
        some_is (ap kind_of_item r) in absurd (no_text _ same (word_no _))
    by_class class.Numeral is r = let same : kind.Text ≡ kind.Number r.0 = some_is (ap (λ (i : Item). i.kind) r.2) in
        absurd (cc)
    by_class class.Quoted is r = quoted_string spelled more r.2 r.0 r.1 is r.3 r.4 (ap (λ (i : Item). i.len) r.5)
    by_class class.LongString is r = by_place (long_len (drop 1 (spelled ++ more))) refl (sym r)
      where
        by_place : (o : Option ℕ) → long_len (drop 1 (spelled ++ more)) ≡ o
            → ok_or (option_map (λ (n : ℕ). token kind.Text (1 + n)) o) fault.OpenLong
            ≡ Ok (token kind.Text (length spelled))
            → IsSomeString spelled
        by_place None o_is f = absurd (cc)
        by_place (Some n) o_is f = long_string spelled more n is o_is (sym (ap len_of_item f))
    by_class class.Symbol is r = absurd (symbol_is_none (symbol (spelled ++ more)) (length spelled)
        (symbol_no (spelled ++ more)) (sym r))

-- ---- tokens in their text

abbrev pub AreIn : List ℕ → List Token → Type 0
AreIn text [] = Unit {0}
AreIn text (t ∷ tokens) = IsIn text t × AreIn text tokens

one_in : (text before more : List ℕ) (x : Lexeme) (k : TokenKind) (line : ℕ) → x.kind ≡ Some k
    → text ≡ before ++ (x.bytes ++ more)
    → IsFirst (x.bytes ++ (more ++ [])) (Ok (record { kind = x.kind; len = length x.bytes }))
    → IsIn text (record { kind = k; start = length before; stop = length before + length x.bytes; line = line })
one_in text before more x k line is e first =
    let size : length before + length x.bytes - length before ≡ length x.bytes = omega arith in
    let spelled : take (length before + length x.bytes - length before) (drop (length before) text) ≡ x.bytes =
    ap (λ t. take (length before + length x.bytes - length before) (drop (length before) t)) e
    ∙ ap (take (length before + length x.bytes - length before)) (drop-append_seam before (x.bytes ++ more))
    ∙ ap (λ n. take n (x.bytes ++ more)) size ∙ take-append_seam x.bytes more in
    record {
      ordered = omega arith;
      within = omega (arith, ap length e, length-append before (x.bytes ++ more), length-append x.bytes more);
      string = λ text_is.
          let P : Option TokenKind → Type 0 = λ o. IsFirst (x.bytes ++ (more ++ []))
          (Ok (record { kind = o; len = length x.bytes })) in
          subst IsSomeString (sym spelled) (string_alone x.bytes (more ++ []) (subst P (is ∙ ap Some text_is) first));
    }

token_in : (text : List ℕ) (start line len : ℕ) (o : Option TokenKind) (tokens : List Token)
    → ((k : TokenKind) → o ≡ Some k → IsIn text (record { kind = k; start = start; stop = start + len; line = line }))
    → AreIn text tokens → AreIn text (token_of start line o len ++ tokens)
token_in text start line len None tokens one are = are
token_in text start line len (Some k) tokens one are = (one k refl, are)

all_in : (text before : List ℕ) (lexemes : List Lexeme) → text ≡ before ++ text_of lexemes → AreLexemes lexemes []
    → AreIn text (tokens_behind before lexemes)
all_in text before [] e is = tt
all_in text before (x ∷ lexemes) e is =
    token_in text (length before) (1 + breaks before) (length x.bytes) x.kind
    (tokens_behind (before ++ x.bytes) lexemes)
    (λ k kind_is. one_in text before (text_of lexemes) x k (1 + breaks before) kind_is e is.1)
    (all_in text (before ++ x.bytes) lexemes (e ∙ sym (append_assoc before x.bytes (text_of lexemes))) is.2)

pub tokens_in : (text : List ℕ) (tokens : List Token) → HasTokens text tokens → AreIn text tokens
tokens_in text tokens has = subst (AreIn text) (sym has.tokens_are)
    (all_in text [] has.lexemes has.text_is has.are_lexemes)

few_of_item : (start line len : ℕ) (o : Option TokenKind) (tokens : List Token)
    → length (token_of start line o len ++ tokens) ≤ 1 + length tokens
few_of_item start line len None tokens = omega arith
few_of_item start line len (Some k) tokens = omega arith

few : (before : List ℕ) (lexemes : List Lexeme) → AreLexemes lexemes [] → length (tokens_behind before lexemes)
    ≤ length (text_of lexemes)
few before [] is = omega arith
few before (x ∷ lexemes) is =
    omega (
      arith,
      few (before ++ x.bytes) lexemes is.2,
      few_of_item (length before) (1 + breaks before) (length x.bytes)
          x.kind (tokens_behind (before ++ x.bytes) lexemes),
      length-append x.bytes (text_of lexemes),
      is.0,
    )

-- a text has no more tokens than bytes
pub tokens_few : (text : List ℕ) (tokens : List Token) → HasTokens text tokens → length tokens ≤ length text
tokens_few text tokens has = omega (
  arith,
  few [] has.lexemes has.are_lexemes,
  ap length has.tokens_are,
  ap length has.text_is,
)
