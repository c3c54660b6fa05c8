-- When two kinds of words are the same.
use Rattle.std.proofs.Common.{◌≡◌, true, false, IsTrue, Option, Some, None, refl, sym, ap, subst}
use Rattle.std.specs.Option.{option_eq}
use Rattle.lua_lex.specs.declared.kinds.TokenKind.{TokenKind}
use Rattle.lua_lex.specs.declared.kinds.TokenKind.TheVariants as kind
use Rattle.lua_lex.specs.contracts.kinds.TokenKindPartialEq.TheImpl.{eq-value}
use Rattle.lua_parse.specs.Steps.{IsMark}

differ : {P : Type 0} → false ≡ true → P
differ e = absurd (cc)

is_And : (b : TokenKind) → eq-value.it b kind.And ≡ true → b ≡ kind.And
is_And kind.And e = refl
is_And _ e = differ e

is_Break : (b : TokenKind) → eq-value.it b kind.Break ≡ true → b ≡ kind.Break
is_Break kind.Break e = refl
is_Break _ e = differ e

is_Do : (b : TokenKind) → eq-value.it b kind.Do ≡ true → b ≡ kind.Do
is_Do kind.Do e = refl
is_Do _ e = differ e

is_Else : (b : TokenKind) → eq-value.it b kind.Else ≡ true → b ≡ kind.Else
is_Else kind.Else e = refl
is_Else _ e = differ e

is_ElseIf : (b : TokenKind) → eq-value.it b kind.ElseIf ≡ true → b ≡ kind.ElseIf
is_ElseIf kind.ElseIf e = refl
is_ElseIf _ e = differ e

is_End : (b : TokenKind) → eq-value.it b kind.End ≡ true → b ≡ kind.End
is_End kind.End e = refl
is_End _ e = differ e

is_False : (b : TokenKind) → eq-value.it b kind.False ≡ true → b ≡ kind.False
is_False kind.False e = refl
is_False _ e = differ e

is_For : (b : TokenKind) → eq-value.it b kind.For ≡ true → b ≡ kind.For
is_For kind.For e = refl
is_For _ e = differ e

is_Function : (b : TokenKind) → eq-value.it b kind.Function ≡ true → b ≡ kind.Function
is_Function kind.Function e = refl
is_Function _ e = differ e

is_If : (b : TokenKind) → eq-value.it b kind.If ≡ true → b ≡ kind.If
is_If kind.If e = refl
is_If _ e = differ e

is_In : (b : TokenKind) → eq-value.it b kind.In ≡ true → b ≡ kind.In
is_In kind.In e = refl
is_In _ e = differ e

is_Local : (b : TokenKind) → eq-value.it b kind.Local ≡ true → b ≡ kind.Local
is_Local kind.Local e = refl
is_Local _ e = differ e

is_Nil : (b : TokenKind) → eq-value.it b kind.Nil ≡ true → b ≡ kind.Nil
is_Nil kind.Nil e = refl
is_Nil _ e = differ e

is_Not : (b : TokenKind) → eq-value.it b kind.Not ≡ true → b ≡ kind.Not
is_Not kind.Not e = refl
is_Not _ e = differ e

is_Or : (b : TokenKind) → eq-value.it b kind.Or ≡ true → b ≡ kind.Or
is_Or kind.Or e = refl
is_Or _ e = differ e

is_Repeat : (b : TokenKind) → eq-value.it b kind.Repeat ≡ true → b ≡ kind.Repeat
is_Repeat kind.Repeat e = refl
is_Repeat _ e = differ e

is_Return : (b : TokenKind) → eq-value.it b kind.Return ≡ true → b ≡ kind.Return
is_Return kind.Return e = refl
is_Return _ e = differ e

is_Then : (b : TokenKind) → eq-value.it b kind.Then ≡ true → b ≡ kind.Then
is_Then kind.Then e = refl
is_Then _ e = differ e

is_True : (b : TokenKind) → eq-value.it b kind.True ≡ true → b ≡ kind.True
is_True kind.True e = refl
is_True _ e = differ e

is_Until : (b : TokenKind) → eq-value.it b kind.Until ≡ true → b ≡ kind.Until
is_Until kind.Until e = refl
is_Until _ e = differ e

is_While : (b : TokenKind) → eq-value.it b kind.While ≡ true → b ≡ kind.While
is_While kind.While e = refl
is_While _ e = differ e

is_Plus : (b : TokenKind) → eq-value.it b kind.Plus ≡ true → b ≡ kind.Plus
is_Plus kind.Plus e = refl
is_Plus _ e = differ e

is_Minus : (b : TokenKind) → eq-value.it b kind.Minus ≡ true → b ≡ kind.Minus
is_Minus kind.Minus e = refl
is_Minus _ e = differ e

is_Star : (b : TokenKind) → eq-value.it b kind.Star ≡ true → b ≡ kind.Star
is_Star kind.Star e = refl
is_Star _ e = differ e

is_Slash : (b : TokenKind) → eq-value.it b kind.Slash ≡ true → b ≡ kind.Slash
is_Slash kind.Slash e = refl
is_Slash _ e = differ e

is_Percent : (b : TokenKind) → eq-value.it b kind.Percent ≡ true → b ≡ kind.Percent
is_Percent kind.Percent e = refl
is_Percent _ e = differ e

is_Caret : (b : TokenKind) → eq-value.it b kind.Caret ≡ true → b ≡ kind.Caret
is_Caret kind.Caret e = refl
is_Caret _ e = differ e

is_Hash : (b : TokenKind) → eq-value.it b kind.Hash ≡ true → b ≡ kind.Hash
is_Hash kind.Hash e = refl
is_Hash _ e = differ e

is_Equal : (b : TokenKind) → eq-value.it b kind.Equal ≡ true → b ≡ kind.Equal
is_Equal kind.Equal e = refl
is_Equal _ e = differ e

is_NotEqual : (b : TokenKind) → eq-value.it b kind.NotEqual ≡ true → b ≡ kind.NotEqual
is_NotEqual kind.NotEqual e = refl
is_NotEqual _ e = differ e

is_LessEqual : (b : TokenKind) → eq-value.it b kind.LessEqual ≡ true → b ≡ kind.LessEqual
is_LessEqual kind.LessEqual e = refl
is_LessEqual _ e = differ e

is_GreaterEqual : (b : TokenKind) → eq-value.it b kind.GreaterEqual ≡ true → b ≡ kind.GreaterEqual
is_GreaterEqual kind.GreaterEqual e = refl
is_GreaterEqual _ e = differ e

is_Less : (b : TokenKind) → eq-value.it b kind.Less ≡ true → b ≡ kind.Less
is_Less kind.Less e = refl
is_Less _ e = differ e

is_Greater : (b : TokenKind) → eq-value.it b kind.Greater ≡ true → b ≡ kind.Greater
is_Greater kind.Greater e = refl
is_Greater _ e = differ e

is_Assign : (b : TokenKind) → eq-value.it b kind.Assign ≡ true → b ≡ kind.Assign
is_Assign kind.Assign e = refl
is_Assign _ e = differ e

is_LeftParen : (b : TokenKind) → eq-value.it b kind.LeftParen ≡ true → b ≡ kind.LeftParen
is_LeftParen kind.LeftParen e = refl
is_LeftParen _ e = differ e

is_RightParen : (b : TokenKind) → eq-value.it b kind.RightParen ≡ true → b ≡ kind.RightParen
is_RightParen kind.RightParen e = refl
is_RightParen _ e = differ e

is_LeftBrace : (b : TokenKind) → eq-value.it b kind.LeftBrace ≡ true → b ≡ kind.LeftBrace
is_LeftBrace kind.LeftBrace e = refl
is_LeftBrace _ e = differ e

is_RightBrace : (b : TokenKind) → eq-value.it b kind.RightBrace ≡ true → b ≡ kind.RightBrace
is_RightBrace kind.RightBrace e = refl
is_RightBrace _ e = differ e

is_LeftBracket : (b : TokenKind) → eq-value.it b kind.LeftBracket ≡ true → b ≡ kind.LeftBracket
is_LeftBracket kind.LeftBracket e = refl
is_LeftBracket _ e = differ e

is_RightBracket : (b : TokenKind) → eq-value.it b kind.RightBracket ≡ true → b ≡ kind.RightBracket
is_RightBracket kind.RightBracket e = refl
is_RightBracket _ e = differ e

is_Semicolon : (b : TokenKind) → eq-value.it b kind.Semicolon ≡ true → b ≡ kind.Semicolon
is_Semicolon kind.Semicolon e = refl
is_Semicolon _ e = differ e

is_Colon : (b : TokenKind) → eq-value.it b kind.Colon ≡ true → b ≡ kind.Colon
is_Colon kind.Colon e = refl
is_Colon _ e = differ e

is_Comma : (b : TokenKind) → eq-value.it b kind.Comma ≡ true → b ≡ kind.Comma
is_Comma kind.Comma e = refl
is_Comma _ e = differ e

is_Dot : (b : TokenKind) → eq-value.it b kind.Dot ≡ true → b ≡ kind.Dot
is_Dot kind.Dot e = refl
is_Dot _ e = differ e

is_Concat : (b : TokenKind) → eq-value.it b kind.Concat ≡ true → b ≡ kind.Concat
is_Concat kind.Concat e = refl
is_Concat _ e = differ e

is_Dots : (b : TokenKind) → eq-value.it b kind.Dots ≡ true → b ≡ kind.Dots
is_Dots kind.Dots e = refl
is_Dots _ e = differ e

is_Name : (b : TokenKind) → eq-value.it b kind.Name ≡ true → b ≡ kind.Name
is_Name kind.Name e = refl
is_Name _ e = differ e

is_Text : (b : TokenKind) → eq-value.it b kind.Text ≡ true → b ≡ kind.Text
is_Text kind.Text e = refl
is_Text _ e = differ e

is_same : (a b : TokenKind) → IsMark b → eq-value.it a b ≡ true → a ≡ b
is_same a kind.And mark e = is_And a e
is_same a kind.Break mark e = is_Break a e
is_same a kind.Do mark e = is_Do a e
is_same a kind.Else mark e = is_Else a e
is_same a kind.ElseIf mark e = is_ElseIf a e
is_same a kind.End mark e = is_End a e
is_same a kind.False mark e = is_False a e
is_same a kind.For mark e = is_For a e
is_same a kind.Function mark e = is_Function a e
is_same a kind.If mark e = is_If a e
is_same a kind.In mark e = is_In a e
is_same a kind.Local mark e = is_Local a e
is_same a kind.Nil mark e = is_Nil a e
is_same a kind.Not mark e = is_Not a e
is_same a kind.Or mark e = is_Or a e
is_same a kind.Repeat mark e = is_Repeat a e
is_same a kind.Return mark e = is_Return a e
is_same a kind.Then mark e = is_Then a e
is_same a kind.True mark e = is_True a e
is_same a kind.Until mark e = is_Until a e
is_same a kind.While mark e = is_While a e
is_same a kind.Plus mark e = is_Plus a e
is_same a kind.Minus mark e = is_Minus a e
is_same a kind.Star mark e = is_Star a e
is_same a kind.Slash mark e = is_Slash a e
is_same a kind.Percent mark e = is_Percent a e
is_same a kind.Caret mark e = is_Caret a e
is_same a kind.Hash mark e = is_Hash a e
is_same a kind.Equal mark e = is_Equal a e
is_same a kind.NotEqual mark e = is_NotEqual a e
is_same a kind.LessEqual mark e = is_LessEqual a e
is_same a kind.GreaterEqual mark e = is_GreaterEqual a e
is_same a kind.Less mark e = is_Less a e
is_same a kind.Greater mark e = is_Greater a e
is_same a kind.Assign mark e = is_Assign a e
is_same a kind.LeftParen mark e = is_LeftParen a e
is_same a kind.RightParen mark e = is_RightParen a e
is_same a kind.LeftBrace mark e = is_LeftBrace a e
is_same a kind.RightBrace mark e = is_RightBrace a e
is_same a kind.LeftBracket mark e = is_LeftBracket a e
is_same a kind.RightBracket mark e = is_RightBracket a e
is_same a kind.Semicolon mark e = is_Semicolon a e
is_same a kind.Colon mark e = is_Colon a e
is_same a kind.Comma mark e = is_Comma a e
is_same a kind.Dot mark e = is_Dot a e
is_same a kind.Concat mark e = is_Concat a e
is_same a kind.Dots mark e = is_Dots a e
is_same a kind.Name mark e = is_Name a e
is_same a kind.Text mark e = is_Text a e
is_same a (kind.Number n) mark e = absurd mark

same : (a : TokenKind) → IsMark a → eq-value.it a a ≡ true
same kind.And mark = refl
same kind.Break mark = refl
same kind.Do mark = refl
same kind.Else mark = refl
same kind.ElseIf mark = refl
same kind.End mark = refl
same kind.False mark = refl
same kind.For mark = refl
same kind.Function mark = refl
same kind.If mark = refl
same kind.In mark = refl
same kind.Local mark = refl
same kind.Nil mark = refl
same kind.Not mark = refl
same kind.Or mark = refl
same kind.Repeat mark = refl
same kind.Return mark = refl
same kind.Then mark = refl
same kind.True mark = refl
same kind.Until mark = refl
same kind.While mark = refl
same kind.Plus mark = refl
same kind.Minus mark = refl
same kind.Star mark = refl
same kind.Slash mark = refl
same kind.Percent mark = refl
same kind.Caret mark = refl
same kind.Hash mark = refl
same kind.Equal mark = refl
same kind.NotEqual mark = refl
same kind.LessEqual mark = refl
same kind.GreaterEqual mark = refl
same kind.Less mark = refl
same kind.Greater mark = refl
same kind.Assign mark = refl
same kind.LeftParen mark = refl
same kind.RightParen mark = refl
same kind.LeftBrace mark = refl
same kind.RightBrace mark = refl
same kind.LeftBracket mark = refl
same kind.RightBracket mark = refl
same kind.Semicolon mark = refl
same kind.Colon mark = refl
same kind.Comma mark = refl
same kind.Dot mark = refl
same kind.Concat mark = refl
same kind.Dots mark = refl
same kind.Name mark = refl
same kind.Text mark = refl
same (kind.Number n) mark = absurd mark

pub sees_is : (found : Option TokenKind) (k : TokenKind) → IsMark k → IsTrue (option_eq eq-value.it found (Some k))
    → found ≡ Some k
sees_is (Some a) k mark e = ap Some (is_same a k mark e)
sees_is None k mark e = differ e

pub is_sees : (found : Option TokenKind) (k : TokenKind) → IsMark k → found ≡ Some k
    → IsTrue (option_eq eq-value.it found (Some k))
is_sees found k mark e = let P : Option TokenKind → Type 0 = λ o. IsTrue (option_eq eq-value.it o (Some k)) in
    subst P (sym e) (same k mark)
