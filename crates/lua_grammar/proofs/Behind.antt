-- Which words may come behind a thing and do not go on with it.
use Rattle.std.proofs.Common.{◌≡◌, ◌≢◌, true, false, Option, Some, None, refl, sym, ap, ◌∙◌}
use Rattle.lua_lex.specs.declared.kinds.TokenKind.{TokenKind}
use Rattle.lua_lex.specs.declared.kinds.TokenKind.TheVariants as kind
use Rattle.lua_grammar.specs.Words.{ends_block, ends_return}
use Rattle.lua_grammar.proofs.Continuations.{EndsOperand, EndsList}

pub ends_operands : (w : Option TokenKind) → ends_block w ≡ true → EndsOperand w
ends_operands None e = (refl, refl)
ends_operands (Some kind.End) e = (refl, refl)
ends_operands (Some kind.Else) e = (refl, refl)
ends_operands (Some kind.ElseIf) e = (refl, refl)
ends_operands (Some kind.Until) e = (refl, refl)
ends_operands w e = cc

pub ends_with_no : (k : TokenKind) → ends_block (Some k) ≡ false → (w : Option TokenKind) → ends_block w ≡ true
    → w ≢ Some k
ends_with_no k n w e f = cc (sym e ∙ ap ends_block f ∙ n)

pub ends_lists : (w : Option TokenKind) → ends_block w ≡ true → EndsList w
ends_lists w e = (ends_operands w e, ends_with_no kind.Comma refl w e)

pub ends_returns : (w : Option TokenKind) → ends_block w ≡ true → ends_return w ≡ true
ends_returns (Some kind.Semicolon) e = refl
ends_returns w e = e

pub brace_ends : (w : Option TokenKind) → w ≡ Some kind.RightBrace → EndsOperand w
brace_ends w e = rw e (refl, refl)

pub do_ends : (w : Option TokenKind) → w ≡ Some kind.Do → EndsOperand w
do_ends w e = rw e (refl, refl)

pub end_ends : (w : Option TokenKind) → w ≡ Some kind.End → ends_block w ≡ true
end_ends w e = ap ends_block e

pub other : (k l : TokenKind) → (k ≡ l → ⊥) → (w : Option TokenKind) → w ≡ Some k → w ≢ Some l
other k l n w e f = n (same (sym e ∙ f)) where
  same : Some k ≡ Some l → k ≡ l
  same g = cc
