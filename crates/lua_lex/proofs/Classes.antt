-- What the class of a text tells of it.
use Rattle.std.proofs.Common.{◌≡◌, ◌≢◌, ℕ, ◌<◌, ◌≤◌, false, List, [], ◌∷◌, length, arith}
use Rattle.std.proofs.lemmas.Bool.Decides.{nat_tests}
use Rattle.lua_lex.specs.declared.items.Class.TheVariants as class
use Rattle.lua_lex.specs.Runs.{name_len}
use Rattle.lua_lex.specs.Lines.{is_break}
use Rattle.lua_lex.specs.Rules.{class_of}

pub line_comment_len : (text : List ℕ) → class_of text ≡ class.LineComment → 2 ≤ length text
unfolding class_of
line_comment_len [] is = absurd (cc)
line_comment_len (b ∷ []) is = absurd (grind (arith, nat_tests))
line_comment_len (b ∷ c ∷ text) is = omega arith

pub long_comment_len : (text : List ℕ) → class_of text ≡ class.LongComment → 3 ≤ length text
unfolding class_of
long_comment_len [] is = absurd (cc)
long_comment_len (b ∷ []) is = absurd (grind (arith, nat_tests))
long_comment_len (b ∷ c ∷ []) is = absurd (grind (arith, nat_tests))
long_comment_len (b ∷ c ∷ d ∷ text) is = omega arith

pub word_some : (text : List ℕ) → class_of text ≡ class.Word → 0 < name_len text
unfolding class_of
word_some [] is = absurd (cc)
word_some (b ∷ text) is = grind (arith, nat_tests)

-- a string begins with a quote
pub quote_byte : (b : ℕ) (text : List ℕ) → class_of (b ∷ text) ≡ class.Quoted → (b ≢ 92) × (is_break b ≡ false)
unfolding class_of
quote_byte b text is = grind (arith, nat_tests)
