use Rattle.lua_lex.proofs.quotes.+after_digits.Given as goal

abbrev pub decreases-after_digits : goal.decreases-after_digits
decreases-after_digits l = l.left
