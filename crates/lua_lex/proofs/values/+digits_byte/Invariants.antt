use Rattle.lua_lex.proofs.values.+digits_byte.Given as goal

abbrev pub decreases-digits_byte : goal.decreases-digits_byte
decreases-digits_byte l = l.left
