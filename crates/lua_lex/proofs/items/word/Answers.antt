use Rattle.std.proofs.Common.{arith}
use Rattle.lua_lex.proofs.Classes.{word_some}
use Rattle.lua_lex.proofs.items.word.Goals as goal

pub returns-clause-some : goal.returns-clause-some
returns-clause-some c = omega (arith, word_some c.args.text.now c.requires, c.name_len-len.ensures.value)
