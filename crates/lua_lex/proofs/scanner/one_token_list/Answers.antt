use Rattle.lua_lex.proofs.LexemeLemmas.{tokens_same}
use Rattle.lua_lex.proofs.scanner.one_token_list.Goals as goal

pub returns : goal.returns
returns c = tokens_same
