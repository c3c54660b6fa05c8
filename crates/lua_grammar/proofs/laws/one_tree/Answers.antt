use Rattle.lua_grammar.proofs.Once.{one_tree}
use Rattle.lua_grammar.proofs.Texts.{one_tree_of_text}
use Rattle.lua_grammar.proofs.laws.one_tree.Goals as goal

pub returns-clause-of_words : goal.returns-clause-of_words
returns-clause-of_words c = λ rules words block block' bodies bodies' tree tree'. one_tree words block block' bodies
    bodies' tree tree'

pub returns-clause-of_text : goal.returns-clause-of_text
returns-clause-of_text c = one_tree_of_text
