use Rattle.lua_lex.proofs.LexemeLemmas.{stops_same, tokens_no_stop}
use Rattle.lua_parse.proofs.Faults.{one_fault_of_text, no_fault_of_tree}
use Rattle.lua_parse.proofs.laws.one_answer.Goals as goal

pub returns-clause-one_fault : goal.returns-clause-one_fault
returns-clause-one_fault c = λ text line line' kind kind'. one_fault_of_text text line line' kind kind'

pub returns-clause-one_lexical : goal.returns-clause-one_lexical
returns-clause-one_lexical c = λ text line line' kind kind' s s'. stops_same text line kind line' kind' s s'

pub returns-clause-tree_or_fault : goal.returns-clause-tree_or_fault
returns-clause-tree_or_fault c = λ text chunk line kind. no_fault_of_tree text chunk line kind

pub returns-clause-tree_or_lexical : goal.returns-clause-tree_or_lexical
returns-clause-tree_or_lexical c = λ text chunk line kind tree s. tokens_no_stop text tree.tokens line kind
    tree.has_tokens s

pub returns-clause-fault_or_lexical : goal.returns-clause-fault_or_lexical
returns-clause-fault_or_lexical c = λ text line line' kind kind' fault s. tokens_no_stop text fault.tokens line' kind'
    fault.has_tokens s
