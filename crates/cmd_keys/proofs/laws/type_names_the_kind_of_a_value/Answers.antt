use Rattle.ks_space.specs.declared.entry.Value.TheVariants.{Str, List, Hash, Set, Sorted}
use Rattle.cmd_keys.proofs.DelLaws.{type-absent, type-kind}
use Rattle.cmd_keys.proofs.laws.type_names_the_kind_of_a_value.Goals as goal

pub returns-clause-absent : goal.returns-clause-absent
returns-clause-absent c = type-absent

pub returns-clause-string : goal.returns-clause-string
returns-clause-string c = λ world name key text entry there is.
    type-kind world name key entry (Str text) there is

pub returns-clause-list : goal.returns-clause-list
returns-clause-list c = λ world name key items entry there is.
    type-kind world name key entry (List items) there is

pub returns-clause-hash : goal.returns-clause-hash
returns-clause-hash c = λ world name key pairs entry there is.
    type-kind world name key entry (Hash pairs) there is

pub returns-clause-set : goal.returns-clause-set
returns-clause-set c = λ world name key members entry there is.
    type-kind world name key entry (Set members) there is

pub returns-clause-sorted : goal.returns-clause-sorted
returns-clause-sorted c = λ world name key scores entry there is.
    type-kind world name key entry (Sorted scores) there is
