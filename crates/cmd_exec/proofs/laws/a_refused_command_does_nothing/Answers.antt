use Rattle.std.proofs.Common.{[], refl}
use Rattle.cmd_args.specs.declared.refusal.Refusal.TheVariants.{NoWord}
use Rattle.cmd_exec.proofs.Refused.{exec-nothing, exec-refused, exec-unknown, exec-count, exec-reason}
use Rattle.cmd_exec.proofs.laws.a_refused_command_does_nothing.Goals as goal

pub returns-clause-nothing : goal.returns-clause-nothing
returns-clause-nothing c = exec-nothing c.a_fault_does_nothing_to_strings.ensures
    c.a_fault_does_nothing_to_keys.ensures.server c.a_fault_does_nothing_to_keys.ensures.keys

pub returns-clause-no_word : goal.returns-clause-no_word
returns-clause-no_word c = λ world mode. exec-refused world mode [] NoWord refl

pub returns-clause-unknown : goal.returns-clause-unknown
returns-clause-unknown c = exec-unknown

pub returns-clause-word_count : goal.returns-clause-word_count
returns-clause-word_count c = exec-count

pub returns-clause-reasons : goal.returns-clause-reasons
returns-clause-reasons c = exec-reason
