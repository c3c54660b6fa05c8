use Rattle.cmd_exec.proofs.Worlds.{empty_is, begun_is}
use Rattle.cmd_exec.proofs.Within.{exec_within, exec_none, limits, times}
use Rattle.cmd_exec.specs.Exec.{exec}
use Rattle.cmd_exec.proofs.laws.commands_keep_the_world.Goals as goal

pub returns-clause-empty : goal.returns-clause-empty
returns-clause-empty c = empty_is

pub returns-clause-begun : goal.returns-clause-begun
returns-clause-begun c = begun_is

pub returns-clause-command : goal.returns-clause-command
returns-clause-command c = λ world mode words is.
    let within = exec_within c.string_records_are_within.ensures c.key_records_are_within.ensures.server
    c.key_records_are_within.ensures.keys world mode words in
    let records = (exec world mode words).records in (
      c.records_keep_to_the_limits.ensures.each world.store records is.0 (limits world.time records within),
      c.records_keep_to_the_time.ensures.each world.time world.store records is.1 (times world.time records within),
    )

pub returns-clause-records : goal.returns-clause-records
returns-clause-records c = λ world mode words is. exec_within c.string_records_are_within.ensures
    c.key_records_are_within.ensures.server c.key_records_are_within.ensures.keys world mode words

pub returns-clause-none : goal.returns-clause-none
returns-clause-none c = exec_none c.settled_records_lead_to_the_same_store.ensures.same
    c.settled_records_lead_to_the_same_store.ensures.none
