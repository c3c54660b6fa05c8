use Rattle.std.proofs.Common.{[], ◌∷◌, ap}
use Rattle.fx_record.specs.declared.record.Record.TheVariants.{Del}
use Rattle.cmd_rows.specs.Outcomes.{does, with_found, left_by}
use Rattle.cmd_rows.specs.Strings.{bulk_or_null}
use Rattle.cmd_string.specs.StringRows.{string_row}
use Rattle.cmd_string.proofs.GivenBySet.{getdel-gone, persist-given, getex-given}
use Rattle.cmd_string.proofs.GivenByOptions.{getex-reply, getex-gone, getex-absent}
use Rattle.cmd_string.proofs.laws.getdel_and_getex.Goals as goal

pub returns-clause-getdel : goal.returns-clause-getdel
unfolding string_row
returns-clause-getdel c = λ world name key text is. (
  ap (λ f. (with_found f (λ old. does (bulk_or_null old) (Del key ∷ []))).reply) is,
  getdel-gone world.store key text is,
)

pub returns-clause-getex : goal.returns-clause-getex
unfolding string_row
returns-clause-getex c = λ world name. getex-reply world.store world.time

pub returns-clause-plain : goal.returns-clause-plain
unfolding string_row
returns-clause-plain c = λ world name key text is.
    ap (λ f. left_by world.store (with_found f (λ t. does (bulk_or_null t) []))) is

pub returns-clause-persist : goal.returns-clause-persist
unfolding string_row
returns-clause-persist c = λ world name. persist-given world.store world.time

pub returns-clause-until : goal.returns-clause-until
unfolding string_row
returns-clause-until c = λ world name. getex-given world.store world.time

pub returns-clause-past : goal.returns-clause-past
unfolding string_row
returns-clause-past c = λ world name. getex-gone world.store world.time

pub returns-clause-absent : goal.returns-clause-absent
unfolding string_row
returns-clause-absent c = λ world name. getex-absent world.store world.time
