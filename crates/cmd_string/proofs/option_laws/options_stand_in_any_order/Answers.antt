use Rattle.std.proofs.Common.{◌++◌}
use Rattle.cmd_string.specs.StringRows.{string_row}
use Rattle.cmd_string.proofs.OptionOrder.{swapped, excluding, together, set-same, set-refused}
use Rattle.cmd_string.proofs.OptionOrder.{getex-refused}
use Rattle.cmd_string.proofs.option_laws.options_stand_in_any_order.Goals as goal

pub returns-clause-any_order : goal.returns-clause-any_order
unfolding string_row
returns-clause-any_order c = λ world name key value options first second before one other behind all is second_is.
    set-same world.store world.time key value (before ++ one ++ other ++ behind) (before ++ other ++ one ++ behind)
    (swapped options first second before one other behind all is second_is)

pub returns-clause-at_most_once : goal.returns-clause-at_most_once
unfolding string_row
returns-clause-at_most_once c =
    λ world name key value options others first second before one between other behind all is all_between second_is
    exclude.
    set-refused world.store world.time key value (before ++ one ++ between ++ other ++ behind)
    (excluding options others first second before one between other behind all is all_between second_is exclude)

pub returns-clause-together : goal.returns-clause-together
returns-clause-together c = together

pub returns-clause-getex : goal.returns-clause-getex
unfolding string_row
returns-clause-getex c = λ world name key. getex-refused world.store world.time key
