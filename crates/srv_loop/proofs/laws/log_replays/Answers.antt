use Rattle.std.proofs.Common.{sym}
use Rattle.cl_core.specs.Machine.{beginning, run_from}
use Rattle.srv_loop.proofs.laws.log_replays.Goals as goal

pub returns : goal.returns
returns c = λ turns.
    let back = c.groups_are_read_back.ensures.whole (run_from beginning turns).groups
    (c.log_gives_the_store.ensures.groups beginning turns c.turns_keep_validity.ensures.beginning) in
    let leads = c.log_gives_the_store.ensures.leads beginning turns in
    record { groups = (run_from beginning turns).groups; read = back.0; good = back.1; leads = sym leads }
