use Rattle.cmd_exec.proofs.Refused.{exec-leaves}
use Rattle.cmd_exec.proofs.laws.commands_leave_other_keys.Goals as goal

pub returns : goal.returns
returns c = exec-leaves c.other_keys_stay.ensures c.other_keys_stay-2.ensures.server c.other_keys_stay-2.ensures.keys
    c.settled_records_lead_to_the_same_store.ensures.same
