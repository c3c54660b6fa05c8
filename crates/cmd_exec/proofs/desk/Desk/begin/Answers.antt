use Rattle.cmd_exec.proofs.Worlds.{purged_at, cleared_is}
use Rattle.cmd_exec.proofs.desk.Desk.begin.Goals as goal

pub invariant_of-self : goal.invariant_of-self
invariant_of-self c = purged_at _ _ _ c.self.invariant.0 c.in-Ok.ensures.ok

pub invariant_of-self-in-Err : goal.invariant_of-self-in-Err
invariant_of-self-in-Err c = cleared_is _ _ c.clear.ensures
