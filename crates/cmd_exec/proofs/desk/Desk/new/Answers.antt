use Rattle.cmd_exec.proofs.Worlds.{cleared_is}
use Rattle.cmd_exec.proofs.desk.Desk.new.Goals as goal

pub over-requires : goal.over-requires
over-requires c = let is = cleared_is c.new.result 0 c.new.ensures in record { limits = is.0; timely = is.1 }
