use Rattle.std.proofs.Common.{◌≡◌, ◌++◌, drop}
use Rattle.fx_log.specs.Groups.{log_text}
use Rattle.srv_loop.proofs.serving.write_groups.Given as goal

abbrev pub invariant-loop-group : goal.invariant-loop-group
invariant-loop-group l = l.out ++ log_text (drop l.group-index l.group-items) ≡ l.initial.out ++ log_text l.groups
