use Rattle.std.proofs.Common.{◌≡◌}
use Rattle.cmd_args.specs.Draws.{state_after}
use Rattle.cmd_args.proofs.draws.Draws.skip.Given as goal

abbrev pub invariant-loop : goal.invariant-loop
invariant-loop l = l.self ≡ state_after l.fn.self l.counter
