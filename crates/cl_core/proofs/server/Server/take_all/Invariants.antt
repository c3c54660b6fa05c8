use Rattle.std.proofs.Common.{◌≡◌, map, fold, length}
use Rattle.cl_core.specs.Machine.{with_command, before_quit, quits}
use Rattle.cl_core.proofs.server.Server.take_all.Given as goal

abbrev pub invariant-loop-command : goal.invariant-loop-command
invariant-loop-command l = record {
  going : quits (map (λ c. c.words) l.left.items) ≡ quits (map (λ c. c.words) l.initial.left.items);
  run : fold (with_command l.client) (record { state = l.self; rows = l.outs; groups = l.groups })
      (before_quit (map (λ c. c.words) l.left.items))
      ≡ fold (with_command l.client) (record { state = l.fn.self; rows = l.fn.outs; groups = l.fn.groups })
      (before_quit (map (λ c. c.words) l.initial.left.items));
}

abbrev pub decreases-loop-command : goal.decreases-loop-command
decreases-loop-command l = length l.left.items
