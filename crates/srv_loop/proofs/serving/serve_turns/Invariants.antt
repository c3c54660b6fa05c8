use Rattle.std.proofs.Common.{◌≡◌, ◌≤◌, List, length}
use Rattle.rs_outside.specs.declared.turn.Turn.{Turn}
use Rattle.srv_loop.specs.Serving.{Serves}
use Rattle.srv_loop.proofs.serving.serve_turns.Given as goal

abbrev pub invariant-loop : goal.invariant-loop
invariant-loop g l = record {
  serving : (taken : List Turn) × (length taken ≡ l.counter)
      × Serves taken l.fn.server l.server (g.W.Wire.coming l.fn.wire) (g.W.Wire.coming l.wire)
      (g.L.Sink.taken l.fn.log) (g.L.Sink.taken l.log) (g.W.Wire.sent l.fn.wire) (g.W.Wire.sent l.wire);
  starts : g.W.Wire.started l.wire ≡ g.W.Wire.started l.fn.wire;
  names : g.L.Sink.begun l.log ≡ g.L.Sink.begun l.fn.log;
  wire_later : g.W.Wire.faults l.fn.wire ≤ g.W.Wire.faults l.wire;
  log_later : g.L.Sink.faults l.fn.log ≤ g.L.Sink.faults l.log;
}
