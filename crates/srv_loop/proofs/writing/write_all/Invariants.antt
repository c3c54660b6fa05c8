use Rattle.std.proofs.Common.{◌≡◌, ◌≤◌, ◌++◌, List, ℕ, length}
use Rattle.rs_outside.specs.Known.{known_then}
use Rattle.srv_loop.proofs.Writes.{IsWriting}
use Rattle.srv_loop.proofs.writing.write_all.Given as goal

abbrev pub invariant-loop-rest : goal.invariant-loop-rest
invariant-loop-rest g l = record {
  writing : IsWriting (g.O.Sink.taken l.initial.out) (g.O.Sink.taken l.out) l.fn.bytes l.rest;
  names : g.O.Sink.begun l.out ≡ g.O.Sink.begun l.initial.out;
  later : g.O.Sink.faults l.initial.out ≤ g.O.Sink.faults l.out;
}

abbrev pub decreases-loop-rest : goal.decreases-loop-rest
decreases-loop-rest g l = length l.rest
