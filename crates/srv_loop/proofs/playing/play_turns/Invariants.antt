use Rattle.std.proofs.Common.{◌≡◌, ◌≤◌}
use Rattle.std.specs.Vec.Iter.{into_iter_items}
use Rattle.srv_loop.proofs.PlayLaws.{UpTo}
use Rattle.srv_loop.proofs.playing.play_turns.Given as goal

abbrev pub invariant-loop-turn : goal.invariant-loop-turn
invariant-loop-turn g l = record {
  playing : UpTo l.fn.turns (into_iter_items l.turn-iterator) l.server l.logged l.gathered (g.L.Sink.taken l.fn.log)
      (g.L.Sink.taken l.log) (g.O.Sink.taken l.fn.out) (g.O.Sink.taken l.out);
  names : g.L.Sink.begun l.log ≡ g.L.Sink.begun l.fn.log;
  log_later : g.L.Sink.faults l.fn.log ≤ g.L.Sink.faults l.log;
  out_later : g.O.Sink.faults l.fn.out ≤ g.O.Sink.faults l.out;
}
