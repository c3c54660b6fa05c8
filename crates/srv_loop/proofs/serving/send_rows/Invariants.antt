use Rattle.std.proofs.Common.{◌≡◌, drop}
use Rattle.srv_loop.proofs.Writes.{IsWriting}
use Rattle.srv_loop.proofs.serving.send_rows.Given as goal

abbrev pub invariant-loop-row : goal.invariant-loop-row
invariant-loop-row g l = record {
  sending : IsWriting (g.W.Wire.sent l.fn.wire) (g.W.Wire.sent l.wire) l.rows (drop l.row-index l.row-items);
  turns : g.W.Wire.coming l.wire ≡ g.W.Wire.coming l.fn.wire;
  starts : g.W.Wire.started l.wire ≡ g.W.Wire.started l.fn.wire;
  faultless : g.W.Wire.faults l.wire ≡ g.W.Wire.faults l.fn.wire;
}
