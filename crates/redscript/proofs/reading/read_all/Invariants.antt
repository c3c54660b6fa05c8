use Rattle.std.proofs.Common.{◌≡◌, ◌-◌, ◌<◌, ◌≤◌, length, vec_len}
use Rattle.rs_outside.specs.Known.{items_then}
use Rattle.redscript.proofs.reading.read_all.Given as goal

abbrev pub invariant-loop-input : goal.invariant-loop-input
invariant-loop-input g l = record {
  read : g.S.Source.left l.fn.input ≡ items_then l.text (g.S.Source.left l.input);
  room : 0 < vec_len l.buffer;
  later : g.S.Source.faults l.fn.input ≤ g.S.Source.faults l.input;
}

abbrev pub decreases-loop-input : goal.decreases-loop-input
decreases-loop-input g l = 268435457 - length l.text
