use Rattle.std.proofs.Common.{◌≡◌, ◌<◌, ◌≤◌, ℕ, List, vec_len}
use Rattle.rs_outside.specs.Known.{items_then}
use Rattle.redscript.specs.Replay.{KeepsUpTo}
use Rattle.redscript.proofs.replaying.read_log.Given as goal

abbrev pub invariant-pieces : goal.invariant-pieces
invariant-pieces g l = record {
  text : List ℕ;
  read : g.S.Source.left l.fn.input ≡ items_then text (g.S.Source.left l.input);
  keeps : KeepsUpTo l.replaying text;
  some : 0 < vec_len l.buffer;
  later : g.S.Source.faults l.fn.input ≤ g.S.Source.faults l.input;
}

abbrev pub decreases-pieces : goal.decreases-pieces
decreases-pieces g l = l.replaying.room
