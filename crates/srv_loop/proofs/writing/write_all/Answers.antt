use Rattle.std.proofs.Common.{arith, sym, ap, ◌∙◌, List, ℕ}
use Rattle.srv_loop.proofs.Writes.{IsWriting, IsWriting-more}
use Rattle.srv_loop.proofs.writing.write_all.Goals as goal

pub loop-rest-preserved : goal.loop-rest-preserved
loop-rest-preserved g c =
    let more = IsWriting-more _ _ (g.O.Sink.taken c.write.new.self) c.args.bytes.now c.loop-rest.rest.now c.in_ok-n.n
    c.loop-rest.invariant.writing c.in_ok-n.ensures.bytes in
    record {
      writing = rw c.split_at.ensures.back more;
      names = c.write.ensures.names ∙ c.loop-rest.invariant.names;
      later = omega (arith, c.write.ensures.later, c.loop-rest.invariant.later);
    }
