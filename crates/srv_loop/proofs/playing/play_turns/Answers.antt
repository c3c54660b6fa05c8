use Rattle.std.proofs.Common.{◌≡◌, [], refl, sym, ◌∙◌, arith}
use Rattle.std.proofs.lemmas.Grind.{common_steps}
use Rattle.std.proofs.lemmas.Result.{on_ok_weaker}
use Rattle.std.specs.Vec.Iter.{into_iter_items}
use Rattle.srv_loop.proofs.PlayLaws.{UpTo-start, UpTo-more, UpTo-behind, IsOver-flushed, CutsPlay-between}
use Rattle.srv_loop.proofs.PlayLaws.{CutsPlay-within, CutsPlay-ending, Played-all}
use Rattle.srv_loop.proofs.playing.play_turns.Goals as goal

pub returns-in_err-bytes-clause-cut : goal.returns-in_err-bytes-clause-cut
returns-in_err-bytes-clause-cut g c = CutsPlay-between _ _ _ _ _ _ _ _ _ c.loop-turn.invariant.playing

pub returns-in_err-flush_full-clause-cut : goal.returns-in_err-flush_full-clause-cut
returns-in_err-flush_full-clause-cut g c =
    let playing = rw c.in-Some.ensures.steps.0 at c.loop-turn.invariant.playing in
    CutsPlay-within _ _ _ _ _ _ _ _ _ _ _
    (UpTo-more _ _ _ _ _ _ _ _ _ c.in-Some.turn playing _ c.in_ok-bytes.bytes _ _
    c.in_ok-bytes.ensures.server c.in_ok-bytes.ensures.count refl c.in_ok-bytes.ensures.log c.in_ok-bytes.ensures.lines)
    c.in_err-flush_full.ensures.cut

pub loop-turn-init : goal.loop-turn-init
loop-turn-init g c = record {
  playing = UpTo-start _ _ _ _ _ _
      (sym (c.into_iter-turn-iterator.ensures.into_iter_gives.0 ∙ c.into_vec-turn-items.ensures))
      c.new-server.ensures.state c.new-gathered.ensures.log c.new-gathered.ensures.lines;
  names = refl;
  log_later = omega arith;
  out_later = omega arith;
}

pub loop-turn-preserved : goal.loop-turn-preserved
loop-turn-preserved g c =
    let playing = rw c.in-Some.ensures.steps.0 at c.loop-turn.invariant.playing in
    record {
      playing = UpTo-behind _ _ _ _ _ _ _ _ _ _ _ _
          (UpTo-more _ _ _ _ _ _ _ _ _ c.in-Some.turn playing _ c.in_ok-bytes.bytes _ _
          c.in_ok-bytes.ensures.server c.in_ok-bytes.ensures.count c.saturating_add-logged.ensures
          c.in_ok-bytes.ensures.log c.in_ok-bytes.ensures.lines)
          c.in_ok-flush_full.ensures.ok;
      names = c.in_ok-flush_full.ensures.names ∙ c.loop-turn.invariant.names;
      log_later = omega (arith, c.in_ok-flush_full.ensures.log_later, c.loop-turn.invariant.log_later);
      out_later = omega (arith, c.in_ok-flush_full.ensures.out_later, c.loop-turn.invariant.out_later);
    }

pub returns-in_err-flush-clause-cut : goal.returns-in_err-flush-clause-cut
returns-in_err-flush-clause-cut g c =
    CutsPlay-within _ _ _ _ _ _ _ _ _ _ _ c.loop-turn.invariant.playing c.in_err-flush.ensures.cut

pub returns-clause-ok : goal.returns-clause-ok
returns-clause-ok g c =
    let none : into_iter_items c.loop-turn.turn-iterator ≡ [] = grind (arith, common_steps, c.in-None.ensures.steps) in
    let over = IsOver-flushed _ _ _ _ _ _ _ _ _ _ _ _ c.loop-turn.invariant.playing none c.in_ok-flush.ensures.ok in
    on_ok_weaker c.write_ending.result
    (λ wrote. Played-all _ _ _ _ _ _ _ _ _ over c.len-count.ensures wrote) c.write_ending.ensures.ok

pub returns-clause-cut : goal.returns-clause-cut
returns-clause-cut g c =
    let none : into_iter_items c.loop-turn.turn-iterator ≡ [] = grind (arith, common_steps, c.in-None.ensures.steps) in
    let over = IsOver-flushed _ _ _ _ _ _ _ _ _ _ _ _ c.loop-turn.invariant.playing none c.in_ok-flush.ensures.ok in
    CutsPlay-ending _ _ _ _ _ _ _ _ _ over c.len-count.ensures c.write_ending.ensures.cut
