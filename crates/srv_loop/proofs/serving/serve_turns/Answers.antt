use Rattle.std.proofs.Common.{◌∷◌, [], ◌++◌, ◌+◌, ◌∙◌, refl, sym, ap, length, length-append, arith}
use Rattle.rs_outside.specs.Known.{items_then, known_then}
use Rattle.cl_core.specs.Machine.{step}
use Rattle.srv_loop.proofs.ServeLaws.{Serves-start, Serves-more}
use Rattle.srv_loop.proofs.serving.serve_turns.Goals as goal

pub loop-init : goal.loop-init
loop-init g c = record {
  serving = ([], refl, Serves-start c.log_replays.ensures _ _ _ _);
  starts = refl;
  names = refl;
  wire_later = omega arith;
  log_later = omega arith;
}

pub loop-preserved : goal.loop-preserved
loop-preserved g c =
    let came = rw c.in-Some.is at c.in_ok-turn.ensures.ok in
    let so_far = c.loop.invariant.serving in
    record {
      serving = (
        so_far.0 ++ c.in-Some.turn ∷ [],
        length-append so_far.0 (c.in-Some.turn ∷ []) ∙ ap (λ n. n + 1) so_far.1,
        Serves-more c.log_replays.ensures so_far.0 _ _ _ _ _ _ _ _ _ _ _ _ c.in-Some.turn so_far.2 (came
            ∙ ap (items_then (c.in-Some.turn ∷ [])) (sym c.in_ok-serve_turn.ensures.turns))
            c.in_ok-serve_turn.ensures.server c.in_ok-serve_turn.ensures.logged
            (c.in_ok-serve_turn.ensures.sent
            ∙ ap (λ k. known_then k (step c.loop.server c.in-Some.turn).rows) c.in_ok-turn.ensures.rows),
      );
      starts = c.in_ok-serve_turn.ensures.starts ∙ (c.in_ok-turn.ensures.starts ∙ c.loop.invariant.starts);
      names = c.in_ok-serve_turn.ensures.names ∙ c.loop.invariant.names;
      wire_later = omega (
        arith,
        c.in_ok-serve_turn.ensures.faultless,
        c.in_ok-turn.ensures.later,
        c.loop.invariant.wire_later,
      );
      log_later = omega (arith, c.in_ok-serve_turn.ensures.log_later, c.loop.invariant.log_later);
    }
