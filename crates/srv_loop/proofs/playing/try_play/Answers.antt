use Rattle.std.proofs.Common.{ap, ◌∙◌}
use Rattle.rs_outside.specs.Known.{known_then}
use Rattle.srv_loop.specs.Runs.{log_bytes}
use Rattle.std.proofs.lemmas.Result.{on_ok_weaker}
use Rattle.srv_loop.proofs.playing.try_play.Goals as goal

pub returns-in_err-begin-clause-bad_only : goal.returns-in_err-begin-clause-bad_only
returns-in_err-begin-clause-bad_only g c = λ line bad. absurd (c.in_ok-turns.ensures.bad_only line bad)

pub returns-clause-ok : goal.returns-clause-ok
returns-clause-ok g c =
    on_ok_weaker c.play_turns.result
    (λ wrote. (
      c.in_ok-turns.turns,
      c.in_ok-turns.ensures.good,
      record {
        begun = c.play_turns.ensures.names ∙ c.in_ok-begin.ensures.ok;
        logged = wrote.0
            ∙ ap (λ k. known_then k (log_bytes c.in_ok-turns.turns)) c.in_ok-begin.ensures.bytes;
        replays = c.log_replays.ensures c.in_ok-turns.turns;
        written = wrote.1;
      },
    ))
    c.play_turns.ensures.ok
