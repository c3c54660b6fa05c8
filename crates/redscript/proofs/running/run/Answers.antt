use Rattle.std.proofs.Common.{sym, subst, inl, inr, ◌∙◌}
use Rattle.srv_loop.specs.Session.{IsBadLine}
use Rattle.redscript.proofs.Inputs.{whole_text}
use Rattle.redscript.proofs.Statuses.{refused_line}
use Rattle.redscript.proofs.ReplayLaws.{not_both}
use Rattle.redscript.proofs.running.run.Goals as goal

pub returns-in-Ok-clause-refused_keeps : goal.returns-in-Ok-clause-refused_keeps
returns-in-Ok-clause-refused_keeps g c = λ refusal.
    let refused = refused_line c.play.result refusal c.play.ensures.others in
    let kept = c.play.ensures.bad refused.0 refused.1 in (kept.1, kept.2)

pub returns-in-Ok-clause-finds_bad : goal.returns-in-Ok-clause-finds_bad
returns-in-Ok-clause-finds_bad g c = λ text name line told form short bad.
    let whole = whole_text text c.in-Ok.session _ (sym told ∙ c.in-Ok.ensures.ok.read) c.in-Ok.ensures.ok.ended in
    elim (c.play.ensures.bad_only line (subst (λ t. IsBadLine t line) (sym whole) bad))
    [ inl found ↦ inl found | inr none ↦ inr (inl none) ]

pub returns-in-Ok-clause-replay_keeps_log : goal.returns-in-Ok-clause-replay_keeps_log
returns-in-Ok-clause-replay_keeps_log g c =
    λ replays. absurd (not_both _ _ (rw c.in-Some-Play.field-0-is at c.in-Some-Play.ensures.found) replays)

pub returns-in-Ok-clause-replays_log : goal.returns-in-Ok-clause-replays_log
returns-in-Ok-clause-replays_log g c =
    λ text told replays short good.
    absurd (not_both _ _ (rw c.in-Some-Play.field-0-is at c.in-Some-Play.ensures.found) replays)

pub returns-in-Ok-clause-finds_bad_log : goal.returns-in-Ok-clause-finds_bad_log
returns-in-Ok-clause-finds_bad_log g c =
    λ text place kind told replays bad.
    absurd (not_both _ _ (rw c.in-Some-Play.field-0-is at c.in-Some-Play.ensures.found) replays)

pub returns-in-Ok-clause-keeps_log_limit : goal.returns-in-Ok-clause-keeps_log_limit
returns-in-Ok-clause-keeps_log_limit g c =
    λ text told replays long good. absurd
    (not_both _ _ (rw c.in-Some-Play.field-0-is at c.in-Some-Play.ensures.found) replays)

pub returns-in-Some-Replay-clause-finds_bad_log : goal.returns-in-Some-Replay-clause-finds_bad_log
returns-in-Some-Replay-clause-finds_bad_log g c =
    λ text place kind told replays bad. c.replay.ensures.finds_bad text place kind told bad

pub returns-in-Ok-clause-done : goal.returns-in-Ok-clause-done
returns-in-Ok-clause-done g c = λ e.
    let played = c.play.ensures.done e in
    inl (record {
      name = c.in-Some-Play.name.now;
      form = rw c.in-Some-Play.field-0-is at c.in-Some-Play.ensures.found;
      text = c.in-Ok.session;
      read = c.in-Ok.ensures.ok;
      turns = played.0;
      session = played.1;
      plays = played.2;
    })
