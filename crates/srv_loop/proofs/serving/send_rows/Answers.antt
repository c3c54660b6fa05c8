use Rattle.std.proofs.Common.{◌≡◌, ◌∷◌, ◌+◌, ◌∙◌, drop, arith}
use Rattle.std.proofs.lemmas.Grind.{common_steps}
use Rattle.srv_loop.proofs.Writes.{IsWriting-one}
use Rattle.srv_loop.proofs.serving.send_rows.Goals as goal

pub loop-row-preserved : goal.loop-row-preserved
loop-row-preserved g c =
    let split : drop c.loop-row.row-index c.as_slice-row-items.result.now
    ≡ c.row-item.result ∷ drop (c.loop-row.row-index + 1) c.as_slice-row-items.result.now =
    grind (arith, common_steps, c.row-item.is) in
    record {
      sending = IsWriting-one _ _ _ _ _ _ _ c.loop-row.invariant.sending split c.in_ok-send_row.ensures.sent;
      turns = c.in_ok-send_row.ensures.turns ∙ c.loop-row.invariant.turns;
      starts = c.in_ok-send_row.ensures.starts ∙ c.loop-row.invariant.starts;
      faultless = c.in_ok-send_row.ensures.faultless ∙ c.loop-row.invariant.faultless;
    }
