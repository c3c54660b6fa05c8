use Rattle.std.proofs.Common.{◌++◌, ◌∙◌, ap}
use Rattle.std.specs.List.{flat_map}
use Rattle.fx_log.specs.Dump.{scored_text}
use Rattle.fx_log.proofs.RankedMembers.{all-ranked}
use Rattle.fx_log.proofs.dump_lines.write_scored.Goals as goal

pub loop-member-init : goal.loop-member-init
loop-member-init c =
    ap (λ scored. c.args.out.now ++ flat_map scored_text scored)
    (c.as_slice-member-items.ensures ∙ c.in_ok-ranks.ensures
    ∙ all-ranked c.args.scores.now c.len.result c.len.ensures.value)
