use Rattle.std.proofs.Common.{◌++◌, ◌∙◌, ap}
use Rattle.std.specs.List.{flat_map}
use Rattle.fx_log.specs.Dump.{line_at}
use Rattle.fx_log.proofs.EntryLines.{lines_by_key}
use Rattle.fx_log.proofs.dump_lines.dump.Goals as goal

pub loop-key-init : goal.loop-key-init
loop-key-init c =
    ap (λ text. c.args.out.now ++ text)
    (ap (flat_map (line_at c.args.space.now)) (c.as_slice-key-items.ensures ∙ c.in_ok-keys.ensures)
    ∙ lines_by_key c.args.space.now)
