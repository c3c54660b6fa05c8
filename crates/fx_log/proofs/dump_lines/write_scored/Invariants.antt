use Rattle.std.proofs.Common.{◌≡◌, ◌++◌, drop}
use Rattle.std.specs.List.{flat_map}
use Rattle.ks_zset.specs.Zset.{ranking_of}
use Rattle.fx_log.specs.Dump.{scored_text}
use Rattle.fx_log.proofs.dump_lines.write_scored.Given as goal

abbrev pub invariant-loop-member : goal.invariant-loop-member
invariant-loop-member l = l.out ++ flat_map scored_text (drop l.member-index l.member-items) ≡ l.initial.out
    ++ flat_map scored_text (ranking_of l.scores)
