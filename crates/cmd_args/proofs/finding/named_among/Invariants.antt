use Rattle.std.proofs.Common.{◌≡◌, drop}
use Rattle.std.specs.Prelude.{find as first_of}
use Rattle.cmd_args.specs.Table.{is_name}
use Rattle.cmd_args.proofs.finding.named_among.Given as goal

abbrev pub invariant-loop-id : goal.invariant-loop-id
invariant-loop-id l = first_of (is_name l.word) l.ids ≡ first_of (is_name l.word) (drop l.id-index l.ids)
