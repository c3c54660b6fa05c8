use Rattle.std.proofs.Common.{subst}
use Rattle.ks_value.specs.Fields.{Pairs}
use Rattle.std.proofs.Common.{◌↔◌, IsTrue}
use Rattle.std.specs.List.{AllByRecursion}
use Rattle.cmd_rows.specs.Sets.{Agrees}
use Rattle.fx_record.proofs.Staying.{through}
use Rattle.cmd_rows.proofs.ManySets.{agree-exactly}
use Rattle.cmd_rows.proofs.puts.lead_back.Goals as goal

pub returns : goal.returns
returns c =
    through (subst (λ (last : Pairs).
    IsTrue c.all_agree.result ↔ AllByRecursion (Agrees last c.args.space.now) c.args.sets.now)
    c.in_ok-last.ensures c.all_agree.ensures)
    (agree-exactly c.args.space.now c.args.sets.now c.requires)
