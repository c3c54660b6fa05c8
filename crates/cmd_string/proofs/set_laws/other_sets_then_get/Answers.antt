use Rattle.std.proofs.Common.{cond, [], ◌∷◌, ap}
use Rattle.std.specs.Prelude.{pos}
use Rattle.resp_reply.specs.declared.reply.Reply.TheVariants.{Int}
use Rattle.fx_record.specs.declared.record.Record.TheVariants.{Set}
use Rattle.cmd_args.specs.declared.commands.CmdId.TheVariants.{Strings}
use Rattle.cmd_args.specs.declared.commands.StringCmd.TheVariants.{SetEx, PSetEx}
use Rattle.cmd_rows.specs.declared.times.Expiry.TheVariants.{InSeconds, InMillis}
use Rattle.cmd_rows.specs.Outcomes.{answers, does}
use Rattle.cmd_string.specs.StringRows.{string_row}
use Rattle.cmd_string.proofs.GivenBySet.{setnx-given, getset-given, setex-given}
use Rattle.cmd_string.proofs.set_laws.other_sets_then_get.Goals as goal

pub returns-clause-setnx : goal.returns-clause-setnx
unfolding string_row
returns-clause-setnx c = λ world name. setnx-given world.store

pub returns-clause-setnx_there : goal.returns-clause-setnx_there
unfolding string_row
returns-clause-setnx_there c = λ world name key value there.
    ap (λ b. cond b (answers (Int (pos 0))) (does (Int (pos 1)) (Set key value ∷ []))) there

pub returns-clause-getset : goal.returns-clause-getset
unfolding string_row
returns-clause-getset c = λ world name. getset-given world.store

pub returns-clause-setex : goal.returns-clause-setex
unfolding string_row
returns-clause-setex c = λ world name. setex-given world.store (Strings SetEx) InSeconds world.time

pub returns-clause-psetex : goal.returns-clause-psetex
unfolding string_row
returns-clause-psetex c = λ world name. setex-given world.store (Strings PSetEx) InMillis world.time
