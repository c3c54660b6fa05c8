use Rattle.std.proofs.Common.{◌∙◌, sym}
use Rattle.std.proofs.lemmas.Result.{on_ok_weaker}
use Rattle.cl_core.proofs.RunLaws.{none_at, open_at, bad_at}
use Rattle.cl_core.proofs.server.Server.take_piece.Goals as goal

pub returns-in_default : goal.returns-in_default
returns-in_default c =
    none_at c.args.client _ c.args.self.now c.take.new.self c.args.outs.now c.args.groups.now c.self.view_is
    c.args.bytes.now c.take.ensures.others (sym c.in_default.is ∙ c.take.ensures.client)

pub returns-in-Open : goal.returns-in-Open
returns-in-Open c =
    on_ok_weaker c.take_good.result
    (open_at c.args.client _ c.args.self.now c.take.new.self c.args.outs.now c.args.groups.now c.self.view_is
    c.args.bytes.now c.in-Some.reader c.in-Open.reader c.in-Open.commands _ c.take.ensures.others
    (sym c.in-Some.is ∙ c.take.ensures.client) (rw (c.in-Open.is, c.as_slice.ensures.value) at c.in_ok-reader.ensures))
    c.take_good.ensures

pub returns-in-Broken : goal.returns-in-Broken
returns-in-Broken c =
    on_ok_weaker c.take_bad.result
    (bad_at c.args.client _ c.args.self.now c.take.new.self c.args.outs.now c.args.groups.now c.self.view_is
    c.args.bytes.now c.in-Some.reader c.in-Broken.kind c.in-Broken.commands _ c.take.ensures.others
    (sym c.in-Some.is ∙ c.take.ensures.client)
    (rw (c.in-Broken.is, c.as_slice.ensures.value) at c.in_ok-reader.ensures))
    c.take_bad.ensures
