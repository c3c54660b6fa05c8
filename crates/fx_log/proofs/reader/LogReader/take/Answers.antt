use Rattle.std.proofs.Common.{◌≡◌, ◌∙◌, [], sym, ap}
use Rattle.fx_log.specs.Reading.{Reads, read_from, as_read}
use Rattle.fx_log.proofs.Within.{read-open, read-all}
use Rattle.fx_log.proofs.reader.LogReader.take.Goals as goal

pub invariant_of-self : goal.invariant_of-self
invariant_of-self c =
    let read : read_from [] c.args.opened c.args.commands ≡ Reads c.take_all.new.groups c.in-Whole.opened =
    ap (λ groups. read_from groups c.args.opened c.args.commands) (sym c.new-groups.ensures)
    ∙ sym c.in_ok-opened.ensures ∙ ap (as_read c.take_all.new.groups) c.in-Whole.is in
    read-open c.args.commands c.args.opened c.take_all.new.groups c.in-Whole.opened c.requires.opened read

pub returns-in-Whole-clause-within : goal.returns-in-Whole-clause-within
returns-in-Whole-clause-within c =
    let read : read_from [] c.args.opened c.args.commands ≡ Reads c.take_all.new.groups c.in-Whole.opened =
    ap (λ groups. read_from groups c.args.opened c.args.commands) (sym c.new-groups.ensures)
    ∙ sym c.in_ok-opened.ensures ∙ ap (as_read c.take_all.new.groups) c.in-Whole.is in
    read-all c.args.commands c.args.opened c.take_all.new.groups c.in-Whole.opened c.requires.opened read
