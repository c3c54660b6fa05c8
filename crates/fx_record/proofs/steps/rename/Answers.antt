use Rattle.std.proofs.Common.{◌≡◌, ◌∙◌, None, ap, sym}
use Rattle.std.specs.FinMap as finite
use Rattle.fx_record.proofs.RecordLaws.{renamed-absent}
use Rattle.fx_record.proofs.Stores.{remove_absent}
use Rattle.fx_record.proofs.steps.rename.Goals as goal

pub returns-in_default : goal.returns-in_default
returns-in_default c =
    let store = c.args.space.now in
    let from = c.args.from.now in
    let absent : finite.get store from ≡ None =
    sym (c.in_ok-entry.ensures.old ∙ ap (finite.get store) c.as_slice.ensures.value) ∙ c.in_default.is in
    c.in_ok-entry.ensures.left ∙ ap (finite.remove store) c.as_slice.ensures.value ∙ remove_absent store from absent
    ∙ sym (renamed-absent store from c.args.to.now absent)
