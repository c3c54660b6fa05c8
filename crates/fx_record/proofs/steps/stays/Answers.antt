use Rattle.std.proofs.Common.{Some, None, sym, ◌∙◌, ◌≢◌, true≢false}
use Rattle.std.specs.FinMap as finite
use Rattle.ks_space.specs.Store.{deadline_at}
use Rattle.fx_record.specs.Records.{string_entry}
use Rattle.fx_record.proofs.Staying.{through, insert-stays, remove-stays, empty-stays, renamed-stays}
use Rattle.fx_record.proofs.steps.stays.Goals as goal

pub returns-in-Set : goal.returns-in-Set
returns-in-Set c =
    rw c.in-Set.is
    (through c.has_string.ensures (insert-stays c.args.space.now c.in-Set.key (string_entry c.in-Set.value None)))

pub returns-in-SetUntil : goal.returns-in-SetUntil
returns-in-SetUntil c =
    rw c.in-SetUntil.is
    (through c.has_string-in-SetUntil.ensures
    (insert-stays c.args.space.now c.in-SetUntil.key
    (string_entry c.in-SetUntil.value (Some c.in-SetUntil.deadline))))

pub returns-in-SetKeeping : goal.returns-in-SetKeeping
returns-in-SetKeeping c =
    let key = c.in-SetKeeping.key in
    let entry = string_entry c.in-SetKeeping.value (deadline_at c.args.space.now key) in
    rw c.in-SetKeeping.is (through c.holds_string.ensures (insert-stays c.args.space.now key entry))

pub returns-in-Del : goal.returns-in-Del
returns-in-Del c = rw c.in-Del.is (through c.is_absent.ensures (remove-stays c.args.space.now c.in-Del.key))

pub returns-else-is_absent : goal.returns-else-is_absent
returns-else-is_absent c =
    let there : finite.get c.args.space.now c.in-Rename.from ≢ None =
    λ absent. true≢false (sym (c.is_absent-in-Rename.ensures.1 absent) ∙ c.if-is_absent.false) in
    rw c.in-Rename.is (through c.is_same.ensures (renamed-stays c.args.space.now c.in-Rename.from c.in-Rename.to there))

pub returns-in-FlushAll : goal.returns-in-FlushAll
returns-in-FlushAll c = rw c.in-FlushAll.is (through c.is_empty.ensures (empty-stays c.args.space.now))
