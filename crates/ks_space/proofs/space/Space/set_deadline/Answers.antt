use Rattle.std.proofs.Common.{◌≡◌, ◌≢◌, ◌∙◌, ap, sym, subst, ◌||◌, option_and_then, true≢false, Some}
use Rattle.std.specs.FinMap as finite
use Rattle.ks_space.specs.declared.entry.Entry.{Entry}
use Rattle.ks_space.specs.Store.{IsStore, with_deadline}
use Rattle.ks_space.specs.Purge.{dues}
use Rattle.ks_space.specs.Index.{due_of, is_due, has_due}
use Rattle.ks_space.proofs.Dues.{index_of, moved, dues-insert}
use Rattle.ks_space.proofs.Stores.{IsStore-insert, with_deadline-insert, with_deadline-same}
use Rattle.ks_space.proofs.space.Space.set_deadline.Goals as goal

pub returns-then-are_same-clause-ok : goal.returns-then-are_same-clause-ok
returns-then-are_same-clause-ok c =
    let entry = c.in-Some.entry.now in
    let there : finite.get c.args.self.now c.args.key.now ≡ Some entry =
    ap (λ s. finite.get s c.args.key.now) (sym c.self.view_is) ∙ sym c.in-Some.ensures in
    sym (ap (with_deadline c.args.self.now c.args.key.now) (sym (c.are_same.ensures.0 c.if-are_same.true))
    ∙ with_deadline-same c.args.self.now c.args.key.now entry there)

pub invariant_of-self-2 : goal.invariant_of-self-2
invariant_of-self-2 c =
    let table = c.self.inside.table in
    let key = c.args.key.now in
    let entry = c.in-Some.entry.now in
    let changed : Entry = record { value = entry.value; deadline = c.args.deadline } in
    let there : finite.get table key ≡ Some entry = sym c.in-Some.ensures in
    let kept = c.self.invariant.0 key entry there in
    let after = c.set_deadline.ensures ∙ with_deadline-insert table key entry c.args.deadline there in
    let other : entry.deadline ≢ c.args.deadline =
    λ e. true≢false (sym (c.are_same.ensures.1 e) ∙ c.if-are_same.false) in
    let came = c.in_ok-enter.ensures.ok (has_due table) (index_of table c.self.inside.deadlines c.self.invariant.1) in
    let left = c.leave.ensures (λ q. is_due c.of-coming.result q || has_due table q) came in
    let index = moved table key c.leave.new.self entry.deadline c.args.deadline c.of-leaving.result c.of-coming.result
    (c.of-leaving.ensures ∙ ap (λ k. due_of k entry.deadline) c.in_ok-from_slice.ensures)
    (c.of-coming.ensures ∙ ap (λ k. due_of k c.args.deadline) c.in_ok-from_slice-2.ensures) left in (
      subst IsStore (sym after) (IsStore-insert table key changed c.self.invariant.0 kept.0 (kept.1.0, c.requires)),
      dues-insert table key c.leave.new.self changed entry.deadline
          (sym (ap (option_and_then (λ (e : Entry). e.deadline)) there)) other index ∙ ap dues (sym after),
    )
