use Rattle.std.proofs.Common.{◌≢◌, ◌∙◌, ap, sym, subst, ◌||◌, option_and_then, true≢false}
use Rattle.ks_space.specs.declared.entry.Entry.{Entry}
use Rattle.ks_space.specs.Store.{IsStore, deadline_at}
use Rattle.ks_space.specs.Purge.{dues}
use Rattle.ks_space.specs.Index.{due_of, is_due, has_due}
use Rattle.ks_space.proofs.Dues.{index_of, moved, dues-insert, dues-insert_same, dues-undone}
use Rattle.ks_space.proofs.Stores.{IsStore-insert}
use Rattle.ks_space.proofs.space.Space.put.Goals as goal

pub invariant_of-self : goal.invariant_of-self
invariant_of-self c = (
  subst IsStore (sym c.in_err-old.ensures.err) c.self.invariant.0,
  c.self.invariant.1
      ∙ ap dues (sym c.in_err-old.ensures.err),
)

pub invariant_of-self-then-are_same : goal.invariant_of-self-then-are_same
invariant_of-self-then-are_same c =
    let table = c.self.inside.table in
    let same = ap (deadline_at table) (sym c.as_slice.ensures.value) ∙ sym c.deadline-before.ensures
    ∙ c.are_same.ensures.0 c.if-are_same.true in (
      subst IsStore (sym c.in_ok-old.ensures.ok)
          (IsStore-insert table c.args.key c.args.entry c.self.invariant.0 c.requires.key c.requires.entry),
      dues-insert_same table c.args.key c.self.inside.deadlines c.args.entry same c.self.invariant.1
          ∙ ap dues (sym c.in_ok-old.ensures.ok),
    )

pub invariant_of-self-in-Ok : goal.invariant_of-self-in-Ok
invariant_of-self-in-Ok c =
    let table = c.self.inside.table in
    let before = c.deadline-before.result in
    let before_is = c.deadline-before.ensures ∙ ap (deadline_at table) c.as_slice.ensures.value in
    let other : before ≢ c.args.entry.deadline = λ e. true≢false (sym (c.are_same.ensures.1 e) ∙ c.if-are_same.false) in
    let came = c.in_ok-enter.ensures.ok (has_due table) (index_of table c.self.inside.deadlines c.self.invariant.1) in
    let left = c.leave.ensures (λ q. is_due c.of-coming.result q || has_due table q) came in
    let index = moved table c.args.key c.leave.new.self before c.args.entry.deadline c.of-leaving.result
    c.of-coming.result (c.of-leaving.ensures ∙ ap (λ k. due_of k before) c.in_ok-clone.ensures.cases)
    (c.of-coming.ensures ∙ ap (λ k. due_of k c.args.entry.deadline) c.in_ok-clone-2.ensures.cases) left in (
      subst IsStore (sym c.in-Ok.ensures.ok)
          (IsStore-insert table c.args.key c.args.entry c.self.invariant.0 c.requires.key c.requires.entry),
      dues-insert table c.args.key c.leave.new.self c.args.entry before before_is other index
          ∙ ap dues (sym c.in-Ok.ensures.ok),
    )

pub invariant_of-self-in-Err : goal.invariant_of-self-in-Err
invariant_of-self-in-Err c =
    let table = c.self.inside.table in
    let after = c.args.entry.deadline in
    let coming_is = c.of-coming.ensures ∙ ap (λ k. due_of k after) c.in_ok-clone-2.ensures.cases in
    let came = c.in_ok-enter.ensures.ok (has_due table) (index_of table c.self.inside.deadlines c.self.invariant.1) in
    let left = c.leave-in-Err.ensures (λ q. is_due c.of-coming.result q || has_due table q) came in
    let index = moved table c.args.key c.leave-in-Err.new.self after after c.of-coming.result c.of-coming.result
    coming_is coming_is left in
    let none = ap (option_and_then (λ (e : Entry). e.deadline)) c.in-Err.ensures.absent in (
      subst IsStore (sym c.in-Err.ensures.err) c.self.invariant.0,
      dues-undone table c.args.key c.leave-in-Err.new.self after none index ∙ ap dues (sym c.in-Err.ensures.err),
    )
