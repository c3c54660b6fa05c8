use Rattle.std.proofs.Common.{◌∙◌, ap, sym, subst, not, ◌&&◌, option_and_then}
use Rattle.ks_space.specs.declared.entry.Entry.{Entry}
use Rattle.ks_space.specs.Store.{IsStore}
use Rattle.ks_space.specs.Purge.{dues}
use Rattle.ks_space.specs.Index.{IsIndex, due_of, is_due, has_due}
use Rattle.ks_space.proofs.Dues.{index_of, dues-remove}
use Rattle.ks_space.proofs.Stores.{IsStore-remove}
use Rattle.std.proofs.Common.{None}
use Rattle.ks_space.proofs.space.Space.take.Goals as goal

pub invariant_of-self : goal.invariant_of-self
invariant_of-self c =
    let table = c.self.inside.table in
    let list = c.self.inside.deadlines in (
      subst IsStore (sym c.cut.ensures.left) (IsStore-remove table c.args.key.now c.self.invariant.0),
      dues-remove table c.args.key.now list None
          (ap (option_and_then (λ (e : Entry). e.deadline)) c.in_default.ensures.old)
          (index_of table list c.self.invariant.1) ∙ ap dues (sym c.cut.ensures.left),
    )

pub invariant_of-self-2 : goal.invariant_of-self-2
invariant_of-self-2 c =
    let table = c.self.inside.table in
    let list = c.self.inside.deadlines in
    let left = c.leave.ensures (has_due table) (index_of table list c.self.invariant.1) in
    let due_is = c.of-leaving.ensures ∙ ap (λ k. due_of k c.in-Some.entry.deadline) c.in-Some.ensures.same in (
      subst IsStore (sym c.cut.ensures.left) (IsStore-remove table c.args.key.now c.self.invariant.0),
      dues-remove table c.args.key.now c.leave.new.self c.in-Some.entry.deadline
          (ap (option_and_then (λ (e : Entry). e.deadline)) c.in-Some.ensures.old)
          (subst (λ o. IsIndex c.leave.new.self (λ q. not (is_due o q) && has_due table q)) due_is left)
          ∙ ap dues (sym c.cut.ensures.left),
    )

pub returns-clause-kept : goal.returns-clause-kept
returns-clause-kept c = c.self.invariant.0 c.args.key.now c.in-Some.entry (sym c.in-Some.ensures.old)
