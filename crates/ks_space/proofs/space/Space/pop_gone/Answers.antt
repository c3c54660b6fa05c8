use Rattle.std.proofs.Common.{◌≡◌, ◌∙◌, [], ap, sym, subst, filter, nat_lt}
use Rattle.std.specs.FinMap as finite
use Rattle.ks_space.specs.declared.deadlines.Due.{Due}
use Rattle.ks_space.specs.Store.{IsStore}
use Rattle.ks_space.specs.Purge.{gone}
use Rattle.ks_space.proofs.Dues.{index_of}
use Rattle.ks_space.proofs.Gone.{gone-none, gone-first, popped}
use Rattle.ks_space.proofs.Stores.{IsStore-remove}
use Rattle.ks_space.proofs.Always.{if_none_always}
use Rattle.ks_space.proofs.space.Space.pop_gone.Goals as goal

pub returns-in_err-due-clause-all : goal.returns-in_err-due-clause-all
returns-in_err-due-clause-all c =
    let index = index_of c.self.inside.table c.self.inside.deadlines c.self.invariant.1 in
    let none = subst (λ l. filter (λ (due : Due). nat_lt due.at c.args.now) l ≡ []) c.self.invariant.1
    (c.in_err-due.ensures.all index.sorted) in
    if_none_always c.from_residual.result
    (subst (λ s. gone s c.args.now ≡ []) c.self.view_is (gone-none c.self.inside.table c.args.now none))

pub invariant_of-self-2 : goal.invariant_of-self-2
invariant_of-self-2 c =
    let table = c.self.inside.table in
    let due = c.in_ok-due.due in
    let left = c.cut.ensures.left ∙ ap (finite.remove table) c.as_slice.ensures.value in (
      subst IsStore (sym left) (IsStore-remove table due.key c.self.invariant.0),
      popped table c.cut.new.self due c.self.inside.deadlines c.pop_before.new.self c.self.invariant.1
          c.in_ok-due.ensures.first c.in_ok-due.ensures.rest left,
    )

pub returns-clause-first : goal.returns-clause-first
returns-clause-first c =
    let table = c.self.inside.table in
    let due = c.in_ok-due.due in
    let left = c.cut.ensures.left ∙ ap (finite.remove table) c.as_slice.ensures.value in
    let rest = popped table c.cut.new.self due c.self.inside.deadlines c.pop_before.new.self c.self.invariant.1
    c.in_ok-due.ensures.first c.in_ok-due.ensures.rest left in
    ap (λ s. gone s c.args.now) (sym c.self.view_is)
    ∙ gone-first table c.cut.new.self c.args.now due c.pop_before.new.self (sym c.self.invariant.1
    ∙ c.in_ok-due.ensures.first) rest c.in_ok-due.ensures.below
