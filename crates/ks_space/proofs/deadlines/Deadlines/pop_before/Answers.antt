use Rattle.std.proofs.Common.{◌∙◌, ap, sym, subst, slice_get}
use Rattle.ks_space.specs.Index.{IsIndex}
use Rattle.ks_space.proofs.Dues.{removed_from}
use Rattle.ks_space.proofs.Gone.{none_before}
use Rattle.ks_space.proofs.deadlines.Deadlines.pop_before.Goals as goal

pub returns-else-first-time-clause-all : goal.returns-else-first-time-clause-all
returns-else-first-time-clause-all c = λ sorted.
    none_before c.in_ok-first.first.now c.args.self.now c.args.time sorted
    (ap (λ l. slice_get l 0) (sym c.self.view_is) ∙ c.in_ok-first.ensures.first) c.if-first-time.false

pub returns-then-first-time-clause-rest : goal.returns-then-first-time-clause-rest
returns-then-first-time-clause-rest c = λ test index.
    removed_from c.pop_first.result c.self.inside.dues c.pop_first.new.self test c.pop_first.ensures.ordered
    c.pop_first.ensures.updates (subst (λ l. IsIndex l test) (sym c.self.view_is) index)
