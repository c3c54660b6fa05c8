use Rattle.std.proofs.Common.{◌||◌, ◌∙◌, Some, ap, subst, sym}
use Rattle.ks_space.specs.Index.{IsIndex, is_due}
use Rattle.ks_space.proofs.Dues.{entered}
use Rattle.ks_space.proofs.deadlines.Deadlines.enter.Goals as goal

pub returns-in_ok-insert-clause-ok : goal.returns-in_ok-insert-clause-ok
returns-in_ok-insert-clause-ok c = λ test index.
    let before = subst (λ l. IsIndex l test) (sym c.self.view_is) index in
    subst (λ o. IsIndex c.insert.new.self.keys (λ q. is_due o q || test q))
    (sym (c.in-Some.is ∙ ap Some (sym c.in_ok-clone.ensures.cases)))
    (entered c.in_ok-clone.field-0 c.self.inside.dues.keys c.insert.new.self.keys test c.in_ok-insert.ensures.ordered
    before c.in_ok-insert.ensures.updates.0)
