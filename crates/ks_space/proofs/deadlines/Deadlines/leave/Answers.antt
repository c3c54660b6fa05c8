use Rattle.std.proofs.Common.{not, ◌&&◌, subst, sym}
use Rattle.ks_space.specs.Index.{IsIndex, is_due}
use Rattle.ks_space.proofs.Dues.{removed}
use Rattle.ks_space.proofs.deadlines.Deadlines.leave.Goals as goal

pub returns-in-Some : goal.returns-in-Some
returns-in-Some c = λ test index.
    let before = subst (λ l. IsIndex l test) (sym c.self.view_is) index in
    subst (λ o. IsIndex c.remove.new.self.keys (λ q. not (is_due o q) && test q)) (sym c.in-Some.is)
    (removed c.in-Some.due c.self.inside.dues.keys c.remove.new.self.keys test c.remove.ensures.ordered before
    c.remove.ensures.updates.0)
