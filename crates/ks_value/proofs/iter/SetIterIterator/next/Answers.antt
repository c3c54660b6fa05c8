use Rattle.std.proofs.Common.{◌+◌, ◌∷◌, drop, sym, ap, ◌∙◌}
use Rattle.ks_value.proofs.Places.{drop-get}
use Rattle.ks_value.proofs.iter.SetIterIterator.next.Goals as goal

pub returns-clause-steps : goal.returns-clause-steps
returns-clause-steps c =
    sym c.self.view_is ∙ drop-get c.self.inside.members.now c.self.inside.given c.in_ok-member.member.now
    (sym c.in_ok-member.ensures.value)
    ∙ ap (λ text. text ∷ drop (c.self.inside.given + 1) c.self.inside.members.now) (sym c.as_slice.ensures)
