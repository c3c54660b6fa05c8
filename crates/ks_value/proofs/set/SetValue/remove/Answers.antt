use Rattle.std.proofs.Common.{◌≡◌, ◌<◌, ◌∙◌, ap, sym, subst, refl, remove, length}
use Rattle.ks_value.specs.Members.{IsAscending, remove_member}
use Rattle.ks_value.proofs.Sets.{is_member-stands, remove_member-absent, remove_member-at, within-stands}
use Rattle.ks_value.proofs.Sets.{IsAscending-remove_member}
use Rattle.ks_value.proofs.set.SetValue.remove.Goals as goal

pub returns-then-not-stands_at-clause-value : goal.returns-then-not-stands_at-clause-value
returns-then-not-stands_at-clause-value c =
    sym c.if-not-stands_at.true ∙ is_member-stands c.args.self.now c.args.member.now c.args.member.now
    c.place_of-place.result c.stands_at.result c.place_of-place.ensures.ascending refl
    c.place_of-place.ensures.value c.stands_at.ensures

pub returns-then-not-stands_at-clause-members : goal.returns-then-not-stands_at-clause-members
returns-then-not-stands_at-clause-members c =
    sym (remove_member-absent c.args.self.now c.args.member.now c.args.member.now c.place_of-place.result
    c.stands_at.result c.place_of-place.ensures.ascending refl c.place_of-place.ensures.value c.stands_at.ensures
    c.if-not-stands_at.true)

pub remove-requires : goal.remove-requires
remove-requires c =
    subst (λ members. c.place_of-place.result < length members) (sym c.self.view_is)
    (within-stands c.args.self.now c.args.member.now c.args.member.now c.place_of-place.result c.stands_at.result
    c.place_of-place.ensures.ascending refl c.place_of-place.ensures.value c.stands_at.ensures
    c.if-not-stands_at.false)

pub returns-clause-value : goal.returns-clause-value
returns-clause-value c =
    sym c.if-not-stands_at.false ∙ is_member-stands c.args.self.now c.args.member.now c.args.member.now
    c.place_of-place.result c.stands_at.result c.place_of-place.ensures.ascending refl
    c.place_of-place.ensures.value c.stands_at.ensures

removed : (c : goal.Joined-remove) → c.remove.new.self ≡ remove_member c.args.self.now c.args.member.now
removed c =
    c.remove.ensures.rest ∙ ap (λ members. remove members c.place_of-place.result) c.self.view_is
    ∙ remove_member-at c.args.self.now c.args.member.now c.args.member.now c.place_of-place.result c.stands_at.result
    c.place_of-place.ensures.ascending refl c.place_of-place.ensures.value c.stands_at.ensures
    c.if-not-stands_at.false

pub returns-clause-members : goal.returns-clause-members
returns-clause-members c = removed c

pub returns-clause-ascending : goal.returns-clause-ascending
returns-clause-ascending c = subst IsAscending (sym (removed c))
    (IsAscending-remove_member c.args.self.now c.args.member.now c.place_of-place.ensures.ascending)

pub invariant_of-self : goal.invariant_of-self
invariant_of-self c = returns-clause-ascending c
