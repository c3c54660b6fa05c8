use Rattle.std.proofs.Common.{◌≡◌, ◌∙◌, ap, sym, subst, not, insert}
use Rattle.ks_value.specs.Members.{IsAscending, insert_member}
use Rattle.ks_value.proofs.Sets.{is_member-stands, insert_member-present, insert_member-at, IsAscending-insert_member}
use Rattle.ks_value.proofs.set.SetValue.insert.Goals as goal
use Rattle.ks_value.proofs.set.SetValue.insert.Goals.{In_ok-insert}

pub returns-then-stands_at-clause-new : goal.returns-then-stands_at-clause-new
returns-then-stands_at-clause-new c =
    ap not (sym c.if-stands_at.true
    ∙ is_member-stands c.args.self.now c.args.member c.as_slice-text.result.now c.place_of-place.result
    c.stands_at.result c.place_of-place.ensures.ascending c.as_slice-text.ensures.value
    c.place_of-place.ensures.value c.stands_at.ensures)

pub returns-then-stands_at-clause-ok : goal.returns-then-stands_at-clause-ok
returns-then-stands_at-clause-ok c =
    sym (insert_member-present c.args.self.now c.args.member c.as_slice-text.result.now c.place_of-place.result
    c.stands_at.result c.place_of-place.ensures.ascending
    c.as_slice-text.ensures.value c.place_of-place.ensures.value c.stands_at.ensures c.if-stands_at.true)

inserted : (c : In_ok-insert) → c.insert.new.self ≡ insert_member c.args.self.now c.args.member
inserted c =
    c.in_ok-insert.ensures.ok ∙ ap (insert c.self.inside.members c.place_of-place.result) c.from_bytes-kept.ensures
    ∙ ap (λ members. insert members c.place_of-place.result c.args.member) c.self.view_is
    ∙ insert_member-at c.args.self.now c.args.member c.as_slice-text.result.now c.place_of-place.result
    c.stands_at.result c.place_of-place.ensures.ascending c.as_slice-text.ensures.value
    c.place_of-place.ensures.value c.stands_at.ensures c.if-stands_at.false

pub invariant_of-self-2 : goal.invariant_of-self-2
invariant_of-self-2 c = subst IsAscending (sym (inserted c))
    (IsAscending-insert_member c.args.self.now c.args.member c.place_of-place.ensures.ascending)

pub returns-clause-new : goal.returns-clause-new
returns-clause-new c =
    ap not (sym c.if-stands_at.false
    ∙ is_member-stands c.args.self.now c.args.member c.as_slice-text.result.now c.place_of-place.result
    c.stands_at.result c.place_of-place.ensures.ascending c.as_slice-text.ensures.value
    c.place_of-place.ensures.value c.stands_at.ensures)

pub returns-clause-ok : goal.returns-clause-ok
returns-clause-ok c = inserted c

pub returns-clause-ascending : goal.returns-clause-ascending
returns-clause-ascending c = invariant_of-self-2 c
