use Rattle.ks_value.proofs.Sets.{is_member-Contains, is_member-inserted, is_member-insert_other, is_member-removed}
use Rattle.ks_value.proofs.Sets.{is_member-remove_other, IsAscending-insert_member, IsAscending-remove_member}
use Rattle.ks_value.proofs.Sets.{same-members}
use Rattle.ks_value.proofs.laws.a_set_changes_by_one_member.Goals as goal

pub returns-clause-member : goal.returns-clause-member
returns-clause-member c = is_member-Contains

pub returns-clause-inserted : goal.returns-clause-inserted
returns-clause-inserted c = is_member-inserted

pub returns-clause-others_stay : goal.returns-clause-others_stay
returns-clause-others_stay c = is_member-insert_other

pub returns-clause-removed : goal.returns-clause-removed
returns-clause-removed c = is_member-removed

pub returns-clause-others_remain : goal.returns-clause-others_remain
returns-clause-others_remain c = is_member-remove_other

pub returns-clause-ascending_with : goal.returns-clause-ascending_with
returns-clause-ascending_with c = IsAscending-insert_member

pub returns-clause-ascending_without : goal.returns-clause-ascending_without
returns-clause-ascending_without c = IsAscending-remove_member

pub returns-clause-same : goal.returns-clause-same
returns-clause-same c = same-members
