use Rattle.ks_value.proofs.FieldLaws.{value_of-remove_field, value_of-remove_other, remove_field-filter}
use Rattle.ks_value.proofs.FieldLaws.{set_field-removed, HasDistinctFields-remove_field}
use Rattle.ks_value.proofs.laws.a_field_that_is_removed_leaves_alone.Goals as goal

pub returns-clause-gone : goal.returns-clause-gone
returns-clause-gone c = value_of-remove_field

pub returns-clause-others : goal.returns-clause-others
returns-clause-others c = value_of-remove_other

pub returns-clause-order : goal.returns-clause-order
returns-clause-order c = remove_field-filter

pub returns-clause-set_again : goal.returns-clause-set_again
returns-clause-set_again c = set_field-removed

pub returns-clause-distinct : goal.returns-clause-distinct
returns-clause-distinct c = HasDistinctFields-remove_field
