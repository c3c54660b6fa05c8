use Rattle.ks_value.proofs.FieldLaws.{value_of-set_field, value_of-set_other, fields-set_present, set_field-absent}
use Rattle.ks_value.proofs.FieldLaws.{HasDistinctFields-set_field}
use Rattle.ks_value.proofs.laws.a_field_that_is_set_changes_alone.Goals as goal

pub returns-clause-here : goal.returns-clause-here
returns-clause-here c = value_of-set_field

pub returns-clause-others : goal.returns-clause-others
returns-clause-others c = value_of-set_other

pub returns-clause-keeps_its_place : goal.returns-clause-keeps_its_place
returns-clause-keeps_its_place c = fields-set_present

pub returns-clause-new_goes_last : goal.returns-clause-new_goes_last
returns-clause-new_goes_last c = set_field-absent

pub returns-clause-distinct : goal.returns-clause-distinct
returns-clause-distinct c = HasDistinctFields-set_field
