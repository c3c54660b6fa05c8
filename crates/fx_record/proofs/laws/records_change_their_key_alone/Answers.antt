use Rattle.std.proofs.Common.{Some, None}
use Rattle.ks_space.specs.Store.{deadline_at}
use Rattle.fx_record.specs.Records.{string_entry}
use Rattle.fx_record.proofs.Stores.{get-empty}
use Rattle.fx_record.proofs.RecordLaws.{inserted, removed, expired, moves, renamed_itself, with_deadline-absent}
use Rattle.fx_record.proofs.RecordLaws.{renamed-absent}
use Rattle.fx_record.proofs.laws.records_change_their_key_alone.Goals as goal

pub returns-clause-set : goal.returns-clause-set
returns-clause-set c = λ store key value. inserted store key (string_entry value None)

pub returns-clause-set_until : goal.returns-clause-set_until
returns-clause-set_until c = λ store key value deadline. inserted store key (string_entry value (Some deadline))

pub returns-clause-set_keeping : goal.returns-clause-set_keeping
returns-clause-set_keeping c = λ store key value. inserted store key (string_entry value (deadline_at store key))

pub returns-clause-del : goal.returns-clause-del
returns-clause-del c = removed

pub returns-clause-expire_at : goal.returns-clause-expire_at
returns-clause-expire_at c = λ store key deadline entry there. expired store key (Some deadline) entry there

pub returns-clause-persist : goal.returns-clause-persist
returns-clause-persist c = λ store key entry there. expired store key None entry there

pub returns-clause-rename : goal.returns-clause-rename
returns-clause-rename c = moves

pub returns-clause-rename_itself : goal.returns-clause-rename_itself
returns-clause-rename_itself c = renamed_itself

pub returns-clause-flush_all : goal.returns-clause-flush_all
returns-clause-flush_all c = λ store key. get-empty key

pub returns-clause-absent : goal.returns-clause-absent
returns-clause-absent c = λ store key absent. (
  λ deadline. with_deadline-absent store key (Some deadline) absent,
  with_deadline-absent store key None absent,
  λ to. renamed-absent store key to absent,
)
