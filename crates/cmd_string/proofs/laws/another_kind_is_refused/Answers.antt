use Rattle.std.proofs.Common.{◌≡◌}
use Rattle.std.specs.Prelude.{pos, ◌+ℤ◌, ◌-ℤ◌}
use Rattle.cmd_args.specs.declared.refusal.Refusal.TheVariants.{WrongType}
use Rattle.cmd_rows.specs.Numbers.{number}
use Rattle.cmd_rows.specs.Outcomes.{Outcome, refused}
use Rattle.cmd_rows.proofs.Walk.{by_found}
use Rattle.cmd_string.specs.Options.{getex_change}
use Rattle.cmd_string.specs.StringRows.{add_row, subtract_row}
use Rattle.cmd_string.specs.StringRows.{string_row}
use Rattle.cmd_string.proofs.OtherKinds.{other_kind-row, other_kind-counted, other_kind-set}
use Rattle.cmd_string.proofs.laws.another_kind_is_refused.Goals as goal

abbrev IsRefused : Outcome → Type 0
IsRefused row = row ≡ refused WrongType

pub returns-clause-get : goal.returns-clause-get
unfolding string_row
returns-clause-get c = λ world name key other. other_kind-row world.store key other _

pub returns-clause-strlen : goal.returns-clause-strlen
unfolding string_row
returns-clause-strlen c = λ world name key other. other_kind-row world.store key other _

pub returns-clause-getrange : goal.returns-clause-getrange
unfolding string_row
returns-clause-getrange c = λ world name key start end first last other from to.
    by_found IsRefused (number start) _ first from
    (by_found IsRefused (number end) _ last to (other_kind-row world.store key other _))

pub returns-clause-set_get : goal.returns-clause-set_get
unfolding string_row
returns-clause-set_get c = λ world name key value words options effect other.
    other_kind-set world.store key other world.time value words options effect

pub returns-clause-getset : goal.returns-clause-getset
unfolding string_row
returns-clause-getset c = λ world name key value other. other_kind-row world.store key other _

pub returns-clause-getdel : goal.returns-clause-getdel
unfolding string_row
returns-clause-getdel c = λ world name key other. other_kind-row world.store key other _

pub returns-clause-getex : goal.returns-clause-getex
unfolding string_row
returns-clause-getex c = λ world name key words change other read.
    by_found IsRefused (getex_change world.time words) _ change read (other_kind-row world.store key other _)

pub returns-clause-append : goal.returns-clause-append
unfolding string_row
returns-clause-append c = λ world name key value other. other_kind-row world.store key other _

pub returns-clause-setrange : goal.returns-clause-setrange
unfolding string_row
returns-clause-setrange c = λ world name key word value offset other read.
    by_found IsRefused (number word) _ offset read (other_kind-row world.store key other _)

pub returns-clause-incr : goal.returns-clause-incr
unfolding string_row
returns-clause-incr c = λ world name key other. other_kind-counted world.store key other (λ k. k +ℤ pos 1)

pub returns-clause-decr : goal.returns-clause-decr
unfolding string_row
returns-clause-decr c = λ world name key other. other_kind-counted world.store key other (λ k. k -ℤ pos 1)

pub returns-clause-incrby : goal.returns-clause-incrby
unfolding string_row
returns-clause-incrby c = λ world name key word n other read.
    by_found IsRefused (number word) (add_row world.store key) n read
    (other_kind-counted world.store key other (λ k. k +ℤ n))

pub returns-clause-decrby : goal.returns-clause-decrby
unfolding string_row
returns-clause-decrby c = λ world name key word n other read.
    by_found IsRefused (number word) (subtract_row world.store key) n read
    (other_kind-counted world.store key other (λ k. k -ℤ n))
