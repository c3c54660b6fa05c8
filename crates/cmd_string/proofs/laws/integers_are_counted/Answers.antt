use Rattle.std.proofs.Common.{◌≡◌, ap, ◌∙◌}
use Rattle.std.specs.Prelude.{pos, ◌+ℤ◌, ◌-ℤ◌}
use Rattle.cmd_rows.specs.Strings.{string_in}
use Rattle.cmd_rows.proofs.Walk.{by_found}
use Rattle.cmd_rows.specs.Numbers.{number}
use Rattle.cmd_rows.specs.Outcomes.{Outcome, left_by, refused}
use Rattle.cmd_args.specs.declared.refusal.Refusal.TheVariants.{NotInteger, Overflow}
use Rattle.ks_space.specs.Store.{deadline_at}
use Rattle.resp_reply.specs.declared.reply.Reply.TheVariants.{Int}
use Rattle.rs_whole.specs.Integers.{integer_text}
use Rattle.cmd_string.specs.StringLaws.{Gives}
use Rattle.cmd_string.specs.StringRows.{add_row, subtract_row}
use Rattle.cmd_string.specs.StringRows.{string_row}
use Rattle.cmd_string.proofs.Counts.{integer-absent}
use Rattle.cmd_string.proofs.GivenBySet.{counted-given, counted-over, counted-none, integer-read}
use Rattle.cmd_string.proofs.laws.integers_are_counted.Goals as goal

pub returns-clause-incr : goal.returns-clause-incr
unfolding string_row
returns-clause-incr c = λ world name key. counted-given world.store key (λ k. k +ℤ pos 1)

pub returns-clause-decr : goal.returns-clause-decr
unfolding string_row
returns-clause-decr c = λ world name key. counted-given world.store key (λ k. k -ℤ pos 1)

pub returns-clause-incrby : goal.returns-clause-incrby
unfolding string_row
returns-clause-incrby c = λ world name key word m n is read fits.
    by_found (λ (o : Outcome). (o.reply ≡ Int (m +ℤ n))
    × Gives (left_by world.store o) key (integer_text (m +ℤ n)) (deadline_at world.store key)) (number word)
    (add_row world.store key) n read (counted-given world.store key (λ k. k +ℤ n) m is fits)

pub returns-clause-decrby : goal.returns-clause-decrby
unfolding string_row
returns-clause-decrby c = λ world name key word m n is read fits.
    by_found (λ (o : Outcome). (o.reply ≡ Int (m -ℤ n))
    × Gives (left_by world.store o) key (integer_text (m -ℤ n)) (deadline_at world.store key)) (number word)
    (subtract_row world.store key) n read (counted-given world.store key (λ k. k -ℤ n) m is fits)

pub returns-clause-incr_overflow : goal.returns-clause-incr_overflow
unfolding string_row
returns-clause-incr_overflow c = λ world name key. counted-over world.store key (λ k. k +ℤ pos 1)

pub returns-clause-decr_underflow : goal.returns-clause-decr_underflow
unfolding string_row
returns-clause-decr_underflow c = λ world name key. counted-over world.store key (λ k. k -ℤ pos 1)

pub returns-clause-incrby_overflow : goal.returns-clause-incrby_overflow
unfolding string_row
returns-clause-incrby_overflow c = λ world name key word m n is read past.
    by_found (λ (o : Outcome). o ≡ refused Overflow) (number word) (add_row world.store key) n read
    (counted-over world.store key (λ k. k +ℤ n) m is past)

pub returns-clause-decrby_underflow : goal.returns-clause-decrby_underflow
unfolding string_row
returns-clause-decrby_underflow c = λ world name key word m n is read past.
    by_found (λ (o : Outcome). o ≡ refused Overflow) (number word) (subtract_row world.store key) n read
    (counted-over world.store key (λ k. k -ℤ n) m is past)

pub returns-clause-absent : goal.returns-clause-absent
returns-clause-absent c = λ world key absent. integer-absent world.store key (ap string_in absent)

pub returns-clause-integer : goal.returns-clause-integer
returns-clause-integer c = λ world key text n there read. integer-read world.store key text there ∙ read

pub returns-clause-no_integer : goal.returns-clause-no_integer
unfolding string_row
returns-clause-no_integer c = λ world name key text there none. (
  counted-none world.store key text (λ k. k +ℤ pos 1) there none,
  counted-none world.store key text (λ k. k -ℤ pos 1) there none,
)

pub returns-clause-no_integer_by : goal.returns-clause-no_integer_by
unfolding string_row
returns-clause-no_integer_by c = λ world name key word text n read there none. (
  by_found (λ (o : Outcome). o ≡ refused NotInteger) (number word) (add_row world.store key) n read
      (counted-none world.store key text (λ k. k +ℤ n) there none),
  by_found (λ (o : Outcome). o ≡ refused NotInteger) (number word) (subtract_row world.store key) n read
      (counted-none world.store key text (λ k. k -ℤ n) there none),
)
