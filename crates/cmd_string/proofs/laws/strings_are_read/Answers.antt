use Rattle.std.proofs.Common.{List, ℕ, [], ◌∷◌, Option, None, Result, map, refl, ap}
use Rattle.std.specs.Prelude.{pos, length}
use Rattle.std.specs.Option.{unwrap_or}
use Rattle.std.specs.Result.{result_unwrap_or}
use Rattle.resp_reply.specs.declared.reply.Reply.{Reply}
use Rattle.resp_reply.specs.declared.reply.Reply.TheVariants.{Int}
use Rattle.ks_space.specs.Store.{Store}
use Rattle.cmd_args.specs.declared.refusal.Refusal.{Refusal}
use Rattle.cmd_rows.specs.Outcomes.{Outcome, answers, array, with_found}
use Rattle.cmd_rows.specs.Strings.{string_in, bulk_or_null}
use Rattle.cmd_string.specs.StringRows.{string_or_none}
use Rattle.cmd_string.specs.StringRows.{string_row}
use Rattle.cmd_string.proofs.OtherKinds.{string-there, other_kind}
use Rattle.cmd_string.proofs.laws.strings_are_read.Goals as goal

abbrev get_found : Result (Option (List ℕ)) Refusal → Outcome
get_found found = with_found found (λ text. answers (bulk_or_null text))

abbrev length_found : Result (Option (List ℕ)) Refusal → Outcome
length_found found = with_found found (λ text. answers (Int (pos (length (unwrap_or text [])))))

abbrev replies : Store → List (List ℕ) → List Reply
replies store keys = map (λ key. bulk_or_null (string_or_none store key)) keys

abbrev read_first : Store → List (List ℕ) → Result (Option (List ℕ)) Refusal → Outcome
read_first store keys found = answers (array (bulk_or_null (result_unwrap_or found None) ∷ replies store keys))

pub returns-clause-get : goal.returns-clause-get
unfolding string_row
returns-clause-get c = λ world name key text entry there is.
    ap get_found (string-there world.store key text entry there is)

pub returns-clause-get_absent : goal.returns-clause-get_absent
unfolding string_row
returns-clause-get_absent c = λ world name key absent. ap (λ found. get_found (string_in found)) absent

pub returns-clause-strlen : goal.returns-clause-strlen
unfolding string_row
returns-clause-strlen c = λ world name key text entry there is.
    ap length_found (string-there world.store key text entry there is)

pub returns-clause-strlen_absent : goal.returns-clause-strlen_absent
unfolding string_row
returns-clause-strlen_absent c = λ world name key absent. ap (λ found. length_found (string_in found)) absent

pub returns-clause-mget_of_none : goal.returns-clause-mget_of_none
unfolding string_row
returns-clause-mget_of_none c = λ world name. refl

pub returns-clause-mget : goal.returns-clause-mget
unfolding string_row
returns-clause-mget c = λ world name key text keys entry there is. (
  replies world.store keys,
  refl,
  ap (read_first world.store keys) (string-there world.store key text entry there is),
)

pub returns-clause-mget_absent : goal.returns-clause-mget_absent
unfolding string_row
returns-clause-mget_absent c = λ world name key keys absent.
    (replies world.store keys, refl, ap (λ found. read_first world.store keys (string_in found)) absent)

pub returns-clause-mget_other_kind : goal.returns-clause-mget_other_kind
unfolding string_row
returns-clause-mget_other_kind c = λ world name key keys other.
    (replies world.store keys, refl, ap (read_first world.store keys) (other_kind world.store key other))
