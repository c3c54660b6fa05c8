use Rattle.std.proofs.Common.{◌≡◌, ◌≤◌, ℕ, List, [], sym, ap, subst, ◌∙◌}
use Rattle.std.specs.Prelude.{pos, negsuc, length}
use Rattle.std.specs.Option.{unwrap_or}
use Rattle.resp_reply.specs.declared.reply.Reply.TheVariants.{Int}
use Rattle.ks_space.specs.Store.{deadline_at}
use Rattle.cmd_rows.specs.Outcomes.{with_found, left_by}
use Rattle.cmd_rows.specs.Strings.{with_string}
use Rattle.cmd_string.specs.Ranges.{written_over}
use Rattle.cmd_string.specs.StringLaws.{Gives}
use Rattle.cmd_string.specs.StringRows.{range_row, setrange_row}
use Rattle.cmd_string.specs.StringRows.{string_row}
use Rattle.cmd_string.proofs.GivenBySet.{setrange-given}
use Rattle.cmd_string.proofs.Slices.{held_or_none, over, over-length, setrange-long}
use Rattle.cmd_string.proofs.slice_laws.setrange_fills_with_zero_bytes.Goals as goal

pub returns-clause-written : goal.returns-clause-written
unfolding string_row
returns-clause-written c = λ world name key word value old offset holds at some short.
    let found = held_or_none world.store key old holds in
    let new = written_over old offset value in
    let within : length new ≤ 16777216 = subst (λ n. n ≤ 16777216) (sym (over-length old offset value)) short in
    let written = subst (λ (text : List ℕ). length (written_over text offset value) ≤ 16777216
    → ((setrange_row world.store key word value).reply ≡ Int (pos (length (written_over text offset value))))
    × Gives (left_by world.store (setrange_row world.store key word value)) key (written_over text offset value)
    (deadline_at world.store key)) found.2 (setrange-given world.store key word value offset found.0 found.1 at some) in
    let did = written within in
    (new, over old offset value, did.0, did.1)

pub returns-clause-limit : goal.returns-clause-limit
unfolding string_row
returns-clause-limit c = λ world name key word value old offset holds at some far.
    setrange-long world.store key word value old offset holds at some far

pub returns-clause-negative : goal.returns-clause-negative
unfolding string_row
returns-clause-negative c = λ world name key word value old n holds at.
    let found = held_or_none world.store key old holds in
    ap (λ f. with_found f (λ z. with_string world.store key (λ t. range_row key (unwrap_or t []) z value))) at
    ∙ ap (λ f. with_found f (λ t. range_row key (unwrap_or t []) (negsuc n) value)) found.1
