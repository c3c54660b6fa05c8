use Rattle.std.proofs.Common.{◌≡◌, ℕ, cond, List, [], Option, None, Ok, ap, ◌∙◌}
use Rattle.std.specs.Prelude.{ℤ, length}
use Rattle.std.specs.Option.{unwrap_or}
use Rattle.resp_reply.specs.declared.reply.Reply.TheVariants.{Bulk}
use Rattle.ks_space.specs.Store.{Store}
use Rattle.cmd_rows.specs.Numbers.{number}
use Rattle.cmd_rows.specs.Outcomes.{answers, with_found}
use Rattle.cmd_rows.specs.Strings.{string_at, with_string}
use Rattle.cmd_string.specs.Ranges.{place_in, between, part}
use Rattle.cmd_string.specs.StringRows.{getrange_row}
use Rattle.cmd_string.specs.StringRows.{string_row}
use Rattle.cmd_string.proofs.Slices.{not_backward, backward, slice, held, lacked, part-none}
use Rattle.cmd_string.proofs.slice_laws.getrange_gives_a_slice.Goals as goal

-- by what is read
read : (store : Store) (key from to : List ℕ) (start end : ℤ) (text : Option (List ℕ)) → string_at store key ≡ Ok text
    → number from ≡ Ok start → number to ≡ Ok end
    → getrange_row store key from to ≡ answers (Bulk (part (unwrap_or text []) start end))
read store key from to start end text there one other =
    ap (λ f. with_found f (λ a. with_found (number to) (λ b.
    with_string store key (λ t. answers (Bulk (part (unwrap_or t []) a b)))))) one
    ∙ ap (λ f. with_found f (λ b. with_string store key (λ t. answers (Bulk (part (unwrap_or t []) start b))))) other
    ∙ ap (λ f. with_found f (λ t. answers (Bulk (part (unwrap_or t []) start end)))) there

pub returns-clause-slice : goal.returns-clause-slice
unfolding string_row
returns-clause-slice c = λ world name key from to text start end holds one other forward.
    let bytes = between text (place_in (length text) start) (place_in (length text) end) in (
      bytes,
      slice text start end,
      read world.store key from to start end _ (held world.store key text holds) one other
          ∙ ap (λ b. answers (Bulk (cond b [] bytes))) (not_backward start end forward),
    )

pub returns-clause-backward : goal.returns-clause-backward
unfolding string_row
returns-clause-backward c = λ world name key from to text start end holds one other back.
    read world.store key from to start end _ (held world.store key text holds) one other
    ∙ ap (λ b. answers (Bulk (cond b [] (between text (place_in (length text) start) (place_in (length text) end)))))
    (backward start end back)

pub returns-clause-absent : goal.returns-clause-absent
unfolding string_row
returns-clause-absent c = λ world name key from to start end absent one other.
    read world.store key from to start end None (lacked world.store key absent) one other
    ∙ ap (λ bytes. answers (Bulk bytes)) (part-none start end)
