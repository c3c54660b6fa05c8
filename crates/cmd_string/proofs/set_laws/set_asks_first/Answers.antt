use Rattle.std.proofs.Common.{ℕ, Bool, not, cond, List, None, [], ◌∷◌, refl, ap}
use Rattle.std.specs.Prelude.{codes}
use Rattle.resp_reply.specs.declared.reply.Reply.TheVariants.{NullBulk}
use Rattle.fx_record.specs.declared.record.Record.TheVariants.{Set}
use Rattle.cmd_rows.specs.Outcomes.{Outcome, answers, does, ok}
use Rattle.cmd_string.specs.StringRows.{string_row}
use Rattle.cmd_string.proofs.GivenByOptions.{options-plain}
use Rattle.cmd_string.proofs.set_laws.set_asks_first.Goals as goal

-- what SET with NX or XX gives, by whether it writes
asked : List ℕ → List ℕ → Bool → Outcome
asked key value writes = cond writes (does ok (Set key value ∷ [])) (answers NullBulk)

pub returns-clause-nx : goal.returns-clause-nx
unfolding asked string_row
returns-clause-nx c = λ world name key value there. ap (λ b. asked key value (not b)) there

pub returns-clause-nx_writes : goal.returns-clause-nx_writes
unfolding string_row
returns-clause-nx_writes c = λ world name key value absent.
    options-plain world.store world.time key value (codes "NX" ∷ []) _ None
    (record { options_are = refl; is_asked_for = ap not absent; old_is = refl }) refl

pub returns-clause-xx : goal.returns-clause-xx
unfolding asked string_row
returns-clause-xx c = λ world name key value absent. ap (asked key value) absent

pub returns-clause-xx_writes : goal.returns-clause-xx_writes
unfolding string_row
returns-clause-xx_writes c = λ world name key value there.
    options-plain world.store world.time key value (codes "XX" ∷ []) _ None
    (record { options_are = refl; is_asked_for = there; old_is = refl }) refl

pub returns-clause-get : goal.returns-clause-get
unfolding string_row
returns-clause-get c = λ world name key value old is.
    options-plain world.store world.time key value (codes "GET" ∷ []) _ old
    (record { options_are = refl; is_asked_for = refl; old_is = is }) refl
