use Rattle.std.proofs.Common.{ap, ◌∙◌, sym, subst}
use Rattle.cl_core.specs.Machine.{Run}
use Rattle.cl_core.specs.Valid.{IsValid}
use Rattle.cl_core.proofs.RunLaws.{turn_adds}
use Rattle.cl_core.proofs.server.Server.turn.Goals as goal

pub returns-clause-state : goal.returns-clause-state
returns-clause-state c =
    let before : Run = record { state = c.args.self.now; rows = c.args.outs.now; groups = c.args.groups.now } in
    ap (λ (run : Run). run.state) (c.in_ok-take_turn.ensures ∙ turn_adds before c.args.turn.now)

pub returns-clause-rows : goal.returns-clause-rows
returns-clause-rows c =
    let before : Run = record { state = c.args.self.now; rows = c.args.outs.now; groups = c.args.groups.now } in
    ap (λ (run : Run). run.rows) (c.in_ok-take_turn.ensures ∙ turn_adds before c.args.turn.now)

pub returns-clause-groups : goal.returns-clause-groups
returns-clause-groups c =
    let before : Run = record { state = c.args.self.now; rows = c.args.outs.now; groups = c.args.groups.now } in
    ap (λ (run : Run). run.groups) (c.in_ok-take_turn.ensures ∙ turn_adds before c.args.turn.now)

pub returns-clause-valid : goal.returns-clause-valid
returns-clause-valid c = λ valid.
    let before : Run = record { state = c.args.self.now; rows = c.args.outs.now; groups = c.args.groups.now } in
    subst IsValid (sym (ap (λ (run : Run). run.state) (c.in_ok-take_turn.ensures ∙ turn_adds before c.args.turn.now)))
    (c.turns_keep_validity.ensures.turns c.args.self.now c.args.turn.now valid)
