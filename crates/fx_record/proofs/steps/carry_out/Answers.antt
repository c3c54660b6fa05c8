use Rattle.std.proofs.Common.{◌≡◌, ◌≢◌, [], ◌∷◌, ◌++◌, ◌∙◌, ap, sym, subst, append-nil, OnOk, true≢false}
use Rattle.fx_record.specs.Records.{apply}
use Rattle.fx_record.proofs.SettledLaws.{settled-back, settled-other}
use Rattle.fx_record.proofs.steps.carry_out.Goals as goal

pub returns-then-stays-clause-effects : goal.returns-then-stays-clause-effects
returns-then-stays-clause-effects c =
    sym (ap (λ kept. c.args.effects.now ++ kept)
    (settled-back c.args.space.now (c.args.«record» ∷ []) (c.stays.ensures.0 c.if-stays.true))
    ∙ append-nil c.args.effects.now)

pub returns-clause-effects : goal.returns-clause-effects
returns-clause-effects c =
    let other : apply c.args.space.now c.args.«record» ≢ c.args.space.now =
    λ back. true≢false (sym (c.stays.ensures.1 back) ∙ c.if-stays.false) in
    subst (λ kept. OnOk c.push.result (c.push.new.self ≡ c.args.effects.now ++ kept))
    (sym (settled-other c.args.space.now (c.args.«record» ∷ []) other)) c.push.ensures.ok
