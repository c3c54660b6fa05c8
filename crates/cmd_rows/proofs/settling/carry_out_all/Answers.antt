use Rattle.std.proofs.Common.{◌≢◌, [], ◌++◌, ◌∙◌, ap, sym, refl, append-nil, true≢false}
use Rattle.fx_record.specs.Records.{applied}
use Rattle.fx_record.proofs.SettledLaws.{settled-back, settled-other}
use Rattle.cmd_rows.proofs.settling.carry_out_all.Goals as goal

pub returns-in-Nothing-clause-effects : goal.returns-in-Nothing-clause-effects
returns-in-Nothing-clause-effects c = rw c.in-Nothing.is (sym (ap (λ kept. c.args.effects.now ++ kept)
    (settled-back c.args.space.now [] refl) ∙ append-nil c.args.effects.now))

pub returns-then-leads_back-clause-effects : goal.returns-then-leads_back-clause-effects
returns-then-leads_back-clause-effects c =
    let told = rw c.in-Many.is at c.requires.told in
    rw c.in-Many.is (sym (ap (λ kept. c.args.effects.now ++ kept)
    (settled-back c.args.space.now c.in-Many.records (told.0 c.if-leads_back.true)) ∙ append-nil c.args.effects.now))

pub returns-in_ok-apply_all-in-Many-clause-effects : goal.returns-in_ok-apply_all-in-Many-clause-effects
returns-in_ok-apply_all-in-Many-clause-effects c =
    let told = rw c.in-Many.is at c.requires.told in
    let other : applied c.args.space.now c.in-Many.records ≢ c.args.space.now =
    λ back. true≢false (sym (told.1 back) ∙ c.if-leads_back.false) in
    rw c.in-Many.is (rw (settled-other c.args.space.now c.in-Many.records other) c.append.ensures)
