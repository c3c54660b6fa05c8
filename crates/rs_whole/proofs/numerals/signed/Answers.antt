use Rattle.std.proofs.Common.{◌≡◌, ◌∷◌, sym, ap, ◌∙◌}
use Rattle.rs_whole.proofs.SignedTexts.{behind_minus, behind_plus, negated_value}
use Rattle.rs_whole.proofs.numerals.signed.Goals as goal

pub returns-in_err-literal-in-Some-eq45-default-clause-only :
    goal.returns-in_err-literal-in-Some-eq45-default-clause-only
returns-in_err-literal-in-Some-eq45-default-clause-only c = λ sign numeral is text.
    let at : 45 ∷ c.in-Some-eq45-default.rest.now ≡ c.args.text.now =
    ap (λ b. b ∷ c.in-Some-eq45-default.rest.now) (sym c.in-Some-eq45-default.field-0-0-test)
    ∙ sym c.in-Some-eq45-default.ensures.cases.0 in
    let behind = behind_minus c.in-Some-eq45-default.rest.now sign numeral is (at ∙ text) in
    absurd (c.in_err-literal-in-Some-eq45-default.ensures.only numeral is behind.1)

pub returns-in_ok-literal-in-Some-eq45-default-clause-only : goal.returns-in_ok-literal-in-Some-eq45-default-clause-only
returns-in_ok-literal-in-Some-eq45-default-clause-only c = λ sign numeral is text.
    let at : 45 ∷ c.in-Some-eq45-default.rest.now ≡ c.args.text.now =
    ap (λ b. b ∷ c.in-Some-eq45-default.rest.now) (sym c.in-Some-eq45-default.field-0-0-test)
    ∙ sym c.in-Some-eq45-default.ensures.cases.0 in
    let behind = behind_minus c.in-Some-eq45-default.rest.now sign numeral is (at ∙ text) in
    rw behind.0 (negated_value numeral c.in_ok-literal-in-Some-eq45-default.field-0 c.negated.result
    (c.in_ok-literal-in-Some-eq45-default.ensures.only numeral is behind.1) c.negated.ensures)

pub returns-in-Some-eq43-default-clause-only : goal.returns-in-Some-eq43-default-clause-only
returns-in-Some-eq43-default-clause-only c = λ sign numeral is text.
    let at : 43 ∷ c.in-Some-eq43-default.rest.now ≡ c.args.text.now =
    ap (λ b. b ∷ c.in-Some-eq43-default.rest.now) (sym c.in-Some-eq43-default.field-0-0-test)
    ∙ sym c.in-Some-eq43-default.ensures.cases.0 in
    let behind = behind_plus c.in-Some-eq43-default.rest.now sign numeral is (at ∙ text) in
    rw behind.0 (c.literal-in-Some-eq43-default.ensures.only numeral is behind.1)
