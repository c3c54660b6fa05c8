use Rattle.std.proofs.Common.{suc, ◌≡◌, ◌∷◌, ◌∙◌, arith, rules}
use Rattle.rs_whole.proofs.IntegerTexts.{below_zero}
use Rattle.rs_whole.proofs.integers.integer.Goals as goal

pub returns-in_err-parse_decimal-in-Some-clause-only : goal.returns-in_err-parse_decimal-in-Some-clause-only
returns-in_err-parse_decimal-in-Some-clause-only c = λ z fits e.
    let t : 45 ∷ c.in-Some.digits.now ≡ c.args.text.now = search rules in
    let below = below_zero z c.in-Some.digits.now fits (t ∙ e) in
    let read = c.parse_decimal.ensures.only (suc below.0) (omega (arith, below.1)) below.2 in
    let none = c.in_err-parse_decimal-in-Some.was in absurd (cc)

pub returns-in_ok-parse_decimal-in-Some-clause-only : goal.returns-in_ok-parse_decimal-in-Some-clause-only
returns-in_ok-parse_decimal-in-Some-clause-only c = λ z fits e.
    let t : 45 ∷ c.in-Some.digits.now ≡ c.args.text.now = search rules in
    let below = below_zero z c.in-Some.digits.now fits (t ∙ e) in
    let read = c.parse_decimal.ensures.only (suc below.0) (omega (arith, below.1)) below.2 in
    let some = c.in_ok-parse_decimal-in-Some.was in
    let n : c.in_ok-parse_decimal-in-Some.field-0 ≡ suc below.0 = cc in
    rw below.3 (c.negative.ensures.only below.0 below.1 n)
