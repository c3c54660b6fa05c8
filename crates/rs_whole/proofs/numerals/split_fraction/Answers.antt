use Rattle.std.proofs.Common.{◌≡◌, ◌∷◌, Some, ap, ◌∙◌, refl, rules}
use Rattle.rs_whole.proofs.NumeralTexts.{fraction_only}
use Rattle.rs_whole.proofs.numerals.split_fraction.Goals as goal

pub returns-in-Some-clause-found : goal.returns-in-Some-clause-found
returns-in-Some-clause-found c =
    let point : c.args.text.now ≡ 46 ∷ c.in-Some.digits.now = search rules in (
      Some c.split_digits.result.0.now,
      point ∙ ap (λ t. 46 ∷ t) c.split_digits.ensures.joined,
      refl,
      c.split_digits.ensures.digits,
    )

pub returns-in-Some-clause-only : goal.returns-in-Some-clause-only
returns-in-Some-clause-only c =
    let point : c.args.text.now ≡ 46 ∷ c.in-Some.digits.now = search rules in
    λ f rest. fraction_only c.args.text.now c.in-Some.digits.now c.split_digits.result.0.now c.split_digits.result.1.now
    f rest point c.split_digits.ensures.joined c.split_digits.ensures.digits c.split_digits.ensures.ends
