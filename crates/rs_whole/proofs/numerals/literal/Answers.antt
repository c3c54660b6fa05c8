use Rattle.std.proofs.Common.{◌≡◌, ◌∷◌, rules}
use Rattle.rs_whole.proofs.NumeralTexts.{sixteens_found, sixteens_only}
use Rattle.rs_whole.proofs.numerals.literal.Goals as goal

pub returns-in-Some-clause-found : goal.returns-in-Some-clause-found
returns-in-Some-clause-found c =
    let text : c.args.text.now ≡ 48 ∷ 120 ∷ c.in-Some.digits.now = search rules in
    sixteens_found c.args.text.now c.in-Some.digits.now c.by_sixteens.result text c.by_sixteens.ensures.found

pub returns-in-Some-clause-only : goal.returns-in-Some-clause-only
returns-in-Some-clause-only c =
    let text : c.args.text.now ≡ 48 ∷ 120 ∷ c.in-Some.digits.now = search rules in
    λ numeral. sixteens_only c.args.text.now c.in-Some.digits.now c.by_sixteens.result text c.by_sixteens.ensures.only
    numeral
