use Rattle.std.proofs.Common.{◌∙◌, sym, ap, FitsSigned, w64, rules, Ok}
use Rattle.std.proofs.lemmas.Int.{to_z-of_z}
use Rattle.cmd_rows.proofs.NumberTexts.{number-is, number-none}
use Rattle.cmd_rows.proofs.numbers.number.Goals as goal

pub returns-in-Some : goal.returns-in-Some
returns-in-Some c =
    let fits : FitsSigned w64 c.in-Some.n = search rules in
    ap (λ n. Ok n) (to_z-of_z w64 c.in-Some.n fits)
    ∙ sym (number-is c.args.word.now c.in-Some.n (sym c.as_slice.ensures.value ∙ c.in-Some.ensures.found) fits)

pub returns-in-None : goal.returns-in-None
returns-in-None c = sym (number-none c.args.word.now (λ z within is. let some =
    c.in-None.ensures.only z within (c.as_slice.ensures.value ∙ is) in absurd (cc)))
