use Rattle.std.proofs.Common.{◌≡◌, ◌+◌, ◌*◌, ◌-◌, true, ℕ, List, Result, Ok, Err, MatchResult, arith, rules, sym, ap}
use Rattle.std.proofs.Common.{subst, ◌∙◌}
use Rattle.std.specs.Char.{is_ascii_digit}
use Rattle.lua_lex.specs.declared.kinds.LexKind.{LexKind}
use Rattle.lua_lex.specs.Strings.{after_digits}
use Rattle.lua_lex.proofs.PieceLemmas.{digits_step}
use Rattle.lua_lex.proofs.quotes.+after_digits.Goals as goal

pub returns : goal.returns
returns t c =
    let digit : is_ascii_digit c.in-Some.first.now ≡ true = let f = c.if-not-is_ascii_digit.false in let e =
    c.is_ascii_digit.ensures.value in search rules in
    let value : c.from.result * 10 + c.from-2.result ≡ c.args.value * 10 + (c.in-Some.first.now - 48) = omega arith in
    let step = digits_step c.args.left c.args.value c.in-Some.first.now (c.from.result * 10 + c.from-2.result)
    c.in-Some.rest.now c.if-left-eq0.false digit value c.if-value-gt255.false in
    subst (λ (x : Result (List ℕ) LexKind). MatchResult c.after_digits.result (λ more. x ≡ Ok more.now)
    (λ k. x ≡ Err k)) (sym (ap (after_digits c.args.left c.args.value) c.in-Some.ensures.cases.0 ∙ step))
    c.after_digits.ensures
