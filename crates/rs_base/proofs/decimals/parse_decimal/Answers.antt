use Rattle.std.proofs.Common.{◌≡◌, ◌∙◌, sym, subst, decimal}
use Rattle.std.specs.Str.{IsUtf8}
use Rattle.std.proofs.lemmas.Str.{IsUtf8-from_ascii}
use Rattle.std.proofs.lemmas.Fmt.{IsAscii-decimal, parse-decimal}
use Rattle.std.proofs.lemmas.Slice.Eq.{bytes_eq-Decides}
use Rattle.rs_base.proofs.decimals.parse_decimal.Goals as goal

pub returns-in_default-clause-only : goal.returns-in_default-clause-only
returns-in_default-clause-only c =
    λ n small e. absurd
    (c.in_default.ensures.cases.0 (subst IsUtf8 (sym e) (IsUtf8-from_ascii (decimal n) (IsAscii-decimal n small))))

pub returns-in_default-parse-clause-only : goal.returns-in_default-parse-clause-only
returns-in_default-parse-clause-only c =
    λ n small e. absurd (c.in_default-parse.not-Ok n (parse-decimal 64 n c.in-Ok.digits.now c.parse.result small small
    (c.in-Ok.ensures.cases.0 ∙ e) c.parse.ensures.value.0))

pub returns-then-eq-clause-only : goal.returns-then-eq-clause-only
returns-then-eq-clause-only c =
    λ n small e. let read = parse-decimal 64 n c.in-Ok.digits.now c.parse.result small small (c.in-Ok.ensures.cases.0
    ∙ e) c.parse.ensures.value.0 in cc

pub returns-else-eq-clause-only : goal.returns-else-eq-clause-only
returns-else-eq-clause-only c =
    λ n small e. let read = parse-decimal 64 n c.in-Ok.digits.now c.parse.result small small (c.in-Ok.ensures.cases.0
    ∙ e) c.parse.ensures.value.0 in
    let spelled : c.as_bytes.result.now ≡ c.args.text.now = cc in
    let same = (bytes_eq-Decides c.as_bytes.result.now c.args.text.now).1 spelled in absurd (cc)
