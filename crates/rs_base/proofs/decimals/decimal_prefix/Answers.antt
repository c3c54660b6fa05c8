use Rattle.std.proofs.Common.{[], ◌∷◌, ◌∙◌, sym, append-nil, decimal}
use Rattle.rs_base.proofs.Digits.{cut-decimal, cut_off}
use Rattle.rs_base.proofs.decimals.decimal_prefix.Goals as goal

pub returns-in_err-n-clause-only : goal.returns-in_err-n-clause-only
returns-in_err-n-clause-only c = λ n end rest small stop e.
    let cut = cut-decimal n (end ∷ rest) c.args.text.now c.split_at.result.0.now c.split_at.result.1.now
    c.first_non_digit.result c.unwrap_or-end.result small stop e c.first_non_digit.ensures.value
    c.unwrap_or-end.ensures c.split_at.ensures.front c.split_at.ensures.back in
    let read = c.parse_decimal.ensures.only n small cut.0 in
    let none = c.in_err-n.was in absurd (cc)

pub returns-in_err-n-clause-whole : goal.returns-in_err-n-clause-whole
returns-in_err-n-clause-whole c = λ n small e.
    let cut = cut-decimal n [] c.args.text.now c.split_at.result.0.now c.split_at.result.1.now c.first_non_digit.result
    c.unwrap_or-end.result small tt (e ∙ sym (append-nil (decimal n))) c.first_non_digit.ensures.value
    c.unwrap_or-end.ensures c.split_at.ensures.front c.split_at.ensures.back in
    let read = c.parse_decimal.ensures.only n small cut.0 in
    let none = c.in_err-n.was in absurd (cc)

pub returns-clause-ends : goal.returns-clause-ends
returns-clause-ends c =
    cut_off c.args.text.now c.split_at.result.1.now c.first_non_digit.result c.unwrap_or-end.result
    c.first_non_digit.ensures.value c.unwrap_or-end.ensures c.split_at.ensures.back

pub returns-clause-only : goal.returns-clause-only
returns-clause-only c = λ n end rest small stop e.
    let cut = cut-decimal n (end ∷ rest) c.args.text.now c.split_at.result.0.now c.split_at.result.1.now
    c.first_non_digit.result c.unwrap_or-end.result small stop e c.first_non_digit.ensures.value
    c.unwrap_or-end.ensures c.split_at.ensures.front c.split_at.ensures.back in
    let read = c.parse_decimal.ensures.only n small cut.0 in
    let some = c.in_ok-n.was in (cc, cut.1)

pub returns-clause-whole : goal.returns-clause-whole
returns-clause-whole c = λ n small e.
    let cut = cut-decimal n [] c.args.text.now c.split_at.result.0.now c.split_at.result.1.now c.first_non_digit.result
    c.unwrap_or-end.result small tt (e ∙ sym (append-nil (decimal n))) c.first_non_digit.ensures.value
    c.unwrap_or-end.ensures c.split_at.ensures.front c.split_at.ensures.back in
    let read = c.parse_decimal.ensures.only n small cut.0 in
    let some = c.in_ok-n.was in (cc, cut.1)
