use Rattle.rs_whole.proofs.DigitTexts.{cut_is}
use Rattle.rs_whole.proofs.digits.split_digits.Goals as goal

pub returns-clause-digits : goal.returns-clause-digits
returns-clause-digits c = (cut_is c.args.radix c.args.text.now c.split_at.result.0.now c.split_at.result.1.now
    c.first_other.result c.unwrap_or-end.result c.first_other.ensures.value c.unwrap_or-end.ensures
    c.split_at.ensures.front c.split_at.ensures.back).0

pub returns-clause-ends : goal.returns-clause-ends
returns-clause-ends c = (cut_is c.args.radix c.args.text.now c.split_at.result.0.now c.split_at.result.1.now
    c.first_other.result c.unwrap_or-end.result c.first_other.ensures.value c.unwrap_or-end.ensures
    c.split_at.ensures.front c.split_at.ensures.back).1
