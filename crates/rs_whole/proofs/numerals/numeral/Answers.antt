use Rattle.std.proofs.Common.{◌++◌}
use Rattle.rs_whole.specs.Numerals.{sign_text, numeral_text}
use Rattle.rs_whole.proofs.SpaceTexts.{trimmed_same, dark_text, some_text}
use Rattle.rs_whole.proofs.numerals.numeral.Goals as goal

pub returns-clause-only : goal.returns-clause-only
returns-clause-only c = λ sign numeral holds.
    let front = c.trim_start.ensures.spaces in
    let back = c.trim_end.ensures.spaces in
    let same = trimmed_same c.args.text.now c.trim_start.result.now c.trim_end.result.now front.0 back.0 holds.before
    holds.after (sign_text sign ++ numeral_text numeral) front.1 front.2 c.trim_start.ensures.ends back.1 back.2
    c.trim_end.ensures.ends
    holds.spaces_before holds.spaces_after (dark_text sign numeral holds.proper) (some_text sign numeral holds.proper)
    holds.text_is in
    c.signed.ensures.only sign numeral holds.proper same
