use Rattle.std.proofs.Common.{◌≡◌, false, rules}
use Rattle.rs_whole.specs.Numerals.{is_space}
use Rattle.rs_whole.proofs.SpaceTexts.{NoSpaceLast-push}
use Rattle.rs_whole.proofs.numerals.trim_end.Goals as goal

pub returns-then-not-is_space-clause-ends : goal.returns-then-not-is_space-clause-ends
returns-then-not-is_space-clause-ends c =
    let dark : is_space c.in-Some.last.now ≡ false = let t = c.if-not-is_space.true in
    let e = c.if-not-is_space.ensures in search rules in
    rw c.in-Some.ensures.cases.0 (NoSpaceLast-push c.in-Some.more.now c.in-Some.last.now dark)
