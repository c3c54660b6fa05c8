use Rattle.std.proofs.Common.{◌≡◌, ◌∷◌, [], ◌++◌, true, sym, ap, ◌∙◌, append_assoc, rules}
use Rattle.rs_whole.specs.Numerals.{is_space}
use Rattle.rs_whole.proofs.SpaceTexts.{spaces-append}
use Rattle.rs_whole.proofs.numerals.trim_start.Goals as goal

pub loop-first-preserved : goal.loop-first-preserved
loop-first-preserved c =
    let space : is_space c.in-Some.first.now ≡ true = let t = c.if-not-is_space.false in
    let e = c.if-not-is_space.ensures in search rules in
    let before = c.loop-first.invariant in (
      before.0 ++ c.in-Some.first.now ∷ [],
      spaces-append before.0 (c.in-Some.first.now ∷ []) before.1 (space, tt),
      before.2 ∙ ap (λ t. before.0 ++ t) c.in-Some.ensures.cases.0
          ∙ sym (append_assoc before.0 (c.in-Some.first.now ∷ []) c.in-Some.more.now),
    )
