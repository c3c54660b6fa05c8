use Rattle.std.proofs.Common.{◌≡◌, ◌<◌, ◌≢◌, false, [], subst, sym, ◌∙◌, true≢false, w64, to_z, of_z}
use Rattle.std.specs.Prelude.{pos, nat_abs}
use Rattle.std.proofs.Math.Facts.{to_z-of_z}
use lib.Signed.{lt_z}
use Rattle.cmd_string.proofs.Parts.{range-far}
use Rattle.cmd_string.proofs.grow.write_over.Goals as goal

pub returns-then-offset-gt-MAX_TEXT_BYTES : goal.returns-then-offset-gt-MAX_TEXT_BYTES
returns-then-offset-gt-MAX_TEXT_BYTES c =
    let same : to_z w64 (of_z w64 c.args.at) ≡ c.args.at = to_z-of_z c.ranges.at in
    let after = subst (λ z. lt_z z (pos 0) ≡ false) same c.if-at-lt0.false in
    let far = subst (λ z. 16777216 < nat_abs z) same c.if-offset-gt-MAX_TEXT_BYTES.true in
    let some : c.args.value.now ≢ [] = λ none. true≢false (sym (c.is_empty.ensures.1 none) ∙ c.if-is_empty.false) in
    range-far c.args.key.now c.args.old c.args.value.now c.args.at after far some
