use Rattle.std.proofs.Common.{◌≡◌, [], ◌<◌, length, arith}
use Rattle.std.proofs.lemmas.Bool.Decides.{nat_tests}
use Rattle.std.proofs.lemmas.Grind.{common_steps}
use Rattle.rs_whole.proofs.ShiftTexts.{places_made}
use Rattle.rs_whole.proofs.shifts.places.Goals as goal

pub returns : goal.returns
returns c =
    let none : c.split_digits.result.1.now ≡ [] =
    grind (arith, nat_tests, common_steps, c.is_empty-else-is_empty.ensures) in
    let some : 0 < length c.split_digits.result.0.now = grind (arith, nat_tests, common_steps, c.is_empty.ensures) in
    places_made c.args.text.now c.split_digits.result.0.now c.split_digits.result.1.now c.number_up_to_last.result
    c.split_digits.ensures.joined c.split_digits.ensures.digits none some c.number_up_to_last.ensures
