use Rattle.std.proofs.Common.{◌≡◌, true, false, ◌==◌, rules}
use Rattle.std.specs.List.{list_all}
use Rattle.rs_whole.proofs.Places.{all_cut, risen_none, risen_too_long, risen_found}
use Rattle.rs_whole.proofs.shifts.risen.Goals as goal

pub returns-then-not-are_zeros : goal.returns-then-not-are_zeros
returns-then-not-are_zeros c =
    let some : list_all (λ b. b == 48) c.split_at.result.1.now ≡ false = let t = c.if-not-are_zeros.true in
    let e = c.if-not-are_zeros.ensures in search rules in
    risen_none c.args.whole.now c.args.fraction.now c.split_at.result.0.now c.split_at.result.1.now c.min-places.result
    c.args.by c.requires.fraction c.split_at.ensures.front c.split_at.ensures.back c.min-places.ensures some

pub number-requires-clause-back : goal.number-requires-clause-back
number-requires-clause-back c = (all_cut 10 c.min-places.result c.args.fraction.now _ c.split_at.result.1.now
    c.requires.fraction c.split_at.ensures.front c.split_at.ensures.back).0

pub returns-in_err-number : goal.returns-in_err-number
returns-in_err-number c =
    rw c.from_residual.ensures (risen_too_long c.args.whole.now c.args.fraction.now c.split_at.result.0.now
    c.split_at.result.1.now c.min-places.result c.args.by c.requires.fraction c.split_at.ensures.front
    c.split_at.ensures.back c.min-places.ensures c.in_err-number.ensures)

pub returns : goal.returns
returns c =
    let zeros : list_all (λ b. b == 48) c.split_at.result.1.now ≡ true = let t = c.if-not-are_zeros.false in
    let e = c.if-not-are_zeros.ensures in search rules in
    risen_found c.args.whole.now c.args.fraction.now c.split_at.result.0.now c.split_at.result.1.now c.min-places.result
    c.args.by c.in_ok-number.field-0 _ c.requires.fraction c.split_at.ensures.front c.split_at.ensures.back
    c.min-places.ensures zeros c.in_ok-number.ensures.1 c.raised.ensures
