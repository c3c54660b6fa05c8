use Rattle.std.proofs.Common.{◌≡◌, true, false, ◌==◌, ◌++◌, rules}
use Rattle.std.specs.List.{list_all}
use Rattle.rs_whole.proofs.Places.{all_cut, fallen_none, fallen_found}
use Rattle.rs_whole.proofs.shifts.fallen.Goals as goal

pub returns-then-not-both_are_zeros : goal.returns-then-not-both_are_zeros
returns-then-not-both_are_zeros c =
    let some : list_all (λ b. b == 48) (c.split_at.result.1.now ++ c.args.fraction.now) ≡ false = let t =
    c.if-not-both_are_zeros.true in let e = c.if-not-both_are_zeros.ensures in search rules in
    fallen_none c.args.whole.now c.split_at.result.0.now c.split_at.result.1.now c.args.fraction.now
    c.saturating_sub-kept.result c.args.by c.requires.whole c.requires.fraction c.split_at.ensures.front
    c.split_at.ensures.back c.saturating_sub-kept.ensures some

pub number_after-requires-clause-digits : goal.number_after-requires-clause-digits
number_after-requires-clause-digits c = (all_cut 10 c.saturating_sub-kept.result c.args.whole.now _
    c.split_at.result.1.now c.requires.whole c.split_at.ensures.front c.split_at.ensures.back).0

pub returns : goal.returns
returns c =
    let zeros : list_all (λ b. b == 48) (c.split_at.result.1.now ++ c.args.fraction.now) ≡ true = let t =
    c.if-not-both_are_zeros.false in let e = c.if-not-both_are_zeros.ensures in search rules in
    fallen_found c.args.whole.now c.split_at.result.0.now c.split_at.result.1.now c.args.fraction.now
    c.saturating_sub-kept.result c.args.by _ c.requires.whole c.requires.fraction c.split_at.ensures.front
    c.split_at.ensures.back c.saturating_sub-kept.ensures zeros c.number_after.ensures
