use Rattle.std.proofs.Common.{◌≡◌, ◌≤◌, ◌*◌, ◌^◌}
use Rattle.rs_whole.proofs.shifts.raised.Given as goal

abbrev pub invariant-loop : goal.invariant-loop
invariant-loop l = (l.raised ≤ 2 ^ 53) × (l.raised ≡ l.n * 10 ^ l.counter)
