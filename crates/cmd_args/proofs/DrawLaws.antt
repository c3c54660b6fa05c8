-- Draws one after another.
use Rattle.std.proofs.Common.{◌≡◌, ℕ, zero, suc, refl, ap}
use Rattle.cmd_args.specs.Draws.{state_behind, state_after}

-- draws that follow the first begin at the state after it
pub moved : (state draws : ℕ) → state_after state (suc draws) ≡ state_after (state_behind state) draws
moved state zero = refl
moved state (suc draws) = ap state_behind (moved state draws)
