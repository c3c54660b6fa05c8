use Rattle.std.proofs.Common.{◌≡◌, ℕ, List, sym, subst}
use Rattle.cmd_exec.specs.Worlds.{DeskState}
use Rattle.std.specs.Ordering.{nat_cmp}
use Rattle.std.specs.FinMap as finite
use Rattle.cl_core.specs.Machine.{State, beginning}
use Rattle.cl_core.specs.Valid.{IsValid}
use Rattle.cl_core.proofs.server.Server.new.Goals as goal

pub returns-clause-valid : goal.returns-clause-valid
returns-clause-valid c =
    let view : DeskState → finite.FinMap nat_cmp (List ℕ) → State =
    λ d clients. record { store = d.world.store; clients = clients; time = d.world.time; draws = d.world.draws } in
    let begins : ◌≡◌ {A = State} beginning (view c.new.result c.new-2.result) =
    λ i. view (sym c.new.ensures i) (sym c.new-2.ensures i) in
    subst IsValid begins c.turns_keep_validity.ensures.beginning
