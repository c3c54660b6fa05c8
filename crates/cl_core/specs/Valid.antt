-- What is so of a machine at every moment.
use Rattle.std.specs.Prelude.{◌≡◌, ℕ, ◌≤◌, List, [], Some}
use Rattle.std.specs.FinMap as finite
use Rattle.resp_read.specs.Reading.{Unfinished, reading}
use Rattle.ks_space.specs.Store.{IsStore}
use Rattle.ks_space.specs.Purge.{IsTimely}
use Rattle.cl_core.specs.Machine.{Clients, State}

-- no more than 1,000 clients are open, and the bytes that are left of one hold no whole form and no bad place
pub record AreValid (clients : Clients) : Type 0 where
  pub few : finite.len clients ≤ 1000
  pub unfinished : (client : ℕ) (left : List ℕ) → finite.get clients client ≡ Some left
      → reading left ≡ Unfinished [] left

-- the clients are valid, the store is within its limits, and no deadline in it is below the time of the last turn
pub record IsValid (state : State) : Type 0 where
  pub clients : AreValid state.clients
  pub store : IsStore state.store
  pub timely : IsTimely state.store state.time
