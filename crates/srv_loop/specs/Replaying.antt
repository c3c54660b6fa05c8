-- What a log leads to.
use Rattle.std.specs.Prelude.{◌≡◌, ℕ, List}
use Rattle.ks_space.specs.Store.{Store}
use Rattle.fx_log.specs.declared.group.Group.{Group}
use Rattle.fx_log.specs.Logs.{IsGroups, HasBadPlace}
use Rattle.fx_log.specs.Dump.{replay_groups}

-- the bytes are a log without a bad place, and the records of its groups lead from the empty store to this one
pub record ReplaysTo (text : List ℕ) (store : Store) : Type 0 where
  pub groups : List Group
  pub read : IsGroups text groups
  pub good : HasBadPlace text → ⊥
  pub leads : replay_groups groups ≡ store
