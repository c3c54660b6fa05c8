-- Worlds at the beginning of a turn.
use Rattle.std.proofs.Common.{◌≡◌, ℕ, max, List, [], ◌∷◌, fold, refl, sym, subst}
use Rattle.std.specs.FinMap as finite
use Rattle.ks_space.specs.declared.entry.Entry.{Entry}
use Rattle.ks_space.specs.Store.{Store, IsKey, IsKept, IsStore}
use Rattle.ks_space.specs.Purge.{gone, purged, IsTimely}
use Rattle.ks_space.proofs.Purged.{timely}
use Rattle.fx_record.proofs.Stores.{get-empty}
use Rattle.fx_record.proofs.LimitLaws.{Each, each-remove, each-empty}
use Rattle.cmd_exec.specs.Worlds.{World, IsWorld, empty_world, begun}

-- what is so of each key with its entry stays so when keys leave
each-left : (P : List ℕ → Entry → Type 0) (store : Store) (keys : List (List ℕ)) → Each P store
    → Each P (fold finite.remove store keys)
each-left P store [] each = each
each-left P store (key ∷ keys) each = each-left P (finite.remove store key) keys (each-remove P store key each)

pub purged_is : (store : Store) (time : ℕ) → IsStore store → IsStore (purged store time)
unfolding purged
purged_is store time is = each-left (λ key entry. IsKey key × IsKept entry) store (gone store time) is

pub begun_is : (world : World) (clock word : ℕ) → IsWorld world → IsWorld (begun world clock word)
begun_is world clock word is = (
  purged_is world.store (max world.time clock) is.0,
  timely world.store (max world.time clock),
)

-- no key, at any time
pub cleared_is : (store : Store) (time : ℕ) → store ≡ finite.empty → IsStore store × IsTimely store time
cleared_is store time is =
    subst (λ s. IsStore s × IsTimely s time) (sym is) (
      each-empty (λ key entry. IsKey key × IsKept entry),
      λ key at found. let none = get-empty key in absurd (cc),
    )

pub empty_is : IsWorld empty_world
empty_is = cleared_is finite.empty 0 refl

-- a store behind a purge
pub purged_at : (old new : Store) (time : ℕ) → IsStore old → new ≡ purged old time → IsStore new × IsTimely new time
purged_at old new time within is =
    subst (λ s. IsStore s × IsTimely s time) (sym is) (purged_is old time within, timely old time)
