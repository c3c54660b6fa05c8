-- The purge: the keys whose deadline has passed leave.
use Rattle.std.specs.Prelude.{◌≡◌, ℕ, ◌≤◌, nat_lt, List, [], ◌∷◌, Option, Some, None, map, filter, fold}
use Rattle.std.specs.Option.{unwrap_or}
use Rattle.std.specs.declared.cmp.Ordering.{Ordering}
use Rattle.std.specs.Ordering.{nat_cmp, ordering_then}
use Rattle.std.specs.FinMap as finite
use Rattle.ks_tree.specs.Order.{in_order}
use Rattle.ks_space.specs.declared.entry.Entry.{Entry}
use Rattle.ks_space.specs.declared.deadlines.Due.{Due}
use Rattle.ks_space.specs.Store.{bytes_cmp, Store, deadline_at}

-- the sooner deadline first, and of keys with one deadline the first in byte order
abbrev pub due_cmp : Due → Due → Ordering
due_cmp a b = ordering_then (nat_cmp a.at b.at) (bytes_cmp a.key b.key)

-- a key that has a deadline comes with it before the other dues
abbrev pub with_due : List ℕ → Option ℕ → List Due → List Due
with_due key None dues = dues
with_due key (Some at) dues = record { at = at; key = key } ∷ dues

-- the keys that have a deadline, with it
abbrev pub dues_of : List (List ℕ × Entry) → List Due
dues_of [] = []
dues_of (e ∷ es) = with_due e.0 e.1.deadline (dues_of es)

-- each key of a store that has a deadline, with it, the soonest first
unfoldable pub dues : Store → List Due
dues store = in_order due_cmp (dues_of (finite.entries store))

-- the keys whose deadline is below the time, in the order of the deadlines and then of the keys
unfoldable pub gone : Store → ℕ → List (List ℕ)
gone store time = map (λ due. due.key) (filter (λ due. nat_lt due.at time) (dues store))

-- the store without them
unfoldable pub purged : Store → ℕ → Store
purged store time = fold finite.remove store (gone store time)

-- the order of two keys by their deadlines and then by their bytes
abbrev pub by_deadline : Store → List ℕ → List ℕ → Ordering
by_deadline store a b =
    ordering_then (nat_cmp (unwrap_or (deadline_at store a) 0) (unwrap_or (deadline_at store b) 0)) (bytes_cmp a b)

-- no deadline is below the time
abbrev pub IsTimely : Store → ℕ → Type 0
IsTimely store time = (key : List ℕ) (at : ℕ) → deadline_at store key ≡ Some at → time ≤ at
