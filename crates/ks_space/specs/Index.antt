-- The index of the deadlines: the list of the dues that pass a test, in order.
use Rattle.std.specs.Prelude.{◌≡◌, ℕ, Bool, false, List, Option, Some, None}
use Rattle.std.specs.List.{list_any}
use Rattle.std.specs.List.Sorted.{IsStrictlySortedBy}
use Rattle.std.specs.Ordering.{eq_by_cmp, nat_cmp}
use Rattle.ks_space.specs.declared.deadlines.Due.{Due}
use Rattle.ks_space.specs.Store.{Store, deadline_at}
use Rattle.ks_space.specs.Purge.{due_cmp}

-- the list has just the dues that pass the test, each one once and in order
pub record IsIndex (list : List Due) (test : Due → Bool) : Type 0 where
  pub sorted : IsStrictlySortedBy due_cmp list
  pub has : (q : Due) → list_any (eq_by_cmp due_cmp q) list ≡ test q

-- a key with its deadline, where it has one
abbrev pub due_of : List ℕ → Option ℕ → Option Due
due_of key None = None
due_of key (Some at) = Some (record { at = at; key = key })

-- whether q is that due
abbrev pub is_due : Option Due → Due → Bool
is_due None q = false
is_due (Some due) q = eq_by_cmp due_cmp q due

-- whether the deadline is that time
abbrev pub is_at : Option ℕ → ℕ → Bool
is_at None time = false
is_at (Some at) time = eq_by_cmp nat_cmp time at

-- whether the key of q has the deadline of q
abbrev pub has_due : Store → Due → Bool
has_due store q = is_at (deadline_at store q.key) q.at
