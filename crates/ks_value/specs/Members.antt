-- A set as its members in byte order, each once (Redis manual, sets).
use Rattle.std.specs.Prelude.{ℕ, Bool, List}
use Rattle.std.specs.BTreeSet.{insert_key}
use Rattle.std.specs.List.{list_any}
use Rattle.std.specs.List.Sorted.{IsStrictlySortedBy}
use Rattle.std.specs.Set.{remove_key}
use Rattle.std.specs.Str.{bytes_eq}
use Rattle.ks_tree.specs.Order.{bytes_cmp}

-- each member is below the next one in byte order
abbrev pub IsAscending : List (List ℕ) → Type 0
IsAscending members = IsStrictlySortedBy bytes_cmp members

-- whether the member is there
abbrev pub is_member : List (List ℕ) → List ℕ → Bool
is_member members member = list_any (bytes_eq member) members

-- the member stands at its place in byte order; the members are as they were where it is there already
abbrev pub insert_member : List (List ℕ) → List ℕ → List (List ℕ)
insert_member members member = insert_key bytes_cmp members member

-- the member leaves, if it is there
abbrev pub remove_member : List (List ℕ) → List ℕ → List (List ℕ)
remove_member members member = remove_key (bytes_eq member) members
