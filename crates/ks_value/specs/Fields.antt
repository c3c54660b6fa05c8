-- A hash as its fields with their values, in order of first insertion (Redis manual, hashes).
use Rattle.std.specs.Prelude.{ℕ, Bool, ◌&&◌, map, if◌then◌else◌, List, [], ◌∷◌, Option}
use Rattle.std.specs.Cmp.{IsPartialEquivalence, IsEquivalence, partial_equiv_from_equiv, on_equiv, and_equiv}
use Rattle.std.specs.Cmp.Lexicographic.{pointwise, lists_equiv}
use Rattle.std.specs.List.{IsDistinct}
use Rattle.std.specs.Map.{lookup, remove_entry}
use Rattle.std.specs.Str.{bytes_eq}
use Rattle.std.proofs.lemmas.Cmp.{nat_list_eq_equiv}

-- the fields with their values, in order
abbrev pub Pairs : Type 0
Pairs = List (List ℕ × List ℕ)

-- the fields alone, in order
abbrev pub fields : Pairs → List (List ℕ)
fields pairs = map (λ p. p.0) pairs

-- no field stands twice
abbrev pub HasDistinctFields : Pairs → Type 0
HasDistinctFields pairs = IsDistinct bytes_eq (fields pairs)

-- the value of a field, if the field is there
abbrev pub value_of : Pairs → List ℕ → Option (List ℕ)
value_of pairs field = lookup (bytes_eq field) pairs

-- a field that is there keeps its place and takes the value; a new one goes last
abbrev pub set_field : Pairs → List ℕ → List ℕ → Pairs
set_field [] field value = (field, value) ∷ []
set_field (p ∷ pairs) field value = if bytes_eq field p.0 then (p.0, value) ∷ pairs else p ∷ set_field pairs field value

-- a field leaves, if it is there; the others keep their order
abbrev pub remove_field : Pairs → List ℕ → Pairs
remove_field pairs field = remove_entry (bytes_eq field) pairs

-- whether the fields and their values are the same, in the same order
abbrev pub are_same_pairs : Pairs → Pairs → Bool
are_same_pairs = pointwise (λ p q. bytes_eq p.0 q.0 && bytes_eq p.1 q.1)

pub same_pairs_equiv : IsEquivalence are_same_pairs
same_pairs_equiv =
    lists_equiv (and_equiv (on_equiv (λ p. p.0) nat_list_eq_equiv) (on_equiv (λ p. p.1) nat_list_eq_equiv))

pub same_pairs_per : IsPartialEquivalence are_same_pairs
same_pairs_per = partial_equiv_from_equiv same_pairs_equiv
