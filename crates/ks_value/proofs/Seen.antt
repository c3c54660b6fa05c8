-- The entries of a map in order of insertion whose keys are seen as strings of bytes, as the pairs of a hash.
use Rattle.std.proofs.Common.{◌≡◌, ℕ, Bool, true, false, cond, List, [], ◌∷◌, Some, map, refl, ap, ◌∙◌, ◌&&◌}
use Rattle.std.proofs.Common.{if◌then◌else◌}
use Rattle.std.specs.Cmp.Lexicographic.{pointwise}
use Rattle.std.specs.List.{AllByRecursion, IsDistinct}
use Rattle.std.specs.Map.{lookup, keys_of, remove_entry}
use Rattle.std.specs.Str.{bytes_eq}
use Rattle.std.proofs.lemmas.Map.Lookups.{map_keys}
use Rattle.indexmap.specs.IndexMap.{insert_entry}
use Rattle.ks_value.specs.Fields.{set_field}

-- keys with the same bytes
abbrev pub eq_by : {K : Type 0} → (K → List ℕ) → K → K → Bool
eq_by f a b = bytes_eq (f a) (f b)

module _ {K X : Type 0} (f : K → List ℕ) where
  pub lookup-seen : (test : List ℕ → Bool) (es : List (K × X))
      → lookup (λ k. test (f k)) es ≡ lookup test (map_keys f es)
  lookup-seen test [] = refl
  lookup-seen test (e ∷ es) = ap (cond (test (f e.0)) (Some e.1)) (lookup-seen test es)

  pub remove_entry-seen : (test : List ℕ → Bool) (es : List (K × X))
      → map_keys f (remove_entry (λ k. test (f k)) es) ≡ remove_entry test (map_keys f es)
  remove_entry-seen test [] = refl
  remove_entry-seen test (e ∷ es) =
      elim (test (f e.0)) as (λ b. map_keys f (cond b es (e ∷ remove_entry (λ k. test (f k)) es))
      ≡ cond b (map_keys f es) ((f e.0, e.1) ∷ remove_entry test (map_keys f es))) [
        | true ↦ refl
        | false ↦ ap (λ ps. (f e.0, e.1) ∷ ps) (remove_entry-seen test es)
      ]

  distinct_above : (k : K) (es : List (K × X)) → AllByRecursion (λ y. eq_by f k y ≡ false) (keys_of es)
      → AllByRecursion (λ y. bytes_eq (f k) y ≡ false) (map (λ p. p.0) (map_keys f es))
  distinct_above k [] h = h
  distinct_above k (e ∷ es) h = (h.0, distinct_above k es h.1)

  pub distinct-seen : (es : List (K × X)) → IsDistinct (eq_by f) (keys_of es)
      → IsDistinct bytes_eq (map (λ p. p.0) (map_keys f es))
  unfolding IsDistinct
  distinct-seen [] h = h
  distinct-seen (e ∷ es) h = (distinct_above e.0 es h.0, distinct-seen es h.1)

  pointwise-seen : (eq : X → X → Bool) (es fs : List (K × X))
      → pointwise (λ (p q : K × X). eq_by f p.0 q.0 && eq p.1 q.1) es fs
      ≡ pointwise (λ (p q : List ℕ × X). bytes_eq p.0 q.0 && eq p.1 q.1) (map_keys f es) (map_keys f fs)
  pointwise-seen eq [] [] = refl
  pointwise-seen eq [] (x ∷ fs) = refl
  pointwise-seen eq (e ∷ es) [] = refl
  pointwise-seen eq (e ∷ es) (x ∷ fs) = ap (λ b. (eq_by f e.0 x.0 && eq e.1 x.1) && b) (pointwise-seen eq es fs)

  -- entries compared one by one
  pub compared-seen : (eq : X → X → Bool) (es fs xs ys : List (K × X)) (ps qs : List (List ℕ × X)) (r : Bool)
      → r ≡ pointwise (λ (p q : K × X). eq_by f p.0 q.0 && eq p.1 q.1) xs ys
      → xs ≡ es → ys ≡ fs → map_keys f es ≡ ps → map_keys f fs ≡ qs
      → r ≡ pointwise (λ (p q : List ℕ × X). bytes_eq p.0 q.0 && eq p.1 q.1) ps qs
  compared-seen eq es fs xs ys ps qs r is xs_is ys_is ps_is qs_is =
      rw (← ps_is, ← qs_is, ← xs_is, ← ys_is) (is ∙ pointwise-seen eq xs ys)

module _ {K : Type 0} (f : K → List ℕ) where
  pub insert_entry-seen : (es : List (K × List ℕ)) (k : K) (v : List ℕ)
      → map_keys f (insert_entry (eq_by f) es k v) ≡ set_field (map_keys f es) (f k) v
  insert_entry-seen [] k v = refl
  insert_entry-seen (e ∷ es) k v =
      elim (eq_by f k e.0) as (λ b. map_keys f (if b then (e.0, v) ∷ es else e ∷ insert_entry (eq_by f) es k v)
      ≡ (if b then (f e.0, v) ∷ map_keys f es else (f e.0, e.1) ∷ set_field (map_keys f es) (f k) v)) [
        | true ↦ refl
        | false ↦ ap (λ ps. (f e.0, e.1) ∷ ps) (insert_entry-seen es k v)
      ]
