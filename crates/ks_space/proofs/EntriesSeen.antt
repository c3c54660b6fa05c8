-- The entries of a map by hash whose keys are seen as strings of bytes, as those of a finite map.
use Rattle.std.proofs.Common.{◌≡◌, ℕ, ◌+◌, true, false, cond, List, [], ◌∷◌, Option, Some, None, is_some}
use Rattle.std.proofs.Common.{length, bytes_eq, refl, sym, ap, ◌∙◌, unwrap_or, arith}
use Rattle.std.specs.Ordering.{eq_by_cmp}
use Rattle.std.specs.Cmp.Lexicographic.{texts_ties, bytes_decides}
use Rattle.std.specs.List.{IsDistinct, AllByRecursion}
use Rattle.std.specs.Map.{lookup, lookup_key, keys_of, KeepsOthers}
use Rattle.std.specs.FinMap as finite
use Rattle.std.specs.FinMap.Entries.{find}
use Rattle.std.proofs.lemmas.Cmp.{nat_list_eq_equiv}
use Rattle.std.proofs.lemmas.Map.Lookups.{map_keys}
use Rattle.ks_tree.proofs.ByteOrder.{bytes_total, bytes_exact}
use Rattle.ks_value.proofs.Seen.{eq_by}
use Rattle.ks_space.specs.Store.{bytes_cmp}

same_Some : {A : Type 0} (x y : A) → Some x ≡ Some y → x ≡ y
same_Some x y e = ap (λ o. unwrap_or o x) e

other_key : (q key known : List ℕ) → bytes_eq q key ≡ false → bytes_eq key known ≡ true → bytes_eq q known ≡ false
other_key q key known apart here = ap (bytes_eq q) (sym ((bytes_decides key known).0 here)) ∙ apart

module _ {K X : Type 0} (f : K → List ℕ) where
  -- the value of the first entry whose key is seen as q
  abbrev at : List ℕ → List (K × X) → Option X
  at q es = lookup (λ k. bytes_eq q (f k)) es

  find_seen : (es : List (K × X)) (q : List ℕ) → find bytes_cmp q (map_keys f es) ≡ at q es
  find_seen [] q = refl
  find_seen (e ∷ es) q = λ i. cond (sym (texts_ties q (f e.0)) i) (Some e.1) (find_seen es q i)

  pub get_seen : (es : List (K × X)) (m : finite.FinMap bytes_cmp X) (q : List ℕ)
      → finite.from_entries {R = bytes_cmp} (map_keys f es) ≡ m → lookup (λ k. bytes_eq q (f k)) es ≡ finite.get m q
  get_seen es m q is = sym (find_seen es q) ∙ sym (finite.get-from_entries bytes_total (map_keys f es) q)
      ∙ ap (λ m. finite.get m q) is

  pub key_found : (es : List (K × X)) (q : List ℕ) (k : K) → Some k ≡ lookup_key (λ k. bytes_eq q (f k)) es → f k ≡ q
  key_found [] q k is = absurd (cc)
  key_found (e ∷ es) q k is =
      elim (bytes_eq q (f e.0)) as (λ b. bytes_eq q (f e.0) ≡ b
      → Some k ≡ cond b (Some e.0) (lookup_key (λ k. bytes_eq q (f k)) es) → f k ≡ q) [
        | true ↦ λ same is. ap f (same_Some k e.0 is) ∙ sym ((bytes_decides q (f e.0)).0 same)
        | false ↦ λ other is. key_found es q k is
      ] refl is

  -- one key has another value, or none any more, and each other key has what it had
  at-changed : (es fs : List (K × X)) (key q : List ℕ) (w : Option X) → at key fs ≡ w
      → KeepsOthers (eq_by f) (λ k. bytes_eq key (f k)) es fs → at q fs ≡ cond (bytes_eq q key) w (at q es)
  unfolding KeepsOthers
  at-changed es fs key q w there others =
      elim (bytes_eq q key) as (λ b. bytes_eq q key ≡ b → at q fs ≡ cond b w (at q es)) [
        | true ↦ λ same. ap (λ q. at q fs) ((bytes_decides q key).0 same) ∙ there
        | false ↦ λ apart. others (λ k. bytes_eq q (f k)) (λ x y. nat_list_eq_equiv.congr q (f x) (f y))
            (λ k. other_key q key (f k) apart)
      ] refl

  get-changed : (es fs : List (K × X)) (key : List ℕ) (w : Option X) (m : finite.FinMap bytes_cmp X) → at key fs ≡ w
      → KeepsOthers (eq_by f) (λ k. bytes_eq key (f k)) es fs
      → finite.from_entries {R = bytes_cmp} (map_keys f es) ≡ m → (q : List ℕ)
      → finite.get (finite.from_entries {R = bytes_cmp} (map_keys f fs)) q
      ≡ cond (eq_by_cmp bytes_cmp q key) w (finite.get m q)
  get-changed es fs key w m there others is q =
      sym (get_seen fs (finite.from_entries {R = bytes_cmp} (map_keys f fs)) q refl)
      ∙ at-changed es fs key q w there others ∙ (λ i. cond (texts_ties q key i) w (get_seen es m q is i))

  pub put_seen : (es fs : List (K × X)) (key : List ℕ) (v : X) (m : finite.FinMap bytes_cmp X)
      → lookup (λ k. bytes_eq key (f k)) fs ≡ Some v → KeepsOthers (eq_by f) (λ k. bytes_eq key (f k)) es fs
      → finite.from_entries {R = bytes_cmp} (map_keys f es) ≡ m
      → finite.from_entries {R = bytes_cmp} (map_keys f fs) ≡ finite.insert m key v
  put_seen es fs key v m there others is =
      finite.same_map bytes_total bytes_exact _ _ (λ q. get-changed es fs key (Some v) m there others is q
      ∙ sym (finite.get-insert bytes_total m key v q))

  pub cut_seen : (es fs : List (K × X)) (key : List ℕ) (m : finite.FinMap bytes_cmp X)
      → lookup (λ k. bytes_eq key (f k)) fs ≡ None → KeepsOthers (eq_by f) (λ k. bytes_eq key (f k)) es fs
      → finite.from_entries {R = bytes_cmp} (map_keys f es) ≡ m
      → finite.from_entries {R = bytes_cmp} (map_keys f fs) ≡ finite.remove m key
  cut_seen es fs key m gone others is =
      finite.same_map bytes_total bytes_exact _ _ (λ q. get-changed es fs key None m gone others is q
      ∙ sym (finite.get-remove bytes_total m key q))

  -- the number of entries whose keys differ
  absent : (k : K) (es : List (K × X)) → AllByRecursion (λ y. eq_by f k y ≡ false) (keys_of es) → at (f k) es ≡ None
  absent k [] h = refl
  absent k (e ∷ es) h = ap (λ b. cond b (Some e.1) (at (f k) es)) h.0 ∙ absent k es h.1

  len-made : (es : List (K × X)) → IsDistinct (eq_by f) (keys_of es)
      → finite.len (finite.from_entries {R = bytes_cmp} (map_keys f es)) ≡ length es
  unfolding IsDistinct
  len-made [] h = finite.len-empty bytes_cmp X
  len-made (e ∷ es) h =
      let m = finite.from_entries {R = bytes_cmp} (map_keys f es) in
      let new : finite.get m (f e.0) ≡ None = sym (get_seen es m (f e.0) refl) ∙ absent e.0 es h.0 in
      let rest = len-made es h.1 in
      finite.len-insert bytes_total m (f e.0) e.1 ∙ ap (λ o. cond (is_some o) (finite.len m) (finite.len m + 1)) new
      ∙ (omega arith)

  pub len_seen : (es : List (K × X)) (m : finite.FinMap bytes_cmp X) → IsDistinct (eq_by f) (keys_of es)
      → finite.from_entries {R = bytes_cmp} (map_keys f es) ≡ m → length es ≡ finite.len m
  len_seen es m distinct is = sym (len-made es distinct) ∙ ap finite.len is
