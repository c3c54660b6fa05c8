-- The keys of a store, by their places and by a pattern.
use Rattle.std.proofs.Common.{◌≡◌, ◌↔◌, ℕ, ◌||◌, ◌⊎◌, inl, inr, IsSome, ◌<◌, ◌≤◌, Bool, true, false, cond}
use Rattle.std.proofs.Common.{List, [], ◌∷◌, length, map, filter, get_or, refl, sym, ap, ◌∙◌, arith}
use Rattle.std.proofs.lemmas.List.{length-map}
use Rattle.std.proofs.lemmas.Option.{slice_get-get_or, slice_get_past}
use Rattle.std.proofs.lemmas.List.Kept.{IsStrictlySortedBy-filter}
use Rattle.std.proofs.lemmas.List.Elements.{Contains-get_or}
use Rattle.std.proofs.lemmas.Map.Views.{list_any-from_Contains, Contains-from_any}
use Rattle.std.proofs.lemmas.Bool.{or_cases, false≢true}
use Rattle.std.specs.List.{Contains, list_any}
use Rattle.std.specs.List.Sorted.{IsStrictlySortedBy}
use Rattle.std.specs.Ordering.{eq_by_cmp}
use Rattle.std.specs.Cmp.{Equal-is, eq_by_cmp_equiv}
use Rattle.std.specs.FinMap as finite
use Rattle.resp_reply.specs.declared.reply.Reply.TheVariants.{Bulk, NullBulk}
use Rattle.ks_space.specs.declared.entry.Entry.{Entry}
use Rattle.ks_space.specs.Store.{bytes_cmp, Store}
use Rattle.ks_space.proofs.KeyLists.{keys_sorted}
use Rattle.ks_tree.proofs.ByteOrder.{bytes_total, bytes_exact}
use Rattle.cmd_glob.specs.Matching.{Matches}
use Rattle.cmd_glob.specs.Patterns.{parts_of}
use Rattle.cmd_args.specs.declared.commands.KeyCmd.TheVariants.{Keys, RandomKey}
use Rattle.cmd_args.specs.Draws.{drawn_place}
use Rattle.cmd_rows.specs.Outcomes.{array, answers}
use Rattle.cmd_rows.specs.Worlds.{World}
use Rattle.cmd_keys.specs.Globs.{is_match}
use Rattle.cmd_keys.specs.KeyRows.{drawn_key, randomkey_row, keys_matching}
use Rattle.cmd_keys.specs.KeyRows.{key_row}
use Rattle.cmd_keys.proofs.Matching.{match-sound, match-complete}

pub length-keys : (store : Store) → length (finite.keys store) ≡ finite.len store
length-keys store = length-map (finite.entries store) (λ (e : List ℕ × Entry). e.0) ∙ sym (finite.len-entries store)

pub randomkey-none : (world : World) → finite.len world.store ≡ 0 → randomkey_row world ≡ answers NullBulk
randomkey-none world none =
    let keys = length-keys world.store in
    ap drawn_key (slice_get_past (finite.keys world.store) (drawn_place (finite.len world.store) world.draws)
    (omega arith))

-- the keys ascend
keys_ordered : (store : Store) (pattern : List ℕ) → IsStrictlySortedBy bytes_cmp (keys_matching store pattern)
keys_ordered store pattern = IsStrictlySortedBy-filter bytes_cmp (is_match (parts_of pattern)) (finite.keys store)
    (keys_sorted (finite.entries store) (finite.entries_sorted store))

-- the keys that pass a test
is_same : (q k : List ℕ) → eq_by_cmp bytes_cmp q k ≡ true → q ≡ k
is_same q k e = bytes_exact q k ((Equal-is (bytes_cmp q k)).0 e)

or_first : (a b : Bool) → a ≡ true → (a || b) ≡ true
or_first true b e = refl
or_first false b e = absurd (false≢true e)

or_second : (a b : Bool) → b ≡ true → (a || b) ≡ true
or_second true b e = refl
or_second false b e = e

abbrev Has : List (List ℕ) → List ℕ → Type 0
Has keys q = list_any (eq_by_cmp bytes_cmp q) keys ≡ true

passes : (p : List ℕ → Bool) (keys : List (List ℕ)) (q : List ℕ) → Has (filter p keys) q → Has keys q × (p q ≡ true)
passes p [] q h = absurd (false≢true h)
passes p (k ∷ keys) q h = by_test (p k) refl h (passes p keys q)
  where
    by_test : (b : Bool) → p k ≡ b → Has (cond b (k ∷ filter p keys) (filter p keys)) q
        → (Has (filter p keys) q → Has keys q × (p q ≡ true)) → Has (k ∷ keys) q × (p q ≡ true)
    by_test true is h later = elim (or_cases (eq_by_cmp bytes_cmp q k)
        (list_any (eq_by_cmp bytes_cmp q) (filter p keys)) h) [
          | inl same ↦ (
            or_first (eq_by_cmp bytes_cmp q k) (list_any (eq_by_cmp bytes_cmp q) keys) same,
            ap p (is_same q k same) ∙ is,
          )
          | inr rest ↦ let found = later rest in
              (or_second (eq_by_cmp bytes_cmp q k) (list_any (eq_by_cmp bytes_cmp q) keys) found.0, found.1)
        ]
    by_test false is h later = let found = later h in
        (or_second (eq_by_cmp bytes_cmp q k) (list_any (eq_by_cmp bytes_cmp q) keys) found.0, found.1)

passed : (p : List ℕ → Bool) (keys : List (List ℕ)) (q : List ℕ) → p q ≡ true → Has keys q → Has (filter p keys) q
passed p [] q pass h = h
passed p (k ∷ keys) q pass h = by_test (p k) refl
    (or_cases (eq_by_cmp bytes_cmp q k) (list_any (eq_by_cmp bytes_cmp q) keys) h) (passed p keys q pass)
  where
    by_test : (b : Bool) → p k ≡ b → ((eq_by_cmp bytes_cmp q k ≡ true) ⊎ Has keys q)
        → (Has keys q → Has (filter p keys) q) → Has (cond b (k ∷ filter p keys) (filter p keys)) q
    by_test true is (inl same) later =
        or_first (eq_by_cmp bytes_cmp q k) (list_any (eq_by_cmp bytes_cmp q) (filter p keys)) same
    by_test true is (inr rest) later =
        or_second (eq_by_cmp bytes_cmp q k) (list_any (eq_by_cmp bytes_cmp q) (filter p keys)) (later rest)
    by_test false is (inl same) later = absurd (false≢true (sym is ∙ ap p (sym (is_same q k same)) ∙ pass))
    by_test false is (inr rest) later = later rest

keys_listed : (store : Store) (pattern key : List ℕ)
    → Contains (keys_matching store pattern) key ↔ (IsSome (finite.get store key) × Matches (parts_of pattern) key)
keys_listed store pattern key = (
  λ h. (let found = passes (is_match (parts_of pattern)) (finite.keys store) key
      (list_any-from_Contains (eq_by_cmp_equiv bytes_total) key
      (filter (is_match (parts_of pattern)) (finite.keys store)) h) in
      (finite.contains_key-keys store key ∙ found.0, match-sound (parts_of pattern) key found.1)),
  λ h. Contains-from_any is_same key (filter (is_match (parts_of pattern)) (finite.keys store))
      (passed (is_match (parts_of pattern)) (finite.keys store) key (match-complete (parts_of pattern) key h.1)
      (sym (finite.contains_key-keys store key) ∙ h.0)),
)

randomkey_some : (world : World) → 1 ≤ finite.len world.store
    → (key : List ℕ) × ((randomkey_row world).reply ≡ Bulk key) × IsSome (finite.get world.store key)
    × ((randomkey_row world).draws ≡ 1)
randomkey_some world some =
    let store = world.store in
    let place = drawn_place (finite.len store) world.draws in
    let keys = length-keys store in
    let within : place < length (finite.keys store) = omega arith in
    let key = get_or (finite.keys store) place [] in
    let there = slice_get-get_or (finite.keys store) place [] within in (
      key,
      ap (λ o. (drawn_key o).reply) there,
      finite.contains_key-keys store key
          ∙ list_any-from_Contains (eq_by_cmp_equiv bytes_total) key (finite.keys store)
          (Contains-get_or (finite.keys store) place [] within),
      ap (λ o. (drawn_key o).draws) there,
    )

pub keys-listed : (world : World) (name pattern : List ℕ)
    → (keys : List (List ℕ)) × (key_row world Keys (name ∷ pattern ∷ []) ≡ answers (array (map Bulk keys)))
    × ((key : List ℕ) → Contains keys key ↔ (IsSome (finite.get world.store key) × Matches (parts_of pattern) key))
    × IsStrictlySortedBy bytes_cmp keys
unfolding key_row
keys-listed world name pattern = (
  keys_matching world.store pattern,
  refl,
  keys_listed world.store pattern,
  keys_ordered world.store pattern,
)

pub randomkey-some : (world : World) (name : List ℕ) → 1 ≤ finite.len world.store
    → (key : List ℕ) × ((key_row world RandomKey (name ∷ [])).reply ≡ Bulk key)
    × IsSome (finite.get world.store key) × ((key_row world RandomKey (name ∷ [])).draws ≡ 1)
unfolding key_row
randomkey-some world name some = randomkey_some world some

pub randomkey-empty : (world : World) (name : List ℕ) → world.store ≡ finite.empty
    → key_row world RandomKey (name ∷ []) ≡ answers NullBulk
unfolding key_row
randomkey-empty world name empty =
    randomkey-none world (ap (λ (s : Store). finite.len s) empty ∙ finite.len-empty bytes_cmp Entry)
