-- What DEL and UNLINK leave, and what EXISTS and TYPE tell.
use Rattle.std.proofs.Common.{◌≡◌, ℕ, zero, suc, ◌+◌, ◌-◌, ◌<◌, ◌≤◌, Bool, true, false, cond, pos, List, [], ◌∷◌}
use Rattle.std.proofs.Common.{length, map, Option, Some, None, is_some, ◌⊎◌, inl, inr, refl, sym, ap, subst, ◌∙◌, arith}
use Rattle.std.proofs.lemmas.Bool.{true≢false, cases_eq}
use Rattle.std.specs.Prelude.{IsSome, codes, count_by}
use Rattle.std.proofs.lemmas.List.Sums.{sum_by-cons}
use Rattle.std.specs.List.{Contains, slice_index_or}
use Rattle.std.specs.FinMap as finite
use Rattle.resp_reply.specs.declared.reply.Reply.TheVariants.{Status, Int}
use Rattle.ks_space.specs.declared.entry.Entry.{Entry}
use Rattle.ks_space.specs.declared.entry.Value.{Value}
use Rattle.ks_space.specs.Store.{Store}
use Rattle.ks_tree.proofs.ByteOrder.{bytes_total}
use Rattle.fx_record.specs.declared.record.Record.TheVariants.{Del as Deletes}
use Rattle.fx_record.specs.Records.{applied}
use Rattle.fx_record.proofs.Stores.{get-remove_same, get-empty}
use Rattle.cmd_args.specs.declared.commands.KeyCmd.{KeyCmd}
use Rattle.cmd_args.specs.declared.commands.KeyCmd.TheVariants.{Del, Unlink, Exists, TypeOf}
use Rattle.cmd_args.specs.Keys.{key_keys}
use Rattle.cmd_rows.specs.Worlds.{World}
use Rattle.cmd_rows.specs.Outcomes.{answers, left_by}
use Rattle.cmd_keys.specs.KeyRows.{is_there, leaving, kind_of, kind_in}
use Rattle.cmd_keys.specs.KeyRows.{key_row}
use Rattle.cmd_keys.specs.Laws.{IsRemoval}
use Rattle.cmd_keys.proofs.Leaving.{absent-from, gone_after}
use Rattle.cmd_keys.proofs.WalkLaws.{keys_stay}

abbrev Lacks : List (List ℕ) → List ℕ → Store → Type 0
Lacks keys key store = finite.get (applied store (map Deletes (leaving store keys))) key ≡ None

del_removes : (store : Store) (keys : List (List ℕ)) (key : List ℕ) → Contains keys key → Lacks keys key store
del_removes store [] key h = absurd (omega (arith, h.1))
del_removes store (k ∷ keys) key h = by_there (is_there store k) refl (λ s c. del_removes s keys key c)
  where
    behind : (s : Store) → (Contains keys key → Lacks keys key s) → (i : ℕ) → i < length (k ∷ keys)
        → slice_index_or (k ∷ keys) i key ≡ key → (k ≡ key) ⊎ Lacks keys key s
    behind s later zero within is = inl is
    behind s later (suc i) within is = inr (later (i, omega arith, is))

    by_there : (b : Bool) → is_there store k ≡ b → ((s : Store) → Contains keys key → Lacks keys key s)
        → finite.get (applied store (map Deletes
        (cond b (k ∷ leaving (finite.remove store k) keys) (leaving store keys)))) key ≡ None
    by_there true there later = elim (behind (finite.remove store k) (later (finite.remove store k)) h.0 h.1 h.2) [
      | inl same ↦ gone_after (leaving (finite.remove store k) keys) (finite.remove store k) key
          (subst (λ q. finite.get (finite.remove store k) q ≡ None) same (get-remove_same store k))
      | inr gone ↦ gone
    ]
    by_there false absent later = elim (behind store (later store) h.0 h.1 h.2) [
      | inl same ↦ gone_after (leaving store keys) store key
          (subst (λ q. finite.get store q ≡ None) same (absent-from store k absent))
      | inr gone ↦ gone
    ]

-- a store with a key is not empty
one_there : (store : Store) (key : List ℕ) → is_there store key ≡ true → 1 ≤ finite.len store
one_there store key there =
    elim (cases_eq (finite.len store) 0) [
      | inl none ↦ let gone : finite.get store key ≡ None =
          ap (λ s. finite.get s key) (finite.empty_of_len store none) ∙ get-empty key in
          absurd (true≢false (sym there ∙ ap is_some gone))
      | inr some ↦ omega arith
    ]

abbrev Counts : List (List ℕ) → Store → Type 0
Counts keys store = finite.len (applied store (map Deletes (leaving store keys))) + length (leaving store keys)
    ≡ finite.len store

del_counts : (store : Store) (keys : List (List ℕ)) → Counts keys store
del_counts store [] = omega arith
del_counts store (key ∷ keys) =
    by_there (is_there store key) refl (del_counts (finite.remove store key) keys) (del_counts store keys)
  where
    by_there : (b : Bool) → is_there store key ≡ b → Counts keys (finite.remove store key) → Counts keys store
        → finite.len (applied store (map Deletes
        (cond b (key ∷ leaving (finite.remove store key) keys) (leaving store keys))))
        + length (cond b (key ∷ leaving (finite.remove store key) keys) (leaving store keys)) ≡ finite.len store
    by_there true there gone rest =
        let less : finite.len (finite.remove store key) ≡ finite.len store - 1 =
        finite.len-remove bytes_total store key
        ∙ ap (λ b. cond b (finite.len store - 1) (finite.len store)) there in
        let some = one_there store key there in
        omega arith
    by_there false absent gone rest = rest

module _ (world : World) where
  pub removal-gone : (id : KeyCmd) (name key : List ℕ) (keys : List (List ℕ)) → IsRemoval id → Contains keys key
      → finite.get (left_by world.store (key_row world id (name ∷ keys))) key ≡ None
  unfolding key_row
  removal-gone Del name key keys is among = del_removes world.store keys key among
  removal-gone Unlink name key keys is among = del_removes world.store keys key among
  removal-gone _ name key keys is among = absurd is

  pub removal-others : (id : KeyCmd) (name key : List ℕ) (keys : List (List ℕ)) → IsRemoval id
      → (Contains keys key → ⊥)
      → finite.get (left_by world.store (key_row world id (name ∷ keys))) key ≡ finite.get world.store key
  unfolding key_keys
  removal-others Del name key keys is none = keys_stay world Del (name ∷ keys) key none
  removal-others Unlink name key keys is none = keys_stay world Unlink (name ∷ keys) key none
  removal-others _ name key keys is none = absurd is

  pub removal-count : (id : KeyCmd) (name : List ℕ) (keys : List (List ℕ)) → IsRemoval id
      → (n : ℕ) × ((key_row world id (name ∷ keys)).reply ≡ Int (pos n))
      × (finite.len (left_by world.store (key_row world id (name ∷ keys))) + n ≡ finite.len world.store)
  unfolding key_row
  removal-count Del name keys is = (length (leaving world.store keys), refl, del_counts world.store keys)
  removal-count Unlink name keys is = (length (leaving world.store keys), refl, del_counts world.store keys)
  removal-count _ name keys is = absurd is

  -- EXISTS
  pub exists-none : (name : List ℕ) → key_row world Exists (name ∷ []) ≡ answers (Int (pos 0))
  unfolding key_row
  exists-none name = refl

  exists-behind : (name key : List ℕ) (keys : List (List ℕ)) (found : Option Entry)
      → finite.get world.store key ≡ found
      → key_row world Exists (name ∷ key ∷ keys)
      ≡ answers (Int (pos (cond (is_some found) 1 0 + count_by (is_there world.store) keys)))
  unfolding key_row
  exists-behind name key keys found is =
      ap (λ n. answers (Int (pos n))) (sum_by-cons (λ k. cond (is_there world.store k) 1 0) key keys)
      ∙ ap (λ (o : Option Entry). answers (Int (pos (cond (is_some o) 1 0 + count_by (is_there world.store) keys)))) is

  there-entry : (found : Option Entry) → IsSome found → is_some found ≡ true
  there-entry None is = absurd (cc)
  there-entry (Some entry) is = refl

  pub exists-there : (name key : List ℕ) (keys : List (List ℕ)) → IsSome (finite.get world.store key)
      → (n : ℕ) × (key_row world Exists (name ∷ keys) ≡ answers (Int (pos n)))
      × (key_row world Exists (name ∷ key ∷ keys) ≡ answers (Int (pos (n + 1))))
  unfolding key_row
  exists-there name key keys there =
      let n : ℕ = count_by (is_there world.store) keys in
      let same : 1 + n ≡ n + 1 = omega arith in (
        n,
        refl,
        exists-behind name key keys (finite.get world.store key) refl
            ∙ ap (λ b. answers (Int (pos (cond b 1 0 + n)))) (there-entry (finite.get world.store key) there)
            ∙ ap (λ m. answers (Int (pos m))) same,
      )

  pub exists-absent : (name key : List ℕ) (keys : List (List ℕ)) → finite.get world.store key ≡ None
      → key_row world Exists (name ∷ key ∷ keys) ≡ key_row world Exists (name ∷ keys)
  unfolding key_row
  exists-absent name key keys absent =
      let n : ℕ = count_by (is_there world.store) keys in
      let same : 0 + n ≡ n = omega arith in
      exists-behind name key keys None absent ∙ ap (λ m. answers (Int (pos m))) same

  -- TYPE
  pub type-absent : (name key : List ℕ) → finite.get world.store key ≡ None
      → key_row world TypeOf (name ∷ key ∷ []) ≡ answers (Status (codes "none"))
  unfolding key_row
  type-absent name key absent = ap (λ (o : Option Entry). answers (Status (kind_in o))) absent

  pub type-kind : (name key : List ℕ) (entry : Entry) (value : Value) → finite.get world.store key ≡ Some entry
      → entry.value ≡ value → key_row world TypeOf (name ∷ key ∷ []) ≡ answers (Status (kind_of value))
  unfolding key_row
  type-kind name key entry value there is =
      ap (λ (o : Option Entry). answers (Status (kind_in o))) there ∙ ap (λ v. answers (Status (kind_of v))) is
