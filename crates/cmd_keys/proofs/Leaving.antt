-- The keys that DEL removes, one after another.
use Rattle.std.proofs.Common.{◌≡◌, ◌≢◌, ℕ, suc, ◌+◌, ◌<◌, drop, get_or, drop-cons, add-one, Bool, true, false, cond}
use Rattle.std.proofs.Common.{not, ◌&&◌, length, List, [], ◌∷◌, ◌++◌, map, Option, Some, None, is_some, inl, inr}
use Rattle.std.proofs.Common.{refl, sym, ap}
use Rattle.std.proofs.Common.{subst, ◌∙◌}
use Rattle.std.proofs.lemmas.List.{append-nil, append_assoc, length-map}
use Rattle.std.specs.Prelude.{pos}
use Rattle.std.proofs.lemmas.Bool.{true≢false}
use Rattle.std.specs.FinMap as finite
use Rattle.ks_space.specs.declared.entry.Entry.{Entry}
use Rattle.ks_space.specs.Store.{Store}
use Rattle.ks_value.specs.Members.{is_member, insert_member}
use Rattle.ks_value.proofs.Sets.{is_member-inserted, is_member-insert_other}
use Rattle.fx_record.specs.declared.record.Record.{Record}
use Rattle.fx_record.specs.declared.record.Record.TheVariants.{Del}
use Rattle.fx_record.specs.Records.{applied}
use Rattle.fx_record.proofs.Stores.{same_or_other, get-remove_same, get-remove_other}
use Rattle.resp_reply.specs.declared.reply.Reply.{Reply}
use Rattle.resp_reply.specs.declared.reply.Reply.TheVariants.{Int}
use Rattle.cmd_rows.specs.declared.given.Changes.TheVariants.{Many}
use Rattle.cmd_rows.specs.Outcomes.{does}
use Rattle.cmd_rows.specs.Worlds.{World}
use Rattle.cmd_rows.specs.Given.{Gives}
use Rattle.cmd_keys.specs.KeyRows.{is_there, leaving, del_row}

pub absent-from : (store : Store) (key : List ℕ) → is_there store key ≡ false → finite.get store key ≡ None
absent-from store key e = by_entry (finite.get store key) e
  where
    by_entry : (o : Option Entry) → is_some o ≡ false → o ≡ None
    by_entry None e = refl
    by_entry (Some entry) e = absurd (true≢false e)

-- a key that is gone stays gone
pub gone_after : (keys : List (List ℕ)) (store : Store) (key : List ℕ) → finite.get store key ≡ None
    → finite.get (applied store (map Del keys)) key ≡ None
gone_after [] store key gone = gone
gone_after (k ∷ keys) store key gone =
    gone_after keys (finite.remove store k) key
    (elim (same_or_other key k) [
      | inl same ↦ subst (λ q. finite.get (finite.remove store k) q ≡ None) (sym same) (get-remove_same store k)
      | inr apart ↦ get-remove_other store k key apart ∙ gone
    ])

-- so the store is another where any key leaves
pub other_after : (keys : List (List ℕ)) (store : Store) → map Del (leaving store keys) ≢ []
    → applied store (map Del (leaving store keys)) ≢ store
other_after [] store some same = some refl
other_after (key ∷ keys) store some same = by_there (is_there store key) refl (other_after keys store) some same
  where
    by_there : (b : Bool) → is_there store key ≡ b
        → (map Del (leaving store keys) ≢ [] → applied store (map Del (leaving store keys)) ≢ store)
        → map Del (cond b (key ∷ leaving (finite.remove store key) keys) (leaving store keys)) ≢ []
        → applied store (map Del (cond b (key ∷ leaving (finite.remove store key) keys) (leaving store keys))) ≢ store
    by_there true there later some same =
        let left = leaving (finite.remove store key) keys in
        true≢false (sym there ∙ ap (λ s. is_some (finite.get s key)) (sym same)
        ∙ ap is_some (gone_after left (finite.remove store key) key (get-remove_same store key)))
    by_there false absent later some same = later some same

-- of the keys some were taken, of which those that are gone left by these records; the rest follow
pub record Leaves (store : Store) (keys gone : List (List ℕ)) (records : List Record) (rest : List (List ℕ))
    : Type 0 where
  pub left : Store
  pub there : (q : List ℕ) → is_there left q ≡ (is_there store q && not (is_member gone q))
  pub recorded : records ++ map Del (leaving left rest) ≡ map Del (leaving store keys)

and-true : (b : Bool) → b ≡ (b && true)
and-true true = refl
and-true false = refl

and-false : (b : Bool) → false ≡ (b && false)
and-false true = refl
and-false false = refl

pub leaves_none : (store : Store) (keys : List (List ℕ)) → Leaves store keys [] [] keys
leaves_none store keys = record { left = store; there = λ q. and-true (is_there store q); recorded = refl }

module _ (store : Store) (keys gone : List (List ℕ)) (records : List Record) where
  pub leaves_all : Leaves store keys gone records [] → records ≡ map Del (leaving store keys)
  leaves_all leaves = sym (append-nil records) ∙ leaves.recorded

  module _ (key : List ℕ) (rest : List (List ℕ)) (leaves : Leaves store keys gone records (key ∷ rest)) where
    pub leaves_more : (is_there store key && not (is_member gone key)) ≡ true
        → Leaves store keys (insert_member gone key) (records ++ Del key ∷ []) rest
    leaves_more here = record {
      left = finite.remove leaves.left key;
      there = without;
      recorded = append_assoc records (Del key ∷ []) (map Del (leaving (finite.remove leaves.left key) rest))
          ∙ ap (λ b. records ++ map Del (cond b (key ∷ leaving (finite.remove leaves.left key) rest)
          (leaving leaves.left rest))) (sym (leaves.there key ∙ here)) ∙ leaves.recorded;
    }
      where
        without : (q : List ℕ) → is_there (finite.remove leaves.left key) q
            ≡ (is_there store q && not (is_member (insert_member gone key) q))
        without q = elim (same_or_other q key) [
          | inl same ↦ ap (λ k. is_some (finite.get (finite.remove leaves.left key) k)) same
              ∙ ap is_some (get-remove_same leaves.left key) ∙ and-false (is_there store q)
              ∙ ap (λ b. is_there store q && not b) (sym (ap (is_member (insert_member gone key)) same
              ∙ is_member-inserted gone key))
          | inr apart ↦ ap is_some (get-remove_other leaves.left key q apart) ∙ leaves.there q
              ∙ ap (λ b. is_there store q && not b) (sym (is_member-insert_other gone key q apart))
        ]

    pub leaves_past : (is_there store key && not (is_member gone key)) ≡ false → Leaves store keys gone records rest
    leaves_past absent = record {
      left = leaves.left;
      there = leaves.there;
      recorded = ap (λ b. records ++ map Del (cond b (key ∷ leaving (finite.remove leaves.left key) rest)
          (leaving leaves.left rest))) (sym (leaves.there key ∙ absent)) ∙ leaves.recorded;
    }

-- the first of the keys that are left
pub drop_item : (keys : List (List ℕ)) (i : ℕ) (key : List ℕ) → i < length keys → key ≡ get_or keys i key
    → drop i keys ≡ key ∷ drop (i + 1) keys
drop_item keys i key within is = drop-cons keys i key within ∙ ap (λ k. k ∷ drop (suc i) keys) (sym is)
    ∙ ap (λ n. key ∷ drop n keys) (sym (add-one i))

-- records that remove the keys never lead back
pub del_gives : (world : World) (keys : List (List ℕ)) (records : List Record) (reply : Reply)
    → records ≡ map Del (leaving world.store keys) → reply ≡ Int (pos (length records)) → records ≢ []
    → Gives world.store (del_row world keys) (record { reply = reply; changes = Many records false; draws = 0 })
del_gives world keys records reply is counted some =
    subst (λ (rs : List Record). reply ≡ Int (pos (length rs)) → rs ≢ []
    → Gives world.store (del_row world keys) (record { reply = reply; changes = Many rs false; draws = 0 })) (sym is)
    gives counted some
  where
    keys_leaving : List (List ℕ)
    keys_leaving = leaving world.store keys

    gives : reply ≡ Int (pos (length (map Del keys_leaving))) → map Del keys_leaving ≢ []
        → Gives world.store (del_row world keys)
        (record { reply = reply; changes = Many (map Del keys_leaving) false; draws = 0 })
    gives counted some = record {
      row_is = ap (λ (r : Reply). does r (map Del keys_leaving))
          (ap (λ n. Int (pos n)) (sym (length-map keys_leaving Del)) ∙ sym counted);
      told = (λ back. absurd (true≢false (sym back)), λ same. absurd (other_after keys world.store some same));
    }
