-- What is so of the row of each command on keys.
use Rattle.std.proofs.Common.{◌≡◌, ◌<◌, ◌^◌, ℕ, Bool, true, false, cond, List, [], ◌∷◌, map, take, drop, Option, Some}
use Rattle.std.proofs.Common.{None, Err, inl, inr, refl, subst, arith, slice_get}
use Rattle.std.specs.Prelude.{ℤ, pos, negsuc, codes}
use Rattle.std.specs.List.{AllByRecursion}
use Rattle.std.specs.Option.{is_some}
use Rattle.std.specs.FinMap as finite
use Rattle.std.proofs.lemmas.Bool.{ltb-true}
use Rattle.ks_space.specs.Store.{Store, deadline_at}
use Rattle.fx_record.specs.declared.record.Record.{Record}
use Rattle.fx_record.specs.declared.record.Record.TheVariants.{Del as Deletes}
use Rattle.cmd_args.specs.declared.commands.CmdId.TheVariants as family
use Rattle.cmd_args.specs.declared.commands.KeyCmd.{KeyCmd}
use Rattle.cmd_args.specs.declared.commands.KeyCmd.TheVariants.{Del, Unlink, Exists, TypeOf, Keys, RandomKey, Rename}
use Rattle.cmd_args.specs.declared.commands.KeyCmd.TheVariants.{RenameNx, Expire, PExpire, ExpireAt, PExpireAt}
use Rattle.cmd_args.specs.declared.commands.KeyCmd.TheVariants.{Persist, PTtl, Ttl, PExpireTime, ExpireTime}
use Rattle.cmd_args.specs.declared.refusal.Refusal.{Refusal}
use Rattle.cmd_args.specs.declared.refusal.Refusal.TheVariants.{NoSuchKey}
use Rattle.cmd_args.specs.Draws.{drawn_place}
use Rattle.cmd_args.specs.Keys.{key_keys}
use Rattle.cmd_args.specs.Table.{key_command}
use Rattle.cmd_rows.specs.declared.times.Expiry.{Expiry}
use Rattle.cmd_rows.specs.declared.times.Expiry.TheVariants.{InSeconds, InMillis, AtSecond, AtMillis}
use Rattle.cmd_rows.specs.Worlds.{World}
use Rattle.cmd_rows.specs.Numbers.{is_within_64, number}
use Rattle.cmd_rows.specs.Times.{moment, expire_time, expire_at}
use Rattle.cmd_rows.specs.Outcomes.{Outcome, word_at, with_word, with_two_words}
use Rattle.cmd_rows.proofs.Faults.{no_fault-status, no_fault-int, no_fault-bulk, no_fault-null, no_fault-array}
use Rattle.cmd_rows.proofs.Reasons.{Reasons, found_test, number-err, expire_time-err}
use Rattle.cmd_rows.proofs.Walk.{Good, good-found, good-if, good-word, good-two_words, any_words, Allows}
use Rattle.cmd_rows.proofs.Walk.{each-expire_at}
use Rattle.cmd_rows.proofs.WordPlaces.{first_of_two, second_of_two}
use Rattle.cmd_keys.specs.KeyRows.{is_there, leaving, drawn_key, type_row, keys_row, rename_row}
use Rattle.cmd_keys.specs.KeyRows.{renamenx_row}
use Rattle.cmd_keys.specs.declared.expiring.Asked.{Asked}
use Rattle.cmd_keys.specs.declared.expiring.Asked.TheVariants.{MillisLeft, SecondsLeft, Millisecond, Second}
use Rattle.cmd_keys.specs.KeyRows.{expire_row, persist_row, deadline_row}
use Rattle.cmd_keys.specs.KeyRows.{key_row}

module _ (R : Refusal → Type 0) (reasons : Reasons R) (K V : List ℕ → Type 0) (Q : Record → Type 0) (world : World)
    (allows : Allows K V Q world.time) where
  all-deletes : (store : Store) (keys : List (List ℕ)) → AllByRecursion K keys
      → AllByRecursion Q (map Deletes (leaving store keys))
  all-deletes store [] all = tt
  all-deletes store (key ∷ keys) all =
      by_there (is_there store key) (all-deletes (finite.remove store key) keys all.1) (all-deletes store keys all.1)
    where
      by_there : (b : Bool) → AllByRecursion Q (map Deletes (leaving (finite.remove store key) keys))
          → AllByRecursion Q (map Deletes (leaving store keys))
          → AllByRecursion Q (map Deletes (cond b (key ∷ leaving (finite.remove store key) keys) (leaving store keys)))
      by_there true gone rest = (allows.del key all.0, gone)
      by_there false gone rest = rest

  good-drawn : (key : Option (List ℕ)) → Good R Q (drawn_key key)
  good-drawn None = inr (no_fault-null, tt)
  good-drawn (Some key) = inr (no_fault-bulk key, tt)

  good-rename : (from to : List ℕ) → K from → K to → Good R Q (rename_row world from to)
  good-rename from to f t =
      good-if R Q (is_there world.store from) _ _
      (inr (no_fault-status (codes "OK"), (allows.rename from to f t, tt))) (inl (NoSuchKey, reasons.absent, refl))

  good-renamenx : (from to : List ℕ) → K from → K to → Good R Q (renamenx_row world from to)
  good-renamenx from to f t =
      good-if R Q (is_there world.store from) _ _
      (good-if R Q (is_there world.store to) _ _ (inr (no_fault-int _, tt))
      (inr (no_fault-int _, (allows.rename from to f t, tt)))) (inl (NoSuchKey, reasons.absent, refl))

  -- a time that is not refused is within its limits
  expires : (key : List ℕ) (at : ℤ) → K key → is_within_64 at ≡ true → Q (expire_at key world.time at)
  expires key (negsuc n) k within = allows.del key k
  expires key (pos at) k within =
      each-expire_at K V Q world.time allows key at k (ltb-true at (2 ^ 63) within)

  good-expire : (id : KeyCmd) (kind : Expiry) (key word : List ℕ) → K key
      → Good R Q (expire_row world id kind key word)
  good-expire id kind key word k =
      good-found R Q (number word) _ (number-err R reasons word) (λ n _.
      good-found R Q (expire_time (family.Keys id) kind world.time n) _
      (expire_time-err R reasons (family.Keys id) kind world.time n) (λ at e.
      let timed = found_test (is_within_64 (moment kind world.time n)) (moment kind world.time n) at _ e in
      good-if R Q (is_there world.store key) _ _ (inr (
        no_fault-int _,
        (expires key at k (subst (λ z. is_within_64 z ≡ true) timed.1 timed.0), tt),
      )) (inr (no_fault-int _, tt))))

  good-persist : (key : List ℕ) → K key → Good R Q (persist_row world key)
  good-persist key k =
      good-if R Q (is_some (deadline_at world.store key)) _ _ (inr (no_fault-int _, (allows.persist key k, tt)))
      (inr (no_fault-int _, tt))

  module _ (words : List (List ℕ)) where
    abbrev Missing : ℕ → Type 0
    Missing count = (place : ℕ) → place < count → (why : Refusal) → word_at words place ≡ Err why → R why

    -- a row of one key, of a key and a word, and of two keys
    of_key : (row : List ℕ → Outcome) → Missing 2 → AllByRecursion K (take 1 (drop 1 words))
        → ((key : List ℕ) → K key → Good R Q (row key)) → Good R Q (with_word words row)
    of_key row missing keys good =
        good-word R Q K (λ word. Unit {0}) words (any_words words) 2 row missing (omega arith) keys good

    of_key_and_word : (row : List ℕ → List ℕ → Outcome) → Missing 3 → AllByRecursion K (take 1 (drop 1 words))
        → ((key word : List ℕ) → K key → Good R Q (row key word)) → Good R Q (with_two_words words row)
    of_key_and_word row missing keys good =
        good-two_words R Q K (λ word. Unit {0}) words (any_words words) 3 row missing (omega arith) keys
        (λ key word k _. good key word k)

    of_keys : (row : List ℕ → List ℕ → Outcome) → Missing 3 → AllByRecursion K (take 2 (drop 1 words))
        → ((from to : List ℕ) → K from → K to → Good R Q (row from to)) → Good R Q (with_two_words words row)
    of_keys row missing keys good =
        good-found R Q (word_at words 1) _ (missing 1 (omega arith)) (λ from e.
        good-found R Q (word_at words 2) _ (missing 2 (omega arith)) (λ to f.
        good from to (first_of_two K words from keys e) (second_of_two K words to keys f)))

    expires_key : (id : KeyCmd) (kind : Expiry) → Missing 3 → AllByRecursion K (take 1 (drop 1 words))
        → Good R Q (with_two_words words (expire_row world id kind))
    expires_key id kind missing keys =
        of_key_and_word (expire_row world id kind) missing keys (good-expire id kind)

    of_deadline : (asked : Asked) → Missing 2 → AllByRecursion K (take 1 (drop 1 words))
        → Good R Q (with_word words (deadline_row world asked))
    of_deadline asked missing keys = of_key (deadline_row world asked) missing keys (λ key _. inr (no_fault-int _, tt))

    -- where the keys that the command names are as K says, and words that are missing are refused as R says
    pub good-key_row : (id : KeyCmd) → Missing (key_command id).least → AllByRecursion K (key_keys id (drop 1 words))
        → Good R Q (key_row world id words)
    unfolding key_row key_keys key_command
    good-key_row Del missing keys = inr (no_fault-int _, all-deletes world.store (drop 1 words) keys)
    good-key_row Unlink missing keys = inr (no_fault-int _, all-deletes world.store (drop 1 words) keys)
    good-key_row Exists missing keys = inr (no_fault-int _, tt)
    good-key_row TypeOf missing keys = of_key (type_row world) missing keys (λ key _. inr (no_fault-status _, tt))
    good-key_row Keys missing keys =
        good-found R Q (word_at words 1) (keys_row world) (missing 1 (omega arith))
        (λ pattern _. inr (no_fault-array _, tt))
    good-key_row RandomKey missing keys =
        good-drawn (slice_get (finite.keys world.store) (drawn_place (finite.len world.store) world.draws))
    good-key_row Rename missing keys = of_keys (rename_row world) missing keys good-rename
    good-key_row RenameNx missing keys = of_keys (renamenx_row world) missing keys good-renamenx
    good-key_row Expire missing keys = expires_key Expire InSeconds missing keys
    good-key_row PExpire missing keys = expires_key PExpire InMillis missing keys
    good-key_row ExpireAt missing keys = expires_key ExpireAt AtSecond missing keys
    good-key_row PExpireAt missing keys = expires_key PExpireAt AtMillis missing keys
    good-key_row Persist missing keys = of_key (persist_row world) missing keys good-persist
    good-key_row PTtl missing keys = of_deadline MillisLeft missing keys
    good-key_row Ttl missing keys = of_deadline SecondsLeft missing keys
    good-key_row PExpireTime missing keys = of_deadline Millisecond missing keys
    good-key_row ExpireTime missing keys = of_deadline Second missing keys
