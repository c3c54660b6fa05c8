-- What renaming and expiring leave, key by key, and what is told of a deadline.
use Rattle.std.proofs.Common.{◌≡◌, ◌≢◌, ℕ, ◌+◌, ◌-◌, ◌*◌, ◌/◌, ◌<◌, ◌≤◌, ◌^◌, Bool, true, false, cond, ℤ, pos}
use Rattle.std.proofs.Common.{negsuc, List, [], ◌∷◌, Option, Some, None, option_and_then, Ok, Err, refl, sym}
use Rattle.std.proofs.Common.{ap, subst, ◌∙◌, arith}
use Rattle.std.proofs.lemmas.Bool.{lt-ltb, le-leb, lt-leb}
use Rattle.std.specs.Option.{is_some}
use Rattle.std.specs.FinMap as finite
use Rattle.resp_reply.specs.declared.reply.Reply.TheVariants.{Int}
use Rattle.ks_space.specs.declared.entry.Entry.{Entry}
use Rattle.ks_space.specs.Store.{deadline_at}
use Rattle.fx_record.specs.declared.record.Record.{Record}
use Rattle.fx_record.specs.declared.record.Record.TheVariants.{Del, ExpireAt, Persist, Rename}
use Rattle.fx_record.specs.Records.{applied, ChangesOnly, Moves}
use Rattle.fx_record.proofs.RecordLaws.{removed, expired, moves, renamed_itself}
use Rattle.cmd_args.specs.declared.commands.CmdId.TheVariants.{Keys}
use Rattle.cmd_args.specs.declared.commands.KeyCmd.{KeyCmd}
use Rattle.cmd_args.specs.declared.commands.KeyCmd.TheVariants as cmd
use Rattle.cmd_args.specs.declared.refusal.Refusal.{Refusal}
use Rattle.cmd_args.specs.declared.refusal.Refusal.TheVariants.{NoSuchKey, ExpireTime}
use Rattle.cmd_rows.specs.declared.times.Expiry.{Expiry}
use Rattle.cmd_rows.specs.declared.times.Expiry.TheVariants.{InSeconds, InMillis, AtSecond, AtMillis}
use Rattle.cmd_rows.specs.Worlds.{World}
use Rattle.cmd_rows.specs.Numbers.{is_within_64, number}
use Rattle.cmd_rows.specs.Times.{moment, expire_time, expire_at}
use Rattle.cmd_rows.specs.Outcomes.{Outcome, ok, answers, does, refused, with_found, left_by}
use Rattle.cmd_keys.specs.declared.expiring.Asked.{Asked}
use Rattle.cmd_keys.specs.declared.expiring.Asked.TheVariants.{MillisLeft, SecondsLeft, Millisecond, Second}
use Rattle.cmd_keys.specs.KeyRows.{is_there}
use Rattle.cmd_keys.specs.KeyRows.{expire_row, deadline_row, told_in, told_of, told}
use Rattle.cmd_keys.specs.KeyRows.{key_row}
use Rattle.cmd_keys.specs.Laws.{Means, TellsDeadline, ChangesKey}

-- RENAME and RENAMENX
module _ (world : World) (name from to : List ℕ) where
  rename-there : (entry : Entry) → finite.get world.store from ≡ Some entry
      → key_row world cmd.Rename (name ∷ from ∷ to ∷ []) ≡ does ok (Rename from to ∷ [])
  unfolding key_row
  rename-there entry there = ap (λ t. cond t (does ok (Rename from to ∷ [])) (refused NoSuchKey)) (ap is_some there)

  pub rename-absent : finite.get world.store from ≡ None
      → key_row world cmd.Rename (name ∷ from ∷ to ∷ []) ≡ refused NoSuchKey
  unfolding key_row
  rename-absent absent = ap (λ t. cond t (does ok (Rename from to ∷ [])) (refused NoSuchKey)) (ap is_some absent)

  pub rename_moves : (entry : Entry) → from ≢ to → finite.get world.store from ≡ Some entry
      → Moves world.store (left_by world.store (key_row world cmd.Rename (name ∷ from ∷ to ∷ []))) from to entry
  rename_moves entry apart there =
      subst (λ s. Moves world.store s from to entry) (sym (ap (left_by world.store) (rename-there entry there)))
      (moves world.store from to entry apart there)

  pub rename_answers : (entry : Entry) → finite.get world.store from ≡ Some entry
      → (key_row world cmd.Rename (name ∷ from ∷ to ∷ [])).reply ≡ ok
  rename_answers entry there = ap (λ (o : Outcome). o.reply) (rename-there entry there)

  renamenx-by : (found : Option Entry) → finite.get world.store from ≡ found
      → key_row world cmd.RenameNx (name ∷ from ∷ to ∷ []) ≡ cond (is_some found)
      (cond (is_there world.store to) (answers (Int (pos 0))) (does (Int (pos 1)) (Rename from to ∷ [])))
      (refused NoSuchKey)
  unfolding key_row
  renamenx-by found is =
      ap (λ (o : Option Entry). cond (is_some o)
      (cond (is_there world.store to) (answers (Int (pos 0))) (does (Int (pos 1)) (Rename from to ∷ [])))
      (refused NoSuchKey)) is

  pub renamenx-absent : finite.get world.store from ≡ None
      → key_row world cmd.RenameNx (name ∷ from ∷ to ∷ []) ≡ refused NoSuchKey
  renamenx-absent absent = renamenx-by None absent

  pub renamenx-there : (entry other : Entry) → finite.get world.store from ≡ Some entry
      → finite.get world.store to ≡ Some other
      → key_row world cmd.RenameNx (name ∷ from ∷ to ∷ []) ≡ answers (Int (pos 0))
  renamenx-there entry other there taken =
      renamenx-by (Some entry) there ∙ ap
      (λ t. cond t (answers (Int (pos 0))) (does (Int (pos 1)) (Rename from to ∷ []))) (ap is_some taken)

  renamenx-free : (entry : Entry) → finite.get world.store from ≡ Some entry → finite.get world.store to ≡ None
      → key_row world cmd.RenameNx (name ∷ from ∷ to ∷ []) ≡ does (Int (pos 1)) (Rename from to ∷ [])
  renamenx-free entry there free =
      renamenx-by (Some entry) there ∙ ap
      (λ t. cond t (answers (Int (pos 0))) (does (Int (pos 1)) (Rename from to ∷ []))) (ap is_some free)

  pub renamenx_moves : (entry : Entry) → finite.get world.store from ≡ Some entry → finite.get world.store to ≡ None
      → ((key_row world cmd.RenameNx (name ∷ from ∷ to ∷ [])).reply ≡ Int (pos 1))
      × Moves world.store (left_by world.store (key_row world cmd.RenameNx (name ∷ from ∷ to ∷ []))) from to entry
  renamenx_moves entry there free = (
    ap (λ (o : Outcome). o.reply) (renamenx-free entry there free),
    subst (λ s. Moves world.store s from to entry)
        (sym (ap (left_by world.store) (renamenx-free entry there free)))
        (moves world.store from to entry apart there),
  )
    where
      apart : from ≢ to
      apart same = let gone : finite.get world.store from ≡ None = ap (finite.get world.store) same ∙ free in
          absurd (cc)

pub rename_itself : (world : World) (name key : List ℕ)
    → left_by world.store (key_row world cmd.Rename (name ∷ key ∷ key ∷ [])) ≡ world.store
unfolding key_row
rename_itself world name key = by_there (is_there world.store key)
  where
    by_there : (b : Bool) → left_by world.store (cond b (does ok (Rename key key ∷ [])) (refused NoSuchKey))
        ≡ world.store
    by_there true = renamed_itself world.store key
    by_there false = refl

-- EXPIRE and its kin: each reads its number in its own unit
units : (world : World) (id : KeyCmd) (name key word : List ℕ) (n at : ℤ) → Means id world.time n at
    → (kind : Expiry) × (key_row world id (name ∷ key ∷ word ∷ []) ≡ expire_row world id kind key word)
    × (moment kind world.time n ≡ at)
unfolding key_row
units world cmd.Expire name key word n at means = (InSeconds, refl, means)
units world cmd.PExpire name key word n at means = (InMillis, refl, means)
units world cmd.ExpireAt name key word n at means = (AtSecond, refl, means)
units world cmd.PExpireAt name key word n at means = (AtMillis, refl, means)
units world _ name key word n at means = absurd means

-- where the number is read, and where it is none
abbrev timed : World → KeyCmd → Expiry → List ℕ → ℤ → Outcome
timed world id kind key n =
    with_found (expire_time (Keys id) kind world.time n)
    (λ at. cond (is_there world.store key) (does (Int (pos 1)) (expire_at key world.time at ∷ []))
    (answers (Int (pos 0))))

module _ (world : World) (id : KeyCmd) (name key word : List ℕ) where
  abbrev expires : ℤ → Outcome
  expires at = cond (is_there world.store key) (does (Int (pos 1)) (expire_at key world.time at ∷ []))
      (answers (Int (pos 0)))

  pub expire-no_integer : (n at : ℤ) (why : Refusal) → Means id world.time n at → number word ≡ Err why
      → key_row world id (name ∷ key ∷ word ∷ []) ≡ refused why
  expire-no_integer n at why means none =
      let unit = units world id name key word n at means in
      unit.1 ∙ ap (λ r. with_found r (timed world id unit.0 key)) none

  module _ (n at : ℤ) (read : number word ≡ Ok n) (means : Means id world.time n at) where
    expire-tested : key_row world id (name ∷ key ∷ word ∷ [])
        ≡ with_found (cond (is_within_64 at) (Ok at) (Err (ExpireTime (Keys id)))) expires
    expire-tested =
        let unit = units world id name key word n at means in
        unit.1 ∙ ap (λ r. with_found r (timed world id unit.0 key)) read
        ∙ ap (λ (z : ℤ). with_found (cond (is_within_64 z) (Ok z) (Err (ExpireTime (Keys id)))) expires) unit.2

    pub expire-out_of_range : is_within_64 at ≡ false
        → key_row world id (name ∷ key ∷ word ∷ []) ≡ refused (ExpireTime (Keys id))
    expire-out_of_range out =
        expire-tested ∙ ap (λ t. with_found (cond t (Ok at) (Err (ExpireTime (Keys id)))) expires) out

    expire-within : is_within_64 at ≡ true → key_row world id (name ∷ key ∷ word ∷ []) ≡ expires at
    expire-within within =
        expire-tested ∙ ap (λ t. with_found (cond t (Ok at) (Err (ExpireTime (Keys id)))) expires) within

    pub expire-absent : is_within_64 at ≡ true → finite.get world.store key ≡ None
        → key_row world id (name ∷ key ∷ word ∷ []) ≡ answers (Int (pos 0))
    expire-absent within absent =
        expire-within within
        ∙ ap (λ t. cond t (does (Int (pos 1)) (expire_at key world.time at ∷ [])) (answers (Int (pos 0))))
        (ap is_some absent)

    expire-changes : (done : Record) (left : Option Entry) (entry : Entry) → is_within_64 at ≡ true
        → finite.get world.store key ≡ Some entry → expire_at key world.time at ≡ done
        → ChangesOnly world.store (applied world.store (done ∷ [])) key left
        → ChangesKey world.store (key_row world id (name ∷ key ∷ word ∷ [])) key left
    expire-changes done left entry within there is changes =
        let row : key_row world id (name ∷ key ∷ word ∷ []) ≡ does (Int (pos 1)) (done ∷ []) =
        expire-within within
        ∙ ap (λ t. cond t (does (Int (pos 1)) (expire_at key world.time at ∷ [])) (answers (Int (pos 0))))
        (ap is_some there) ∙ ap (λ r. does (Int (pos 1)) (r ∷ [])) is in
        subst (λ (o : Outcome). ChangesKey world.store o key left) (sym row)
        (record { reply_is = refl; changes = changes })

  pub expire-later : (n : ℤ) (at : ℕ) (entry : Entry) → number word ≡ Ok n → Means id world.time n (pos at)
      → at < 2 ^ 63 → world.time < at → finite.get world.store key ≡ Some entry
      → ChangesKey world.store (key_row world id (name ∷ key ∷ word ∷ [])) key
      (Some (record entry { deadline = Some at }))
  expire-later n at entry read means fits later there =
      expire-changes n (pos at) read means (ExpireAt key at) (Some (record entry { deadline = Some at })) entry
      (lt-ltb at (2 ^ 63) fits) there
      (ap (λ t. cond t (Del key) (ExpireAt key at)) (lt-leb at world.time later))
      (expired world.store key (Some at) entry there)

  pub expire-at_once : (n : ℤ) (at : ℕ) (entry : Entry) → number word ≡ Ok n → Means id world.time n (pos at)
      → at < 2 ^ 63 → at ≤ world.time → finite.get world.store key ≡ Some entry
      → ChangesKey world.store (key_row world id (name ∷ key ∷ word ∷ [])) key None
  expire-at_once n at entry read means fits past there =
      expire-changes n (pos at) read means (Del key) None entry (lt-ltb at (2 ^ 63) fits) there
      (ap (λ t. cond t (Del key) (ExpireAt key at)) (le-leb at world.time past)) (removed world.store key)

  pub expire-before : (n : ℤ) (m : ℕ) (entry : Entry) → number word ≡ Ok n → Means id world.time n (negsuc m)
      → m < 2 ^ 63 → finite.get world.store key ≡ Some entry
      → ChangesKey world.store (key_row world id (name ∷ key ∷ word ∷ [])) key None
  expire-before n m entry read means fits there =
      expire-changes n (negsuc m) read means (Del key) None entry (lt-ltb m (2 ^ 63) fits) there refl
      (removed world.store key)

-- PERSIST
module _ (world : World) (name key : List ℕ) where
  persist-by : (due : Option ℕ) → deadline_at world.store key ≡ due
      → key_row world cmd.Persist (name ∷ key ∷ []) ≡ cond (is_some due) (does (Int (pos 1)) (Persist key ∷ []))
      (answers (Int (pos 0)))
  unfolding key_row
  persist-by due is =
      ap (λ (o : Option ℕ). cond (is_some o) (does (Int (pos 1)) (Persist key ∷ [])) (answers (Int (pos 0)))) is

  pub persist-none : deadline_at world.store key ≡ None
      → key_row world cmd.Persist (name ∷ key ∷ []) ≡ answers (Int (pos 0))
  persist-none none = persist-by None none

  pub persist-had : (entry : Entry) (at : ℕ) → finite.get world.store key ≡ Some entry → entry.deadline ≡ Some at
      → ChangesKey world.store (key_row world cmd.Persist (name ∷ key ∷ [])) key
      (Some (record entry { deadline = None }))
  persist-had entry at there due =
      let found : deadline_at world.store key ≡ Some at =
      ap (option_and_then (λ (e : Entry). e.deadline)) there ∙ due in
      subst (λ (o : Outcome). ChangesKey world.store o key (Some (record entry { deadline = None })))
      (sym (persist-by (Some at) found))
      (record { reply_is = refl; changes = expired world.store key None entry there })

-- what is told of a deadline
told-due : (world : World) (asked : Asked) (key : List ℕ) (at : ℕ) → deadline_at world.store key ≡ Some at
    → deadline_row world asked key ≡ answers (Int (pos (told asked world.time at)))
told-due world asked key at due = by_entry (finite.get world.store key) due
  where
    by_entry : (found : Option Entry) → option_and_then (λ (e : Entry). e.deadline) found ≡ Some at
        → answers (Int (told_in asked world.time found)) ≡ answers (Int (pos (told asked world.time at)))
    by_entry None none = absurd (cc)
    by_entry (Some entry) due = ap (λ o. answers (Int (told_of asked world.time o))) due

pub asked-of : (world : World) (id : KeyCmd) (name key : List ℕ) → TellsDeadline id
    → (asked : Asked) × (key_row world id (name ∷ key ∷ []) ≡ deadline_row world asked key)
unfolding key_row
asked-of world cmd.PTtl name key is = (MillisLeft, refl)
asked-of world cmd.Ttl name key is = (SecondsLeft, refl)
asked-of world cmd.PExpireTime name key is = (Millisecond, refl)
asked-of world cmd.ExpireTime name key is = (Second, refl)
asked-of world _ name key is = absurd is

pub told-forever : (world : World) (id : KeyCmd) (name key : List ℕ) (entry : Entry) → TellsDeadline id
    → finite.get world.store key ≡ Some entry → entry.deadline ≡ None
    → key_row world id (name ∷ key ∷ []) ≡ answers (Int (negsuc 0))
told-forever world id name key entry is there none =
    let row = asked-of world id name key is in
    row.1 ∙ ap (λ o. answers (Int (told_in row.0 world.time o))) there
    ∙ ap (λ o. answers (Int (told_of row.0 world.time o))) none

pub told-absent : (world : World) (id : KeyCmd) (name key : List ℕ) → TellsDeadline id
    → finite.get world.store key ≡ None → key_row world id (name ∷ key ∷ []) ≡ answers (Int (negsuc 1))
told-absent world id name key is absent =
    let row = asked-of world id name key is in
    row.1 ∙ ap (λ o. answers (Int (told_in row.0 world.time o))) absent

to_nearest : (millis n : ℕ) → 1000 * n ≤ millis + 500 → millis + 500 < 1000 * (n + 1) → (millis + 500) / 1000 ≡ n
to_nearest millis n low high = omega arith

module _ (world : World) (name key : List ℕ) where
  told-as : (asked : Asked) (at n : ℕ) → deadline_at world.store key ≡ Some at → told asked world.time at ≡ n
      → deadline_row world asked key ≡ answers (Int (pos n))
  told-as asked at n due is = told-due world asked key at due ∙ ap (λ m. answers (Int (pos m))) is

  pub ttl-left : (left n : ℕ) → deadline_at world.store key ≡ Some (world.time + left) → 1000 * n ≤ left + 500
      → left + 500 < 1000 * (n + 1) → key_row world cmd.Ttl (name ∷ key ∷ []) ≡ answers (Int (pos n))
  unfolding key_row
  ttl-left left n due low high =
      told-as SecondsLeft (world.time + left) n due
      (to_nearest (world.time + left - world.time) n (omega arith) (omega arith))

  pub pttl-left : (left : ℕ) → deadline_at world.store key ≡ Some (world.time + left)
      → key_row world cmd.PTtl (name ∷ key ∷ []) ≡ answers (Int (pos left))
  unfolding key_row
  pttl-left left due = told-as MillisLeft (world.time + left) left due (omega arith)

  pub ttl-past : (at : ℕ) → deadline_at world.store key ≡ Some at → at ≤ world.time
      → (key_row world cmd.Ttl (name ∷ key ∷ []) ≡ answers (Int (pos 0)))
      × (key_row world cmd.PTtl (name ∷ key ∷ []) ≡ answers (Int (pos 0)))
  unfolding key_row
  ttl-past at due past = (
    told-as SecondsLeft at 0 due (to_nearest (at - world.time) 0 (omega arith) (omega arith)),
    told-as MillisLeft at 0 due (omega arith),
  )

  pub expiretime-due : (at n : ℕ) → deadline_at world.store key ≡ Some at → 1000 * n ≤ at + 500
      → at + 500 < 1000 * (n + 1) → key_row world cmd.ExpireTime (name ∷ key ∷ []) ≡ answers (Int (pos n))
  unfolding key_row
  expiretime-due at n due low high = told-as Second at n due (to_nearest at n low high)

  pub pexpiretime-due : (at : ℕ) → deadline_at world.store key ≡ Some at
      → key_row world cmd.PExpireTime (name ∷ key ∷ []) ≡ answers (Int (pos at))
  unfolding key_row
  pexpiretime-due at due = told-as Millisecond at at due refl

-- what is told right after a deadline was given
module _ (world : World) (n : ℕ) (name other key word : List ℕ) (entry : Entry) (read : number word ≡ Ok (pos n))
    (there : finite.get world.store key ≡ Some entry) where
  abbrev after : KeyCmd → World
  after id = record world { store = left_by world.store (key_row world id (name ∷ key ∷ word ∷ [])) }

  given : (id : KeyCmd) (at : ℕ) → Means id world.time (pos n) (pos at) → at < 2 ^ 63 → world.time < at
      → deadline_at (left_by world.store (key_row world id (name ∷ key ∷ word ∷ []))) key ≡ Some at
  given id at means fits later =
      ap (option_and_then (λ (e : Entry). e.deadline))
      (expire-later world id name key word (pos n) at entry read means fits later there).changes.here

  pub ttl-expire : 0 < n → world.time + n * 1000 < 2 ^ 63
      → key_row (record world {
        store = left_by world.store
            (key_row world cmd.Expire (name ∷ key ∷ word ∷ []));
      }) cmd.Ttl (other ∷ key ∷ []) ≡ answers (Int (pos n))
  ttl-expire some fits =
      ttl-left (after cmd.Expire) other key (n * 1000) n
      (given cmd.Expire (world.time + n * 1000) refl fits (omega arith)) (omega arith) (omega arith)

  pub pttl-pexpire : 0 < n → world.time + n < 2 ^ 63
      → key_row (record world {
        store = left_by world.store
            (key_row world cmd.PExpire (name ∷ key ∷ word ∷ []));
      }) cmd.PTtl (other ∷ key ∷ []) ≡ answers (Int (pos n))
  pttl-pexpire some fits =
      pttl-left (after cmd.PExpire) other key n (given cmd.PExpire (world.time + n) refl fits (omega arith))

  pub expiretime-expireat : world.time < n * 1000 → n * 1000 < 2 ^ 63
      → key_row (record world {
        store = left_by world.store
            (key_row world cmd.ExpireAt (name ∷ key ∷ word ∷ []));
      }) cmd.ExpireTime (other ∷ key ∷ [])
      ≡ answers (Int (pos n))
  expiretime-expireat later fits =
      expiretime-due (after cmd.ExpireAt) other key (n * 1000) n
      (given cmd.ExpireAt (n * 1000) refl fits later) (omega arith) (omega arith)

  pub pexpiretime-pexpireat : world.time < n → n < 2 ^ 63
      → key_row (record world {
        store = left_by world.store
            (key_row world cmd.PExpireAt (name ∷ key ∷ word ∷ []));
      }) cmd.PExpireTime (other ∷ key ∷ [])
      ≡ answers (Int (pos n))
  pexpiretime-pexpireat later fits =
      pexpiretime-due (after cmd.PExpireAt) other key n (given cmd.PExpireAt n refl fits later)
