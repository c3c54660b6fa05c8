-- What SET does with its options, and GETEX with the deadline.
use Rattle.std.proofs.Common.{◌≡◌, ℕ, ◌<◌, ◌≤◌, Bool, true, false, cond, List, [], ◌∷◌, Option, Some, None, Result}
use Rattle.std.proofs.Common.{Ok, Err, refl, sym, ap, subst, ◌∙◌}
use Rattle.std.specs.Prelude.{ℤ, pos, nat_le}
use Rattle.std.specs.FinMap as finite
use Rattle.std.proofs.lemmas.Bool.{le-leb}
use Rattle.resp_reply.specs.declared.reply.Reply.{Reply}
use Rattle.ks_space.specs.Store.{Store, deadline_at}
use Rattle.fx_record.specs.declared.record.Record.{Record}
use Rattle.fx_record.specs.declared.record.Record.TheVariants.{Set, SetUntil, SetKeeping, Del}
use Rattle.fx_record.specs.declared.record.Record.TheVariants as effect
use Rattle.fx_record.specs.Records.{apply, applied}
use Rattle.fx_record.proofs.Stores.{get-remove_same, remove_absent}
use Rattle.fx_record.proofs.RecordLaws.{with_deadline-absent}
use Rattle.cmd_args.specs.declared.commands.CmdId.TheVariants.{Strings}
use Rattle.cmd_args.specs.declared.commands.StringCmd.TheVariants as command
use Rattle.cmd_args.specs.declared.refusal.Refusal.{Refusal}
use Rattle.cmd_rows.specs.declared.times.Expiry.{Expiry}
use Rattle.cmd_rows.specs.Outcomes.{Outcome, answers, does, with_found, then_found, ok, left_by}
use Rattle.cmd_rows.specs.Numbers.{number}
use Rattle.cmd_rows.specs.Strings.{string_in, string_at, with_string, bulk_or_null}
use Rattle.cmd_rows.specs.Times.{deadline, set_until, expire_at}
use Rattle.cmd_string.specs.declared.options.Lasting.TheVariants.{Keeping, Until}
use Rattle.cmd_string.specs.declared.options.SetOptions.{SetOptions}
use Rattle.cmd_string.specs.declared.getex.Change.{Change}
use Rattle.cmd_string.specs.declared.getex.Change.TheVariants.{AsBefore, Persist, ExpireAt}
use Rattle.cmd_string.specs.Options.{set_options, set_effect, is_met, getex_change, change_effects}
use Rattle.cmd_string.specs.StringRows.{old_string, set_row, getex_row}
use Rattle.cmd_string.specs.StringLaws.{Gives, Writes, written_reply, expiry_word}
use Rattle.cmd_string.proofs.Given.{gives-put, until-later, until-past}
use Rattle.cmd_string.proofs.GivenBySet.{change-read}

-- SET that writes
module _ (store : Store) (now : ℕ) (key text : List ℕ) (words : List (List ℕ)) (options : SetOptions)
    (old : Option (List ℕ)) (writes : Writes store key words options old) where
  row-writes : (effect : Record) → set_effect now key text options.lasting ≡ Ok effect
      → set_row store now key text words ≡ does (written_reply options old) (effect ∷ [])
  row-writes effect e =
      ap (λ r. with_found r options_row) writes.options_are
      ∙ ap (λ r. with_found r (effect_row options)) e
      ∙ ap (λ r. with_found r (old_row options effect)) writes.old_is
      ∙ ap (λ b. cond b (does (written_reply options old) (effect ∷ [])) (answers (bulk_or_null old)))
      writes.is_asked_for
    where
      old_row : SetOptions → Record → Option (List ℕ) → Outcome
      old_row os r o =
          cond (is_met os.condition (finite.contains_key store key)) (does (cond os.get (bulk_or_null o) ok) (r ∷ []))
          (answers (bulk_or_null o))

      effect_row : SetOptions → Record → Outcome
      effect_row os r = with_found (old_string store key os.get) (old_row os r)

      options_row : SetOptions → Outcome
      options_row os = with_found (set_effect now key text os.lasting) (effect_row os)

  -- its reply and its store, by its record
  writes-reply : (effect : Record) → set_effect now key text options.lasting ≡ Ok effect
      → (set_row store now key text words).reply ≡ written_reply options old
  writes-reply effect e = ap (λ (o : Outcome). o.reply) (row-writes effect e)

  writes-store : (effect : Record) → set_effect now key text options.lasting ≡ Ok effect
      → left_by store (set_row store now key text words) ≡ apply store effect
  writes-store effect e = ap (left_by store) (row-writes effect e)

  writes-gives : (effect : Record) (deadline : Option ℕ) → set_effect now key text options.lasting ≡ Ok effect
      → Gives (apply store effect) key text deadline
      → ((set_row store now key text words).reply ≡ written_reply options old)
      × Gives (left_by store (set_row store now key text words)) key text deadline
  writes-gives effect deadline e gives =
      (writes-reply effect e, subst (λ (s : Store). Gives s key text deadline) (sym (writes-store effect e)) gives)

  pub options-plain : options.lasting ≡ None
      → ((set_row store now key text words).reply ≡ written_reply options old)
      × Gives (left_by store (set_row store now key text words)) key text None
  options-plain e = writes-gives (Set key text) None (ap (set_effect now key text) e) (gives-put store key text None)

  pub options-keeping : options.lasting ≡ Some Keeping
      → ((set_row store now key text words).reply ≡ written_reply options old)
      × Gives (left_by store (set_row store now key text words)) key text (deadline_at store key)
  options-keeping e = writes-gives (SetKeeping key text) (deadline_at store key) (ap (set_effect now key text) e)
      (gives-put store key text (deadline_at store key))

  until-is : (kind : Expiry) (n : ℤ) (at : ℕ) → options.lasting ≡ Some (Until kind (Some n))
      → deadline (Strings command.Set) kind now n ≡ Ok at
      → set_effect now key text options.lasting ≡ Ok (set_until key text now at)
  until-is kind n at e f = ap (set_effect now key text) e
      ∙ ap (λ d. then_found d (λ at. Ok (set_until key text now at))) f

  pub options-until : (kind : Expiry) (n : ℤ) (at : ℕ) → options.lasting ≡ Some (Until kind (Some n))
      → deadline (Strings command.Set) kind now n ≡ Ok at → now < at
      → ((set_row store now key text words).reply ≡ written_reply options old)
      × Gives (left_by store (set_row store now key text words)) key text (Some at)
  options-until kind n at e f later =
      writes-gives (SetUntil key text at) (Some at) (until-is kind n at e f
      ∙ ap (λ r. Ok r) (until-later key text now at later)) (gives-put store key text (Some at))

  pub options-past : (kind : Expiry) (n : ℤ) (at : ℕ) → options.lasting ≡ Some (Until kind (Some n))
      → deadline (Strings command.Set) kind now n ≡ Ok at → at ≤ now
      → ((set_row store now key text words).reply ≡ written_reply options old)
      × (finite.get (left_by store (set_row store now key text words)) key ≡ None)
  options-past kind n at e f past =
      let is = until-is kind n at e f ∙ ap (λ r. Ok r) (until-past key text now at past) in (
        writes-reply (Del key) is,
        ap (λ (s : Store). finite.get s key) (writes-store (Del key) is)
            ∙ get-remove_same store key,
      )

-- SET that does not write
found-none : {X : Type 0} (found : Result X Refusal) (row : X → Outcome)
    → ((x : X) → found ≡ Ok x → (row x).records ≡ []) → (with_found found row).records ≡ []
found-none (Ok x) row none = none x refl
found-none (Err why) row none = refl

unmet : (b : Bool) (one : Outcome) (reply : Reply) → b ≡ false → (cond b one (answers reply)).records ≡ []
unmet true one reply e = absurd (cc)
unmet false one reply e = refl

pub options-skip : (store : Store) (now : ℕ) (key text : List ℕ) (words : List (List ℕ)) (options : SetOptions)
    → set_options words ≡ Ok options
    → is_met options.condition (finite.contains_key store key) ≡ false
    → left_by store (set_row store now key text words) ≡ store
options-skip store now key text words options e skipped =
    ap (applied store)
    (found-none (set_options words) _ (λ os read.
    let same : options ≡ os = cc in
    let skips : is_met os.condition (finite.contains_key store key) ≡ false =
    subst (λ (o : SetOptions). is_met o.condition (finite.contains_key store key) ≡ false) same skipped in
    found-none (set_effect now key text os.lasting) _ (λ effect _.
    found-none (old_string store key os.get) _ (λ old _.
    unmet (is_met os.condition (finite.contains_key store key))
    (does (cond os.get (bulk_or_null old) ok) (effect ∷ [])) (bulk_or_null old) skips))))

-- GETEX of a string
getex-row : (store : Store) (now : ℕ) (key : List ℕ) (words : List (List ℕ)) (text : Option (List ℕ))
    (change : Change) → string_at store key ≡ Ok text
    → getex_change now words ≡ Ok change
    → getex_row store now key words ≡ does (bulk_or_null text) (change_effects now key change)
getex-row store now key words text change e f =
    ap (λ r. with_found r (λ c. with_string store key (λ t. does (bulk_or_null t) (change_effects now key c)))) f
    ∙ ap (λ r. with_found r (λ t. does (bulk_or_null t) (change_effects now key change))) e

pub getex-reply : (store : Store) (now : ℕ) (key : List ℕ) (words : List (List ℕ)) (text : Option (List ℕ))
    (change : Change) → string_at store key ≡ Ok text
    → getex_change now words ≡ Ok change → (getex_row store now key words).reply ≡ bulk_or_null text
getex-reply store now key words text change e f =
    ap (λ (o : Outcome). o.reply) (getex-row store now key words text change e f)

pub getex-gone : (store : Store) (now : ℕ) (key text : List ℕ) (kind : Expiry) (word : List ℕ) (n : ℤ) (at : ℕ)
    → string_at store key ≡ Ok (Some text)
    → number word ≡ Ok n → deadline (Strings command.GetEx) kind now n ≡ Ok at → at ≤ now
    → finite.get (left_by store (getex_row store now key (expiry_word kind ∷ word ∷ []))) key ≡ None
getex-gone store now key text kind word n at there e f past =
    let row = getex-row store now key (expiry_word kind ∷ word ∷ []) (Some text) (ExpireAt at) there
    (change-read now kind word n at e f) in
    let leaves : expire_at key now (pos at) ≡ Del key =
    ap (λ b. cond b (Del key) (effect.ExpireAt key at)) (le-leb at now past) in
    ap (λ (o : Outcome). finite.get (left_by store o) key) row
    ∙ ap (λ (r : Record). finite.get (apply store r) key) leaves ∙ get-remove_same store key

-- GETEX of an absent key
change-absent : (store : Store) (now : ℕ) (key : List ℕ) (change : Change) → finite.get store key ≡ None
    → applied store (change_effects now key change) ≡ store
change-absent store now key AsBefore absent = refl
change-absent store now key Persist absent = with_deadline-absent store key None absent
change-absent store now key (ExpireAt at) absent = by_test (nat_le at now)
  where
    by_test : (b : Bool) → apply store (cond b (Del key) (effect.ExpireAt key at)) ≡ store
    by_test true = remove_absent store key absent
    by_test false = with_deadline-absent store key (Some at) absent

pub getex-absent : (store : Store) (now : ℕ) (key : List ℕ) (words : List (List ℕ)) → finite.get store key ≡ None
    → left_by store (getex_row store now key words) ≡ store
getex-absent store now key words absent = by_change (getex_change now words) refl
  where
    by_change : (found : Result Change Refusal) → getex_change now words ≡ found
        → left_by store (with_found found
        (λ c. with_string store key (λ t. does (bulk_or_null t) (change_effects now key c)))) ≡ store
    by_change (Err why) read = refl
    by_change (Ok change) read =
        ap (λ f. left_by store (with_found (string_in f) (λ t. does (bulk_or_null t) (change_effects now key change))))
        absent ∙ change-absent store now key change absent
