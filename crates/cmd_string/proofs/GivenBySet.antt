-- What a GET gives after SET and its kin.
use Rattle.std.proofs.Common.{◌≡◌, ◌≢◌, ℕ, ◌<◌, ◌≤◌, ◌++◌, length, Bool, true, false, cond, List, [], ◌∷◌, Option}
use Rattle.std.proofs.Common.{Some, None, Ok, Err, refl, sym, ap, subst, ◌∙◌, true≢false}
use Rattle.std.specs.Prelude.{ℤ, pos, codes, bytes_eq}
use Rattle.std.specs.Option.{unwrap_or, ok_or, option_or}
use Rattle.std.specs.Result.{result_ok}
use Rattle.std.specs.FinMap as finite
use Rattle.std.proofs.lemmas.Bool.{le-leb, lt-leb}
use Rattle.std.proofs.lemmas.Slice.Eq.{bytes_eq-Decides}
use Rattle.rs_whole.specs.Integers.{integer_text}
use Rattle.resp_reply.specs.declared.reply.Reply.{Reply}
use Rattle.resp_reply.specs.declared.reply.Reply.TheVariants.{Int}
use Rattle.ks_space.specs.Store.{Store, IsShort, deadline_at, with_deadline}
use Rattle.fx_record.specs.declared.record.Record.{Record}
use Rattle.fx_record.specs.declared.record.Record.TheVariants.{Set, SetUntil, SetKeeping, Del}
use Rattle.fx_record.specs.declared.record.Record.TheVariants as effect
use Rattle.fx_record.specs.Records.{apply, applied, string_entry}
use Rattle.fx_record.proofs.Stores.{get-insert_same, get-insert_other, get-remove_same}
use Rattle.cmd_args.specs.declared.commands.CmdId.{CmdId}
use Rattle.cmd_args.specs.declared.commands.CmdId.TheVariants.{Strings}
use Rattle.cmd_args.specs.declared.commands.StringCmd.TheVariants as command
use Rattle.cmd_args.specs.declared.refusal.Refusal.TheVariants.{NotInteger, TooLong, Overflow}
use Rattle.cmd_rows.specs.declared.times.Expiry.{Expiry}
use Rattle.cmd_rows.specs.declared.times.Expiry.TheVariants.{InSeconds, InMillis, AtSecond, AtMillis}
use Rattle.cmd_rows.specs.Outcomes.{Outcome, answers, does, refused, with_found, then_found, ok, left_by}
use Rattle.cmd_rows.specs.Numbers.{number, is_within_64}
use Rattle.cmd_rows.specs.Strings.{string_at, with_string, bulk_or_null, sets_of}
use Rattle.cmd_rows.specs.Times.{deadline, set_until, expire_at}
use Rattle.cmd_string.specs.Options.{deadline_read, set_effect, getex_change, change_effects}
use Rattle.cmd_string.specs.Ranges.{written_over}
use Rattle.cmd_string.specs.declared.options.Lasting.TheVariants.{Until}
use Rattle.cmd_string.specs.declared.getex.Change.TheVariants.{ExpireAt}
use Rattle.cmd_string.specs.StringRows.{set_row, setnx_row, setex_row, getset_row, getdel_row, getex_row, has_any}
use Rattle.cmd_string.specs.StringRows.{msetnx_row, grown_row, append_row, range_row, setrange_row, integer_at}
use Rattle.cmd_string.specs.StringRows.{fitting, kept_row, counted_row}
use Rattle.cmd_string.specs.StringLaws.{Gives, expiry_word, last_string}
use Rattle.cmd_string.proofs.Given.{gives, gives-put, gives-due, until-later, until-past, expire-later}

-- a row that does this one thing
pub done-gives : (store : Store) (row : Outcome) (reply : Reply) (effect : Record) (key text : List ℕ)
    (deadline : Option ℕ) → row ≡ does reply (effect ∷ []) → Gives (apply store effect) key text deadline
    → (row.reply ≡ reply) × Gives (left_by store row) key text deadline
done-gives store row reply effect key text deadline is gives = (
  ap (λ (o : Outcome). o.reply) is,
  subst (λ (o : Outcome). Gives (left_by store o) key text deadline) (sym is) gives,
)

pub keeping-gives : (store : Store) (row : Outcome) (reply : Reply) (key text : List ℕ)
    → row ≡ does reply (SetKeeping key text ∷ [])
    → (row.reply ≡ reply) × Gives (left_by store row) key text (deadline_at store key)
keeping-gives store row reply key text is =
    done-gives store row reply (SetKeeping key text) key text (deadline_at store key) is
    (gives-put store key text (deadline_at store key))

-- SET with a deadline
until-effect : (now : ℕ) (key value : List ℕ) (kind : Expiry) (word : List ℕ) (n : ℤ) (at : ℕ) → number word ≡ Ok n
    → deadline (Strings command.Set) kind now n ≡ Ok at
    → set_effect now key value (Some (Until kind (result_ok (number word)))) ≡ Ok (set_until key value now at)
until-effect now key value kind word n at e f =
    ap (λ r. then_found (then_found (ok_or (result_ok r) NotInteger) (deadline (Strings command.Set) kind now))
    (λ at. Ok (set_until key value now at))) e
    ∙ ap (λ d. then_found d (λ at. Ok (set_until key value now at))) f

set_until-row : (store : Store) (now : ℕ) (key value : List ℕ) (kind : Expiry) (word : List ℕ) (n : ℤ) (at : ℕ)
    → number word ≡ Ok n
    → deadline (Strings command.Set) kind now n ≡ Ok at
    → set_row store now key value (expiry_word kind ∷ word ∷ []) ≡ does ok (set_until key value now at ∷ [])
set_until-row store now key value InSeconds word n at e f =
    ap (λ r. with_found r (λ effect. does ok (effect ∷ []))) (until-effect now key value InSeconds word n at e f)
set_until-row store now key value InMillis word n at e f =
    ap (λ r. with_found r (λ effect. does ok (effect ∷ []))) (until-effect now key value InMillis word n at e f)
set_until-row store now key value AtSecond word n at e f =
    ap (λ r. with_found r (λ effect. does ok (effect ∷ []))) (until-effect now key value AtSecond word n at e f)
set_until-row store now key value AtMillis word n at e f =
    ap (λ r. with_found r (λ effect. does ok (effect ∷ []))) (until-effect now key value AtMillis word n at e f)

pub set_until-given : (store : Store) (now : ℕ) (key value : List ℕ) (kind : Expiry) (word : List ℕ) (n : ℤ) (at : ℕ)
    → number word ≡ Ok n
    → deadline (Strings command.Set) kind now n ≡ Ok at → now < at
    → Gives (left_by store (set_row store now key value (expiry_word kind ∷ word ∷ []))) key value (Some at)
set_until-given store now key value kind word n at e f later =
    subst (λ (row : Outcome). Gives (left_by store row) key value (Some at))
    (sym (set_until-row store now key value kind word n at e f))
    (subst (λ (r : Record). Gives (apply store r) key value (Some at)) (sym (until-later key value now at later))
    (gives-put store key value (Some at)))

pub set_until-gone : (store : Store) (now : ℕ) (key value : List ℕ) (kind : Expiry) (word : List ℕ) (n : ℤ) (at : ℕ)
    → number word ≡ Ok n
    → deadline (Strings command.Set) kind now n ≡ Ok at → at ≤ now
    → finite.get (left_by store (set_row store now key value (expiry_word kind ∷ word ∷ []))) key ≡ None
set_until-gone store now key value kind word n at e f past =
    subst (λ (row : Outcome). finite.get (left_by store row) key ≡ None)
    (sym (set_until-row store now key value kind word n at e f))
    (subst (λ (r : Record). finite.get (apply store r) key ≡ None) (sym (until-past key value now at past))
    (get-remove_same store key))

pub setex-given : (store : Store) (id : CmdId) (kind : Expiry) (now : ℕ) (key time value : List ℕ) (n : ℤ) (at : ℕ)
    → number time ≡ Ok n
    → deadline id kind now n ≡ Ok at → now < at
    → Gives (left_by store (setex_row id kind now key time value)) key value (Some at)
setex-given store id kind now key time value n at e f later =
    let row : setex_row id kind now key time value ≡ does ok (set_until key value now at ∷ []) =
    ap (λ r. with_found r (λ n. with_found (deadline id kind now n)
    (λ at. does ok (set_until key value now at ∷ [])))) e
    ∙ ap (λ d. with_found d (λ at. does ok (set_until key value now at ∷ []))) f in
    subst (λ (o : Outcome). Gives (left_by store o) key value (Some at)) (sym row)
    (subst (λ (r : Record). Gives (apply store r) key value (Some at)) (sym (until-later key value now at later))
    (gives-put store key value (Some at)))

pub setnx-given : (store : Store) (key value : List ℕ) → finite.contains_key store key ≡ false
    → ((setnx_row store key value).reply ≡ Int (pos 1))
    × Gives (left_by store (setnx_row store key value)) key value None
setnx-given store key value absent =
    done-gives store (setnx_row store key value) (Int (pos 1)) (Set key value) key value None
    (ap (λ b. cond b (answers (Int (pos 0))) (does (Int (pos 1)) (Set key value ∷ []))) absent)
    (gives-put store key value None)

pub getset-given : (store : Store) (key value : List ℕ) (old : Option (List ℕ)) → string_at store key ≡ Ok old
    → ((getset_row store key value).reply ≡ bulk_or_null old)
    × Gives (left_by store (getset_row store key value)) key value None
getset-given store key value old e =
    done-gives store (getset_row store key value) (bulk_or_null old) (Set key value) key value None
    (ap (λ f. with_found f (λ old. does (bulk_or_null old) (Set key value ∷ []))) e) (gives-put store key value None)

pub getdel-gone : (store : Store) (key : List ℕ) (text : Option (List ℕ)) → string_at store key ≡ Ok text
    → finite.get (left_by store (getdel_row store key)) key ≡ None
getdel-gone store key text e =
    subst (λ f. finite.get (left_by store (with_found f (λ old. does (bulk_or_null old) (Del key ∷ [])))) key ≡ None)
    (sym e) (get-remove_same store key)

-- GETEX with another deadline
due-given : (store : Store) (key text : List ℕ) (effects : List Record) (deadline : Option ℕ)
    → string_at store key ≡ Ok (Some text)
    → applied store effects ≡ with_deadline store key deadline
    → Gives (left_by store (with_string store key (λ t. does (bulk_or_null t) effects))) key text deadline
due-given store key text effects deadline e is =
    subst (λ f. Gives (left_by store (with_found f (λ t. does (bulk_or_null t) effects))) key text deadline) (sym e)
    (subst (λ (s : Store). Gives s key text deadline) (sym is) (gives-due store key text deadline e))

pub persist-given : (store : Store) (now : ℕ) (key text : List ℕ) → string_at store key ≡ Ok (Some text)
    → Gives (left_by store (getex_row store now key (codes "PERSIST" ∷ []))) key text None
persist-given store now key text e = due-given store key text (effect.Persist key ∷ []) None e refl

change-until : (now : ℕ) (kind : Expiry) (word : List ℕ) (n : ℤ) (at : ℕ) → number word ≡ Ok n
    → deadline (Strings command.GetEx) kind now n ≡ Ok at
    → then_found (deadline_read (Strings command.GetEx) now kind (result_ok (number word))) (λ at. Ok (ExpireAt at))
    ≡ Ok (ExpireAt at)
change-until now kind word n at e f =
    ap (λ r. then_found (then_found (ok_or (result_ok r) NotInteger) (deadline (Strings command.GetEx) kind now))
    (λ at. Ok (ExpireAt at))) e
    ∙ ap (λ d. then_found d (λ at. Ok (ExpireAt at))) f

pub change-read : (now : ℕ) (kind : Expiry) (word : List ℕ) (n : ℤ) (at : ℕ) → number word ≡ Ok n
    → deadline (Strings command.GetEx) kind now n ≡ Ok at
    → getex_change now (expiry_word kind ∷ word ∷ []) ≡ Ok (ExpireAt at)
change-read now InSeconds word n at e f = change-until now InSeconds word n at e f
change-read now InMillis word n at e f = change-until now InMillis word n at e f
change-read now AtSecond word n at e f = change-until now AtSecond word n at e f
change-read now AtMillis word n at e f = change-until now AtMillis word n at e f

pub getex-given : (store : Store) (now : ℕ) (key text : List ℕ) (kind : Expiry) (word : List ℕ) (n : ℤ) (at : ℕ)
    → string_at store key ≡ Ok (Some text)
    → number word ≡ Ok n → deadline (Strings command.GetEx) kind now n ≡ Ok at → now < at
    → Gives (left_by store (getex_row store now key (expiry_word kind ∷ word ∷ []))) key text (Some at)
getex-given store now key text kind word n at there e f later =
    subst (λ f. Gives (left_by store (with_found f
    (λ change. with_string store key (λ t. does (bulk_or_null t) (change_effects now key change))))) key text
    (Some at))
    (sym (change-read now kind word n at e f))
    (due-given store key text (expire_at key now (pos at) ∷ []) (Some at) there
    (ap (apply store) (expire-later key now at later)))

-- a string in place of the old one
grown-row : (key text : List ℕ) → IsShort text
    → grown_row key text ≡ does (Int (pos (length text))) (SetKeeping key text ∷ [])
grown-row key text short =
    ap (λ b. with_found (cond b (Ok text) (Err TooLong))
    (λ new. does (Int (pos (length new))) (SetKeeping key new ∷ []))) (le-leb (length text) 16777216 short)

pub append-given : (store : Store) (key value : List ℕ) (old : Option (List ℕ)) → string_at store key ≡ Ok old
    → IsShort (unwrap_or old [] ++ value)
    → ((append_row store key value).reply ≡ Int (pos (length (unwrap_or old [] ++ value))))
    × Gives (left_by store (append_row store key value)) key (unwrap_or old [] ++ value) (deadline_at store key)
append-given store key value old e short =
    keeping-gives store (append_row store key value) (Int (pos (length (unwrap_or old [] ++ value)))) key
    (unwrap_or old [] ++ value)
    (ap (λ f. with_found f (λ o. grown_row key (unwrap_or o [] ++ value))) e
    ∙ grown-row key (unwrap_or old [] ++ value) short)

pub append-long : (store : Store) (key value : List ℕ) (old : Option (List ℕ)) → string_at store key ≡ Ok old
    → 16777216 < length (unwrap_or old [] ++ value)
    → append_row store key value ≡ refused TooLong
append-long store key value old e long =
    ap (λ f. with_found f (λ o. grown_row key (unwrap_or o [] ++ value))) e
    ∙ ap (λ b. with_found (cond b (Ok (unwrap_or old [] ++ value)) (Err TooLong))
    (λ new. does (Int (pos (length new))) (SetKeeping key new ∷ [])))
    (lt-leb (length (unwrap_or old [] ++ value)) 16777216 long)

pub range-grown : (key old value : List ℕ) (offset : ℕ) → value ≢ []
    → range_row key old (pos offset) value ≡ grown_row key (written_over old offset value)
range-grown key old [] offset some = absurd (some refl)
range-grown key old (byte ∷ value) offset some = refl

pub setrange-row : (store : Store) (key word value : List ℕ) (offset : ℕ) (old : Option (List ℕ))
    → string_at store key ≡ Ok old → number word ≡ Ok (pos offset)
    → setrange_row store key word value ≡ range_row key (unwrap_or old []) (pos offset) value
setrange-row store key word value offset old e f =
    ap (λ r. with_found r (λ at. with_string store key (λ o. range_row key (unwrap_or o []) at value))) f
    ∙ ap (λ s. with_found s (λ o. range_row key (unwrap_or o []) (pos offset) value)) e

pub setrange-given : (store : Store) (key word value : List ℕ) (offset : ℕ) (old : Option (List ℕ))
    → string_at store key ≡ Ok old → number word ≡ Ok (pos offset)
    → value ≢ [] → IsShort (written_over (unwrap_or old []) offset value)
    → ((setrange_row store key word value).reply ≡ Int (pos (length (written_over (unwrap_or old []) offset value))))
    × Gives (left_by store (setrange_row store key word value)) key (written_over (unwrap_or old []) offset value)
    (deadline_at store key)
setrange-given store key word value offset old e f some short =
    let new = written_over (unwrap_or old []) offset value in
    keeping-gives store (setrange_row store key word value) (Int (pos (length new))) key new
    (setrange-row store key word value offset old e f ∙ range-grown key (unwrap_or old []) value offset some
    ∙ grown-row key new short)

pub setrange-same : (store : Store) (key word : List ℕ) (offset : ℕ) (old : Option (List ℕ))
    → string_at store key ≡ Ok old → number word ≡ Ok (pos offset)
    → left_by store (setrange_row store key word []) ≡ store
setrange-same store key word offset old e f = ap (left_by store) (setrange-row store key word [] offset old e f)

-- an integer that was counted
counted-by : (store : Store) (key : List ℕ) (change : ℤ → ℤ) (m : ℤ) (b : Bool) → integer_at store key ≡ Ok m
    → is_within_64 (change m) ≡ b
    → counted_row store key change ≡ with_found (cond b (Ok (change m)) (Err Overflow)) (kept_row key)
counted-by store key change m b e is =
    ap (λ f. with_found f (λ n. with_found (fitting (change n)) (kept_row key))) e
    ∙ ap (λ b. with_found (cond b (Ok (change m)) (Err Overflow)) (kept_row key)) is

pub counted-given : (store : Store) (key : List ℕ) (change : ℤ → ℤ) (m : ℤ) → integer_at store key ≡ Ok m
    → is_within_64 (change m) ≡ true
    → ((counted_row store key change).reply ≡ Int (change m))
    × Gives (left_by store (counted_row store key change)) key (integer_text (change m)) (deadline_at store key)
counted-given store key change m e fits =
    keeping-gives store (counted_row store key change) (Int (change m)) key (integer_text (change m))
    (counted-by store key change m true e fits)

pub counted-over : (store : Store) (key : List ℕ) (change : ℤ → ℤ) (m : ℤ) → integer_at store key ≡ Ok m
    → is_within_64 (change m) ≡ false
    → counted_row store key change ≡ refused Overflow
counted-over store key change m e past = counted-by store key change m false e past

pub integer-read : (store : Store) (key text : List ℕ) → string_at store key ≡ Ok (Some text)
    → integer_at store key ≡ number text
integer-read store key text e = ap (λ f. then_found f (λ text. number (unwrap_or text (codes "0")))) e

pub counted-none : (store : Store) (key text : List ℕ) (change : ℤ → ℤ) → string_at store key ≡ Ok (Some text)
    → number text ≡ Err NotInteger
    → counted_row store key change ≡ refused NotInteger
counted-none store key text change e none =
    ap (λ f. with_found f (λ n. with_found (fitting (change n)) (kept_row key))) (integer-read store key text e ∙ none)

-- the last pair of a key
both_none : {A : Type 0} (o p : Option A) → option_or o p ≡ None → (o ≡ None) × (p ≡ None)
both_none None p e = (refl, e)
both_none (Some x) p e = absurd (cc)

other_key : (b : Bool) (value : List ℕ) → ◌≡◌ {A = Option (List ℕ)} (cond b (Some value) None) None → b ≡ false
other_key true value e = absurd (cc)
other_key false value e = refl

mset-other : (store : Store) (key : List ℕ) (pairs : List (List ℕ)) → last_string key pairs ≡ None
    → finite.get (applied store (sets_of pairs)) key ≡ finite.get store key
mset-other store key [] e = refl
mset-other store key (other ∷ []) e = refl
mset-other store key (other ∷ value ∷ pairs) e =
    let parts = both_none (last_string key pairs) (cond (bytes_eq other key) (Some value) None) e in
    let differ : key ≢ other = λ same.
    true≢false (sym ((bytes_eq-Decides other key).1 (sym same)) ∙ other_key (bytes_eq other key) value parts.1) in
    mset-other (finite.insert store other (string_entry value None)) key pairs parts.0
    ∙ get-insert_other store other (string_entry value None) key differ

here_given : (store : Store) (key other word value : List ℕ) (b : Bool) → bytes_eq other key ≡ b
    → ◌≡◌ {A = Option (List ℕ)} (cond b (Some word) None) (Some value)
    → finite.get (finite.insert store other (string_entry word None)) key ≡ Some (string_entry value None)
here_given store key other word value true is f =
    let same : word ≡ value = cc in
    let key_is : other ≡ key = (bytes_eq-Decides other key).0 is in
    subst (λ k. finite.get (finite.insert store other (string_entry word None)) k ≡ Some (string_entry value None))
    key_is
    (get-insert_same store other (string_entry word None) ∙ ap (λ t. Some (string_entry t None)) same)
here_given store key other word value false is f = absurd (cc)

mset-step : (store : Store) (key other word : List ℕ) (pairs : List (List ℕ)) (value : List ℕ)
    (later : Option (List ℕ)) → last_string key pairs ≡ later
    → ◌≡◌ {A = Option (List ℕ)} (option_or later (cond (bytes_eq other key) (Some word) None)) (Some value)
    → (last_string key pairs ≡ Some value
    → finite.get (applied (finite.insert store other (string_entry word None)) (sets_of pairs)) key
    ≡ Some (string_entry value None))
    → finite.get (applied (finite.insert store other (string_entry word None)) (sets_of pairs)) key
    ≡ Some (string_entry value None)
mset-step store key other word pairs value (Some v) is e later_given = later_given (is ∙ e)
mset-step store key other word pairs value None is e later_given =
    mset-other (finite.insert store other (string_entry word None)) key pairs is
    ∙ here_given store key other word value (bytes_eq other key) refl e

mset-last : (store : Store) (key : List ℕ) (pairs : List (List ℕ)) (value : List ℕ) → last_string key pairs ≡ Some value
    → finite.get (applied store (sets_of pairs)) key ≡ Some (string_entry value None)
mset-last store key [] value e = absurd (cc)
mset-last store key (other ∷ []) value e = absurd (cc)
mset-last store key (other ∷ word ∷ pairs) value e =
    mset-step store key other word pairs value (last_string key pairs) refl e
    (λ is. mset-last (finite.insert store other (string_entry word None)) key pairs value is)

pub mset-given : (store : Store) (key value : List ℕ) (pairs : List (List ℕ)) → last_string key pairs ≡ Some value
    → Gives (applied store (sets_of pairs)) key value None
mset-given store key value pairs e =
    gives (applied store (sets_of pairs)) key value None (mset-last store key pairs value e)

pub msetnx-given : (store : Store) (name key value : List ℕ) (pairs : List (List ℕ)) → has_any store pairs ≡ false
    → last_string key pairs ≡ Some value
    → ((msetnx_row store (name ∷ pairs)).reply ≡ Int (pos 1))
    × Gives (left_by store (msetnx_row store (name ∷ pairs))) key value None
msetnx-given store name key value pairs none e =
    let row : msetnx_row store (name ∷ pairs) ≡ does (Int (pos 1)) (sets_of pairs) =
    ap (λ b. cond b (answers (Int (pos 0))) (does (Int (pos 1)) (sets_of pairs))) none in (
      ap (λ (o : Outcome). o.reply) row,
      subst (λ (o : Outcome). Gives (left_by store o) key value None) (sym row)
          (mset-given store key value pairs e),
    )

pub msetnx-none : (store : Store) (name : List ℕ) (pairs : List (List ℕ)) → has_any store pairs ≡ true
    → msetnx_row store (name ∷ pairs) ≡ answers (Int (pos 0))
msetnx-none store name pairs there =
    ap (λ b. cond b (answers (Int (pos 0))) (does (Int (pos 1)) (sets_of pairs))) there
