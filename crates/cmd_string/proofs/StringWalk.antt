-- The rows of the commands on strings, each walked once.
use Rattle.std.proofs.Common.{◌≡◌, ℕ, suc, ◌^◌, Bool, true, false, cond, List, [], ◌∷◌, ◌++◌, length, drop, Option}
use Rattle.std.proofs.Common.{Some, None, inl, inr, Ok, Err, refl, sym, subst, arith}
use Rattle.std.proofs.lemmas.Bool.{leb-true, ltb-true}
use Rattle.std.proofs.lemmas.Fmt.{length-decimal-le}
use Rattle.std.specs.Prelude.{ℤ, pos, negsuc, ◌+ℤ◌, ◌-ℤ◌, codes}
use Rattle.std.specs.List.{AllByRecursion}
use Rattle.std.specs.Option.{ok_or, unwrap_or}
use Rattle.std.specs.Result.{result_ok}
use Rattle.std.specs.FinMap as finite
use Rattle.rs_whole.specs.Integers.{integer_text}
use Rattle.ks_space.specs.Store.{Store, IsShort, IsDeadline}
use Rattle.fx_record.specs.declared.record.Record.{Record}
use Rattle.fx_record.specs.declared.record.Record.TheVariants.{Set, SetKeeping}
use Rattle.fx_record.specs.RecordWords.{is_short}
use Rattle.cmd_args.specs.declared.commands.CmdId.{CmdId}
use Rattle.cmd_args.specs.declared.commands.CmdId.TheVariants.{Strings}
use Rattle.cmd_args.specs.declared.commands.StringCmd.{StringCmd}
use Rattle.cmd_args.specs.declared.commands.StringCmd.TheVariants as command
use Rattle.cmd_args.specs.declared.refusal.Refusal.{Refusal}
use Rattle.cmd_args.specs.declared.refusal.Refusal.TheVariants.{Syntax, NotInteger, Overflow, Offset, TooLong}
use Rattle.cmd_args.specs.Keys.{string_keys}
use Rattle.cmd_args.specs.Table.{string_command}
use Rattle.cmd_args.proofs.KeyLaws.{all-keys_named}
use Rattle.cmd_rows.specs.Bounds.{IsTimelyWithin, AreTimelyWithin}
use Rattle.cmd_rows.specs.declared.times.Expiry.{Expiry}
use Rattle.cmd_rows.specs.declared.times.Expiry.TheVariants.{InSeconds, InMillis}
use Rattle.cmd_rows.specs.Outcomes.{Outcome, with_found, ok}
use Rattle.cmd_rows.specs.Numbers.{number, is_within_64}
use Rattle.cmd_rows.specs.Strings.{string_at, with_string, bulk_or_null}
use Rattle.cmd_rows.specs.Times.{deadline, set_until}
use Rattle.cmd_rows.specs.Worlds.{World}
use Rattle.cmd_rows.proofs.Faults.{NoFault, no_fault-status, no_fault-int, no_fault-bulk, no_fault-array}
use Rattle.cmd_rows.proofs.Faults.{no_fault-bulk_or_null}
use Rattle.cmd_rows.proofs.Reasons.{Reasons, found_behind, found_test, deadline-within, test-err, then-err, number-err}
use Rattle.cmd_rows.proofs.Reasons.{read-err, deadline-err, string_at-err, Any, any_reason}
use Rattle.cmd_rows.proofs.Walk.{Good, good-found, good-if, Allows, each-set_until, each-expire_at, each-sets_in}
use Rattle.cmd_rows.proofs.Walk.{Missing, good-word, good-two_words, good-three_words, good-records, allows-within}
use Rattle.cmd_string.specs.declared.getex.Change.{Change}
use Rattle.cmd_string.specs.declared.getex.Change.TheVariants.{AsBefore, Persist, ExpireAt}
use Rattle.cmd_string.specs.declared.options.Lasting.{Lasting}
use Rattle.cmd_string.specs.declared.options.Lasting.TheVariants.{Keeping, Until}
use Rattle.cmd_string.specs.Ranges.{part, written_over}
use Rattle.cmd_string.specs.Options.{is_word, expiry_named, set_options, deadline_read, set_effect, is_met}
use Rattle.cmd_string.specs.Options.{getex_change, change_effects}
use Rattle.cmd_string.specs.StringRows.{old_string, set_row, setnx_row, setex_row, getex_row}
use Rattle.cmd_string.specs.StringRows.{has_any, sized, grown_row, range_row, integer_at}
use Rattle.cmd_string.specs.StringRows.{fitting, counted_row}
use Rattle.cmd_string.specs.StringRows.{string_row}
use Rattle.cmd_string.specs.Within.{IsChange}

pub by_test : (P : Bool → Type 0) (b : Bool) → (b ≡ true → P true) → (b ≡ false → P false) → P b
by_test P true met unmet = met refl
by_test P false met unmet = unmet refl

deadline_read-within : (id : CmdId) (now : ℕ) (kind : Expiry) (read : Option ℤ) (d : ℕ)
    → deadline_read id now kind read ≡ Ok d → IsDeadline d
deadline_read-within id now kind read d e =
    let found = found_behind (ok_or read NotInteger) (deadline id kind now) d e in
    deadline-within id kind now found.0 d found.2

-- what GETEX is asked for is within the limits
change-within : (now : ℕ) (words : List (List ℕ)) (change : Change) → getex_change now words ≡ Ok change
    → IsChange change
change-within now [] change e = subst IsChange (let same : AsBefore ≡ change = cc in same) tt
change-within now (word ∷ []) change e =
    let found = found_test (is_word word (codes "PERSIST")) Persist change Syntax e in subst IsChange found.1 tt
change-within now (word ∷ n ∷ []) change e =
    let kind = found_behind (ok_or (expiry_named word) Syntax) _ change e in
    let at = found_behind (deadline_read (Strings command.GetEx) now kind.0 (result_ok (number n)))
    (λ at. Ok (ExpireAt at)) change kind.2 in
    let same : ExpireAt at.0 ≡ change = cc in
    subst IsChange same (deadline_read-within (Strings command.GetEx) now kind.0 (result_ok (number n)) at.0 at.1)
change-within now (word ∷ n ∷ other ∷ words) change e = absurd (cc)

-- an integer of 64 bits is written in few bytes
text-short : (n : ℤ) → is_within_64 n ≡ true → IsShort (integer_text n)
text-short (pos n) e =
    let fits = ltb-true n (2 ^ 63) e in
    let few = length-decimal-le 20 n (omega arith) (omega arith) (omega arith) in omega arith
text-short (negsuc n) e =
    let fits = ltb-true n (2 ^ 63) e in
    let few = length-decimal-le 20 (suc n) (omega arith) (omega arith) (omega arith) in omega arith

module _ (R : Refusal → Type 0) (reasons : Reasons R) (K V : List ℕ → Type 0) (Q : Record → Type 0) (now : ℕ)
    (allows : Allows K V Q now) where
  found_string : (store : Store) (key : List ℕ) (row : Option (List ℕ) → Outcome)
      → ((text : Option (List ℕ)) → Good R Q (row text)) → Good R Q (with_string store key row)
  found_string store key row good =
      good-found R Q (string_at store key) row (string_at-err R reasons store key) (λ text e. good text)

  found_number : (word : List ℕ) (row : ℤ → Outcome) → ((n : ℤ) → Good R Q (row n))
      → Good R Q (with_found (number word) row)
  found_number word row good = good-found R Q (number word) row (number-err R reasons word) (λ n e. good n)

  effect-err : (key value : List ℕ) (lasting : Option Lasting) (why : Refusal)
      → set_effect now key value lasting ≡ Err why → R why
  effect-err key value None why e = absurd (cc)
  effect-err key value (Some Keeping) why e = absurd (cc)
  effect-err key value (Some (Until kind read)) why e =
      then-err R (deadline_read (Strings command.Set) now kind read) (λ at. Ok (set_until key value now at)) why
      (λ reason f. then-err R (ok_or read NotInteger) (deadline (Strings command.Set) kind now) reason
      (read-err R reasons read) (λ n r g. deadline-err R reasons (Strings command.Set) kind now n r g) f)
      (λ at reason f. absurd (cc)) e

  effect-is : (key value : List ℕ) (lasting : Option Lasting) (r : Record) → K key → V value
      → set_effect now key value lasting ≡ Ok r → Q r
  effect-is key value None r k v e = let same : Set key value ≡ r = cc in subst Q same (allows.set key value k v)
  effect-is key value (Some Keeping) r k v e =
      let same : SetKeeping key value ≡ r = cc in subst Q same (allows.keeping_word key value k v)
  effect-is key value (Some (Until kind read)) r k v e =
      let found = found_behind (deadline_read (Strings command.Set) now kind read)
      (λ at. Ok (set_until key value now at)) r e in
      let same : set_until key value now found.0 ≡ r = cc in
      subst Q same (each-set_until K V Q now allows key value found.0 k v
      (deadline_read-within (Strings command.Set) now kind read found.0 found.1))

  old-err : (store : Store) (key : List ℕ) (get : Bool) (why : Refusal) → old_string store key get ≡ Err why → R why
  old-err store key true why e = string_at-err R reasons store key why e
  old-err store key false why e = absurd (cc)

  set_reply : (get : Bool) (old : Option (List ℕ)) → NoFault (cond get (bulk_or_null old) ok)
  set_reply true old = no_fault-bulk_or_null old
  set_reply false old = no_fault-status (codes "OK")

  good-set : (store : Store) (key value : List ℕ) (words : List (List ℕ)) → K key → V value
      → ((why : Refusal) → set_options words ≡ Err why → R why) → Good R Q (set_row store now key value words)
  good-set store key value words k v unread =
      good-found R Q (set_options words) _ unread (λ options _.
      good-found R Q (set_effect now key value options.lasting) _ (effect-err key value options.lasting) (λ effect e.
      good-found R Q (old_string store key options.get) _ (old-err store key options.get) (λ old _.
      good-if R Q (is_met options.condition (finite.contains_key store key)) _ _
      (inr (set_reply options.get old, (effect-is key value options.lasting effect k v e, tt)))
      (inr (no_fault-bulk_or_null old, tt)))))

  good-setnx : (store : Store) (key value : List ℕ) → K key → V value → Good R Q (setnx_row store key value)
  good-setnx store key value k v = good-if R Q (finite.contains_key store key) _ _ (inr (no_fault-int (pos 0), tt))
      (inr (no_fault-int (pos 1), (allows.set key value k v, tt)))

  good-setex : (id : CmdId) (kind : Expiry) (key time value : List ℕ) → K key → V value
      → Good R Q (setex_row id kind now key time value)
  good-setex id kind key time value k v =
      found_number time _ (λ n.
      good-found R Q (deadline id kind now n) _ (deadline-err R reasons id kind now n)
      (λ at e. inr (
        no_fault-status (codes "OK"),
        (each-set_until K V Q now allows key value at k v (deadline-within id kind now n at e), tt),
      )))

  each-change : (key : List ℕ) (change : Change) → K key → IsChange change
      → AllByRecursion Q (change_effects now key change)
  each-change key AsBefore k within = tt
  each-change key Persist k within = (allows.persist key k, tt)
  each-change key (ExpireAt at) k within = (each-expire_at K V Q now allows key at k within, tt)

  good-getex : (store : Store) (key : List ℕ) (words : List (List ℕ)) → K key
      → ((why : Refusal) → getex_change now words ≡ Err why → R why) → Good R Q (getex_row store now key words)
  good-getex store key words k unread =
      good-found R Q (getex_change now words) _ unread (λ change e.
      found_string store key _ (λ text.
      inr (no_fault-bulk_or_null text, each-change key change k (change-within now words change e))))

  good-grown : (key text : List ℕ) → K key → Good R Q (grown_row key text)
  good-grown key text k =
      good-found R Q (sized text) _ (λ why e. test-err R (is_short text) text TooLong why reasons.long e) (λ new e.
      let found = found_test (is_short text) text new TooLong e in
      inr (
        no_fault-int (pos (length new)),
        (allows.keeping key new k (subst IsShort found.1 (leb-true (length text) 16777216 found.0)), tt),
      ))

  good-range : (key old : List ℕ) (at : ℤ) (value : List ℕ) → K key → Good R Q (range_row key old at value)
  good-range key old (negsuc offset) value k = inl (Offset, reasons.offset, refl)
  good-range key old (pos offset) [] k = inr (no_fault-int (pos (length old)), tt)
  good-range key old (pos offset) (byte ∷ value) k = good-grown key (written_over old offset (byte ∷ value)) k

  integer-err : (store : Store) (key : List ℕ) (why : Refusal) → integer_at store key ≡ Err why → R why
  integer-err store key why e =
      then-err R (string_at store key) (λ text. number (unwrap_or text (codes "0"))) why
      (string_at-err R reasons store key)
      (λ text reason f. number-err R reasons (unwrap_or text (codes "0")) reason f) e

  good-counted : (store : Store) (key : List ℕ) (change : ℤ → ℤ) → K key → Good R Q (counted_row store key change)
  good-counted store key change k =
      good-found R Q (integer_at store key) _ (integer-err store key) (λ n _.
      good-found R Q (fitting (change n)) _
      (λ why e. test-err R (is_within_64 (change n)) (change n) Overflow why reasons.overflow e) (λ sum e.
      let found = found_test (is_within_64 (change n)) (change n) sum Overflow e in
      inr (
        no_fault-int sum,
        (
          allows.keeping key (integer_text sum) k
              (subst (λ m. IsShort (integer_text m)) found.1 (text-short (change n) found.0)),
          tt,
        ),
      )))

  -- what is so of the keys that the command names, of all words, and of the refusals of words, shows it of the row
  module _ (words : List (List ℕ)) (all : AllByRecursion V words) where
    pub good-string_row : (world : World) (id : StringCmd) → world.time ≡ now
        → AllByRecursion K (string_keys id (drop 1 words))
        → Missing R Q K V words all (string_command id).least
        → (id ≡ command.Set → (why : Refusal) → set_options (drop 3 words) ≡ Err why → R why)
        → (id ≡ command.GetEx → (why : Refusal) → getex_change now (drop 2 words) ≡ Err why → R why)
        → Good R Q (string_row world id words)
    unfolding string_row string_keys string_command
    good-string_row world command.Get time keys missing set getex =
        good-word R Q K V words all 2 _ missing (omega arith) keys (λ key _.
        found_string world.store key _ (λ text. inr (no_fault-bulk_or_null text, tt)))
    good-string_row world command.MGet time keys missing set getex = inr (no_fault-array _, tt)
    good-string_row world command.StrLen time keys missing set getex =
        good-word R Q K V words all 2 _ missing (omega arith) keys (λ key _.
        found_string world.store key _ (λ text. inr (no_fault-int _, tt)))
    good-string_row world command.GetRange time keys missing set getex =
        good-three_words R Q K V words all 4 _ missing (omega arith) keys (λ key start end _ _.
        found_number start _ (λ first. found_number end _ (λ last.
        found_string world.store key _ (λ text. inr (no_fault-bulk (part (unwrap_or text []) first last), tt)))))
    good-string_row world command.Set time keys missing set getex =
        subst (λ t. Good R Q (string_row (record world { time = t }) command.Set words)) (sym time)
        (good-two_words R Q K V words all 3 _ missing (omega arith) keys
        (λ key value k v. good-set world.store key value (drop 3 words) k v (set refl)))
    good-string_row world command.SetNx time keys missing set getex =
        good-two_words R Q K V words all 3 _ missing (omega arith) keys (good-setnx world.store)
    good-string_row world command.SetEx time keys missing set getex =
        subst (λ t. Good R Q (string_row (record world { time = t }) command.SetEx words)) (sym time)
        (good-three_words R Q K V words all 4 _ missing (omega arith) keys
        (good-setex (Strings command.SetEx) InSeconds))
    good-string_row world command.PSetEx time keys missing set getex =
        subst (λ t. Good R Q (string_row (record world { time = t }) command.PSetEx words)) (sym time)
        (good-three_words R Q K V words all 4 _ missing (omega arith) keys
        (good-setex (Strings command.PSetEx) InMillis))
    good-string_row world command.GetSet time keys missing set getex =
        good-two_words R Q K V words all 3 _ missing (omega arith) keys (λ key value k v.
        found_string world.store key _ (λ old. inr (no_fault-bulk_or_null old, (allows.set key value k v, tt))))
    good-string_row world command.GetDel time keys missing set getex =
        good-word R Q K V words all 2 _ missing (omega arith) keys (λ key k.
        found_string world.store key _ (λ old. inr (no_fault-bulk_or_null old, (allows.del key k, tt))))
    good-string_row world command.GetEx time keys missing set getex =
        subst (λ t. Good R Q (string_row (record world { time = t }) command.GetEx words)) (sym time)
        (good-word R Q K V words all 2 _ missing (omega arith) keys
        (λ key k. good-getex world.store key (drop 2 words) k (getex refl)))
    good-string_row world command.MSet time keys missing set getex =
        inr (no_fault-status (codes "OK"), each-sets_in K V Q now allows words keys all)
    good-string_row world command.MSetNx time keys missing set getex =
        good-if R Q (has_any world.store (drop 1 words)) _ _ (inr (no_fault-int (pos 0), tt))
        (inr (no_fault-int (pos 1), each-sets_in K V Q now allows words keys all))
    good-string_row world command.Append time keys missing set getex =
        good-two_words R Q K V words all 3 _ missing (omega arith) keys (λ key value k _.
        found_string world.store key _ (λ old. good-grown key (unwrap_or old [] ++ value) k))
    good-string_row world command.SetRange time keys missing set getex =
        good-three_words R Q K V words all 4 _ missing (omega arith) keys (λ key offset value k _.
        found_number offset _ (λ at.
        found_string world.store key _ (λ old. good-range key (unwrap_or old []) at value k)))
    good-string_row world command.Incr time keys missing set getex =
        good-word R Q K V words all 2 _ missing (omega arith) keys
        (λ key k. good-counted world.store key (λ n. n +ℤ pos 1) k)
    good-string_row world command.Decr time keys missing set getex =
        good-word R Q K V words all 2 _ missing (omega arith) keys
        (λ key k. good-counted world.store key (λ n. n -ℤ pos 1) k)
    good-string_row world command.IncrBy time keys missing set getex =
        good-two_words R Q K V words all 3 _ missing (omega arith) keys (λ key word k _.
        found_number word _ (λ n. good-counted world.store key (λ m. m +ℤ n) k))
    good-string_row world command.DecrBy time keys missing set getex =
        good-two_words R Q K V words all 3 _ missing (omega arith) keys (λ key word k _.
        found_number word _ (λ n. good-counted world.store key (λ m. m -ℤ n) k))

-- short words make records within the limits, which give no deadline that is past
pub string_row-within : (world : World) (id : StringCmd) (words : List (List ℕ)) → AllByRecursion IsShort words
    → AreTimelyWithin world.time (string_row world id words).records
string_row-within world id words short =
    good-records Any (IsTimelyWithin world.time) (string_row world id words)
    (good-string_row Any any_reason IsShort IsShort (IsTimelyWithin world.time) world.time (allows-within world.time)
    words short world id refl (all-keys_named IsShort (Strings id) words short) (λ place there why e. tt)
    (λ is why e. tt) (λ is why e. tt))
