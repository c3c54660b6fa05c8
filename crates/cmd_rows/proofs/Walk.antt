-- What is so of a row: each row is walked once, and the laws on all rows follow.
use Rattle.std.proofs.Common.{◌≡◌, ◌≢◌, ℕ, ◌<◌, Bool, true, false, cond, List, [], ◌∷◌, take, drop, Option}
use Rattle.std.proofs.Common.{Some, None, Result, Ok, Err, ◌⊎◌, inl, inr, refl, sym, ap, subst, ◌∙◌, arith}
use Rattle.std.specs.Prelude.{pos, nat_le}
use Rattle.std.specs.List.{AllByRecursion}
use Rattle.std.specs.FinMap as finite
use Rattle.std.proofs.lemmas.Bool.{leb-false}
use Rattle.resp_reply.specs.declared.reply.Reply.TheVariants.{Fault}
use Rattle.ks_space.specs.declared.entry.Entry.{Entry}
use Rattle.ks_space.specs.Store.{Store, IsShort, IsDeadline, deadline_at, with_deadline}
use Rattle.fx_record.specs.declared.record.Record.{Record}
use Rattle.fx_record.specs.declared.record.Record.TheVariants.{Set, SetUntil, SetKeeping, Del, ExpireAt, Persist}
use Rattle.fx_record.specs.declared.record.Record.TheVariants.{Rename}
use Rattle.fx_record.specs.Records.{string_entry, apply, applied, renamed}
use Rattle.fx_record.specs.RecordWords.{IsRecord}
use Rattle.fx_record.proofs.Stores.{get-insert_other, get-remove_other}
use Rattle.fx_record.proofs.RecordLaws.{with_deadline-there, with_deadline-absent, renamed-there, renamed-absent}
use Rattle.cmd_args.specs.declared.refusal.Refusal.{Refusal}
use Rattle.cmd_args.specs.Keys.{firsts}
use Rattle.cmd_rows.specs.declared.stop.Stop.{Stop}
use Rattle.cmd_rows.specs.declared.given.Given.{Given}
use Rattle.cmd_rows.specs.Outcomes.{Outcome, refused, with_found, word_at, with_word, with_two_words, with_three_words}
use Rattle.cmd_rows.specs.Bounds.{IsTimelyWithin, AreTimelyWithin}
use Rattle.cmd_rows.specs.Given.{Follows, CanSettle}
use Rattle.cmd_rows.specs.Strings.{sets_of, sets_in}
use Rattle.cmd_rows.specs.Times.{set_until, expire_at}
use Rattle.cmd_rows.proofs.Faults.{NoFault, fault-reply}
use Rattle.cmd_rows.proofs.WordPlaces.{word_at-all, first_key}

-- a row was refused for such a reason, or its reply is no fault and each of its records is such a one
module _ (R : Refusal → Type 0) (Q : Record → Type 0) where
  abbrev pub Good : Outcome → Type 0
  Good row = ((why : Refusal) × R why × (row ≡ refused why)) ⊎ (NoFault row.reply × AllByRecursion Q row.records)

  pub good-found : {X : Type 0} (found : Result X Refusal) (row : X → Outcome)
      → ((why : Refusal) → found ≡ Err why → R why) → ((x : X) → found ≡ Ok x → Good (row x))
      → Good (with_found found row)
  good-found (Ok x) row unfound good = good x refl
  good-found (Err why) row unfound good = inl (why, unfound why refl, refl)

  pub good-if : (b : Bool) (one other : Outcome) → Good one → Good other → Good (cond b one other)
  good-if true one other met unmet = met
  good-if false one other met unmet = unmet

  -- a row that does nothing
  pub good-reply : (row : Outcome) → row.records ≡ [] → NoFault row.reply → Good row
  good-reply row none no_fault = inr (no_fault, subst (AllByRecursion Q) (sym none) tt)

  -- each record of a row is such a one
  pub good-records : (row : Outcome) → Good row → AllByRecursion Q row.records
  good-records row (inl is) = subst (λ (o : Outcome). AllByRecursion Q o.records) (sym is.2) tt
  good-records row (inr is) = is.1

  -- a row whose reply is a fault does nothing, and was refused for such a reason
  pub good-nothing : (row : Outcome) (text : List ℕ) → Good row → row.reply ≡ Fault text
      → (row.records ≡ []) × (row.draws ≡ 0)
  good-nothing row text (inl is) e = (ap (λ (o : Outcome). o.records) is.2, ap (λ (o : Outcome). o.draws) is.2)
  good-nothing row text (inr is) e = absurd (fault-reply row.reply text is.0 e)

  pub good-reason : (row : Outcome) (text : List ℕ) → Good row → row.reply ≡ Fault text
      → (why : Refusal) × R why × (refused why ≡ row)
  good-reason row text (inl is) e = (is.0, is.1, sym is.2)
  good-reason row text (inr is) e = absurd (fault-reply row.reply text is.0 e)

  -- where the words behind the name are as K says of keys, and V of all words
  module _ (K V : List ℕ → Type 0) (words : List (List ℕ)) (all : AllByRecursion V words) where
    abbrev pub Missing : ℕ → Type 0
    Missing count = (place : ℕ) → place < count → (why : Refusal) → word_at words place ≡ Err why → R why

    pub good-word : (count : ℕ) (row : List ℕ → Outcome) → Missing count → 1 < count
        → AllByRecursion K (take 1 (drop 1 words)) → ((key : List ℕ) → K key → Good (row key))
        → Good (with_word words row)
    good-word count row missing more keys good =
        good-found (word_at words 1) row (missing 1 more) (λ key e. good key (first_key K words key keys e))

    pub good-two_words : (count : ℕ) (row : List ℕ → List ℕ → Outcome) → Missing count → 2 < count
        → AllByRecursion K (take 1 (drop 1 words)) → ((key word : List ℕ) → K key → V word → Good (row key word))
        → Good (with_two_words words row)
    good-two_words count row missing more keys good =
        good-word count _ missing (omega arith) keys (λ key k.
        good-found (word_at words 2) _ (missing 2 more)
        (λ word e. good key word k (word_at-all V words 2 word all e)))

    pub good-three_words : (count : ℕ) (row : List ℕ → List ℕ → List ℕ → Outcome) → Missing count → 3 < count
        → AllByRecursion K (take 1 (drop 1 words))
        → ((key word other : List ℕ) → K key → V other → Good (row key word other))
        → Good (with_three_words words row)
    good-three_words count row missing more keys good =
        good-two_words count _ missing (omega arith) keys (λ key word k _.
        good-found (word_at words 3) _ (missing 3 more)
        (λ other e. good key word other k (word_at-all V words 3 other all e)))

-- a row that goes on with what is found
pub by_found : {X : Type 0} (P : Outcome → Type 0) (found : Result X Refusal) (row : X → Outcome) (x : X)
    → found ≡ Ok x → P (row x) → P (with_found found row)
by_found P found row x is here = subst (λ f. P (with_found f row)) (sym is) here

-- and one that is refused
pub by_refusal : {X : Type 0} (found : Result X Refusal) (row : X → Outcome) (why : Refusal) → found ≡ Err why
    → with_found found row ≡ refused why
by_refusal found row why is = ap (λ f. with_found f row) is

-- whatever the words are
pub any_words : (words : List (List ℕ)) → AllByRecursion (λ word. Unit {0}) words
any_words [] = tt
any_words (word ∷ words) = (tt, any_words words)

-- the records that commands make of keys of which K is so, and of values of which V is
pub record Allows (K V : List ℕ → Type 0) (Q : Record → Type 0) (now : ℕ) : Type 0 where
  pub set : (key value : List ℕ) → K key → V value → Q (Set key value)
  pub until : (key value : List ℕ) (at : ℕ) → K key → V value → now < at → IsDeadline at → Q (SetUntil key value at)
  pub keeping_word : (key value : List ℕ) → K key → V value → Q (SetKeeping key value)
  pub keeping : (key value : List ℕ) → K key → IsShort value → Q (SetKeeping key value)
  pub del : (key : List ℕ) → K key → Q (Del key)
  pub expire : (key : List ℕ) (at : ℕ) → K key → now < at → IsDeadline at → Q (ExpireAt key at)
  pub persist : (key : List ℕ) → K key → Q (Persist key)
  pub rename : (from to : List ℕ) → K from → K to → Q (Rename from to)

by_test : (P : Bool → Type 0) (b : Bool) → (b ≡ true → P true) → (b ≡ false → P false) → P b
by_test P true met unmet = met refl
by_test P false met unmet = unmet refl

module _ (K V : List ℕ → Type 0) (Q : Record → Type 0) (now : ℕ) (allows : Allows K V Q now) where
  pub each-set_until : (key value : List ℕ) (at : ℕ) → K key → V value → IsDeadline at → Q (set_until key value now at)
  each-set_until key value at k v within =
      by_test (λ b. Q (cond b (Del key) (SetUntil key value at))) (nat_le at now) (λ past. allows.del key k)
      (λ later. allows.until key value at k v (leb-false at now later) within)

  pub each-expire_at : (key : List ℕ) (at : ℕ) → K key → IsDeadline at → Q (expire_at key now (pos at))
  each-expire_at key at k within =
      by_test (λ b. Q (cond b (Del key) (ExpireAt key at))) (nat_le at now) (λ past. allows.del key k)
      (λ later. allows.expire key at k (leb-false at now later) within)

  pub each-sets_of : (words : List (List ℕ)) → AllByRecursion K (firsts words) → AllByRecursion V words
      → AllByRecursion Q (sets_of words)
  each-sets_of [] keys all = tt
  each-sets_of (key ∷ []) keys all = tt
  each-sets_of (key ∷ value ∷ words) keys all = (allows.set key value keys.0 all.1.0, each-sets_of words keys.1 all.1.1)

  pub each-sets_in : (words : List (List ℕ)) → AllByRecursion K (firsts (drop 1 words)) → AllByRecursion V words
      → AllByRecursion Q (sets_in words)
  each-sets_in [] keys all = tt
  each-sets_in (name ∷ words) keys all = each-sets_of words keys all.1

-- records within the limits that give no deadline that is past
pub allows-within : (now : ℕ) → Allows IsShort IsShort (IsTimelyWithin now) now
allows-within now = record {
  set = λ key value k v. ((k, v), tt);
  until = λ key value at k v later within. ((k, v, within), omega arith);
  keeping_word = λ key value k v. ((k, v), tt);
  keeping = λ key value k v. ((k, v), tt);
  del = λ key k. (k, tt);
  expire = λ key at k later within. ((k, within), omega arith);
  persist = λ key k. (k, tt);
  rename = λ from to f t. ((f, t), tt);
}

-- records that leave a key as it is
abbrev pub Spares : List ℕ → Record → Type 0
Spares other effect = (store : Store) → finite.get (apply store effect) other ≡ finite.get store other

spares-due : (key other : List ℕ) (deadline : Option ℕ) → other ≢ key → (store : Store)
    → finite.get (with_deadline store key deadline) other ≡ finite.get store other
spares-due key other deadline differ store = by_found (finite.get store key) refl
  where
    by_found : (found : Option Entry) → finite.get store key ≡ found
        → finite.get (with_deadline store key deadline) other ≡ finite.get store other
    by_found None absent = ap (λ (s : Store). finite.get s other) (with_deadline-absent store key deadline absent)
    by_found (Some entry) there =
        ap (λ (s : Store). finite.get s other) (with_deadline-there store key deadline entry there)
        ∙ get-insert_other store key (record entry { deadline = deadline }) other differ

spares-renamed : (from to other : List ℕ) → other ≢ from → other ≢ to → (store : Store)
    → finite.get (renamed store from to) other ≡ finite.get store other
spares-renamed from to other no_from no_to store = by_found (finite.get store from) refl
  where
    by_found : (found : Option Entry) → finite.get store from ≡ found
        → finite.get (renamed store from to) other ≡ finite.get store other
    by_found None absent = ap (λ (s : Store). finite.get s other) (renamed-absent store from to absent)
    by_found (Some entry) there =
        ap (λ (s : Store). finite.get s other) (renamed-there store from to entry there)
        ∙ get-insert_other (finite.remove store from) to entry other no_to
        ∙ get-remove_other store from other no_from

pub allows-others : (now : ℕ) (other : List ℕ) → Allows (λ key. other ≢ key) (λ value. Unit {0}) (Spares other) now
allows-others now other = record {
  set = λ key value k v store. get-insert_other store key (string_entry value None) other k;
  until = λ key value at k v later within store. get-insert_other store key (string_entry value (Some at)) other k;
  keeping_word = λ key value k v store. get-insert_other store key (string_entry value (deadline_at store key)) other k;
  keeping = λ key value k v store. get-insert_other store key (string_entry value (deadline_at store key)) other k;
  del = λ key k store. get-remove_other store key other k;
  expire = λ key at k later within store. spares-due key other (Some at) k store;
  persist = λ key k store. spares-due key other None k store;
  rename = λ from to f t store. spares-renamed from to other f t store;
}

pub spared : (other : List ℕ) (store : Store) (records : List Record) → AllByRecursion (Spares other) records
    → finite.get (applied store records) other ≡ finite.get store other
spared other store [] all = refl
spared other store (r ∷ records) all = spared other (apply store r) records all.1 ∙ all.0 store

-- any records at all
pub allows-any : (now : ℕ) → Allows (λ key. Unit {0}) (λ value. Unit {0}) (λ effect. Unit {0}) now
allows-any now = record {
  set = λ key value k v. tt;
  until = λ key value at k v later within. tt;
  keeping_word = λ key value k v. tt;
  keeping = λ key value k v. tt;
  del = λ key k. tt;
  expire = λ key at k later within. tt;
  persist = λ key k. tt;
  rename = λ from to f t. tt;
}

are_records : (time : ℕ) (records : List Record) → AreTimelyWithin time records → AllByRecursion IsRecord records
are_records time [] all = tt
are_records time (r ∷ records) all = (all.0.0, are_records time records all.1)

-- what a row within the limits gave can be carried out
pub can_settle : (time : ℕ) (store : Store) (row : Outcome) (gave : Result Given Stop)
    → AreTimelyWithin time row.records → Follows store row gave → CanSettle store gave
can_settle time store row (Ok given) within gives = (
  subst (AllByRecursion IsRecord) (ap (λ (o : Outcome). o.records) gives.row_is)
      (are_records time row.records within),
  gives.told,
)
can_settle time store row (Err why) within follows = tt
