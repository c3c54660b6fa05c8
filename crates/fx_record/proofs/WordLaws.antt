-- Words as records, and records as words.
use Rattle.std.proofs.Common.{◌≡◌, ℕ, ◌<◌, ◌≤◌, ◌^◌, Bool, true, false, cond, ◌&&◌, List, [], ◌∷◌, Option, Some, None}
use Rattle.std.proofs.Common.{length, ◌⊎◌, inl, inr, refl, sym, ap, subst, ◌∙◌, ltb, decimal, arith}
use Rattle.std.specs.Prelude.{codes, nat_le}
use Rattle.std.specs.List.{AllByRecursion, list_all, sum_by}
use Rattle.std.specs.Option.{option_map, IfSome}
use Rattle.std.specs.Str.{bytes_eq}
use Rattle.std.specs.Str.Parse.{digits_value}
use Rattle.std.proofs.lemmas.Bool.{and_parts, leb-true, le-leb}
use Rattle.std.proofs.lemmas.Bool.Decides.{Decides-ltb}
use Rattle.std.proofs.lemmas.Fmt.{decimal_is_IsNumeral, length-decimal-le}
use Rattle.std.proofs.lemmas.Slice.Eq.{bytes_eq-Decides}
use Rattle.ks_space.specs.Store.{IsShort, IsDeadline}
use Rattle.fx_record.specs.declared.record.Record.{Record}
use Rattle.fx_record.specs.declared.record.Record.TheVariants.{Set, SetUntil, SetKeeping, Del, ExpireAt, Persist}
use Rattle.fx_record.specs.declared.record.Record.TheVariants.{Rename, FlushAll}
use Rattle.fx_record.specs.RecordWords.{words_of, record_of, record_shaped, deadline_of, alone, with_one, with_two}
use Rattle.fx_record.specs.RecordWords.{with_three, with_four, is_short, are_within_limits, AreWithinLimits, IsRecord}

either : {A : Type 0} (b : Bool) (x y : Option A) (r : A) → cond b x y ≡ Some r
    → ((b ≡ true) × (x ≡ Some r)) ⊎ ((b ≡ false) × (y ≡ Some r))
either true x y r e = inl (refl, e)
either false x y r e = inr (refl, e)

-- a test that came out, where nothing stands for its failing
held : {A : Type 0} (b : Bool) (x : Option A) (r : A) → cond b x None ≡ Some r → (b ≡ true) × (x ≡ Some r)
held true x r e = (refl, e)
held false x r e = absurd (cc)

mapped : {A B : Type 0} (f : A → B) (o : Option A) (r : B) → option_map f o ≡ Some r
    → (x : A) × (o ≡ Some x) × (f x ≡ r)
mapped f None r e = absurd (cc)
mapped f (Some x) r e = (x, refl, cc)

-- the two ways of a deadline's word
pub deadline_of-decimal : (deadline : ℕ) → IsDeadline deadline → deadline_of (decimal deadline) ≡ Some deadline
deadline_of-decimal deadline fits =
    let small : deadline < 2 ^ 64 = omega arith in
    let read : digits_value 10 (decimal deadline) ≡ deadline = (decimal_is_IsNumeral deadline small).1 in
    let below : ltb deadline (2 ^ 63) ≡ true = (Decides-ltb deadline (2 ^ 63)).1 fits in
    subst (λ (n : ℕ). cond (bytes_eq (decimal deadline) (decimal n) && ltb n (2 ^ 63)) (Some n) None ≡ Some deadline)
    (sym read)
    (ap (λ (t : Bool). cond (t && ltb deadline (2 ^ 63)) (Some deadline) None)
    ((bytes_eq-Decides (decimal deadline) (decimal deadline)).1 refl)
    ∙ ap (λ (t : Bool). cond t (Some deadline) None) below)

pub deadline_of-is : (word : List ℕ) (deadline : ℕ) → deadline_of word ≡ Some deadline
    → (word ≡ decimal deadline) × IsDeadline deadline
deadline_of-is word deadline e =
    let n = digits_value 10 word in
    let out = held (bytes_eq word (decimal n) && ltb n (2 ^ 63)) (Some n) deadline e in
    let tests = and_parts (bytes_eq word (decimal n)) (ltb n (2 ^ 63)) out.0 in
    let n_is : n ≡ deadline = cc (out.1) in
    subst (λ (m : ℕ). (word ≡ decimal m) × (m < 2 ^ 63)) n_is
    ((bytes_eq-Decides word (decimal n)).0 tests.0, (Decides-ltb n (2 ^ 63)).0 tests.1)

-- the deadline of a record, if it has one, is one
abbrev HasDeadline : Record → Type 0
HasDeadline (SetUntil key value deadline) = IsDeadline deadline
HasDeadline (ExpireAt key deadline) = IsDeadline deadline
HasDeadline _ = Unit {0}

-- the words are those of the record, but for the length of keys and strings
abbrev Reads : List (List ℕ) → Record → Type 0
Reads words r = (words ≡ words_of r) × HasDeadline r

is_named : (word name : List ℕ) → bytes_eq word name ≡ true → word ≡ name
is_named word name e = (bytes_eq-Decides word name).0 e

-- the record that is found is the one that is told
found : {A : Type 0} (x y : A) → Some x ≡ Some y → x ≡ y
found x y e = cc

reads-alone : (name : List ℕ) (r : Record) → alone name ≡ Some r → Reads (name ∷ []) r
reads-alone name r e =
    let out = held (bytes_eq name (codes "FLUSHALL")) (Some FlushAll) r e in
    subst (Reads (name ∷ [])) (found FlushAll r out.1) (ap (λ n. n ∷ []) (is_named name (codes "FLUSHALL") out.0), tt)

reads-one : (name key : List ℕ) (r : Record) → with_one name key ≡ Some r → Reads (name ∷ key ∷ []) r
reads-one name key r e =
    elim (either (bytes_eq name (codes "DEL")) (Some (Del key))
    (cond (bytes_eq name (codes "PERSIST")) (Some (Persist key)) None) r e) [
      | inl out ↦ subst (Reads (name ∷ key ∷ [])) (found (Del key) r out.1)
          (ap (λ n. n ∷ key ∷ []) (is_named name (codes "DEL") out.0), tt)
      | inr other ↦
          let out = held (bytes_eq name (codes "PERSIST")) (Some (Persist key)) r other.1 in
          subst (Reads (name ∷ key ∷ [])) (found (Persist key) r out.1)
          (ap (λ n. n ∷ key ∷ []) (is_named name (codes "PERSIST") out.0), tt)
    ]

reads-two : (name key word : List ℕ) (r : Record) → with_two name key word ≡ Some r → Reads (name ∷ key ∷ word ∷ []) r
reads-two name key word r e =
    let expiring = cond (bytes_eq name (codes "PEXPIREAT")) (option_map (ExpireAt key) (deadline_of word)) None in
    elim (either (bytes_eq name (codes "SET")) (Some (Set key word))
    (cond (bytes_eq name (codes "RENAME")) (Some (Rename key word)) expiring) r e) [
      | inl out ↦ subst (Reads (name ∷ key ∷ word ∷ [])) (found (Set key word) r out.1)
          (ap (λ n. n ∷ key ∷ word ∷ []) (is_named name (codes "SET") out.0), tt)
      | inr no_set ↦ elim (either (bytes_eq name (codes "RENAME")) (Some (Rename key word)) expiring r no_set.1) [
        | inl out ↦ subst (Reads (name ∷ key ∷ word ∷ [])) (found (Rename key word) r out.1)
            (ap (λ n. n ∷ key ∷ word ∷ []) (is_named name (codes "RENAME") out.0), tt)
        | inr no_rename ↦
            let out = held (bytes_eq name (codes "PEXPIREAT"))
            (option_map (ExpireAt key) (deadline_of word)) r no_rename.1 in
            let map_of = mapped (ExpireAt key) (deadline_of word) r out.1 in
            let written = deadline_of-is word map_of.0 map_of.1 in
            let same_name = is_named name (codes "PEXPIREAT") out.0 in
            subst (Reads (name ∷ key ∷ word ∷ [])) map_of.2 (
              ap (λ n. n ∷ key ∷ word ∷ []) same_name ∙ ap (λ w. codes "PEXPIREAT" ∷ key ∷ w ∷ []) written.0,
              written.1,
            )
      ]
    ]

reads-three : (name key value option : List ℕ) (r : Record) → with_three name key value option ≡ Some r
    → Reads (name ∷ key ∷ value ∷ option ∷ []) r
reads-three name key value option r e =
    let out = held (bytes_eq name (codes "SET") && bytes_eq option (codes "KEEPTTL"))
    (Some (SetKeeping key value)) r e in
    let names = and_parts (bytes_eq name (codes "SET")) (bytes_eq option (codes "KEEPTTL")) out.0 in
    subst (Reads (name ∷ key ∷ value ∷ option ∷ [])) (found (SetKeeping key value) r out.1) (
      ap (λ n. n ∷ key ∷ value ∷ option ∷ []) (is_named name (codes "SET") names.0)
          ∙ ap (λ o. codes "SET" ∷ key ∷ value ∷ o ∷ []) (is_named option (codes "KEEPTTL") names.1),
      tt,
    )

reads-four : (name key value option number : List ℕ) (r : Record) → with_four name key value option number ≡ Some r
    → Reads (name ∷ key ∷ value ∷ option ∷ number ∷ []) r
reads-four name key value option number r e =
    let out = held (bytes_eq name (codes "SET") && bytes_eq option (codes "PXAT"))
    (option_map (SetUntil key value) (deadline_of number)) r e in
    let names = and_parts (bytes_eq name (codes "SET")) (bytes_eq option (codes "PXAT")) out.0 in
    let map_of = mapped (SetUntil key value) (deadline_of number) r out.1 in
    let written = deadline_of-is number map_of.0 map_of.1 in
    subst (Reads (name ∷ key ∷ value ∷ option ∷ number ∷ [])) map_of.2 (
      ap (λ n. n ∷ key ∷ value ∷ option ∷ number ∷ []) (is_named name (codes "SET") names.0)
          ∙ ap (λ o. codes "SET" ∷ key ∷ value ∷ o ∷ number ∷ []) (is_named option (codes "PXAT") names.1)
          ∙ ap (λ w. codes "SET" ∷ key ∷ value ∷ codes "PXAT" ∷ w ∷ []) written.0,
      written.1,
    )

reads-shaped : (words : List (List ℕ)) (r : Record) → record_shaped words ≡ Some r → Reads words r
reads-shaped [] r e = absurd (cc)
reads-shaped (name ∷ []) r e = reads-alone name r e
reads-shaped (name ∷ key ∷ []) r e = reads-one name key r e
reads-shaped (name ∷ key ∷ word ∷ []) r e = reads-two name key word r e
reads-shaped (name ∷ key ∷ value ∷ option ∷ []) r e = reads-three name key value option r e
reads-shaped (name ∷ key ∷ value ∷ option ∷ number ∷ []) r e = reads-four name key value option number r e
reads-shaped (name ∷ key ∷ value ∷ option ∷ number ∷ other ∷ words) r e = absurd (cc)

short-true : (word : List ℕ) → IsShort word → is_short word ≡ true
short-true word short = le-leb (length word) 16777216 short

short-is : (word : List ℕ) → is_short word ≡ true → IsShort word
short-is word e = leb-true (length word) 16777216 e

-- what is read of words that are read
pub record_of-shaped : (words : List (List ℕ)) (r : Record) → record_of words ≡ Some r
    → (list_all is_short words ≡ true) × (record_shaped words ≡ Some r)
record_of-shaped words r e =
    let out = held (are_within_limits words) (record_shaped words) r e in
    let sized = and_parts (nat_le (length words) 65536)
    (list_all is_short words && nat_le (sum_by length words) 67108864) out.0 in
    ((and_parts (list_all is_short words) (nat_le (sum_by length words) 67108864) sized.1).0, out.1)

pub record_of-only : (words : List (List ℕ)) (r : Record) → record_of words ≡ Some r → words ≡ words_of r
record_of-only words r e = (reads-shaped words r (record_of-shaped words r e).1).0

-- the second word is short where all are, and the third
second : (one two : List ℕ) (words : List (List ℕ)) → list_all is_short (one ∷ two ∷ words) ≡ true → IsShort two
second one two words all =
    short-is two
    (and_parts (is_short two) (list_all is_short words)
    (and_parts (is_short one) (is_short two && list_all is_short words) all).1).0

third : (one two three : List ℕ) (words : List (List ℕ)) → list_all is_short (one ∷ two ∷ three ∷ words) ≡ true
    → IsShort three
third one two three words all = second two three words
    (and_parts (is_short one) (list_all is_short (two ∷ three ∷ words)) all).1

within_limits : (r : Record) → HasDeadline r → list_all is_short (words_of r) ≡ true → IsRecord r
within_limits (Set key value) due all =
    (second (codes "SET") key (value ∷ []) all, third (codes "SET") key value [] all)
within_limits (SetUntil key value deadline) due all = (
  second (codes "SET") key (value ∷ codes "PXAT" ∷ decimal deadline ∷ []) all,
  third (codes "SET") key value (codes "PXAT" ∷ decimal deadline ∷ []) all,
  due,
)
within_limits (SetKeeping key value) due all = (
  second (codes "SET") key (value ∷ codes "KEEPTTL" ∷ []) all,
  third (codes "SET") key value (codes "KEEPTTL" ∷ []) all,
)
within_limits (Del key) due all = second (codes "DEL") key [] all
within_limits (ExpireAt key deadline) due all = (second (codes "PEXPIREAT") key (decimal deadline ∷ []) all, due)
within_limits (Persist key) due all = second (codes "PERSIST") key [] all
within_limits (Rename from to) due all =
    (second (codes "RENAME") from (to ∷ []) all, third (codes "RENAME") from to [] all)
within_limits FlushAll due all = tt

pub record_of-within : (words : List (List ℕ)) (r : Record) → record_of words ≡ Some r → IsRecord r
record_of-within words r e =
    let parts = record_of-shaped words r e in
    let reads = reads-shaped words r parts.1 in
    within_limits r reads.1 (subst (λ ws. list_all is_short ws ≡ true) reads.0 parts.0)

pub length-deadline : (deadline : ℕ) → IsDeadline deadline → length (decimal deadline) ≤ 20
length-deadline deadline fits = length-decimal-le 20 deadline (omega arith) (omega arith) (omega arith)

all-short : (words : List (List ℕ)) → AllByRecursion IsShort words → list_all is_short words ≡ true
all-short [] each = refl
all-short (word ∷ words) each =
    ap (λ b. b && list_all is_short words) (short-true word each.0) ∙ all-short words each.1

within-test : (words : List (List ℕ)) → AreWithinLimits words → are_within_limits words ≡ true
within-test words h =
    ap (λ b. b && (list_all is_short words && nat_le (sum_by length words) 67108864)) (le-leb (length words) 65536 h.few)
    ∙ ap (λ b. b && nat_le (sum_by length words) 67108864) (all-short words h.each)
    ∙ le-leb (sum_by length words) 67108864 h.all

pub words-within : (r : Record) → IsRecord r → AreWithinLimits (words_of r)
words-within (Set key value) h = record { few = omega arith; each = (omega arith, (h.0, (h.1, tt))); all = omega arith }
words-within (SetUntil key value deadline) h =
    let number = length-deadline deadline h.2 in
    record {
      few = omega arith;
      each = (omega arith, (h.0, (h.1, (omega arith, (omega arith, tt)))));
      all = omega arith;
    }
words-within (SetKeeping key value) h = record {
  few = omega arith;
  each = (omega arith, (h.0, (h.1, (omega arith, tt))));
  all = omega arith;
}
words-within (Del key) h = record { few = omega arith; each = (omega arith, (h, tt)); all = omega arith }
words-within (ExpireAt key deadline) h =
    let number = length-deadline deadline h.1 in
    record { few = omega arith; each = (omega arith, (h.0, (omega arith, tt))); all = omega arith }
words-within (Persist key) h = record { few = omega arith; each = (omega arith, (h, tt)); all = omega arith }
words-within (Rename from to) h = record {
  few = omega arith;
  each = (omega arith, (h.0, (h.1, tt)));
  all = omega arith;
}
words-within FlushAll h = record { few = omega arith; each = (omega arith, tt); all = omega arith }

shaped-words : (r : Record) → IsRecord r → record_shaped (words_of r) ≡ Some r
shaped-words (Set key value) h = refl
shaped-words (SetUntil key value deadline) h = ap (option_map (SetUntil key value)) (deadline_of-decimal deadline h.2)
shaped-words (SetKeeping key value) h = refl
shaped-words (Del key) h = refl
shaped-words (ExpireAt key deadline) h = ap (option_map (ExpireAt key)) (deadline_of-decimal deadline h.1)
shaped-words (Persist key) h = refl
shaped-words (Rename from to) h = refl
shaped-words FlushAll h = refl

pub record_of-words : (r : Record) → IsRecord r → record_of (words_of r) ≡ Some r
record_of-words r h =
    ap (λ within. cond within (record_shaped (words_of r)) None) (within-test (words_of r) (words-within r h))
    ∙ shaped-words r h

-- a record that is found is within the limits
pub IsRecord-found : (words : List (List ℕ)) (answer : Option Record) → answer ≡ record_of words
    → IfSome answer IsRecord
IsRecord-found words None is = tt
IsRecord-found words (Some r) is = record_of-within words r (sym is)
