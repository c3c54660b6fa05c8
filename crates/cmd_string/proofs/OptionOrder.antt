-- Options of SET read in another order, and beside one that excludes them.
use Rattle.std.proofs.Common.{◌≡◌, ℕ, Bool, true, false, not, cond, List, [], ◌∷◌, ◌++◌, Option, Some, None, Result, Ok}
use Rattle.std.proofs.Common.{Err, ◌⊎◌, inl, inr, refl, sym, ap, subst, ◌∙◌, append_assoc}
use Rattle.std.specs.Prelude.{ℤ, is_none, codes}
use Rattle.std.specs.Option.{ok_or}
use Rattle.std.specs.Result.{result_ok}
use Rattle.std.specs.Str.{bytes_eq, str_to_ascii_lowercase}
use Rattle.std.proofs.lemmas.Slice.Eq.{bytes_eq-Decides}
use Rattle.cmd_args.specs.declared.refusal.Refusal.{Refusal}
use Rattle.cmd_args.specs.declared.refusal.Refusal.TheVariants.{Syntax}
use Rattle.cmd_rows.specs.declared.times.Expiry.{Expiry}
use Rattle.cmd_rows.specs.declared.times.Expiry.TheVariants.{InSeconds, InMillis, AtSecond, AtMillis}
use Rattle.ks_space.specs.Store.{Store}
use Rattle.cmd_rows.specs.Outcomes.{Outcome, refused, with_found, then_found}
use Rattle.cmd_rows.specs.Numbers.{number}
use Rattle.cmd_string.specs.declared.options.Condition.{Condition}
use Rattle.cmd_string.specs.declared.options.Condition.TheVariants.{IfAbsent, IfThere}
use Rattle.cmd_string.specs.declared.options.Lasting.{Lasting}
use Rattle.cmd_string.specs.declared.options.Lasting.TheVariants.{Keeping, Until}
use Rattle.cmd_string.specs.declared.options.SetOptions.{SetOptions}
use Rattle.cmd_string.specs.declared.options.SetWord.{SetWord}
use Rattle.cmd_string.specs.declared.options.SetWord.TheVariants.{When, Get, Keep, Expire}
use Rattle.cmd_string.specs.declared.options.Reading.{Reading}
use Rattle.cmd_string.specs.Options.{is_word, set_word, expiry_named, with_option, with_words, complete, set_options}
use Rattle.cmd_string.specs.Options.{no_option, getex_change}
use Rattle.cmd_string.specs.OptionLaws.{Spells, SpellsAll, Excludes, AskWhen, AskToGet, AskToLast}
use Rattle.cmd_string.specs.OptionLaws.{SpellsGetExOption}
use Rattle.cmd_string.specs.StringRows.{set_row, getex_row}

-- a word in letters of either case is read as the word
same_word : (word name other : List ℕ) → is_word word name ≡ true → is_word word other ≡ is_word name other
same_word word name other is =
    ap (λ low. bytes_eq low (str_to_ascii_lowercase other))
    ((bytes_eq-Decides (str_to_ascii_lowercase word) (str_to_ascii_lowercase name)).0 is)

pub same_expiry : (word name : List ℕ) → is_word word name ≡ true → expiry_named word ≡ expiry_named name
same_expiry word name is =
    rw (
      same_word word name (codes "EX") is,
      same_word word name (codes "PX") is,
      same_word word name (codes "EXAT") is,
      same_word word name (codes "PXAT") is,
    ) refl

same_option : (word name : List ℕ) → is_word word name ≡ true → set_word word ≡ set_word name
same_option word name is =
    rw (
      same_word word name (codes "NX") is,
      same_word word name (codes "XX") is,
      same_word word name (codes "GET") is,
      same_word word name (codes "KEEPTTL") is,
      same_expiry word name is,
    ) refl

-- whether an option is still to be had, and the options with it
free : SetWord → SetOptions → Bool
free (When condition) options = is_none options.condition
free Get options = not options.get
free Keep options = is_none options.lasting
free (Expire kind) options = is_none options.lasting

put : SetWord → Option ℤ → SetOptions → SetOptions
put (When condition) n options = record options { condition = Some condition }
put Get n options = record options { get = true }
put Keep n options = record options { lasting = Some Keeping }
put (Expire kind) n options = record options { lasting = Some (Until kind n) }

-- what reading goes on with, and what it is refused with
abbrev plain : SetOptions → Reading
plain options = record { options = options; waiting = None }

abbrev no : {X : Type 0} → Result X Refusal
no = Err Syntax

abbrev taken : SetWord → Option ℤ → SetOptions → Result SetOptions Refusal
taken option n options = cond (free option options) (Ok (put option n options)) no

abbrev then_read : List (List ℕ) → SetOptions → Result Reading Refusal
then_read rest options = with_words (plain options) rest

-- the number of an option that has one
number_in : List (List ℕ) → Option ℤ
number_in (word ∷ n ∷ words) = result_ok (number n)
number_in words = None

passed : {X : Type 0} (b : Bool) (options : SetOptions) (next : Reading → Result X Refusal)
    → then_found (cond b (Ok (plain options)) no) next
    ≡ then_found (cond b (Ok options) no) (λ os. next (plain os))
passed true options next = refl
passed false options next = refl

passed_not : {X : Type 0} (b : Bool) (options : SetOptions) (next : Reading → Result X Refusal)
    → then_found (cond b no (Ok (plain options))) next
    ≡ then_found (cond (not b) (Ok options) no) (λ os. next (plain os))
passed_not true options next = refl
passed_not false options next = refl

awaited : (b : Bool) (options : SetOptions) (kind : Expiry) (n : List ℕ) (rest : List (List ℕ))
    → then_found (cond b (Ok (record { options = options; waiting = Some kind })) no)
    (λ more. with_words more (n ∷ rest))
    ≡ then_found (cond b (Ok (record options { lasting = Some (Until kind (result_ok (number n))) })) no)
    (then_read rest)
awaited true options kind n rest = refl
awaited false options kind n rest = refl

-- the words of one option
module _ (options : SetOptions) (rest : List (List ℕ)) where
  named : (word name : List ℕ) → is_word word name ≡ true
      → with_words (plain options) (word ∷ rest)
      ≡ then_found (then_found (ok_or (set_word name) Syntax) (with_option options)) (λ more. with_words more rest)
  named word name is =
      ap (λ s. then_found (then_found (ok_or s Syntax) (with_option options)) (λ more. with_words more rest))
      (same_option word name is)

  numbered : (kind : Expiry) (word name n : List ℕ) → is_word word name ≡ true → set_word name ≡ Some (Expire kind)
      → with_words (plain options) (word ∷ n ∷ rest)
      ≡ then_found (taken (Expire kind) (result_ok (number n)) options) (then_read rest)
  unfolding free put
  numbered kind word name n is names =
      ap (λ s. then_found (then_found (ok_or s Syntax) (with_option options)) (λ more. with_words more (n ∷ rest)))
      (same_option word name is ∙ names)
      ∙ awaited (is_none options.lasting) options kind n rest

  one-read : (option : SetWord) (one : List (List ℕ)) → Spells option one
      → with_words (plain options) (one ++ rest)
      ≡ then_found (taken option (number_in one) options) (then_read rest)
  unfolding free put number_in
  one-read (When IfAbsent) (word ∷ []) is =
      named word (codes "NX") is
      ∙ passed (is_none options.condition) (record options { condition = Some IfAbsent }) (λ more. with_words more rest)
  one-read (When IfThere) (word ∷ []) is =
      named word (codes "XX") is
      ∙ passed (is_none options.condition) (record options { condition = Some IfThere }) (λ more. with_words more rest)
  one-read Get (word ∷ []) is =
      named word (codes "GET") is
      ∙ passed_not options.get (record options { get = true }) (λ more. with_words more rest)
  one-read Keep (word ∷ []) is =
      named word (codes "KEEPTTL") is
      ∙ passed (is_none options.lasting) (record options { lasting = Some Keeping }) (λ more. with_words more rest)
  one-read (Expire InSeconds) (word ∷ n ∷ []) is = numbered InSeconds word (codes "EX") n is refl
  one-read (Expire InMillis) (word ∷ n ∷ []) is = numbered InMillis word (codes "PX") n is refl
  one-read (Expire AtSecond) (word ∷ n ∷ []) is = numbered AtSecond word (codes "EXAT") n is refl
  one-read (Expire AtMillis) (word ∷ n ∷ []) is = numbered AtMillis word (codes "PXAT") n is refl
  one-read option words is = absurd is

-- two options
if-found : {X : Type 0} (b : Bool) (options : SetOptions) (next : SetOptions → Result X Refusal)
    → then_found (cond b (Ok options) no) next ≡ cond b (next options) no
if-found true options next = refl
if-found false options next = refl

if-swap : {X : Type 0} (b c : Bool) (x : Result X Refusal) → cond b (cond c x no) no ≡ cond c (cond b x no) no
if-swap true true x = refl
if-swap true false x = refl
if-swap false true x = refl
if-swap false false x = refl

if-no : {X : Type 0} (b c : Bool) → ◌≡◌ {A = Result X Refusal} (cond b no no) (cond c no no)
if-no true true = refl
if-no true false = refl
if-no false true = refl
if-no false false = refl

module _ {X : Type 0} (m n : Option ℤ) (options : SetOptions) (next : SetOptions → Result X Refusal) where
  abbrev both : SetWord → SetWord → Option ℤ → Option ℤ → Result X Refusal
  both one other k l = cond (free one options) (cond (free other (put one k options))
      (next (put other l (put one k options))) no) no

  both-swap : (one other : SetWord) → both one other m n ≡ both other one n m
  unfolding free put
  both-swap (When a) (When b) = if-no (is_none options.condition) (is_none options.condition)
  both-swap (When a) Get = if-swap (is_none options.condition) (not options.get) _
  both-swap (When a) Keep = if-swap (is_none options.condition) (is_none options.lasting) _
  both-swap (When a) (Expire b) = if-swap (is_none options.condition) (is_none options.lasting) _
  both-swap Get (When b) = if-swap (not options.get) (is_none options.condition) _
  both-swap Get Get = if-no (not options.get) (not options.get)
  both-swap Get Keep = if-swap (not options.get) (is_none options.lasting) _
  both-swap Get (Expire b) = if-swap (not options.get) (is_none options.lasting) _
  both-swap Keep (When b) = if-swap (is_none options.lasting) (is_none options.condition) _
  both-swap Keep Get = if-swap (is_none options.lasting) (not options.get) _
  both-swap Keep Keep = if-no (is_none options.lasting) (is_none options.lasting)
  both-swap Keep (Expire b) = if-no (is_none options.lasting) (is_none options.lasting)
  both-swap (Expire a) (When b) = if-swap (is_none options.lasting) (is_none options.condition) _
  both-swap (Expire a) Get = if-swap (is_none options.lasting) (not options.get) _
  both-swap (Expire a) Keep = if-no (is_none options.lasting) (is_none options.lasting)
  both-swap (Expire a) (Expire b) = if-no (is_none options.lasting) (is_none options.lasting)

  both-taken : (one other : SetWord) (k l : Option ℤ)
      → then_found (taken one k options) (λ os. then_found (taken other l os) next) ≡ both one other k l
  both-taken one other k l =
      if-found (free one options) (put one k options) (λ os. then_found (taken other l os) next)
      ∙ ap (λ r. cond (free one options) r no)
      (if-found (free other (put one k options)) (put other l (put one k options)) next)

  taken-swap : (one other : SetWord)
      → then_found (taken one m options) (λ os. then_found (taken other n os) next)
      ≡ then_found (taken other n options) (λ os. then_found (taken one m os) next)
  taken-swap one other = both-taken one other m n ∙ both-swap one other ∙ sym (both-taken other one n m)

-- an option that was had once is not to be had again, nor one that it excludes
stays-taken : (option other : SetWord) (n : Option ℤ) (options : SetOptions) → free other options ≡ false
    → free other (put option n options) ≡ false
unfolding free put
stays-taken (When a) (When b) n options taken = refl
stays-taken (When a) Get n options taken = taken
stays-taken (When a) Keep n options taken = taken
stays-taken (When a) (Expire b) n options taken = taken
stays-taken Get (When b) n options taken = taken
stays-taken Get Get n options taken = refl
stays-taken Get Keep n options taken = taken
stays-taken Get (Expire b) n options taken = taken
stays-taken Keep (When b) n options taken = taken
stays-taken Keep Get n options taken = taken
stays-taken Keep Keep n options taken = refl
stays-taken Keep (Expire b) n options taken = refl
stays-taken (Expire a) (When b) n options taken = taken
stays-taken (Expire a) Get n options taken = taken
stays-taken (Expire a) Keep n options taken = refl
stays-taken (Expire a) (Expire b) n options taken = refl

excluded : (option other : SetWord) (n : Option ℤ) (options : SetOptions) → Excludes option other
    → free other (put option n options) ≡ false
unfolding free put
excluded (When a) (When b) n options is = refl
excluded Get Get n options is = refl
excluded Keep Keep n options is = refl
excluded Keep (Expire b) n options is = refl
excluded (Expire a) Keep n options is = refl
excluded (Expire a) (Expire b) n options is = refl
excluded _ _ n options is = absurd is

-- a series of options: they are refused, or what is had before them is had behind them too
record Read (options : SetOptions) (words : List (List ℕ)) : Type 0 where
  found : Result SetOptions Refusal
  found_is : (rest : List (List ℕ)) → with_words (plain options) (words ++ rest) ≡ then_found found (then_read rest)
  keeps : (found ≡ no) ⊎ ((more : SetOptions) × (found ≡ Ok more)
      × ((option : SetWord) → free option options ≡ false → free option more ≡ false))

read-first : (option : SetWord) (one rest : List (List ℕ)) (options : SetOptions) → Spells option one
    → ((more : SetOptions) → Read more rest) → Read options (one ++ rest)
read-first option one rest options is more = by_free (free option options) refl
  where
    n : Option ℤ
    n = number_in one

    later : Read (put option n options) rest
    later = more (put option n options)

    kept : (later.found ≡ no) ⊎ ((os : SetOptions) × (later.found ≡ Ok os)
        × ((other : SetWord) → free other (put option n options) ≡ false → free other os ≡ false))
        → (later.found ≡ no) ⊎ ((os : SetOptions) × (later.found ≡ Ok os)
        × ((other : SetWord) → free other options ≡ false → free other os ≡ false))
    kept (inl fails) = inl fails
    kept (inr there) = inr (there.0, there.1, λ other had. there.2 other (stays-taken option other n options had))

    front : (behind : List (List ℕ)) → with_words (plain options) (one ++ rest ++ behind)
        ≡ then_found (taken option n options) (then_read (rest ++ behind))
    front behind =
        ap (with_words (plain options)) (append_assoc one rest behind) ∙ one-read options (rest ++ behind) option one is

    by_free : (b : Bool) → free option options ≡ b → Read options (one ++ rest)
    by_free false had = record {
      found = no;
      found_is = λ behind.
          front behind ∙ ap (λ b. then_found (cond b (Ok (put option n options)) no) (then_read (rest ++ behind))) had;
      keeps = inl refl;
    }
    by_free true had = record {
      found = later.found;
      found_is = λ behind.
          front behind ∙ ap (λ b. then_found (cond b (Ok (put option n options)) no) (then_read (rest ++ behind))) had
          ∙ later.found_is behind;
      keeps = kept later.keeps;
    }

all-read : (series : List SetWord) (words : List (List ℕ)) (options : SetOptions) → SpellsAll series words
    → Read options words
all-read [] words options is =
    subst (Read options) (sym is) (record {
      found = Ok options;
      found_is = λ rest. refl;
      keeps = inr (options, refl, λ option had. had);
    })
all-read (option ∷ series) words options is =
    subst (Read options) (sym is.2) (read-first option is.0 is.1 options is.3
    (λ more. all-read series is.1 more is.4))

-- neighbors that change places
then-same : {X Y : Type 0} (found : Result X Refusal) (one other : X → Result Y Refusal)
    → ((x : X) → one x ≡ other x) → then_found found one ≡ then_found found other
then-same (Ok x) one other same = same x
then-same (Err why) one other same = refl

then-then : {X Y Z : Type 0} (found : Result X Refusal) (one : X → Result Y Refusal) (other : Y → Result Z Refusal)
    → then_found (then_found found one) other ≡ then_found found (λ x. then_found (one x) other)
then-then (Ok x) one other = refl
then-then (Err why) one other = refl

pairs-read : (options : SetOptions) (first second : SetWord) (one other behind : List (List ℕ)) → Spells first one
    → Spells second other
    → with_words (plain options) (one ++ (other ++ behind))
    ≡ then_found (taken first (number_in one) options)
    (λ os. then_found (taken second (number_in other) os) (then_read behind))
pairs-read options first second one other behind is second_is =
    one-read options (other ++ behind) first one is
    ∙ then-same (taken first (number_in one) options) _ _ (λ os. one-read os behind second other second_is)

pub swapped : (series : List SetWord) (first second : SetWord) (before one other behind : List (List ℕ))
    → SpellsAll series before → Spells first one → Spells second other
    → set_options (before ++ one ++ other ++ behind) ≡ set_options (before ++ other ++ one ++ behind)
swapped series first second before one other behind all is second_is =
    let read = all-read series before no_option.options all in
    ap set_options (in_series before one other behind)
    ∙ ap (λ r. then_found r complete) (read.found_is (one ++ (other ++ behind))
    ∙ then-same read.found _ _ (λ os.
    pairs-read os first second one other behind is second_is
    ∙ taken-swap (number_in one) (number_in other) os (then_read behind) first second
    ∙ sym (pairs-read os second first other one behind second_is is))
    ∙ sym (read.found_is (other ++ (one ++ behind))))
    ∙ sym (ap set_options (in_series before other one behind))
  where
    in_series : (a b c d : List (List ℕ)) → a ++ b ++ c ++ d ≡ a ++ (b ++ (c ++ d))
    in_series a b c d = append_assoc (a ++ b) c d ∙ append_assoc a b (c ++ d)

-- one that excludes another
module _ (second : SetWord) (other behind : List (List ℕ)) (second_is : Spells second other) where
  refused-here : (options : SetOptions) → free second options ≡ false
      → with_words (plain options) (other ++ behind) ≡ no
  refused-here options had =
      one-read options behind second other second_is
      ∙ ap (λ b. then_found (cond b (Ok (put second (number_in other) options)) no) (then_read behind)) had

  refused-behind : (options : SetOptions) (series : List SetWord) (between : List (List ℕ)) → SpellsAll series between
      → free second options ≡ false → with_words (plain options) (between ++ (other ++ behind)) ≡ no
  refused-behind options series between all had = by_read read.keeps
    where
      read : Read options between
      read = all-read series between options all

      by_read : (read.found ≡ no) ⊎ ((more : SetOptions) × (read.found ≡ Ok more)
          × ((option : SetWord) → free option options ≡ false → free option more ≡ false))
          → with_words (plain options) (between ++ (other ++ behind)) ≡ no
      by_read (inl fails) =
          read.found_is (other ++ behind) ∙ ap (λ r. then_found r (then_read (other ++ behind))) fails
      by_read (inr there) =
          read.found_is (other ++ behind) ∙ ap (λ r. then_found r (then_read (other ++ behind))) there.1
          ∙ refused-here there.0 (there.2 second had)

  refused-both : (options : SetOptions) (series : List SetWord) (first : SetWord) (one between : List (List ℕ))
      → Spells first one → SpellsAll series between → Excludes first second
      → with_words (plain options) (one ++ (between ++ (other ++ behind))) ≡ no
  refused-both options series first one between is all exclude =
      one-read options (between ++ (other ++ behind)) first one is ∙ by_free (free first options)
    where
      n : Option ℤ
      n = number_in one

      by_free : (b : Bool)
          → then_found (cond b (Ok (put first n options)) no) (then_read (between ++ (other ++ behind))) ≡ no
      by_free true =
          refused-behind (put first n options) series between all (excluded first second n options exclude)
      by_free false = refl

pub excluding : (series others : List SetWord) (first second : SetWord)
    (before one between other behind : List (List ℕ)) → SpellsAll series before → Spells first one
    → SpellsAll others between → Spells second other → Excludes first second
    → set_options (before ++ one ++ between ++ other ++ behind) ≡ no
excluding series others first second before one between other behind all is all_between second_is exclude =
    ap set_options in_series
    ∙ ap (λ r. then_found r complete) (read.found_is rest ∙ by_read read.keeps)
  where
    rest : List (List ℕ)
    rest = one ++ (between ++ (other ++ behind))

    in_series : before ++ one ++ between ++ other ++ behind ≡ before ++ rest
    in_series = append_assoc (before ++ one ++ between) other behind
        ∙ append_assoc (before ++ one) between (other ++ behind)
        ∙ append_assoc before one (between ++ (other ++ behind))

    read : Read no_option.options before
    read = all-read series before no_option.options all

    by_read : (read.found ≡ no) ⊎ ((more : SetOptions) × (read.found ≡ Ok more)
        × ((option : SetWord) → free option no_option.options ≡ false → free option more ≡ false))
        → then_found read.found (then_read rest) ≡ no
    by_read (inl fails) = ap (λ r. then_found r (then_read rest)) fails
    by_read (inr there) =
        ap (λ r. then_found r (then_read rest)) there.1
        ∙ refused-both second other behind second_is there.0 others first one between is all_between exclude

-- options that do not exclude one another
when-read : (condition : Option Condition) (one rest : List (List ℕ)) → AskWhen condition one
    → with_words no_option (one ++ rest)
    ≡ with_words (plain (record no_option.options { condition = condition })) rest
unfolding free put
when-read None one rest is = ap (λ words. with_words no_option (words ++ rest)) is
when-read (Some condition) one rest is = one-read no_option.options rest (When condition) one is

get-read : (condition : Option Condition) (get : Bool) (other rest : List (List ℕ)) → AskToGet get other
    → with_words (plain (record no_option.options { condition = condition })) (other ++ rest)
    ≡ with_words (plain (record { condition = condition; get = get; lasting = None })) rest
unfolding free put
get-read condition false other rest is =
    ap (λ words. with_words (plain (record no_option.options { condition = condition })) (words ++ rest)) is
get-read condition true other rest is =
    one-read (record no_option.options { condition = condition }) rest Get other is

last-read : (condition : Option Condition) (get : Bool) (lasting : Option Lasting) (last : List (List ℕ))
    → AskToLast lasting last
    → with_words (plain (record { condition = condition; get = get; lasting = None })) last
    ≡ Ok (plain (record { condition = condition; get = get; lasting = lasting }))
unfolding free put number_in
last-read condition get None last is =
    ap (with_words (plain (record { condition = condition; get = get; lasting = None }))) is
last-read condition get (Some Keeping) (word ∷ []) is =
    one-read (record { condition = condition; get = get; lasting = None }) [] Keep (word ∷ []) is
last-read condition get (Some (Until kind n)) (word ∷ digits ∷ []) is =
    one-read (record { condition = condition; get = get; lasting = None }) [] (Expire kind) (word ∷ digits ∷ []) is.0
    ∙ ap (λ m. Ok (plain (record { condition = condition; get = get; lasting = Some (Until kind m) }))) (sym is.1)
last-read condition get (Some lasting) last is = absurd is

pub together : (condition : Option Condition) (get : Bool) (lasting : Option Lasting) (one other last : List (List ℕ))
    → AskWhen condition one → AskToGet get other → AskToLast lasting last
    → set_options (one ++ other ++ last) ≡ Ok (record { condition = condition; get = get; lasting = lasting })
together condition get lasting one other last when gets lasts =
    ap (λ r. then_found r complete)
    (ap (with_words no_option) (append_assoc one other last) ∙ when-read condition one (other ++ last) when
    ∙ get-read condition get other last gets ∙ last-read condition get lasting last lasts)

-- so the row is the same, or refused
same-found : {X : Type 0} (one other : Result X Refusal) (row : X → Outcome) → one ≡ other
    → with_found one row ≡ with_found other row
same-found one other row is = ap (λ found. with_found found row) is

module _ (store : Store) (now : ℕ) (key value : List ℕ) where
  pub set-same : (one other : List (List ℕ)) → set_options one ≡ set_options other
      → set_row store now key value one ≡ set_row store now key value other
  set-same one other is = same-found (set_options one) (set_options other) _ is

  pub set-refused : (words : List (List ℕ)) → set_options words ≡ no
      → set_row store now key value words ≡ refused Syntax
  set-refused words is = same-found (set_options words) no _ is

-- two options of GETEX
refused-then : {X Y : Type 0} (found : Result X Refusal) (next : X → Result Y Refusal) → found ≡ no
    → then_found found next ≡ no
refused-then found next is = ap (λ f. then_found f next) is

two-options : (now : ℕ) (one other behind : List (List ℕ)) → SpellsGetExOption one → SpellsGetExOption other
    → getex_change now (one ++ other ++ behind) ≡ no
two-options now [] other behind is also = absurd is
two-options now (word ∷ []) [] behind is also = absurd also
two-options now (word ∷ []) (next ∷ []) [] is also =
    refused-then (ok_or (expiry_named word) Syntax) _
    (ap (λ kind. ok_or kind Syntax) (same_expiry word (codes "PERSIST") is))
two-options now (word ∷ []) (next ∷ []) (third ∷ behind) is also = refl
two-options now (word ∷ []) (next ∷ n ∷ []) behind is also = refl
two-options now (word ∷ []) (next ∷ n ∷ third ∷ other) behind is also = absurd also
two-options now (word ∷ m ∷ []) [] behind is also = absurd also
two-options now (word ∷ m ∷ []) (next ∷ other) behind is also = refl
two-options now (word ∷ m ∷ third ∷ one) other behind is also = absurd is

pub getex-refused : (store : Store) (now : ℕ) (key : List ℕ) (one other behind : List (List ℕ)) → SpellsGetExOption one
    → SpellsGetExOption other → getex_row store now key (one ++ other ++ behind) ≡ refused Syntax
getex-refused store now key one other behind is also =
    same-found (getex_change now (one ++ other ++ behind)) no _ (two-options now one other behind is also)
