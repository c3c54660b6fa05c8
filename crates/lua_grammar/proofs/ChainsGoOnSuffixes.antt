-- How suffixes go on that a reader gets stuck in.
use Rattle.std.proofs.Common.{◌≡◌, ◌⊎◌, inl, inr, ℕ, suc, ◌<◌, ◌≤◌, Bool, true, false, List, [], ◌∷◌, ◌++◌, length}
use Rattle.std.proofs.Common.{refl, sym, ap, subst, arith}
use Rattle.std.proofs.Math.Nat.{eq-or-lt_of_le}
use Rattle.std.proofs.lemmas.List.{append_assoc}
use Rattle.lua_lex.specs.declared.kinds.TokenKind.TheVariants as kind
use Rattle.lua_grammar.specs.declared.kinds.SyntaxKind.{SyntaxKind}
use Rattle.lua_grammar.specs.declared.kinds.SyntaxKind.TheVariants as fault
use Rattle.lua_grammar.specs.declared.context.Context.{Context}
use Rattle.lua_grammar.specs.declared.words.Word.{Word}
use Rattle.lua_grammar.specs.declared.expressions.Suffix.{Suffix}
use Rattle.lua_grammar.specs.Words.{begins_suffix}
use Rattle.lua_grammar.specs.Positions as at
use Rattle.lua_grammar.specs.Positions.{Position, Sees, IsNear}
use Rattle.lua_grammar.specs.Contexts.{Rules, every_rule, IsShort}
use Rattle.lua_grammar.specs.Stops.{rank}
use Rattle.lua_grammar.specs.Things as thing
use Rattle.lua_grammar.specs.Things.{Thing}
use Rattle.lua_grammar.specs.Grammar as by
use Rattle.lua_grammar.specs.Grammar.{Spelled}
use Rattle.lua_grammar.specs.Classes as class
use Rattle.lua_grammar.specs.Classes.{Sought}
use Rattle.lua_grammar.specs.Productions.{HasLevel}
use Rattle.lua_grammar.specs.Stuck.{IsFull, IsNearCall, HasCount, nests_suffix, begins_call, counted}
use Rattle.lua_grammar.proofs.Continuations.{Mode, Goal, GoesOn, SuffixesGoOn, EndsOperand, EndsInKey, EndIn, instead}
use Rattle.lua_grammar.proofs.Continuations.{lead}
use Rattle.lua_grammar.proofs.Instead.{words_from, kind_shown}
use Rattle.lua_grammar.proofs.Least.{word_of, next_words, takes_front, takes_front_name, no_suffixes}
use Rattle.lua_grammar.proofs.Carry.{carry}
use Rattle.lua_grammar.proofs.Kept.{suffix_kept, suffix_ends, end_in_more}
use Rattle.lua_grammar.proofs.Modes.{within, last_word, unasked, given, short, room}
use Rattle.lua_grammar.proofs.ChainsGoOnLeaves.{Allowed, suffix_leaf}
use Rattle.lua_grammar.proofs.Rooms.{nested_suffixes_begin}

-- ---- a field behind

-- . Name
abbrev pub member_words : List Word
member_words = word_of kind.Dot ∷ word_of kind.Name ∷ []

pub regrouped : {rules : Rules} {c : Context} {x : Thing} (n : ℕ) (a b t : List Word) (i : Position) {j : Position}
    → Spelled rules c x (instead n (a ++ (b ++ t)) i) j → Spelled rules c x (instead n ((a ++ b) ++ t) i) j
regrouped {rules} {c} {x} n a b t i {j} s =
    subst (λ (words : List Word). Spelled rules c x (instead n words i) j) (sym (append_assoc a b t)) s

-- a field ends suffixes
pub member_last : (rules : Rules) (c : Context) (i : Position) (t : List Word) → IsShort rules i.suffixes
    → i.words ≡ member_words ++ t
    → EndsOperand (lead t) → (all : List Suffix) × (j : Position) × Spelled rules c (thing.suffixes all) i j
    × (j.words ≡ t) × EndsInKey all
member_last rules c i t allowed e ends =
    let from : Position = counted i in
    let name = at.next from in
    let behind = next_words from e in
    let end = next_words name behind in
    let x = by.member (takes_front from e) (takes_front_name name behind refl) in (
      _,
      at.next name,
      by.more_suffixes allowed (record { counted = refl }) x (no_suffixes (at.next name) end ends),
      end,
      ([], _, refl),
    )

-- ---- behind a suffix that goes on

-- the count allows a suffix, and another behind it where one has to follow
abbrev pub MayCount : Rules → Sought → Position → Type 0
MayCount rules class.target i = IsShort rules i.suffixes
    × (begins_call (at.kind i) ≡ true → IsShort rules (suc i.suffixes))
MayCount rules sought i = IsShort rules i.suffixes

pub may_count : (rules : Rules) (sought : Sought) (i : Position) → HasCount sought i → MayCount rules sought i
may_count rules class.anything i h = short rules i.suffixes h
may_count rules class.front i h = short rules i.suffixes h
may_count rules class.target i (h, more) =
    (short rules i.suffixes h, λ call. short rules (suc i.suffixes) (omega (arith, more call)))

pub one_counts : (rules : Rules) (sought : Sought) (i : Position) → MayCount rules sought i → IsShort rules i.suffixes
one_counts rules class.anything i h = h
one_counts rules class.front i h = h
one_counts rules class.target i (h, more) = h

-- the suffix alone
one_goes_on : (rules : Rules) (c : Context) (n : ℕ) (i : Position) → IsShort rules i.suffixes → n < length i.words
    → GoesOn rules c class.suffix n (counted i) → SuffixesGoOn rules c (begins_call (at.kind i)) n i
one_goes_on rules c n i allowed less goes t ends =
    let (more, j, (s, x), behind) = goes t (λ s. tt) in
    let words = more ++ t in
    let seen = kind_shown (counted i) {n = n} {words = words} (inl less) in (
      more,
      s ∷ [],
      j,
      by.more_suffixes allowed (record { counted = refl }) x (no_suffixes j behind ends),
      behind,
      subst (λ (b : Bool). EndIn b (s ∷ [])) (ap begins_call seen) (suffix_ends x),
    )

-- a field behind the suffix
two_go_on : (rules : Rules) (c : Context) (n : ℕ) (i : Position) → IsShort rules i.suffixes
    → IsShort rules (suc i.suffixes)
    → GoesOn rules c class.suffix n (counted i) → SuffixesGoOn rules c false n i
two_go_on rules c n i allowed allowed' goes t ends =
    let (more, j, (s, x), behind) = goes (member_words ++ t) (λ s. tt) in
    let count : IsShort rules j.suffixes = subst (λ (k : ℕ). IsShort rules k) (sym (suffix_kept x)) allowed' in
    let (all, k, xs, end, is_key) = member_last rules c j t count behind ends in (
      more ++ member_words,
      s ∷ all,
      k,
      regrouped n more member_words t i (by.more_suffixes allowed (record { counted = refl }) x xs),
      end,
      end_in_more false s all is_key,
    )

sought_go_on : (rules : Rules) (c : Context) (n : ℕ) (i : Position) (call : Bool) → begins_call (at.kind i) ≡ call
    → IsShort rules i.suffixes
    → (call ≡ true → IsShort rules (suc i.suffixes)) → GoesOn rules c class.suffix n (counted i)
    → SuffixesGoOn rules c (begins_call (at.kind i)) n i → SuffixesGoOn rules c false n i
sought_go_on rules c n i true is allowed allowed' goes one = two_go_on rules c n i allowed (allowed' refl) goes
sought_go_on rules c n i false is allowed allowed' goes one =
    subst (λ (call : Bool). SuffixesGoOn rules c call n i) is one

pub last_suffix : (rules : Rules) (c : Context) (sought : Sought) (n : ℕ) (i : Position) → MayCount rules sought i
    → n < length i.words → GoesOn rules c class.suffix n (counted i) → Goal rules c (class.suffixes sought) n i
last_suffix rules c class.anything n i allowed less goes =
    λ t follows.
    let (more, all, j, xs, behind, end) = one_goes_on rules c n i allowed less goes t (follows ([], tt)) in
    (more, j, ((all, tt), xs), behind)
last_suffix rules c class.front n i allowed less goes =
    (begins_call (at.kind i), one_goes_on rules c n i allowed less goes)
last_suffix rules c class.target n i (allowed, allowed') less goes =
    sought_go_on rules c n i (begins_call (at.kind i)) refl allowed allowed' goes
    (one_goes_on rules c n i allowed less goes)

-- ---- each way to get stuck

pub suffix_goes_on : {f : SyntaxKind} (c : Context) (sought : Sought) (i : Position) {z : Position} → HasCount sought i
    → {rules : Rules} {n : ℕ} → Mode f z rules n → n < length i.words → GoesOn rules c class.suffix n (counted i)
    → Goal rules c (class.suffixes sought) n i
suffix_goes_on c sought i count {rules} {n} mode less goes =
    last_suffix rules c sought n i (may_count rules sought i count) less goes

-- the first word of a suffix is at fault
leaf : (rules : Rules) (c : Context) (sought : Sought) (n : ℕ) (i : Position) → suc n ≡ length i.words
    → begins_suffix (at.kind i) ≡ true
    → Allowed rules c (at.kind i) i → MayCount rules sought i → Goal rules c (class.suffixes sought) n i
leaf rules c sought n i e begins allowed count =
    last_suffix rules c sought n i count (omega (arith, e)) (suffix_leaf rules c n (counted i) e begins allowed)

-- where the count is not looked for
uncounted : {f : SyntaxKind} {rules : Rules} {n : ℕ} (sought : Sought) (i : Position) → Mode f i rules n
    → n < length i.words → rank f ≤ 3
    → MayCount rules sought i
uncounted class.anything i mode less le = unasked (i.suffixes < 1000) mode less fault.TooLong le
uncounted class.front i mode less le = unasked (i.suffixes < 1000) mode less fault.TooLong le
uncounted class.target i mode less le = (
  unasked (i.suffixes < 1000) mode less fault.TooLong le,
  λ _. unasked (suc i.suffixes < 1000) mode less
      fault.TooLong le,
)

pub suffix_line_goes_on : (c : Context) (sought : Sought) (i : Position) → Sees kind.LeftParen i → (IsNear i → ⊥)
    → {rules : Rules} {n : ℕ}
    → Mode fault.Ambiguous i rules n → n < length i.words → Goal rules c (class.suffixes sought) n i
suffix_line_goes_on c sought i s far {rules} {n} mode less =
    leaf rules c sought n i (last_word mode less) (ap begins_suffix s) (
      λ _. unasked (IsNear i) mode less fault.Ambiguous (omega arith),
      λ _. unasked (c.level < 60) mode less fault.TooDeep (omega arith),
    )
    (uncounted sought i mode less (omega arith))

pub suffix_level_goes_on : (c : Context) (sought : Sought) (i : Position) → nests_suffix (at.kind i) ≡ true
    → IsNearCall i → IsFull c
    → {rules : Rules} {n : ℕ} → Mode fault.TooDeep i rules n → n < length i.words
    → Goal rules c (class.suffixes sought) n i
suffix_level_goes_on c sought i nests near full {rules} {n} mode less =
    leaf rules c sought n i (last_word mode less) (nested_suffixes_begin (at.kind i) nests)
    (λ s. given (rules fault.Ambiguous) (near s), λ _. unasked (c.level < 60) mode less fault.TooDeep (omega arith))
    (uncounted sought i mode less (omega arith))

pub suffix_count_goes_on : (c : Context) (sought : Sought) (i : Position) → begins_suffix (at.kind i) ≡ true
    → IsNearCall i
    → (nests_suffix (at.kind i) ≡ true → HasLevel c) → (HasCount sought i → ⊥) → {rules : Rules} {n : ℕ}
    → Mode fault.TooLong i rules n → n < length i.words → Goal rules c (class.suffixes sought) n i
suffix_count_goes_on c sought i begins near level many {rules} {n} mode less =
    leaf rules c sought n i (last_word mode less) begins (
      λ s. given (rules fault.Ambiguous) (near s),
      λ nests. room rules (level nests),
    )
    (uncounted sought i mode less (omega arith))

-- ---- behind a suffix that was read

-- it goes on with those behind it
suffixes_inside : (rules : Rules) (c : Context) (sought : Sought) (n : ℕ) (i j : Position) (s : Suffix)
    → IsShort rules i.suffixes → ((words : List Word)
    → Spelled rules c (thing.suffix s) (instead n words (counted i)) (instead n words j))
    → Goal rules c (class.suffixes sought) n j → Goal rules c (class.suffixes sought) n i
suffixes_inside rules c class.anything n i j s allowed x goes =
    λ t follows.
    let (more, k, (all, xs), behind) = goes t (λ y. follows y) in
    (more, k, ((s ∷ all.0, tt), by.more_suffixes allowed (record { counted = refl }) (x (more ++ t)) xs), behind)
suffixes_inside rules c class.front n i j s allowed x (call, goes) = (
  call,
  λ t ends.
      let (more, all, k, xs, behind, end) = goes t ends in (
        more,
        s ∷ all,
        k,
        by.more_suffixes allowed (record { counted = refl }) (x (more ++ t)) xs,
        behind,
        end_in_more call s all end,
      ),
)
suffixes_inside rules c class.target n i j s allowed x goes =
    λ t ends.
    let (more, all, k, xs, behind, end) = goes t ends in (
      more,
      s ∷ all,
      k,
      by.more_suffixes allowed (record { counted = refl }) (x (more ++ t)) xs,
      behind,
      end_in_more false s all end,
    )

pub suffixes_go_on : {f : SyntaxKind} (c : Context) (sought : Sought) {s : Suffix} (i : Position) {j z : Position}
    → HasCount sought i → Spelled every_rule c (thing.suffix s) (counted i) j
    → {rules : Rules} {n : ℕ} → Mode f z rules n → length z.words ≤ length j.words → n < length i.words
    → (n < length j.words → Goal rules c (class.suffixes sought) n j) → Goal rules c (class.suffixes sought) n i
suffixes_go_on c sought {s} i {j} count x {rules} {n} mode le less goes =
    by_cases (eq-or-lt_of_le left)
  where
    left : n ≤ length j.words
    left = omega (arith, within mode, le)

    at_last : n ≡ length j.words → GoesOn rules c class.suffix n (counted i)
    at_last is t follows = ([], instead n t j, (s, carry x rules n t left (inr tt)), words_from j is)

    by_cases : (n ≡ length j.words) ⊎ (n < length j.words) → Goal rules c (class.suffixes sought) n i
    by_cases (inr more) =
        suffixes_inside rules c sought n i j s (one_counts rules sought i (may_count rules sought i count))
        (λ words. carry x rules n words left (inr tt)) (goes more)
    by_cases (inl is) = last_suffix rules c sought n i (may_count rules sought i count) less (at_last is)
