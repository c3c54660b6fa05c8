-- How a head, a suffix or arguments go on whose first word is at fault.
use Rattle.std.proofs.Common.{◌≡◌, inl, ℕ, suc, ◌<◌, Bool, true, false, List, [], ◌∷◌, ◌++◌, length, Option, Some, refl}
use Rattle.std.proofs.Common.{ap, ◌∙◌, arith}
use Rattle.lua_lex.specs.declared.kinds.TokenKind.{TokenKind}
use Rattle.lua_lex.specs.declared.kinds.TokenKind.TheVariants as kind
use Rattle.lua_grammar.specs.declared.kinds.SyntaxKind.TheVariants as fault
use Rattle.lua_grammar.specs.declared.context.Context.{Context}
use Rattle.lua_grammar.specs.declared.words.Word.{Word}
use Rattle.lua_grammar.specs.Words.{begins_suffix}
use Rattle.lua_grammar.specs.Positions as at
use Rattle.lua_grammar.specs.Positions.{Position, Takes, Sees, IsNear}
use Rattle.lua_grammar.specs.Contexts.{Rules, Kept, HasRoom}
use Rattle.lua_grammar.specs.Grammar as by
use Rattle.lua_grammar.specs.Classes as class
use Rattle.lua_grammar.specs.Productions.{begins_arguments, begins_chain}
use Rattle.lua_grammar.specs.Stuck.{IsFull, IsNearCall, nests_suffix}
use Rattle.lua_grammar.proofs.Continuations.{Mode, GoesOn, instead}
use Rattle.lua_grammar.proofs.Instead.{kind_shown, line_shown, behind_word}
use Rattle.lua_grammar.proofs.Least.{word_of, name_words, front_kind, next_words, takes_front, takes_front_name}
use Rattle.lua_grammar.proofs.Least.{nil_expression, text_arguments, ReadsTo}
use Rattle.lua_grammar.proofs.Modes.{last_word, all_seen, unasked, given}

pub seen_kind : (n : ℕ) (words : List Word) (i : Position) → suc n ≡ length i.words
    → at.kind (instead n words i) ≡ at.kind i
seen_kind n words i e = kind_shown i {n = n} {words = words} (inl (omega (arith, e)))

-- ---- the shortest words behind the first

abbrev pub arguments_rest : Option TokenKind → List Word
arguments_rest (Some kind.LeftParen) = word_of kind.RightParen ∷ []
arguments_rest (Some kind.LeftBrace) = word_of kind.RightBrace ∷ []
arguments_rest _ = []

-- what is asked of the first word of arguments, or of a suffix, and of its level
abbrev pub Allowed : Rules → Context → Option TokenKind → Position → Type 0
Allowed rules c w i = (w ≡ Some kind.LeftParen → Kept (rules fault.Ambiguous) (IsNear i))
    × (nests_suffix w ≡ true → HasRoom rules c)

arguments_done : (rules : Rules) (c : Context) (i : Position) (t : List Word) (w : Option TokenKind) → at.kind i ≡ w
    → begins_arguments w ≡ true
    → (at.next i).words ≡ arguments_rest w ++ t → Allowed rules c w i → ReadsTo rules c class.arguments i t
arguments_done rules c i t (Some kind.LeftParen) s h e (near, room) = (
  at.next (at.next i),
  (
    [],
    by.no_arguments (record { seen = s; taken = refl }) (near refl) (room refl)
        (takes_front (at.next i) e),
  ),
  next_words (at.next i) e,
)
arguments_done rules c i t (Some kind.LeftBrace) s h e (near, room) =
    let table = by.constructor (record { seen = s; taken = refl }) (room refl) (by.no_fields (front_kind (at.next i) e))
    (takes_front (at.next i) e) in
    (at.next (at.next i), (_, by.table_argument table), next_words (at.next i) e)
arguments_done rules c i t (Some kind.Text) s h e allowed =
    (at.next i, (_, by.text_argument (record { seen = s; number_is = refl; taken = refl })), e)
arguments_done rules c i t w s h e allowed = absurd (cc)

abbrev pub suffix_rest : Option TokenKind → List Word
suffix_rest (Some kind.Dot) = name_words
suffix_rest (Some kind.LeftBracket) = word_of kind.Nil ∷ word_of kind.RightBracket ∷ []
suffix_rest (Some kind.Colon) = word_of kind.Name ∷ word_of kind.Text ∷ []
suffix_rest w = arguments_rest w

called : {rules : Rules} {c : Context} (i : Position) (t : List Word) → ReadsTo rules c class.arguments i t
    → ReadsTo rules c class.suffix i t
called i t (j, (es, x), behind) = (j, (_, by.call x), behind)

suffix_done : (rules : Rules) (c : Context) (i : Position) (t : List Word) (w : Option TokenKind) → at.kind i ≡ w
    → begins_suffix w ≡ true
    → (at.next i).words ≡ suffix_rest w ++ t → Allowed rules c w i → ReadsTo rules c class.suffix i t
suffix_done rules c i t (Some kind.Dot) s h e allowed = (
  at.next (at.next i),
  (_, by.member (record { seen = s; taken = refl }) (takes_front_name (at.next i) e refl)),
  next_words (at.next i) e,
)
suffix_done rules c i t (Some kind.LeftBracket) s h e (near, room) =
    let (j, x, behind) = nil_expression (at.next i) e (refl, refl) in (
      at.next j,
      (_, by.index (record { seen = s; taken = refl }) (room refl) x.1 (takes_front j behind)),
      next_words j behind,
    )
suffix_done rules c i t (Some kind.Colon) s h e allowed =
    let behind = next_words (at.next i) e in
    let (j, x, end) = text_arguments (at.next (at.next i)) behind in
    (j, (_, by.method (record { seen = s; taken = refl }) (takes_front_name (at.next i) e refl) x.1), end)
suffix_done rules c i t (Some kind.LeftParen) s h e allowed = called i t (arguments_done rules c i t _ s refl e allowed)
suffix_done rules c i t (Some kind.LeftBrace) s h e allowed = called i t (arguments_done rules c i t _ s refl e allowed)
suffix_done rules c i t (Some kind.Text) s h e allowed = called i t (arguments_done rules c i t _ s refl e allowed)
suffix_done rules c i t w s h e allowed = absurd (cc)

-- ---- with the first word

-- what is asked stays asked, whatever stands behind the word
near_on : (rules : Rules) (n : ℕ) (words : List Word) (i : Position) → suc n ≡ length i.words
    → Kept (rules fault.Ambiguous) (IsNear i)
    → Kept (rules fault.Ambiguous) (IsNear (instead n words i))
near_on rules n words i e = by_rule (rules fault.Ambiguous)
  where
    by_rule : (b : Bool) → Kept b (IsNear i) → Kept b (IsNear (instead n words i))
    by_rule true near = line_shown i {n = n} {words = words} (inl (omega (arith, e))) ∙ near
    by_rule false near = tt

allowed_on : (rules : Rules) (c : Context) (n : ℕ) (words : List Word) (i : Position) → suc n ≡ length i.words
    → Allowed rules c (at.kind i) i
    → Allowed rules c (at.kind i) (instead n words i)
allowed_on rules c n words i e (near, room) = (λ s. near_on rules n words i e (near s), room)

pub arguments_leaf : (rules : Rules) (c : Context) (n : ℕ) (i : Position) → suc n ≡ length i.words
    → begins_arguments (at.kind i) ≡ true
    → Allowed rules c (at.kind i) i → GoesOn rules c class.arguments n i
arguments_leaf rules c n i e h allowed t follows =
    let rest = arguments_rest (at.kind i) in
    let words = rest ++ t in
    let (j, x, behind) = arguments_done rules c (instead n words i) t (at.kind i) (seen_kind n words i e) h
    (behind_word n words i e)
    (allowed_on rules c n words i e allowed) in
    (rest, j, x, behind)

pub suffix_leaf : (rules : Rules) (c : Context) (n : ℕ) (i : Position) → suc n ≡ length i.words
    → begins_suffix (at.kind i) ≡ true
    → Allowed rules c (at.kind i) i → GoesOn rules c class.suffix n i
suffix_leaf rules c n i e h allowed t follows =
    let rest = suffix_rest (at.kind i) in
    let words = rest ++ t in
    let (j, x, behind) = suffix_done rules c (instead n words i) t (at.kind i) (seen_kind n words i e) h
    (behind_word n words i e)
    (allowed_on rules c n words i e allowed) in
    (rest, j, x, behind)

-- ---- heads and arguments

pub head_goes_on : {c : Context} {i : Position} → begins_chain (at.kind i) ≡ false → {rules : Rules} {n : ℕ}
    → Mode fault.Unexpected i rules n
    → n < length i.words → GoesOn rules c class.head n i
head_goes_on h mode less = absurd (omega (arith, all_seen mode, less))

pub head_level_goes_on : {c : Context} {i : Position} → Sees kind.LeftParen i → IsFull c → {rules : Rules} {n : ℕ}
    → Mode fault.TooDeep i rules n → n < length i.words → GoesOn rules c class.head n i
head_level_goes_on {c} {i} s full {rules} {n} mode less t follows =
    let e = last_word mode less in
    let rest = word_of kind.Nil ∷ word_of kind.RightParen ∷ [] in
    let words = rest ++ t in
    let begin = instead n words i in
    let first : Takes kind.LeftParen begin (at.next begin) =
    record { seen = seen_kind n words i e ∙ s; taken = refl } in
    let (j, x, behind) = nil_expression (at.next begin) (behind_word n words i e) (refl, refl) in (
      rest,
      at.next j,
      (
        _,
        by.parenthesis first (unasked (c.level < 60) mode less fault.TooDeep (omega arith)) x.1
            (takes_front j behind),
      ),
      next_words j behind,
    )

pub arguments_goes_on : {c : Context} {i : Position} → begins_arguments (at.kind i) ≡ false → {rules : Rules} {n : ℕ}
    → Mode fault.Unexpected i rules n → n < length i.words → GoesOn rules c class.arguments n i
arguments_goes_on h mode less = absurd (omega (arith, all_seen mode, less))

pub arguments_line_goes_on : {c : Context} {i : Position} → Sees kind.LeftParen i → (IsNear i → ⊥)
    → {rules : Rules} {n : ℕ}
    → Mode fault.Ambiguous i rules n → n < length i.words → GoesOn rules c class.arguments n i
arguments_line_goes_on {c} {i} s far {rules} {n} mode less =
    arguments_leaf rules c n i (last_word mode less) (ap begins_arguments s) (
      λ _. unasked (IsNear i) mode less fault.Ambiguous (omega arith),
      λ _. unasked (c.level < 60) mode less fault.TooDeep (omega arith),
    )

pub arguments_level_goes_on : {c : Context} {i : Position} → nests_suffix (at.kind i) ≡ true
    → begins_arguments (at.kind i) ≡ true → IsNearCall i
    → IsFull c → {rules : Rules} {n : ℕ} → Mode fault.TooDeep i rules n → n < length i.words
    → GoesOn rules c class.arguments n i
arguments_level_goes_on {c} {i} nests h near full {rules} {n} mode less =
    arguments_leaf rules c n i (last_word mode less) h
    (λ s. given (rules fault.Ambiguous) (near s), λ _. unasked (c.level < 60) mode less fault.TooDeep (omega arith))
