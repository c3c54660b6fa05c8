-- Words that stop inside something go on to it: what the lemmas on the places of a stop share, and expressions.
use Rattle.std.proofs.Common.{◌≡◌, ◌⊎◌, inl, inr, ℕ, ◌<◌, ◌≤◌, false, List, [], ◌∷◌, ◌++◌, length, refl, subst}
use Rattle.std.proofs.Math.Nat.{eq-or-lt_of_le}
use Rattle.lua_lex.specs.declared.kinds.TokenKind.TheVariants as kind
use Rattle.lua_grammar.specs.declared.context.Context.{Context}
use Rattle.lua_grammar.specs.declared.words.Word.{Word}
use Rattle.lua_grammar.specs.declared.expressions.Name.{Name}
use Rattle.lua_grammar.specs.Positions as at
use Rattle.lua_grammar.specs.Positions.{Position, Takes, Sees, TakesName, SeesNot}
use Rattle.lua_grammar.specs.Contexts.{Rules, HasRoom}
use Rattle.lua_grammar.specs.Things as thing
use Rattle.lua_grammar.specs.Grammar as by
use Rattle.lua_grammar.specs.Grammar.{Spelled}
use Rattle.lua_grammar.specs.Classes as class
use Rattle.lua_grammar.specs.Classes.{Class, Reads}
use Rattle.lua_grammar.proofs.Continuations.{instead, lead, MayFollow, GoesOn}
use Rattle.lua_grammar.proofs.Instead.{words_from}
use Rattle.lua_grammar.proofs.Least.{word_of, front_kind, next_words, takes_front, nil_words, nil_expression, ReadsTo}
use Rattle.lua_grammar.proofs.Least.{least_function_body, body_words}

-- ---- completions

abbrev pub Completion : Rules → Context → Class → ℕ → Position → List Word → Type 0
Completion rules c k n i t = (more : List Word) × (j : Position) × Reads rules c k (instead n (more ++ t) i) j
    × (j.words ≡ t)

pub longer : {rules : Rules} {c : Context} (k : Class) (n : ℕ) (i : Position) {j : Position} {words t : List Word}
    (more : List Word)
    → words ≡ more ++ t → Reads rules c k (instead n words i) j → j.words ≡ t → Completion rules c k n i t
longer {rules} {c} k n i {j} more e x end =
    (more, j, subst (λ (ws : List Word). Reads rules c k (instead n ws i) j) e x, end)

-- ---- the shortest words, where there is room by these rules

pub table_at : {rules : Rules} {c : Context} (i : Position) {t : List Word} → HasRoom rules c → Sees kind.LeftBrace i
    → (at.next i).words ≡ word_of kind.RightBrace ∷ t → ReadsTo rules c class.constructor i t
table_at i room seen e =
    let j = at.next i in (
      at.next j,
      (
        [],
        by.constructor (record { seen = seen; taken = refl }) room (by.no_fields (front_kind j e))
            (takes_front j e),
      ),
      next_words j e,
    )

pub parenthesis_at : {rules : Rules} {c : Context} (i : Position) {t : List Word} → HasRoom rules c
    → Sees kind.LeftParen i
    → (at.next i).words ≡ nil_words ++ word_of kind.RightParen ∷ t → ReadsTo rules c class.head i t
parenthesis_at i room seen e =
    let (j, x, e') = nil_expression (at.next i) e (refl, refl) in
    (_, (_, by.parenthesis (record { seen = seen; taken = refl }) room x.1 (takes_front j e')), next_words j e')

-- a body behind the name
pub bodied : {rules : Rules} {c : Context} {name : Name} {path : List Name} {i j k l : Position} {t : List Word}
    → HasRoom rules c
    → Takes kind.Function i j → TakesName name j k → Spelled rules c (thing.path path) k l → l.words ≡ body_words ++ t
    → ReadsTo rules c class.deed i t
bodied {i = i} {l = l} room u x p e =
    let unseen : SeesNot kind.Colon l = λ s. cc (s, front_kind l e) in
    let (o, body, end) = least_function_body (at.line i) false l room e in
    (o, (_, by.function_statement refl u x p unseen body.1), end)

-- ---- what goes on from a position, or stops before it

-- the shortest words of the class, where none of its own is seen
pub or_least : {rules : Rules} {c : Context} (k : Class) (n : ℕ) (p : Position) (words : List Word) → n ≤ length p.words
    → ((q : Position) (t : List Word) → q.words ≡ words ++ t → MayFollow k (lead t) → ReadsTo rules c k q t)
    → (n < length p.words → GoesOn rules c k n p) → GoesOn rules c k n p
or_least {rules} {c} k n p words le least goes t follow = by_length (eq-or-lt_of_le le) where
  by_length : (n ≡ length p.words) ⊎ (n < length p.words) → Completion rules c k n p t
  by_length (inl e) =
      let (j, x, end) = least (instead n (words ++ t) p) t (words_from p e) follow in
      (words, j, x, end)
  by_length (inr less) = goes less t follow
