-- Positions with other words at their end: what stays at them, and the steps between them.
use Rattle.std.proofs.Common.{◌≡◌, ◌≢◌, ◌⊎◌, inl, inr, ℕ, suc, ◌-◌, ◌<◌, ◌≤◌, List, [], ◌∷◌, ◌++◌, length, take, Option}
use Rattle.std.proofs.Common.{Some, IsSome, is_some, option_and_then, refl, sym, ap, ◌∙◌, subst, arith}
use Rattle.std.proofs.lemmas.List.{append-nil}
use Rattle.std.proofs.Math.Seq.{take-length}
use Rattle.lua_lex.specs.declared.kinds.TokenKind.{TokenKind}
use Rattle.lua_lex.specs.declared.kinds.TokenKind.TheVariants as mark
use Rattle.lua_grammar.specs.declared.words.Word.{Word}
use Rattle.lua_grammar.specs.declared.expressions.Name.{Name}
use Rattle.lua_grammar.specs.declared.statements.Body.{Body}
use Rattle.lua_grammar.specs.Operators.{binary_operator, unary_operator}
use Rattle.lua_grammar.specs.Positions as at
use Rattle.lua_grammar.specs.Positions.{Position, Takes, TakesName, TakesText, Passes, IsNear}
use Rattle.lua_grammar.proofs.Continuations.{instead, Shown}

-- ---- the words

-- these words in place of the last n of the others
abbrev pub swapped : ℕ → List Word → List Word → List Word
swapped n words all = take (length all - n) all ++ words

pub swapped_none : (all : List Word) → swapped 0 [] all ≡ all
swapped_none all =
    let e : length all - 0 ≡ length all = omega arith in
    rw e (append-nil _ ∙ take-length all)

pub swapped_all : (n : ℕ) (words all : List Word) → n ≡ length all → swapped n words all ≡ words
swapped_all n words all e =
    let none : length all - n ≡ 0 = omega (arith, e) in
    rw none refl

pub swapped_more : (n : ℕ) (words : List Word) (word : Word) (all : List Word) → n ≤ length all
    → swapped n words (word ∷ all) ≡ word ∷ swapped n words all
swapped_more n words word all h =
    let more : suc (length all) - n ≡ suc (length all - n) = omega (arith, h) in
    rw more refl

-- ---- the positions

pub instead_none : (i : Position) → instead 0 [] i ≡ i
instead_none i = ap (λ (words : List Word). record i { words = words }) (swapped_none i.words)

pub words_from : {n : ℕ} {words : List Word} (j : Position) → n ≡ length j.words → (instead n words j).words ≡ words
words_from {n} {words} j e = swapped_all n words j.words e

-- ---- the next word stays

pub shown_before : (i z : Position) {n : ℕ} {words : List Word} → length z.words ≤ length i.words → Shown z n words
    → Shown i n words
shown_before i z {n} h (inl less) = inl (omega (arith, h, less))
shown_before i z h (inr end) = inr end

-- some word comes next, or nothing is put in place of nothing
first_shown : (n : ℕ) (words all : List Word) → (n < length all) ⊎ ((n ≡ 0) × (words ≡ []))
    → at.first_of (swapped n words all) ≡ at.first_of all
first_shown n words [] (inl less) = absurd (omega (arith, less))
first_shown n words [] (inr (e, e')) = rw e (rw e' refl)
first_shown n words (word ∷ all) (inl less) = ap at.first_of (swapped_more n words word all (omega (arith, less)))
first_shown n words (word ∷ all) (inr (e, e')) = ap at.first_of (swapped_more n words word all (omega (arith, e)))

pub kind_shown : (i : Position) {n : ℕ} {words : List Word} → Shown i n words → at.kind (instead n words i) ≡ at.kind i
kind_shown i {n} {words} s = ap at.kind_of (first_shown n words i.words s)

pub name_shown : (i : Position) {n : ℕ} {words : List Word} → Shown i n words → at.name (instead n words i) ≡ at.name i
name_shown i {n} {words} s = ap at.name_of (first_shown n words i.words s)

pub line_shown : (i : Position) {n : ℕ} {words : List Word} → Shown i n words → at.line (instead n words i) ≡ at.line i
line_shown i s = ap (λ (n : Name). n.line) (name_shown i s)

pub sign_shown : (i : Position) {n : ℕ} {words : List Word} → Shown i n words → at.sign (instead n words i) ≡ at.sign i
sign_shown i s = ap (λ w. option_and_then unary_operator w) (kind_shown i s)

pub joint_shown : (rank : ℕ) (i : Position) {n : ℕ} {words : List Word} → Shown i n words
    → at.joint rank (instead n words i) ≡ at.joint rank i
joint_shown rank i s = ap (λ w. at.of_rank rank (option_and_then binary_operator w)) (kind_shown i s)

-- ---- behind the next word

behind_shown : (n : ℕ) (words : List Word) (i : Position) (all : List Word) → n < length all
    → at.behind (instead n words i) (swapped n words all) ≡ instead n words (at.behind i all)
behind_shown n words i [] h = absurd (omega (arith, h))
behind_shown n words i (word ∷ all) h = ap (at.behind (instead n words i))
    (swapped_more n words word all (omega (arith, h)))

pub next_shown : (n : ℕ) (words : List Word) (i : Position) → n < length i.words
    → at.next (instead n words i) ≡ instead n words (at.next i)
next_shown n words i h = behind_shown n words i i.words h

next_length : (i : Position) {n : ℕ} (all : List Word) → suc n ≡ length all → n ≡ length (at.behind i all).words
next_length i [] e = absurd (omega (arith, e))
next_length i (word ∷ all) e = omega (arith, e)

-- behind the last word of `i` that is left
pub behind_word : (n : ℕ) (words : List Word) (i : Position) → suc n ≡ length i.words
    → (at.next (instead n words i)).words ≡ words
behind_word n words i e =
    ap (λ (p : Position). p.words) (next_shown n words i (omega (arith, e)))
    ∙ words_from (at.next i) (next_length i i.words e)

pub shown_next : (i : Position) {n : ℕ} {words : List Word} → Shown i n words
    → at.next (instead n words i) ≡ instead n words (at.next i)
shown_next i {n} {words} (inl less) = next_shown n words i less
shown_next i {n} {words} (inr (e, e')) = rw e (rw e' (ap at.next (instead_none i) ∙ sym (instead_none (at.next i))))

-- ---- steps

-- a step over a word that is there
behind_less : (i : Position) (all : List Word) (n : ℕ) → IsSome (at.kind_of (at.first_of all))
    → n ≤ length (at.behind i all).words
    → n < length all
behind_less i [] n s h = absurd (cc)
behind_less i (word ∷ all) n s h = omega (arith, h)

pub step_less : (i : Position) {j : Position} {n : ℕ} → IsSome (at.kind i) → j ≡ at.next i → n ≤ length j.words
    → n < length i.words
step_less i {j} {n} s e h = behind_less i i.words n s (subst (λ (p : Position). n ≤ length p.words) e h)

some_kind : {w : Option TokenKind} {k : TokenKind} → w ≡ Some k → IsSome w
some_kind e = ap is_some e

-- behind a word that is there
stepped : (i j : Position) (n : ℕ) (words : List Word) → j ≡ at.next i → n < length i.words
    → instead n words j ≡ at.next (instead n words i)
stepped i j n words e h = ap (instead n words) e ∙ sym (next_shown n words i h)

pub takes_less : {k : TokenKind} {i j : Position} {n : ℕ} → Takes k i j → n ≤ length j.words → n < length i.words
takes_less {i = i} t h = step_less i (some_kind t.seen) t.taken h

pub name_less : {name : Name} {i j : Position} {n : ℕ} → TakesName name i j → n ≤ length j.words → n < length i.words
name_less {i = i} t h = step_less i (some_kind t.seen) t.taken h

pub text_less : {number : ℕ} {i j : Position} {n : ℕ} → TakesText number i j → n ≤ length j.words → n < length i.words
text_less {i = i} t h = step_less i (some_kind t.seen) t.taken h

pub passes_less : {i j : Position} {n : ℕ} → Passes i j → n ≤ length j.words → n < length i.words
passes_less {i} p h = step_less i p.some p.taken h

pub operator_less : {i j : Position} {n : ℕ} → at.PassesOperator i j → n ≤ length j.words → n < length i.words
operator_less {i} p h = step_less (record i { operators = suc i.operators }) p.some p.taken h

pub takes_instead : {k : TokenKind} {i j : Position} (n : ℕ) (words : List Word) → Takes k i j → n ≤ length j.words
    → Takes k (instead n words i) (instead n words j)
takes_instead {i = i} {j} n words t h =
    let less : n < length i.words = takes_less t h in
    record { seen = kind_shown i (inl less) ∙ t.seen; taken = stepped i j n words t.taken less }

pub name_instead : {name : Name} {i j : Position} (n : ℕ) (words : List Word) → TakesName name i j → n ≤ length j.words
    → TakesName name (instead n words i) (instead n words j)
name_instead {i = i} {j} n words t h =
    let less : n < length i.words = name_less t h in
    record {
      seen = kind_shown i (inl less) ∙ t.seen;
      name_is = t.name_is ∙ sym (name_shown i (inl less));
      taken = stepped i j n words t.taken less;
    }

pub text_instead : {number : ℕ} {i j : Position} (n : ℕ) (words : List Word) → TakesText number i j → n ≤ length j.words
    → TakesText number (instead n words i) (instead n words j)
text_instead {i = i} {j} n words t h =
    let less : n < length i.words = text_less t h in
    record {
      seen = kind_shown i (inl less) ∙ t.seen;
      number_is = t.number_is ∙ ap (λ (n : Name). n.text) (sym (name_shown i (inl less)));
      taken = stepped i j n words t.taken less;
    }

some_instead : (i : Position) (n : ℕ) (words : List Word) → n < length i.words → IsSome (at.kind i)
    → IsSome (at.kind (instead n words i))
some_instead i n words less s = ap is_some (kind_shown i (inl less)) ∙ s

pub passes_instead : {i j : Position} (n : ℕ) (words : List Word) → Passes i j → n ≤ length j.words
    → Passes (instead n words i) (instead n words j)
passes_instead {i} {j} n words p h =
    let less : n < length i.words = passes_less p h in
    record { some = some_instead i n words less p.some; taken = stepped i j n words p.taken less }

pub operator_instead : {i j : Position} (n : ℕ) (words : List Word) → at.PassesOperator i j → n ≤ length j.words
    → at.PassesOperator (instead n words i) (instead n words j)
operator_instead {i} {j} n words p h =
    let less : n < length i.words = operator_less p h in
    record {
      some = some_instead i n words less p.some;
      taken = stepped (record i { operators = suc i.operators }) j n
          words p.taken less;
    }

pub near_instead : (i : Position) {n : ℕ} {words : List Word} → Shown i n words → IsNear i → IsNear (instead n words i)
near_instead i s near = line_shown i s ∙ near

-- steps over no word

pub counts_instead : {i j : Position} (n : ℕ) (words : List Word) → at.CountsSuffix i j
    → at.CountsSuffix (instead n words i) (instead n words j)
counts_instead n words x = record { counted = ap (instead n words) x.counted }

pub begins_instead : {i j : Position} (n : ℕ) (words : List Word) → at.BeginsExpression i j
    → at.BeginsExpression (instead n words i) (instead n words j)
begins_instead n words x = record { begun = ap (instead n words) x.begun }

pub resumes_instead : {i j k : Position} (n : ℕ) (words : List Word) → at.ResumesExpression i j k
    → at.ResumesExpression (instead n words i) (instead n words j) (instead n words k)
resumes_instead n words x = record { resumed = ap (instead n words) x.resumed }

pub body_instead : {number : ℕ} {i j : Position} (n : ℕ) (words : List Word) → at.BeginsBody number i j
    → at.BeginsBody number (instead n words i) (instead n words j)
body_instead n words x = record { number_is = x.number_is; begun = ap (instead n words) x.begun }

pub ends_instead : {number : ℕ} {body : Body} {i j : Position} (n : ℕ) (words : List Word) → at.EndsBody number body i j
    → at.EndsBody number body (instead n words i) (instead n words j)
ends_instead n words x = record { ended = ap (instead n words) x.ended }

-- a `;`, where one comes next: behind it comes the same, or no `;`

no_semicolon : (w : Option TokenKind) (i : Position) → w ≢ Some mark.Semicolon → at.behind_semicolon w i ≡ i
no_semicolon (Some mark.Semicolon) i n = absurd (n refl)
no_semicolon w i n = refl

abbrev pub StaysOr : Position → Position → TokenKind → Type 0
StaysOr i j k = (at.kind i ≡ at.kind j) ⊎ (at.kind i ≢ Some k)

semicolon_by : (w : Option TokenKind) (i j : Position) (n : ℕ) (words : List Word) → at.kind i ≡ w
    → j ≡ at.behind_semicolon w i
    → n ≤ length j.words → StaysOr (instead n words j) j mark.Semicolon
    → at.PassesSemicolon (instead n words i) (instead n words j)
semicolon_by (Some mark.Semicolon) i j n words e taken h s =
    let less : n < length i.words = step_less i (some_kind e) taken h in
    let seen : at.kind (instead n words i) ≡ Some mark.Semicolon = kind_shown i (inl less) ∙ e in
    record { taken = stepped i j n words taken less ∙ ap (λ w. at.behind_semicolon w (instead n words i)) (sym seen) }
semicolon_by w i j n words e taken h s =
    let unseen : at.kind (instead n words j) ≢ Some mark.Semicolon = λ f. not_now s (λ g. cc) f in
    let same : instead n words j ≡ instead n words i = ap (instead n words) taken in
    record {
      taken = same ∙ sym (no_semicolon (at.kind (instead n words i)) (instead n words i)
          (λ f. unseen (ap at.kind same ∙ f)));
    } where
      not_now : StaysOr (instead n words j) j mark.Semicolon → at.kind j ≢ Some mark.Semicolon
          → at.kind (instead n words j) ≢ Some mark.Semicolon
      not_now (inl same) n f = n (sym same ∙ f)
      not_now (inr unseen) n f = unseen f

pub semicolon_instead : {i j : Position} (n : ℕ) (words : List Word) → at.PassesSemicolon i j → n ≤ length j.words
    → StaysOr (instead n words j) j mark.Semicolon → at.PassesSemicolon (instead n words i) (instead n words j)
semicolon_instead {i} {j} n words p h s = semicolon_by (at.kind i) i j n words refl p.taken h s
