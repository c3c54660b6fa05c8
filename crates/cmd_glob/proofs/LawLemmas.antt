-- How a pattern is read, and what it matches.
use Rattle.std.proofs.Common.{◌≡◌, ◌↔◌, ℕ, Bool, true, false, not, nat_eq, List, [], ◌∷◌, ◌++◌, append_assoc, refl}
use Rattle.std.proofs.Common.{sym, ◌∙◌, ap, subst, arith}
use Rattle.std.specs.Prelude.{map, if◌then◌else◌, IsTrue}
use Rattle.std.specs.List.{before_first, AllByRecursion, flat_map}
use Rattle.std.proofs.lemmas.Bool.{cond-true, cond-false}
use Rattle.std.proofs.lemmas.Bool.Decides.{nat_tests}
use Rattle.std.proofs.lemmas.Grind.{common_steps}
use Rattle.std.proofs.lemmas.List.{append-nil}
use Rattle.std.proofs.lemmas.List.Sums.{take_while-cons}
use Rattle.cmd_glob.specs.declared.symbol.Symbol.{Symbol}
use Rattle.cmd_glob.specs.declared.part.Part.{Part}
use Rattle.cmd_glob.specs.declared.part.Part.TheVariants.{Any, Stars, Byte, OneOf}
use Rattle.cmd_glob.specs.Symbols.{plain, symbols_from, is_mark}
use Rattle.cmd_glob.specs.Sets.{set_of, is_in}
use Rattle.cmd_glob.specs.Patterns.{parts_from, parts_of}
use Rattle.cmd_glob.specs.Matching.{Matches}
use Rattle.cmd_glob.specs.Listing.{IsPlain, spelling, StandsInside}

symbol_first : (b : ℕ) (e : Bool) (text : List ℕ) → is_mark 92 (record { byte = b; escaped = e }) ≡ false
    → symbols_from false ((if e then 92 ∷ b ∷ [] else b ∷ []) ++ text)
    ≡ record { byte = b; escaped = e } ∷ symbols_from false text
symbol_first b true text h = refl
symbol_first b false text h = cond-false (nat_eq b 92) _ _ h

-- symbols are read as they are written
symbols-spelling : (xs : List Symbol) (text : List ℕ) → AllByRecursion StandsInside xs
    → symbols_from false (spelling xs ++ text) ≡ xs ++ symbols_from false text
symbols-spelling [] text h = refl
symbols-spelling (x ∷ xs) text h =
    rw append_assoc (symbol_first x.byte x.escaped (spelling xs ++ text) h.0.0
    ∙ ap (λ ss. x ∷ ss) (symbols-spelling xs text h.1))

symbols-spelling_all : (xs : List Symbol) → AllByRecursion StandsInside xs → symbols_from false (spelling xs) ≡ xs
symbols-spelling_all [] h = refl
symbols-spelling_all (x ∷ xs) h = symbol_first x.byte x.escaped (spelling xs) h.0.0
    ∙ ap (λ ss. x ∷ ss) (symbols-spelling_all xs h.1)

-- a set ends at its `]`
before-inside : (xs more : List Symbol) → AllByRecursion StandsInside xs
    → before_first (is_mark 93) (xs ++ plain 93 ∷ more) ≡ xs
before-inside [] more h = refl
before-inside (x ∷ xs) more h =
    take_while-cons (λ s. not (is_mark 93 s)) x (xs ++ plain 93 ∷ more)
    ∙ cond-true (not (is_mark 93 x)) _ _ (ap not h.0.1) ∙ ap (λ ss. x ∷ ss) (before-inside xs more h.1)

before-all : (xs : List Symbol) → AllByRecursion StandsInside xs → before_first (is_mark 93) xs ≡ xs
before-all [] h = refl
before-all (x ∷ xs) h = take_while-cons (λ s. not (is_mark 93 s)) x xs
    ∙ cond-true (not (is_mark 93 x)) _ _ (ap not h.0.1) ∙ ap (λ ss. x ∷ ss) (before-all xs h.1)

within-inside : (xs more : List Symbol) → AllByRecursion StandsInside xs
    → parts_from true (xs ++ plain 93 ∷ more) ≡ parts_from false more
within-inside [] more h = refl
within-inside (x ∷ xs) more h = ap (λ b. parts_from (not b) (xs ++ plain 93 ∷ more)) h.0.1 ∙ within-inside xs more h.1

within-all : (xs : List Symbol) → AllByRecursion StandsInside xs → parts_from true xs ≡ []
within-all [] h = refl
within-all (x ∷ xs) h = ap (λ b. parts_from (not b) xs) h.0.1 ∙ within-all xs h.1

abbrev set_and_rest : List Symbol → List Part
set_and_rest symbols = OneOf (set_of (before_first (is_mark 93) symbols)) ∷ parts_from true symbols

pub parts_of-set : (inside : List Symbol) (rest : List ℕ) → AllByRecursion StandsInside inside
    → parts_of (91 ∷ (spelling inside ++ 93 ∷ rest)) ≡ OneOf (set_of inside) ∷ parts_of rest
parts_of-set inside rest h =
    ap set_and_rest (symbols-spelling inside (93 ∷ rest) h)
    ∙ ap (λ ss. OneOf (set_of ss) ∷ parts_from true (inside ++ plain 93 ∷ symbols_from false rest))
    (before-inside inside (symbols_from false rest) h)
    ∙ ap (λ ps. OneOf (set_of inside) ∷ ps) (within-inside inside (symbols_from false rest) h)

pub parts_of-unclosed : (inside : List Symbol) → AllByRecursion StandsInside inside
    → parts_of (91 ∷ spelling inside) ≡ OneOf (set_of inside) ∷ []
parts_of-unclosed inside h =
    ap set_and_rest (symbols-spelling_all inside h)
    ∙ ap (λ ss. OneOf (set_of ss) ∷ parts_from true inside) (before-all inside h)
    ∙ ap (λ ps. OneOf (set_of inside) ∷ ps) (within-all inside h)

pub parts_of-plain : (b : ℕ) (rest : List ℕ) → IsPlain b → parts_of (b ∷ rest) ≡ Byte b ∷ parts_of rest
parts_of-plain b rest h = grind (arith, nat_tests, common_steps)

one_piece : (text piece rest more : List ℕ) (b : ℕ) → text ≡ piece ++ rest → piece ≡ b ∷ [] → rest ≡ more
    → text ≡ b ∷ more
one_piece text piece rest more b e is_piece is_rest = e ∙ ap (λ p. p ++ rest) is_piece ∙ ap (λ r. b ∷ r) is_rest

pub Matches-every : (text : List ℕ) → Matches (Stars ∷ []) text
Matches-every text = (text, [], sym (append-nil text), tt, refl)

pub Matches-any : (text : List ℕ) → Matches (Any ∷ []) text ↔ ((b : ℕ) × (text ≡ b ∷ []))
Matches-any text = (
  λ m. (m.3.0, one_piece text m.0 m.1 [] m.3.0 m.2 m.3.1 m.4),
  λ one. (one.0 ∷ [], [], one.1, (one.0, refl), refl),
)

pub Matches-set : (inside : List Symbol) (text : List ℕ)
    → Matches (OneOf (set_of inside) ∷ []) text ↔ ((b : ℕ) × (text ≡ b ∷ []) × IsTrue (is_in (set_of inside) b))
Matches-set inside text = (
  λ m. (m.3.0, one_piece text m.0 m.1 [] m.3.0 m.2 m.3.1 m.4, m.3.2),
  λ one. (one.0 ∷ [], [], one.1, (one.0, refl, one.2), refl),
)

abbrev verbatim : List ℕ → List Part
verbatim bytes = map (λ b. Byte b) bytes

Matches-verbatim : (bytes text : List ℕ) → Matches (verbatim bytes) text → text ≡ bytes
Matches-verbatim [] text m = m
Matches-verbatim (b ∷ bytes) text m = one_piece text m.0 m.1 bytes b m.2 m.3 (Matches-verbatim bytes m.1 m.4)

verbatim-Matches : (bytes : List ℕ) → Matches (verbatim bytes) bytes
verbatim-Matches [] = refl
verbatim-Matches (b ∷ bytes) = (b ∷ [], bytes, refl, refl, verbatim-Matches bytes)

alone : (parts : List Part) (bytes text : List ℕ) → parts ≡ verbatim bytes → Matches parts text ↔ (text ≡ bytes)
alone parts bytes text e = (
  λ m. Matches-verbatim bytes text (subst (λ (ps : List Part). Matches ps text) e m),
  λ same. subst (λ (ps : List Part). Matches ps text) (sym e)
      (subst (λ (t : List ℕ). Matches (verbatim bytes) t) (sym same) (verbatim-Matches bytes)),
)

plain_verbatim : (bytes : List ℕ) → AllByRecursion IsPlain bytes → parts_of bytes ≡ verbatim bytes
plain_verbatim [] h = refl
plain_verbatim (b ∷ bytes) h = parts_of-plain b bytes h.0 ∙ ap (λ ps. Byte b ∷ ps) (plain_verbatim bytes h.1)

escaped_verbatim : (bytes : List ℕ) → parts_of (flat_map (λ b. 92 ∷ b ∷ []) bytes) ≡ verbatim bytes
escaped_verbatim [] = refl
escaped_verbatim (b ∷ bytes) = ap (λ ps. Byte b ∷ ps) (escaped_verbatim bytes)

pub Matches-plain : (bytes text : List ℕ) → AllByRecursion IsPlain bytes
    → Matches (parts_of bytes) text ↔ (text ≡ bytes)
Matches-plain bytes text h = alone (parts_of bytes) bytes text (plain_verbatim bytes h)

pub Matches-escaped : (bytes text : List ℕ)
    → Matches (parts_of (flat_map (λ b. 92 ∷ b ∷ []) bytes)) text ↔ (text ≡ bytes)
Matches-escaped bytes text = alone (parts_of (flat_map (λ b. 92 ∷ b ∷ []) bytes)) bytes text (escaped_verbatim bytes)

-- the text is one that these parts match, and behind it one that more parts match
abbrev pub Splits : List Part → List Part → List ℕ → Type 0
Splits parts more text = (front rest : List ℕ) × (text ≡ front ++ rest) × Matches parts front × Matches more rest

Matches-append : (parts more : List Part) (text : List ℕ) → Matches (parts ++ more) text → Splits parts more text
Matches-append [] more text m = ([], text, refl, refl, m)
Matches-append (part ∷ parts) more text m =
    let s = Matches-append parts more m.1 m.4 in
    (m.0 ++ s.0, s.1, m.2 ∙ ap (λ t. m.0 ++ t) s.2 ∙ sym (append_assoc m.0 s.0 s.1), (m.0, s.0, refl, m.3, s.3), s.4)

append-Matches : (parts more : List Part) (text : List ℕ) → Splits parts more text → Matches (parts ++ more) text
append-Matches [] more text s =
    let e : text ≡ s.1 = s.2 ∙ ap (λ t. t ++ s.1) s.3 in subst (λ (t : List ℕ). Matches more t) (sym e) s.4
append-Matches (part ∷ parts) more text s =
    let f = s.3 in (
      f.0,
      f.1 ++ s.1,
      s.2 ∙ ap (λ t. t ++ s.1) f.2 ∙ append_assoc f.0 f.1 s.1,
      f.3,
      append-Matches parts more (f.1 ++ s.1) (f.1, s.1, refl, f.4, s.4),
    )

pub Matches-behind : (parts more : List Part) (text : List ℕ) → Matches (parts ++ more) text ↔ Splits parts more text
Matches-behind parts more text = (Matches-append parts more text, append-Matches parts more text)
