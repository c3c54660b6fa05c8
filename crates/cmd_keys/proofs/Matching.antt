-- The test of a pattern, and what it is said to match.
use Rattle.std.proofs.Common.{◌≡◌, ◌↔◌, ℕ, Bool, true, false, List, [], ◌∷◌, ◌++◌, ◌||◌, eqb, inl, inr, refl, sym, ap}
use Rattle.std.proofs.Common.{◌∙◌}
use Rattle.std.proofs.lemmas.Bool.{false≢true, and_parts, and_from, or_cases, eqb-true, eq-eqb}
use Rattle.std.specs.List.{list_any}
use Rattle.cmd_glob.specs.declared.part.Part.{Part}
use Rattle.cmd_glob.specs.declared.part.Part.TheVariants.{Any, Stars, Byte, OneOf}
use Rattle.cmd_glob.specs.Matching.{Matches}
use Rattle.cmd_glob.specs.Places.{fits}
use Rattle.cmd_keys.specs.Globs.{ends_of, is_empty_text, begins, is_match}

-- a text that passes at one of its ends is a piece and such an end
abbrev Ends : (List ℕ → Bool) → List ℕ → Type 0
Ends p text = (piece rest : List ℕ) × (text ≡ piece ++ rest) × (p rest ≡ true)

ends-from_any : (p : List ℕ → Bool) (text : List ℕ) → list_any p (ends_of text) ≡ true → Ends p text
ends-from_any p [] h = elim (or_cases (p []) false h)
    [ inl here ↦ ([], [], refl, here) | inr none ↦ absurd (false≢true none) ]
ends-from_any p (b ∷ text) h =
    elim (or_cases (p (b ∷ text)) (list_any p (ends_of text)) h) [
      | inl here ↦ ([], b ∷ text, refl, here)
      | inr later ↦ let found = ends-from_any p text later in (b ∷ found.0, found.1, ap (λ t. b ∷ t) found.2, found.3)
    ]

or_first : (a b : Bool) → a ≡ true → (a || b) ≡ true
or_first true b e = refl
or_first false b e = absurd (false≢true e)

or_second : (a b : Bool) → b ≡ true → (a || b) ≡ true
or_second true b e = refl
or_second false b e = e

any-here : (p : List ℕ → Bool) (text : List ℕ) → p text ≡ true → list_any p (ends_of text) ≡ true
any-here p [] h = or_first (p []) false h
any-here p (b ∷ text) h = or_first (p (b ∷ text)) (list_any p (ends_of text)) h

any-ends : (p : List ℕ → Bool) (piece rest : List ℕ) → p rest ≡ true → list_any p (ends_of (piece ++ rest)) ≡ true
any-ends p [] rest h = any-here p rest h
any-ends p (b ∷ piece) rest h =
    or_second (p (b ∷ piece ++ rest)) (list_any p (ends_of (piece ++ rest))) (any-ends p piece rest h)

-- a text of which the first byte passes, and what follows it
begins-from : (first : ℕ → Bool) (p : List ℕ → Bool) (text : List ℕ) → begins first p text ≡ true → (b : ℕ)
    × (rest : List ℕ) × (text ≡ b ∷ rest) × (first b ≡ true) × (p rest ≡ true)
begins-from first p [] h = absurd (false≢true h)
begins-from first p (b ∷ text) h = let parts = and_parts (first b) (p text) h in (b, text, refl, parts.0, parts.1)

pub match-sound : (parts : List Part) (text : List ℕ) → is_match parts text ≡ true → Matches parts text
match-sound [] [] h = refl
match-sound [] (b ∷ text) h = absurd (false≢true h)
match-sound (Stars ∷ parts) text h = let found = ends-from_any (is_match parts) text h in
    (found.0, found.1, found.2, tt, match-sound parts found.1 found.3)
match-sound (Any ∷ parts) text h =
    let found = begins-from (fits Any) (is_match parts) text h in
    (found.0 ∷ [], found.1, found.2, (found.0, refl), match-sound parts found.1 found.4)
match-sound (Byte c ∷ parts) text h =
    let found = begins-from (fits (Byte c)) (is_match parts) text h in
    (found.0 ∷ [], found.1, found.2, ap (λ b. b ∷ []) (eqb-true found.0 c found.3), match-sound parts found.1 found.4)
match-sound (OneOf set ∷ parts) text h =
    let found = begins-from (fits (OneOf set)) (is_match parts) text h in
    (found.0 ∷ [], found.1, found.2, (found.0, refl, found.3), match-sound parts found.1 found.4)

at_text : (parts : List Part) (text other : List ℕ) → text ≡ other → is_match parts other ≡ true
    → is_match parts text ≡ true
at_text parts text other e h = ap (is_match parts) e ∙ h

pub match-complete : (parts : List Part) (text : List ℕ) → Matches parts text → is_match parts text ≡ true
match-complete [] text e = ap is_empty_text e
match-complete (Stars ∷ parts) text m =
    at_text (Stars ∷ parts) text (m.0 ++ m.1) m.2 (any-ends (is_match parts) m.0 m.1 (match-complete parts m.1 m.4))
match-complete (Any ∷ parts) text m =
    at_text (Any ∷ parts) text (m.3.0 ∷ m.1) (m.2 ∙ ap (λ piece. piece ++ m.1) m.3.1) (match-complete parts m.1 m.4)
match-complete (Byte c ∷ parts) text m =
    at_text (Byte c ∷ parts) text (c ∷ m.1) (m.2 ∙ ap (λ piece. piece ++ m.1) m.3)
    (and_from (eqb c c) (is_match parts m.1) (eq-eqb c c refl) (match-complete parts m.1 m.4))
match-complete (OneOf set ∷ parts) text m =
    at_text (OneOf set ∷ parts) text (m.3.0 ∷ m.1) (m.2 ∙ ap (λ piece. piece ++ m.1) m.3.1)
    (and_from (fits (OneOf set) m.3.0) (is_match parts m.1) m.3.2 (match-complete parts m.1 m.4))

same_test : (a b : Bool) → (a ≡ true → b ≡ true) → (b ≡ true → a ≡ true) → a ≡ b
same_test true b f g = sym (f refl)
same_test false true f g = g refl
same_test false false f g = refl

-- a test that is true just where the pattern matches is this one
pub is_match-from : (result : Bool) (parts : List Part) (text : List ℕ) → ((result ≡ true) ↔ Matches parts text)
    → result ≡ is_match parts text
is_match-from result parts text exact =
    same_test result (is_match parts text) (λ yes. match-complete parts text (exact.0 yes))
    (λ yes. exact.1 (match-sound parts text yes))
