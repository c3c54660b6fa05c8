-- Words at their places.
use Rattle.std.proofs.Common.{◌≡◌, ℕ, zero, suc, ◌<◌, List, [], ◌∷◌, length, take, drop, Option, Some, None, Result}
use Rattle.std.proofs.Common.{Ok, Err, Bor, refl, sym, ap, subst, ◌∙◌, arith}
use Rattle.std.specs.List.{AllByRecursion, slice_get}
use Rattle.std.specs.Option.{ok_or, option_copied}
use Rattle.std.specs.Result.{MatchResult}
use Rattle.cmd_args.specs.declared.refusal.Refusal.{Refusal}
use Rattle.cmd_args.specs.declared.refusal.Refusal.TheVariants.{Syntax}
use Rattle.cmd_rows.specs.Outcomes.{word_at}

word_at-get : (words : List (List ℕ)) (place : ℕ) → word_at words place ≡ ok_or (slice_get words place) Syntax
word_at-get [] place = refl
word_at-get (word ∷ words) zero = refl
word_at-get (word ∷ words) (suc place) = word_at-get words place

abbrev Told : List (List ℕ) → ℕ → Result (Bor (List ℕ)) Refusal → Type 0
Told words place found = MatchResult found (λ word. word_at words place ≡ Ok word.now)
    (λ why. word_at words place ≡ Err why)

pub word-found : (words : List (List ℕ)) (place : ℕ) (at : Option (Bor (List ℕ)))
    (found : Result (Bor (List ℕ)) Refusal) → option_copied at ≡ slice_get words place
    → found ≡ ok_or at Syntax → Told words place found
word-found words place None found got is =
    subst (Told words place) (sym is) (word_at-get words place ∙ ap (λ o. ok_or o Syntax) (sym got))
word-found words place (Some word) found got is =
    subst (Told words place) (sym is) (word_at-get words place ∙ ap (λ o. ok_or o Syntax) (sym got))

-- what is so of each of the words is so of the one at a place
pub word_at-all : (Q : List ℕ → Type 0) (words : List (List ℕ)) (place : ℕ) (word : List ℕ) → AllByRecursion Q words
    → word_at words place ≡ Ok word → Q word
word_at-all Q [] place word all e = absurd (cc)
word_at-all Q (w ∷ words) zero word all e = let same : w ≡ word = cc in subst Q same all.0
word_at-all Q (w ∷ words) (suc place) word all e = word_at-all Q words place word all.1 e

-- the first word behind the name, and the second, where these are the keys
pub first_key : (Q : List ℕ → Type 0) (words : List (List ℕ)) (key : List ℕ)
    → AllByRecursion Q (take 1 (drop 1 words)) → word_at words 1 ≡ Ok key → Q key
first_key Q [] key keys e = absurd (cc)
first_key Q (name ∷ []) key keys e = absurd (cc)
first_key Q (name ∷ word ∷ words) key keys e = let same : word ≡ key = cc in subst Q same keys.0

pub first_of_two : (Q : List ℕ → Type 0) (words : List (List ℕ)) (key : List ℕ)
    → AllByRecursion Q (take 2 (drop 1 words)) → word_at words 1 ≡ Ok key → Q key
first_of_two Q [] key keys e = absurd (cc)
first_of_two Q (name ∷ []) key keys e = absurd (cc)
first_of_two Q (name ∷ word ∷ words) key keys e = let same : word ≡ key = cc in subst Q same keys.0

pub second_of_two : (Q : List ℕ → Type 0) (words : List (List ℕ)) (key : List ℕ)
    → AllByRecursion Q (take 2 (drop 1 words)) → word_at words 2 ≡ Ok key → Q key
second_of_two Q [] key keys e = absurd (cc)
second_of_two Q (name ∷ []) key keys e = absurd (cc)
second_of_two Q (name ∷ first ∷ []) key keys e = absurd (cc)
second_of_two Q (name ∷ first ∷ word ∷ words) key keys e = let same : word ≡ key = cc in subst Q same keys.1.0

-- a word that is there is found
pub word_at-there : (words : List (List ℕ)) (place : ℕ) (why : Refusal) → place < length words
    → word_at words place ≡ Err why → ⊥
word_at-there [] place why there e = omega arith
word_at-there (word ∷ words) zero why there e = cc
word_at-there (word ∷ words) (suc place) why there e = word_at-there words place why (omega arith) e
