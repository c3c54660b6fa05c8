-- The bytes at the front of a text that pass a test.
use Rattle.std.proofs.Common.{◌≡◌, ℕ, ◌+◌, Bool, true, false, not, cond, Option, Some, None, unwrap_or, List, [], ◌∷◌}
use Rattle.std.proofs.Common.{length, get_or, refl, sym, ap, ◌∙◌, arith}
use Rattle.std.specs.List.{position, position_or_len, prefix_len}
use Rattle.std.proofs.lemmas.Bool.Decides.{nat_tests}
use Rattle.std.proofs.lemmas.List.Sums.{prefix_len-le-length, position_or_len_is}
use Rattle.memchr.specs.Find.{IsFirstByte}

twice : (t : Bool) → not (not t) ≡ t
twice true = refl
twice false = refl

twice_along : (p : ℕ → Bool) (text : List ℕ) → prefix_len (λ b. not (not (p b))) text ≡ prefix_len p text
twice_along p [] = refl
twice_along p (b ∷ text) = ap (λ t. cond t (1 + prefix_len (λ b. not (not (p b))) text) 0) (twice (p b))
    ∙ ap (λ n. cond (p b) (1 + n) 0) (twice_along p text)

place_is : (q : ℕ → Bool) (text : List ℕ) → unwrap_or (position q text) (length text) ≡ position_or_len q text
place_is q text = let within = prefix_len-le-length (λ b. not (q b)) text in grind (arith, nat_tests)

-- the first place that fails
pub prefix_is : (p : ℕ → Bool) (text : List ℕ) → unwrap_or (position (λ b. not (p b)) text) (length text)
    ≡ prefix_len p text
prefix_is p text = place_is (λ b. not (p b)) text ∙ twice_along p text

pub prefix_found : (p : ℕ → Bool) (text : List ℕ) (place : Option ℕ) (n : ℕ) → place ≡ position (λ b. not (p b)) text
    → n ≡ unwrap_or place (length text) → n ≡ prefix_len p text
prefix_found p text place n place_is n_is = n_is ∙ ap (λ o. unwrap_or o (length text)) place_is ∙ prefix_is p text

-- the first byte of which a test holds
pub first_byte : (test : ℕ → Bool) (text : List ℕ) (place : Option ℕ) (n : ℕ) → IsFirstByte test text place
    → n ≡ unwrap_or place (length text) → n ≡ prefix_len (λ b. not (test b)) text
first_byte test text None n found n_is =
    n_is ∙ sym (position_or_len_is test text (length text) 0 (omega arith)
    (λ k less. fails (test (get_or text k 0)) (found k (omega arith) less)) (λ less. absurd (omega arith)))
  where
    fails : (t : Bool) → (t ≡ true → ⊥) → t ≡ false
    fails true lacks = absurd (lacks refl)
    fails false lacks = refl
first_byte test text (Some i) n found n_is =
    n_is ∙ sym (position_or_len_is test text i 0 (omega (arith, found.0.high))
    (λ k less. fails (test (get_or text k 0)) (found.0.before k (omega arith) less)) (λ less. found.1))
  where
    fails : (t : Bool) → (t ≡ true → ⊥) → t ≡ false
    fails true lacks = absurd (lacks refl)
    fails false lacks = refl
