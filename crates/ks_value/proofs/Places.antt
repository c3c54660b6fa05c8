-- Lists from a place on.
use Rattle.std.proofs.Common.{◌≡◌, ℕ, ◌+◌, ◌<◌, zero, suc, Bool, true, false, not, ◌&&◌, List, [], ◌∷◌, Option, Some}
use Rattle.std.proofs.Common.{None, refl, sym, ap, ◌∙◌, drop, slice_get, length, arith, Bor}
use Rattle.std.specs.Cmp.Lexicographic.{pointwise}
use Rattle.std.specs.Option.{option_eq, option_copied}

pub drop-get : {X : Type 0} (xs : List X) (i : ℕ) (x : X) → slice_get xs i ≡ Some x → drop i xs ≡ x ∷ drop (i + 1) xs
drop-get [] i x e = cc
drop-get (y ∷ xs) zero x e = let is : y ≡ x = cc in ap (λ z. z ∷ xs) is
drop-get (y ∷ xs) (suc i) x e = let next : suc i + 1 ≡ suc (i + 1) = omega arith in rw next (drop-get xs i x e)

module _ {X : Type 0} (eq : X → X → Bool) where
  option_eq-copied : (one two : Option (Bor X))
      → option_eq (λ x y. eq x.now y.now) one two ≡ option_eq eq (option_copied one) (option_copied two)
  option_eq-copied None None = refl
  option_eq-copied None (Some y) = refl
  option_eq-copied (Some x) None = refl
  option_eq-copied (Some x) (Some y) = refl

  pointwise-drop : (xs ys : List X) (i : ℕ) → i < length xs → length xs ≡ length ys
      → pointwise eq (drop i xs) (drop i ys)
      ≡ (option_eq eq (slice_get xs i) (slice_get ys i) && pointwise eq (drop (i + 1) xs) (drop (i + 1) ys))
  pointwise-drop [] ys i within long = absurd (omega arith)
  pointwise-drop (x ∷ xs) [] i within long = absurd (omega arith)
  pointwise-drop (x ∷ xs) (y ∷ ys) zero within long = refl
  pointwise-drop (x ∷ xs) (y ∷ ys) (suc i) within long = let next : suc i + 1 ≡ suc (i + 1) = omega arith in
      rw next (pointwise-drop xs ys i (omega arith) (omega arith))

  -- a step of a comparison place by place, which found a difference or none
  pub pointwise-step : (xs ys : List X) (i : ℕ) (one two : Option (Bor X)) (differs : Bool) → i < length xs
      → length xs ≡ length ys → option_copied one ≡ slice_get xs i → option_copied two ≡ slice_get ys i
      → differs ≡ not (option_eq (λ x y. eq x.now y.now) one two)
      → pointwise eq xs ys ≡ pointwise eq (drop i xs) (drop i ys)
      → pointwise eq xs ys ≡ (not differs && pointwise eq (drop (i + 1) xs) (drop (i + 1) ys))
  pointwise-step xs ys i one two differs within long one_is two_is differs_is so_far =
      let same : option_eq eq (slice_get xs i) (slice_get ys i) ≡ not differs =
      sym (option_eq-copied one two ∙ (λ k. option_eq eq (one_is k) (two_is k)))
      ∙ sym (not_not (option_eq (λ x y. eq x.now y.now) one two)) ∙ ap not (sym differs_is) in
      so_far ∙ pointwise-drop xs ys i within long ∙ ap (λ b. b && pointwise eq (drop (i + 1) xs) (drop (i + 1) ys)) same
    where
      not_not : (b : Bool) → not (not b) ≡ b
      not_not true = refl
      not_not false = refl
