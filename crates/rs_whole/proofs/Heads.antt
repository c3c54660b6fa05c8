-- The first byte of a text, and the others.
use Rattle.std.proofs.Common.{◌≡◌, ℕ, List, [], ◌∷◌, ap}

list_head : List ℕ → ℕ
list_head [] = 0
list_head (b ∷ text) = b

list_tail : List ℕ → List ℕ
list_tail [] = []
list_tail (b ∷ text) = text

pub same_head : (b c : ℕ) (xs ys : List ℕ) → b ∷ xs ≡ c ∷ ys → b ≡ c
unfolding list_head
same_head b c xs ys e = ap list_head e

pub same_tail : (b c : ℕ) (xs ys : List ℕ) → b ∷ xs ≡ c ∷ ys → xs ≡ ys
unfolding list_tail
same_tail b c xs ys e = ap list_tail e
