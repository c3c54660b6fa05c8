-- Items that are given to an object outside piece by piece.
use Rattle.std.proofs.Common.{◌≡◌, ℕ, List, [], ◌∷◌, ◌++◌, Option, Some, None, take, drop, refl, sym, ap, ◌∙◌}
use Rattle.std.proofs.Common.{append_assoc, append-nil}
use Rattle.std.proofs.lemmas.List.{take-append-drop}
use Rattle.rs_outside.specs.Known.{known_then}
use Rattle.srv_loop.specs.Taking.{TookPrefix}

pub known_then-append : {T : Type 0} (known : Option (List T)) (xs ys : List T)
    → known_then (known_then known xs) ys ≡ known_then known (xs ++ ys)
known_then-append None xs ys = refl
known_then-append (Some zs) xs ys = ap Some (append_assoc zs xs ys)

pub known_then-nil : {T : Type 0} (known : Option (List T)) → known_then known [] ≡ known
known_then-nil None = refl
known_then-nil (Some zs) = ap Some (append-nil zs)

-- what stands before the rest was taken
pub record IsWriting {T : Type 0} (old new : Option (List T)) (items rest : List T) : Type 0 where
  pub done : List T
  pub items_are : items ≡ done ++ rest
  pub took : new ≡ known_then old done

pub IsWriting-start : {T : Type 0} (old : Option (List T)) (items : List T) → IsWriting old old items items
IsWriting-start old items = record { done = []; items_are = refl; took = sym (known_then-nil old) }

pub IsWriting-more : {T : Type 0} (old new new' : Option (List T)) (items rest : List T) (n : ℕ)
    → IsWriting old new items rest → new' ≡ known_then new (take n rest) → IsWriting old new' items (drop n rest)
IsWriting-more old new new' items rest n h e = record {
  done = h.done ++ take n rest;
  items_are = h.items_are ∙ ap (λ t. h.done ++ t) (sym (take-append-drop n rest))
      ∙ sym (append_assoc h.done (take n rest) (drop n rest));
  took = e ∙ ap (λ k. known_then k (take n rest)) h.took ∙ known_then-append old h.done (take n rest);
}

pub IsWriting-one : {T : Type 0} (old new new' : Option (List T)) (items left rest : List T) (x : T)
    → IsWriting old new items left → left ≡ x ∷ rest → new' ≡ known_then new (x ∷ [])
    → IsWriting old new' items rest
IsWriting-one old new new' items left rest x h left_is e = record {
  done = h.done ++ x ∷ [];
  items_are = h.items_are ∙ ap (λ t. h.done ++ t) left_is ∙ sym (append_assoc h.done (x ∷ []) rest);
  took = e ∙ ap (λ k. known_then k (x ∷ [])) h.took ∙ known_then-append old h.done (x ∷ []);
}

pub IsWriting-end : {T : Type 0} (old new : Option (List T)) (items rest : List T) → IsWriting old new items rest
    → rest ≡ [] → new ≡ known_then old items
IsWriting-end old new items rest h none = h.took
    ∙ ap (known_then old) (sym (append-nil h.done) ∙ ap (λ t. h.done ++ t) (sym none) ∙ sym h.items_are)

pub TookPrefix-writing : {T : Type 0} (old new : Option (List T)) (items rest : List T) → IsWriting old new items rest
    → TookPrefix old new items
TookPrefix-writing old new items rest h =
    record { prefix = h.done; rest = rest; items_are = h.items_are; took = h.took }

pub TookPrefix-none : {T : Type 0} (old new : Option (List T)) (items : List T) → new ≡ old → TookPrefix old new items
TookPrefix-none old new items e =
    record { prefix = []; rest = items; items_are = refl; took = e ∙ sym (known_then-nil old) }
