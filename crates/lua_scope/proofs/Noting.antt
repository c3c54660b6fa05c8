-- Functions note a naming one after another.
use Rattle.std.proofs.Common.{◌≡◌, ℕ, ◌+◌, ◌<◌, zero, suc, List, [], ◌∷◌, ◌++◌, length, get_or, set, take, drop, refl}
use Rattle.std.proofs.Common.{ap, arith}
use Rattle.lua_scope.specs.Scoping.{FunctionScope, naming, naming_each}
use Rattle.lua_scope.specs.declared.place.Declaration.{Declaration}

-- the step of a loop that goes over the functions
pub naming_each-more : (d : Declaration) (k : ℕ) (xs ys : List FunctionScope) (i at : ℕ) (f y : FunctionScope)
    → at ≡ k + i → i < length xs → ys ≡ naming_each d k (take i xs) ++ drop i xs → get_or ys i f ≡ f → y ≡ naming d at f
    → set ys i y ≡ naming_each d k (take (suc i) xs) ++ drop (suc i) xs
naming_each-more d k [] ys i at f y e within so_far here now = absurd (omega arith)
naming_each-more d k (x ∷ xs) ys zero at f y e within so_far here now =
    let same : at ≡ k = omega arith in
    let f-is = rw so_far at here in
    rw (so_far, now, same, ← f-is) refl
naming_each-more d k (x ∷ xs) ys (suc i) at f y e within so_far here now =
    let rest : List FunctionScope = naming_each d (k + 1) (take i xs) ++ drop i xs in
    let here-in = rw so_far at here in
    rw so_far (ap (λ (t : List FunctionScope). naming d k x ∷ t)
    (naming_each-more d (k + 1) xs rest i at f y (omega arith) (omega arith) refl here-in now))
