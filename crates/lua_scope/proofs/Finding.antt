-- A search from the end of a list finds what the definition says.
use Rattle.std.proofs.Common.{◌≡◌, ℕ, ◌+◌, ◌-◌, ◌<◌, ◌≤◌, zero, suc, true, List, [], ◌∷◌, length, get_or, drop, Some}
use Rattle.std.proofs.Common.{None, refl, sym, ap, subst, arith}
use Rattle.std.specs.Str.{bytes_eq}
use Rattle.std.proofs.lemmas.List.{drop_more}
use Rattle.lua_scope.specs.Scoping.{FunctionScope, last_place, declaration_in}

last_place-found : (name : List ℕ) (k : ℕ) (xs : List (List ℕ)) (i at : ℕ) → at ≡ k + i → i < length xs
    → last_place name (suc at) (drop (suc i) xs) ≡ None → bytes_eq (get_or xs i []) name ≡ true
    → last_place name k xs ≡ Some at
last_place-found name k [] i at e within none here = absurd (omega arith)
last_place-found name k (x ∷ xs) zero at e within none here =
    let same : at ≡ k = omega arith in
    let next : suc at ≡ k + 1 = omega arith in
    let behind = rw next at none in
    rw (behind, here) (ap Some (sym same))
last_place-found name k (x ∷ xs) (suc i) at e within none here =
    let behind = last_place-found name (k + 1) xs i at (omega arith) (omega arith) none here in rw behind refl

-- none from `m` on, and the name right before
pub last_place-before : (name : List ℕ) (xs : List (List ℕ)) (m : ℕ) → 0 < m → m ≤ length xs
    → last_place name m (drop m xs) ≡ None → bytes_eq (get_or xs (m - 1) []) name ≡ true
    → last_place name 0 xs ≡ Some (m - 1)
last_place-before name xs m positive within none here =
    let e : m ≡ suc (m - 1) = omega arith in
    last_place-found name 0 xs (m - 1) (m - 1) (omega arith) (omega arith)
    (subst (λ (n : ℕ). last_place name n (drop n xs) ≡ None) e none) here

declaration_in-found : (name : List ℕ) (k : ℕ) (fs : List FunctionScope) (i at number : ℕ) (f : FunctionScope)
    → at ≡ k + i → i < length fs → declaration_in name (suc at) (drop (suc i) fs) ≡ None → get_or fs i f ≡ f
    → last_place name 0 f.locals ≡ Some number
    → declaration_in name k fs ≡ Some (record { depth = at; number = number })
declaration_in-found name k [] i at number f e within none here found = absurd (omega arith)
declaration_in-found name k (x ∷ fs) zero at number f e within none here found =
    let same : at ≡ k = omega arith in
    let next : suc at ≡ k + 1 = omega arith in
    let behind = rw next at none in
    rw (behind, here, found) (ap (λ (depth : ℕ). Some (record { depth = depth; number = number })) (sym same))
declaration_in-found name k (x ∷ fs) (suc i) at number f e within none here found =
    let behind = declaration_in-found name (k + 1) fs i at number f (omega arith) (omega arith) none here found in
    rw behind refl

-- none from `m` on, and one in the function right before
pub declaration_in-before : (name : List ℕ) (fs : List FunctionScope) (m number : ℕ) (f : FunctionScope) → 0 < m
    → m ≤ length fs → declaration_in name m (drop m fs) ≡ None → get_or fs (m - 1) f ≡ f
    → last_place name 0 f.locals ≡ Some number
    → declaration_in name 0 fs ≡ Some (record { depth = m - 1; number = number })
declaration_in-before name fs m number f positive within none here found =
    let e : m ≡ suc (m - 1) = omega arith in
    declaration_in-found name 0 fs (m - 1) (m - 1) number f (omega arith) (omega arith)
    (subst (λ (n : ℕ). declaration_in name n (drop n fs) ≡ None) e none) here found

-- none from `m` on, and none in the function right before
pub declaration_in-none : (name : List ℕ) (fs : List FunctionScope) (m : ℕ) (f : FunctionScope) → 0 < m → m ≤ length fs
    → declaration_in name m (drop m fs) ≡ None → get_or fs (m - 1) f ≡ f → last_place name 0 f.locals ≡ None
    → declaration_in name (m - 1) (drop (m - 1) fs) ≡ None
declaration_in-none name fs m f positive within none here absent =
    let e : m ≡ (m - 1) + 1 = omega arith in
    let behind = subst (λ (n : ℕ). declaration_in name n (drop n fs) ≡ None) e none in
    rw (drop_more fs (m - 1) f (omega arith), here, behind, absent) refl
