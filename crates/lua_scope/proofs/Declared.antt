-- A declaration and the names behind it.
use Rattle.std.proofs.Common.{◌≡◌, ◌≢◌, ℕ, ◌+◌, suc, Bool, true, false, List, [], ◌∷◌, ◌++◌, length, Option, Some, None}
use Rattle.std.proofs.Common.{refl, sym, add-zero, zero-add, eq-eqb, arith}
use Rattle.std.specs.Str.{bytes_eq}
use Rattle.std.proofs.lemmas.Slice.Eq.{bytes_eq-Decides}
use Rattle.lua_scope.specs.declared.place.Declaration.{Declaration}
use Rattle.lua_scope.specs.declared.place.Place.TheVariants.{Local}
use Rattle.lua_scope.specs.Scoping.{Nesting, last_place, declared, declaration, place, place_of}

last_place-push_same : (name : List ℕ) (k : ℕ) (xs : List (List ℕ)) (x : List ℕ) → bytes_eq x name ≡ true
    → last_place name k (xs ++ x ∷ []) ≡ Some (k + length xs)
last_place-push_same name k [] x here = rw (here, add-zero) refl
last_place-push_same name k (y ∷ xs) x here =
    let e : k + 1 + length xs ≡ k + suc (length xs) = omega arith in
    rw (last_place-push_same name (k + 1) xs x here, e) refl

last_place-push_other : (name : List ℕ) (k : ℕ) (xs : List (List ℕ)) (x : List ℕ) → bytes_eq x name ≡ false
    → last_place name k (xs ++ x ∷ []) ≡ last_place name k xs
last_place-push_other name k [] x other = rw other refl
last_place-push_other name k (y ∷ xs) x other = rw (last_place-push_other name (k + 1) xs x other) refl

pub place-declared : (name : List ℕ) (s : Nesting) → place name (declared name s) ≡ Local (length s.running.locals)
place-declared name s =
    rw (
      last_place-push_same name 0 s.running.locals name ((bytes_eq-Decides name name).1 refl),
      zero-add,
      eq-eqb (length s.enclosing) (length s.enclosing) refl,
    ) refl

bytes_eq-other : (b : Bool) → (b ≡ true → ⊥) → b ≡ false
bytes_eq-other true h = absurd (h refl)
bytes_eq-other false h = refl

place_of-declared : (name : List ℕ) (s : Nesting) (o : Option Declaration) → place_of o (declared name s) ≡ place_of o s
place_of-declared name s None = refl
place_of-declared name s (Some d) = refl

pub declaration-declared_other : (name other : List ℕ) (s : Nesting) → other ≢ name
    → declaration other (declared name s) ≡ declaration other s
declaration-declared_other name other s differ =
    rw (last_place-push_other other 0 s.running.locals name
    (bytes_eq-other (bytes_eq name other) (λ equal. differ (sym ((bytes_eq-Decides name other).0 equal))))) refl

pub place-declared_other : (name other : List ℕ) (s : Nesting) → other ≢ name
    → place other (declared name s) ≡ place other s
place-declared_other name other s differ =
    rw (declaration-declared_other name other s differ) (place_of-declared name s (declaration other s))
