-- The declaration that is found is the innermost one.
use Rattle.std.proofs.Common.{◌≡◌, ℕ, ◌+◌, ◌<◌, ◌≤◌, ◌⊎◌, inl, inr, zero, suc, Bool, true, false, List, [], ◌∷◌, ◌++◌}
use Rattle.std.proofs.Common.{length, Option, Some, None, refl, sym, ap, ◌∙◌, add-zero, arith}
use Rattle.std.specs.Bool.{if◌then◌else◌}
use Rattle.std.specs.List.{slice_get}
use Rattle.std.specs.Option.{option_and_then}
use Rattle.std.specs.Str.{bytes_eq}
use Rattle.std.proofs.lemmas.Slice.Eq.{bytes_eq-Decides}
use Rattle.lua_scope.specs.declared.place.Declaration.{Declaration}
use Rattle.lua_scope.specs.Scoping.{FunctionScope, Nesting, or_else, last_place, declared_at, declaration_in}
use Rattle.lua_scope.specs.Scoping.{declaration}
use Rattle.lua_scope.specs.Texts.{local_at, IsInnermost}

or_else-None : {X : Type 0} (x y : Option X) → or_else x y ≡ None → (x ≡ None) × (y ≡ None)
or_else-None None y e = (refl, e)
or_else-None (Some x) y e = cc

or_else-Some : {X : Type 0} (x y : Option X) (z : X) → or_else x y ≡ Some z → (x ≡ Some z) ⊎ ((x ≡ None) × (y ≡ Some z))
or_else-Some None y z e = inr (refl, e)
or_else-Some (Some x) y z e = inl e

or_else_none : {X : Type 0} (x : Option X) → or_else x None ≡ x
or_else_none None = refl
or_else_none (Some x) = refl

or_else_assoc : {X : Type 0} (x y z : Option X) → or_else (or_else x y) z ≡ or_else x (or_else y z)
or_else_assoc None y z = refl
or_else_assoc (Some x) y z = refl

if-Some : {X : Type 0} (b : Bool) (x y : X) → (if b then Some x else None) ≡ Some y → (b ≡ true) × (y ≡ x)
if-Some true x y e = (refl, cc)
if-Some false x y e = cc

last_place-None : (name : List ℕ) (k : ℕ) (xs : List (List ℕ)) → last_place name k xs ≡ None → (j : ℕ)
    → slice_get xs j ≡ Some name → ⊥
last_place-None name k [] none j h = cc
last_place-None name k (x ∷ xs) none zero h =
    let same : x ≡ name = cc in
    let equal = (bytes_eq-Decides x name).1 same in
    let rest = or_else-None (last_place name (k + 1) xs) (if bytes_eq x name then Some k else None) none in
    let e = rw equal at rest.1 in
    cc
last_place-None name k (x ∷ xs) none (suc j) h = last_place-None name (k + 1) xs ((or_else-None _ _ none).0) j h

before : (name x : List ℕ) (xs : List (List ℕ)) (i : ℕ) → ((j : ℕ) → slice_get xs j ≡ Some name → j ≤ i) → (j : ℕ)
    → slice_get (x ∷ xs) j ≡ Some name → j ≤ suc i
before name x xs i h zero e = omega arith
before name x xs i h (suc j) e = omega (arith, h j e)

first : (name x : List ℕ) (xs : List (List ℕ)) → ((j : ℕ) → slice_get xs j ≡ Some name → ⊥) → (j : ℕ)
    → slice_get (x ∷ xs) j ≡ Some name → j ≤ 0
first name x xs h zero e = omega arith
first name x xs h (suc j) e = absurd (h j e)

last_place-Some : (name : List ℕ) (k : ℕ) (xs : List (List ℕ)) (n : ℕ) → last_place name k xs ≡ Some n
    → (i : ℕ) × (n ≡ k + i) × (slice_get xs i ≡ Some name) × ((j : ℕ) → slice_get xs j ≡ Some name → j ≤ i)
last_place-Some name k [] n e = cc
last_place-Some name k (x ∷ xs) n e =
    elim (or_else-Some (last_place name (k + 1) xs) (if bytes_eq x name then Some k else None) n e) [
      | inl behind ↦
          let p = last_place-Some name (k + 1) xs n behind in
          (suc p.0, omega (arith, p.1), p.2, before name x xs p.0 p.3)
      | inr here ↦
          let p = if-Some (bytes_eq x name) k n here.1 in (
            0,
            omega (arith, p.1),
            ap Some ((bytes_eq-Decides x name).0 p.0),
            first name x xs (last_place-None name (k + 1) xs here.0),
          )
    ]

abbrev local_in : List FunctionScope → ℕ → ℕ → Option (List ℕ)
local_in fs i n = option_and_then (λ f. slice_get f.locals n) (slice_get fs i)

declared_at-None : (k : ℕ) (o : Option ℕ) → declared_at k o ≡ None → o ≡ None
declared_at-None k None e = refl
declared_at-None k (Some n) e = cc

declared_at-Some : (k : ℕ) (o : Option ℕ) (d : Declaration) → declared_at k o ≡ Some d
    → (d.depth ≡ k) × (o ≡ Some d.number)
declared_at-Some k None d e = cc
declared_at-Some k (Some n) d e = let same : record { depth = k; number = n } ≡ d = cc in
    (ap (λ (x : Declaration). x.depth) (sym same), ap (λ (x : Declaration). Some x.number) same)

declaration_in-None : (name : List ℕ) (k : ℕ) (fs : List FunctionScope) → declaration_in name k fs ≡ None → (j n : ℕ)
    → local_in fs j n ≡ Some name → ⊥
declaration_in-None name k [] none j n h = cc
declaration_in-None name k (f ∷ fs) none zero n h =
    last_place-None name 0 f.locals (declared_at-None k _ ((or_else-None _ _ none).1)) n h
declaration_in-None name k (f ∷ fs) none (suc j) n h =
    declaration_in-None name (k + 1) fs ((or_else-None _ _ none).0) j n h

further_in : (name : List ℕ) (f : FunctionScope) (fs : List FunctionScope) (i m : ℕ)
    → ((j n : ℕ) → local_in fs j n ≡ Some name → (j < i) ⊎ ((j ≡ i) × (n ≤ m))) → (j n : ℕ)
    → local_in (f ∷ fs) j n ≡ Some name → (j < suc i) ⊎ ((j ≡ suc i) × (n ≤ m))
further_in name f fs i m h zero n e = inl (omega arith)
further_in name f fs i m h (suc j) n e =
    elim (h j n e) [ inl out ↦ inl (omega arith) | inr same ↦ inr (omega (arith, same.0), same.1) ]

here_only : (name : List ℕ) (f : FunctionScope) (fs : List FunctionScope) (m : ℕ)
    → ((j n : ℕ) → local_in fs j n ≡ Some name → ⊥) → ((n : ℕ) → slice_get f.locals n ≡ Some name → n ≤ m) → (j n : ℕ)
    → local_in (f ∷ fs) j n ≡ Some name → (j < 0) ⊎ ((j ≡ 0) × (n ≤ m))
here_only name f fs m none last zero n e = inr (refl, last n e)
here_only name f fs m none last (suc j) n e = absurd (none j n e)

declaration_in-Some : (name : List ℕ) (k : ℕ) (fs : List FunctionScope) (d : Declaration)
    → declaration_in name k fs ≡ Some d → (i : ℕ) × (d.depth ≡ k + i) × (local_in fs i d.number ≡ Some name)
    × ((j n : ℕ) → local_in fs j n ≡ Some name → (j < i) ⊎ ((j ≡ i) × (n ≤ d.number)))
declaration_in-Some name k [] d e = cc
declaration_in-Some name k (f ∷ fs) d e =
    elim (or_else-Some (declaration_in name (k + 1) fs) (declared_at k (last_place name 0 f.locals)) d e) [
      | inl behind ↦
          let p = declaration_in-Some name (k + 1) fs d behind in
          (suc p.0, omega (arith, p.1), p.2, further_in name f fs p.0 d.number p.3)
      | inr here ↦
          let p = declared_at-Some k (last_place name 0 f.locals) d here.1 in
          let q = last_place-Some name 0 f.locals d.number p.1 in
          let at : d.number ≡ q.0 = omega (arith, q.1) in (
            0,
            omega (arith, p.0),
            rw at q.2,
            here_only name f fs d.number (declaration_in-None name (k + 1) fs here.0)
                (λ n h. omega (arith, q.3 n h)),
          )
    ]

declaration_in-push : (name : List ℕ) (k : ℕ) (fs : List FunctionScope) (f : FunctionScope)
    → declaration_in name k (fs ++ f ∷ []) ≡ or_else (declared_at (k + length fs) (last_place name 0 f.locals))
    (declaration_in name k fs)
declaration_in-push name k [] f = rw add-zero (sym (or_else_none _))
declaration_in-push name k (g ∷ fs) f =
    let e : k + 1 + length fs ≡ k + suc (length fs) = omega arith in
    rw (declaration_in-push name (k + 1) fs f, e)
    (or_else_assoc (declared_at (k + suc (length fs)) (last_place name 0 f.locals)) (declaration_in name (k + 1) fs)
    (declared_at k (last_place name 0 g.locals)))

pub declaration-all : (name : List ℕ) (s : Nesting) → declaration_in name 0 (s.enclosing ++ s.running ∷ [])
    ≡ declaration name s
declaration-all name s = let e : 0 + length s.enclosing ≡ length s.enclosing = omega arith in
    rw (declaration_in-push name 0 s.enclosing s.running, e) refl

pub declaration-IsInnermost : (name : List ℕ) (s : Nesting) (d : Declaration) → declaration name s ≡ Some d
    → IsInnermost name s d
declaration-IsInnermost name s d e =
    let p = declaration_in-Some name 0 (s.enclosing ++ s.running ∷ []) d (declaration-all name s ∙ e) in
    let at : d.depth ≡ p.0 = omega (arith, p.1) in
    record { here = rw at p.2; others = λ other h. rw at (p.3 other.depth other.number h) }

pub declaration-None : (name : List ℕ) (s : Nesting) → declaration name s ≡ None → (d : Declaration)
    → local_at s d ≡ Some name → ⊥
declaration-None name s none d h = declaration_in-None name 0 (s.enclosing ++ s.running ∷ [])
    (declaration-all name s ∙ none) d.depth d.number h
