-- A captured local keeps its place.
use Rattle.std.proofs.Common.{◌≡◌, ℕ, ◌+◌, ◌<◌, inl, inr, zero, suc, Bool, true, false, ◌==◌, not, List, [], ◌∷◌, ◌++◌}
use Rattle.std.proofs.Common.{length, Option, Some, None, refl, sym, ap, ◌∙◌, add-zero, eq-eqb, arith}
use Rattle.std.specs.Bool.{if◌then◌else◌}
use Rattle.std.specs.List.{prefix_len, slice_get}
use Rattle.std.proofs.lemmas.Bool.{eqb-true, eqb-false, lt-ltb, ne_eqb, cases_eq}
use Rattle.std.proofs.lemmas.List.Folds.{position_or_len_push, prefix_len-append}
use Rattle.std.proofs.lemmas.List.Sums.{prefix_len-le-length}
use Rattle.std.specs.Option.{option_and_then}
use Rattle.std.proofs.lemmas.List.{length_push}
use Rattle.lua_scope.specs.declared.place.Declaration.{Declaration}
use Rattle.lua_scope.specs.declared.place.Place.TheVariants.{Captured}
use Rattle.lua_scope.specs.Scoping.{FunctionScope, Nesting, is_same, captured_place, naming, named, noted, declaration}
use Rattle.lua_scope.specs.Scoping.{place, place_of}
use Rattle.lua_scope.specs.Texts.{Text, after}
use Rattle.lua_scope.proofs.Innermost.{declaration-IsInnermost}
use Rattle.lua_scope.proofs.Behind.{Extends, after-grows, naming_each-length, length-after}

prefix_len-within : {X : Type 0} (p : X → Bool) (xs ys : List X) → prefix_len p xs < length xs
    → prefix_len p (xs ++ ys) ≡ prefix_len p xs
prefix_len-within p xs ys within = rw (
  prefix_len-append p xs ys,
  ne_eqb (prefix_len p xs) (length xs) (λ e. omega arith),
) refl

is_same-refl : (d : Declaration) → is_same d d ≡ true
is_same-refl d = rw (eq-eqb d.depth d.depth refl, eq-eqb d.number d.number refl) refl

pub captured_place-extends : (d : Declaration) (f g : FunctionScope) → Extends f.captured g.captured
    → captured_place d f < length f.captured → captured_place d g ≡ captured_place d f
captured_place-extends d f g (more, e) within =
    rw e (prefix_len-within (λ (x : Declaration). not (is_same x d)) f.captured more within)

abbrev capturing : Bool → Declaration → FunctionScope → FunctionScope
capturing b d f = if b then record { locals = f.locals; begins = f.begins; captured = f.captured ++ d ∷ [] } else f

capturing-captured : (b : Bool) (d : Declaration) (f : FunctionScope) → (captured_place d f == length f.captured) ≡ b
    → (captured_place d (capturing b d f) < length (capturing b d f).captured)
    × (captured_place d (capturing b d f) ≡ captured_place d f)
capturing-captured true d f new =
    let at = position_or_len_push (λ (x : Declaration). is_same x d) f.captured d in
    let pushed = rw (new, is_same-refl d) at at in
    let last : captured_place d (capturing true d f) ≡ length f.captured = pushed ∙ add-zero (length f.captured) in
    let same = eqb-true (captured_place d f) (length f.captured) new in
    (omega (arith, last, length_push f.captured d), last ∙ sym same)
capturing-captured false d f old =
    let differ = eqb-false (captured_place d f) (length f.captured) old in
    (omega (arith, prefix_len-le-length (λ (x : Declaration). not (is_same x d)) f.captured), refl)

-- a local that is named has a place among the captured ones: the one that it had, or would have had
pub naming-captured : (d : Declaration) (k : ℕ) (f : FunctionScope) → d.depth < k
    → (captured_place d (naming d k f) < length (naming d k f).captured)
    × (captured_place d (naming d k f) ≡ captured_place d f)
naming-captured d k f inside = rw (lt-ltb d.depth k inside)
    (capturing-captured (captured_place d f == length f.captured) d f refl)

local-within : (fs : List FunctionScope) (i n : ℕ) (name : List ℕ)
    → option_and_then (λ (f : FunctionScope). slice_get f.locals n) (slice_get fs i) ≡ Some name → i < length fs
local-within [] i n name e = cc
local-within (f ∷ fs) zero n name e = omega arith
local-within (f ∷ fs) (suc i) n name e = omega (arith, local-within fs i n name e)

-- a declaration lies in one of the open functions
declaration-depth : (name : List ℕ) (s : Nesting) (d : Declaration) → declaration name s ≡ Some d
    → d.depth < length s.enclosing + 1
declaration-depth name s d e = omega (
  arith,
  local-within (s.enclosing ++ s.running ∷ []) d.depth d.number name
      ((declaration-IsInnermost name s d e).here),
  length_push s.enclosing s.running,
)

place_of-again : (text : Text) (s : Nesting) (o : Option Declaration)
    → ((d : Declaration) → o ≡ Some d → d.depth < length s.enclosing + 1) → place_of o (after text (noted o s))
    ≡ place_of o s
place_of-again text s None deep = refl
place_of-again text s (Some d) deep =
    let around : ℕ = length s.enclosing in
    let t : Nesting = noted (Some d) s in
    let now : Nesting = after text t in
    let depth : length now.enclosing ≡ around = length-after text t ∙ naming_each-length d 0 s.enclosing in
    rw depth (elim (cases_eq d.depth around) [
      | inl own ↦ rw (eq-eqb d.depth around own) refl
      | inr other ↦
          let p = naming-captured d around s.running (omega (arith, deep d refl)) in
          rw (ne_eqb d.depth around other) (ap Captured
          (captured_place-extends d t.running now.running (after-grows text t).captured p.0 ∙ p.1))
    ])

pub place-again : (name : List ℕ) (text : Text) (s : Nesting) → declaration name (after text (named name s))
    ≡ declaration name s → place name (after text (named name s)) ≡ place name s
place-again name text s same = rw same (place_of-again text s (declaration name s) (declaration-depth name s))
