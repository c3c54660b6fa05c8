-- Each local that a function has captured has a place in the function around it.
use Rattle.std.proofs.Common.{◌≡◌, ℕ, ◌+◌, ◌-◌, ◌<◌, ◌≤◌, inl, inr, zero, suc, Bool, true, false, ◌&&◌, ◌==◌, nat_lt}
use Rattle.std.proofs.Common.{List, [], ◌∷◌, ◌++◌, length, take, Option, Some, None, refl, sym, ap, subst, ◌∙◌}
use Rattle.std.proofs.Common.{add-zero, eq-eqb, zero-add, arith, map}
use Rattle.std.specs.Bool.{if◌then◌else◌}
use Rattle.std.specs.List.{slice_get, AllByRecursion}
use Rattle.std.specs.Option.{option_and_then}
use Rattle.std.proofs.lemmas.Bool.{ne_eqb, ltb-true, cases_eq}
use Rattle.std.proofs.lemmas.List.{length-append, length_push}
use Rattle.std.proofs.lemmas.Option.{slice_get_within}
use Rattle.lua_scope.specs.declared.place.Declaration.{Declaration}
use Rattle.lua_scope.specs.declared.place.Place.TheVariants.{Local, Captured}
use Rattle.lua_scope.specs.Scoping.{FunctionScope, Nesting, no_locals, main_text, entered, left, front, last}
use Rattle.lua_scope.specs.Scoping.{captured_place, naming, naming_each, noted, named, declared, declaration, place_in}
use Rattle.lua_scope.specs.Scoping.{captures}
use Rattle.lua_scope.specs.Texts.{Text, Nothing, Declares, Names, Encloses, after, local_at}
use Rattle.lua_scope.specs.Captures.{IsPlaceIn, opened, within}
use Rattle.lua_scope.proofs.Lists.{last-push}
use Rattle.lua_scope.proofs.Leaving.{left-function}
use Rattle.lua_scope.proofs.Innermost.{declaration-IsInnermost}
use Rattle.lua_scope.proofs.Behind.{Keeps, keeps_each-push, naming-keeps, left-block, Grows, after-grows}
use Rattle.lua_scope.proofs.Numbers.{captured_place-extends, naming-captured}

-- each of these locals has a place in the function, which lies at depth k
abbrev HasEach : FunctionScope → ℕ → List Declaration → Type 0
HasEach f k [] = Unit {0}
HasEach f k (d ∷ ds) = IsPlaceIn f (place_in f k d) × HasEach f k ds

-- each function, behind one at depth k, has captured what has a place in the one around it
abbrev Linked : ℕ → FunctionScope → List FunctionScope → Type 0
Linked k f [] = Unit {0}
Linked k f (g ∷ gs) = HasEach f k g.captured × Linked (k + 1) g gs

abbrev AllLinked : List FunctionScope → Type 0
AllLinked [] = Unit {0}
AllLinked (f ∷ fs) = Linked 0 f fs

has-if : (b : Bool) (f g : FunctionScope) (d : Declaration) → Keeps f g
    → IsPlaceIn f (if b then Local d.number else Captured (captured_place d f))
    → IsPlaceIn g (if b then Local d.number else Captured (captured_place d g))
has-if true f g d keeps h = rw keeps.locals h
has-if false f g d keeps h =
    let longer = ap length keeps.captured.1 in
    rw (captured_place-extends d f g keeps.captured h)
    (omega (arith, longer, length-append f.captured keeps.captured.0))

has-keeps : (f g : FunctionScope) (k : ℕ) (d : Declaration) → Keeps f g → IsPlaceIn f (place_in f k d)
    → IsPlaceIn g (place_in g k d)
has-keeps f g k d keeps h = has-if (d.depth == k) f g d keeps h

has_each-keeps : (f g : FunctionScope) (k : ℕ) (ds : List Declaration) → Keeps f g → HasEach f k ds → HasEach g k ds
has_each-keeps f g k [] keeps h = tt
has_each-keeps f g k (d ∷ ds) keeps h = (has-keeps f g k d keeps h.0, has_each-keeps f g k ds keeps h.1)

has_each-push : (f : FunctionScope) (k : ℕ) (ds : List Declaration) (d : Declaration) → HasEach f k ds
    → IsPlaceIn f (place_in f k d) → HasEach f k (ds ++ d ∷ [])
has_each-push f k [] d h here = (here, tt)
has_each-push f k (e ∷ ds) d h here = (h.0, has_each-push f k ds d h.1 here)

-- the last function may be another one that has captured the same
linked-last : (k : ℕ) (f : FunctionScope) (fs : List FunctionScope) (r t : FunctionScope) → t.captured ≡ r.captured
    → Linked k f (fs ++ r ∷ []) → Linked k f (fs ++ t ∷ [])
linked-last k f [] r t same h = (subst (HasEach f k) (sym same) h.0, tt)
linked-last k f (g ∷ fs) r t same h = (h.0, linked-last (k + 1) g fs r t same h.1)

all_linked-last : (fs : List FunctionScope) (r t : FunctionScope) → t.captured ≡ r.captured → AllLinked (fs ++ r ∷ [])
    → AllLinked (fs ++ t ∷ [])
all_linked-last [] r t same h = tt
all_linked-last (f ∷ fs) r t same h = linked-last 0 f fs r t same h

linked-push : (k : ℕ) (f : FunctionScope) (fs : List FunctionScope) (t : FunctionScope) → t.captured ≡ []
    → Linked k f fs → Linked k f (fs ++ t ∷ [])
linked-push k f [] t none h = (subst (HasEach f k) (sym none) tt, tt)
linked-push k f (g ∷ fs) t none h = (h.0, linked-push (k + 1) g fs t none h.1)

all_linked-push : (fs : List FunctionScope) (t : FunctionScope) → t.captured ≡ [] → AllLinked fs
    → AllLinked (fs ++ t ∷ [])
all_linked-push [] t none h = tt
all_linked-push (f ∷ fs) t none h = linked-push 0 f fs t none h

linked-front : (k : ℕ) (f : FunctionScope) (fs : List FunctionScope) (t : FunctionScope) → Linked k f (fs ++ t ∷ [])
    → Linked k f fs
linked-front k f [] t h = tt
linked-front k f (g ∷ fs) t h = (h.0, linked-front (k + 1) g fs t h.1)

all_linked-front : (fs : List FunctionScope) (t : FunctionScope) → AllLinked (fs ++ t ∷ []) → AllLinked fs
all_linked-front [] t h = tt
all_linked-front (f ∷ fs) t h = linked-front 0 f fs t h

-- the local lies in one of these functions, the first of them at depth k, if it lies there at all
abbrev Lies : Declaration → ℕ → List FunctionScope → Type 0
Lies d k [] = Unit {0}
Lies d k (f ∷ fs) = (d.depth ≡ k → d.number < length f.locals) × Lies d (k + 1) fs

has_each-naming : (b : Bool) (d : Declaration) (k : ℕ) (f g : FunctionScope) → (b ≡ true → IsPlaceIn f (place_in f k d))
    → HasEach f k g.captured → HasEach f k (if b then record
    { locals = g.locals; begins = g.begins; captured = g.captured ++ d ∷ [] } else g).captured
has_each-naming true d k f g here h = has_each-push f k g.captured d h (here refl)
has_each-naming false d k f g here h = h

and-left : (a b : Bool) → (a && b) ≡ true → a ≡ true
and-left true b e = refl
and-left false b e = e

-- the place of the local in a function that has noted it
naming-has : (d : Declaration) (k : ℕ) (f : FunctionScope) → (d.depth ≡ k → d.number < length f.locals) → d.depth ≤ k
    → IsPlaceIn (naming d k f) (place_in (naming d k f) k d)
naming-has d k f lies deep =
    elim (cases_eq d.depth k) [
      | inl own ↦ rw (eq-eqb d.depth k own, (naming-keeps d k f).locals) (lies own)
      | inr other ↦ rw (ne_eqb d.depth k other) (naming-captured d k f (omega arith)).0
    ]

linked-naming : (d : Declaration) (k : ℕ) (f : FunctionScope) (fs : List FunctionScope) → Lies d k (f ∷ fs)
    → Linked k f fs → Linked k (naming d k f) (naming_each d (k + 1) fs)
linked-naming d k f [] lies h = tt
linked-naming d k f (g ∷ fs) lies h = (
  has_each-naming (nat_lt d.depth (k + 1) && (captured_place d g == length g.captured)) d k (naming d k f) g
      (λ e. naming-has d k f lies.0 (omega (
        arith,
        ltb-true d.depth (k + 1) (and-left (nat_lt d.depth (k + 1)) (captured_place d g == length g.captured) e),
      )))
      (has_each-keeps f (naming d k f) k g.captured (naming-keeps d k f) h.0),
  linked-naming d (k + 1) g fs lies.1 h.1,
)

all_linked-naming : (d : Declaration) (fs : List FunctionScope) → Lies d 0 fs → AllLinked fs
    → AllLinked (naming_each d 0 fs)
all_linked-naming d [] lies h = tt
all_linked-naming d (f ∷ fs) lies h = linked-naming d 0 f fs lies h

lies-further : (d : Declaration) (k : ℕ) (fs : List FunctionScope) → d.depth < k → Lies d k fs
lies-further d k [] out = tt
lies-further d k (f ∷ fs) out = (λ own. absurd (omega arith), lies-further d (k + 1) fs (omega arith))

lies-from : (name : List ℕ) (d : Declaration) (k : ℕ) (fs : List FunctionScope) (i : ℕ) → d.depth ≡ k + i
    → option_and_then (λ (f : FunctionScope). slice_get f.locals d.number) (slice_get fs i) ≡ Some name → Lies d k fs
lies-from name d k [] i e here = tt
lies-from name d k (f ∷ fs) zero e here =
    (λ own. slice_get_within f.locals d.number name here, lies-further d (k + 1) fs (omega arith))
lies-from name d k (f ∷ fs) (suc i) e here =
    (λ own. absurd (omega arith), lies-from name d (k + 1) fs i (omega arith) here)

naming_each-push : (d : Declaration) (k : ℕ) (fs : List FunctionScope) (f : FunctionScope)
    → naming_each d k (fs ++ f ∷ []) ≡ naming_each d k fs ++ naming d (k + length fs) f ∷ []
naming_each-push d k [] f = rw add-zero refl
naming_each-push d k (g ∷ fs) f = let e : k + 1 + length fs ≡ k + suc (length fs) = omega arith in
    rw (naming_each-push d (k + 1) fs f, e) refl

-- the open functions
abbrev functions : Nesting → List FunctionScope
functions s = s.enclosing ++ s.running ∷ []

noted-linked : (name : List ℕ) (s : Nesting) (o : Option Declaration)
    → ((d : Declaration) → o ≡ Some d → local_at s d ≡ Some name) → AllLinked (functions s)
    → AllLinked (functions (noted o s))
noted-linked name s None here h = h
noted-linked name s (Some d) here h =
    let e = naming_each-push d 0 s.enclosing s.running in
    let e' = rw zero-add at e in
    rw (← e') (all_linked-naming d (functions s)
    (lies-from name d 0 (functions s) d.depth (sym (zero-add d.depth)) (here d refl)) h)

entered-linked : (function : Bool) (s : Nesting) → AllLinked (functions s) → AllLinked (functions (entered function s))
entered-linked true s h = all_linked-push (functions s) no_locals refl h
entered-linked false s h = all_linked-last s.enclosing s.running (entered false s).running refl h

left-linked : (function : Bool) (s t : Nesting) → Grows (entered function s) t → AllLinked (functions t)
    → AllLinked (functions (left t))
left-linked true s t g h =
    let r = keeps_each-push s.enclosing s.running t.enclosing g.enclosing in
    let around : AllLinked (r.0 ++ r.1 ∷ []) = subst AllLinked r.2 (all_linked-front t.enclosing t.running h) in
    subst (λ (u : Nesting). AllLinked (functions u)) (sym (left-function t r.0 r.1 (ap last g.begins) r.2)) around
left-linked false s t g h =
    let back : FunctionScope = record {
      locals = take (length s.running.locals) t.running.locals;
      begins = front t.running.begins;
      captured = t.running.captured;
    } in
    subst (λ (u : Nesting). AllLinked (functions u)) (sym (left-block s t g))
    (all_linked-last t.enclosing t.running back refl h)

after-linked : (text : Text) (s : Nesting) → AllLinked (functions s) → AllLinked (functions (after text s))
after-linked Nothing s h = h
after-linked (Declares name rest) s h = after-linked rest (declared name s)
    (all_linked-last s.enclosing s.running (declared name s).running refl h)
after-linked (Names name rest) s h = after-linked rest (named name s)
    (noted-linked name s (declaration name s) (λ d e. (declaration-IsInnermost name s d e).here) h)
after-linked (Encloses function body rest) s h =
    let inner = after body (entered function s) in
    after-linked rest (left inner) (left-linked function s inner (after-grows body (entered function s))
    (after-linked body (entered function s) (entered-linked function s h)))

opened-linked : (begun : List (Bool × Text)) (s : Nesting) → AllLinked (functions s)
    → AllLinked (functions (opened begun s))
opened-linked [] s h = h
opened-linked (b ∷ inner) s h = opened-linked inner (after b.1 (entered b.0 s))
    (after-linked b.1 (entered b.0 s) (entered-linked b.0 s h))

within-linked : (text : Text) (begun : List (Bool × Text)) → AllLinked (functions (within text begun))
within-linked text begun = opened-linked begun (after text main_text) (after-linked text main_text tt)

linked-end : (k : ℕ) (f : FunctionScope) (fs : List FunctionScope) (around r : FunctionScope)
    → Linked k f ((fs ++ around ∷ []) ++ r ∷ []) → HasEach around (k + suc (length fs)) r.captured
linked-end k f [] around r h = subst (λ (n : ℕ). HasEach around n r.captured) (omega arith) h.1.0
linked-end k f (g ∷ fs) around r h = subst (λ (n : ℕ). HasEach around n r.captured) (omega arith)
    (linked-end (k + 1) g fs around r h.1)

all_linked-end : (fs : List FunctionScope) (around r : FunctionScope) → AllLinked ((fs ++ around ∷ []) ++ r ∷ [])
    → HasEach around (length fs) r.captured
all_linked-end [] around r h = h.0
all_linked-end (f ∷ fs) around r h = subst (λ (n : ℕ). HasEach around n r.captured) (zero-add (suc (length fs)))
    (linked-end 0 f fs around r h)

has_each-places : (f : FunctionScope) (k : ℕ) (ds : List Declaration) → HasEach f k ds
    → AllByRecursion (IsPlaceIn f) (map (place_in f k) ds)
has_each-places f k [] h = tt
has_each-places f k (d ∷ ds) h = (h.0, has_each-places f k ds h.1)

captures-places : (s : Nesting) (fs : List FunctionScope) (around : FunctionScope) → s.enclosing ≡ fs ++ around ∷ []
    → AllLinked (functions s) → AllByRecursion (IsPlaceIn around) (captures s)
captures-places s fs around e h =
    let depth : length s.enclosing - 1 ≡ length fs = omega (arith, ap length e, length_push fs around) in
    let found : last s.enclosing ≡ Some around = ap last e ∙ last-push fs around in
    let linked = rw e at h in
    rw (found, depth) (has_each-places around (length fs) s.running.captured
    (all_linked-end fs around s.running linked))

pub captures-found : (text : Text) (begun : List (Bool × Text)) (fs : List FunctionScope) (around : FunctionScope)
    → (within text begun).enclosing ≡ fs ++ around ∷ []
    → AllByRecursion (IsPlaceIn around) (captures (within text begun))
captures-found text begun fs around e = captures-places (within text begun) fs around e (within-linked text begun)
