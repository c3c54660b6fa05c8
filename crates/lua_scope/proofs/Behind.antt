-- What a text leaves of the scopes that it was read in.
use Rattle.std.proofs.Common.{◌≡◌, ℕ, ◌+◌, suc, Bool, true, false, ◌&&◌, ◌==◌, nat_lt, subst, List, [], ◌∷◌, ◌++◌}
use Rattle.std.proofs.Common.{length, take, Option, Some, None, refl, sym, ap, ◌∙◌, append_assoc}
use Rattle.std.specs.Bool.{if◌then◌else◌}
use Rattle.std.proofs.lemmas.List.{append-nil, take_at}
use Rattle.lua_scope.specs.declared.place.Declaration.{Declaration}
use Rattle.lua_scope.specs.Scoping.{FunctionScope, Nesting, entered, left, front, last, block_left, declared}
use Rattle.lua_scope.specs.Scoping.{declaration_in, declaration, captured_place, naming, naming_each, noted, named}
use Rattle.lua_scope.specs.Texts.{Text, Nothing, Declares, Names, Encloses, after}
use Rattle.lua_scope.proofs.Lists.{front-push, last-push}
use Rattle.lua_scope.proofs.Leaving.{left-function}

-- the one list begins with the other
abbrev pub Extends : {X : Type 0} → List X → List X → Type 0
Extends {X} old new = (more : List X) × (new ≡ old ++ more)

extends-refl : {X : Type 0} (xs : List X) → Extends xs xs
extends-refl xs = ([], sym (append-nil xs))

extends-push : {X : Type 0} (xs : List X) (x : X) → Extends xs (xs ++ x ∷ [])
extends-push xs x = (x ∷ [], refl)

extends-trans : {X : Type 0} (xs ys zs : List X) → Extends xs ys → Extends ys zs → Extends xs zs
extends-trans xs ys zs (m, e) (n, f) = (m ++ n, rw (f, e) (append_assoc xs m n))

-- a function around keeps its locals, and may capture more
pub record Keeps (old new : FunctionScope) : Type 0 where
  pub locals : new.locals ≡ old.locals
  pub begins : new.begins ≡ old.begins
  pub captured : Extends old.captured new.captured

abbrev pub KeepsEach : List FunctionScope → List FunctionScope → Type 0
KeepsEach [] [] = Unit {0}
KeepsEach [] (g ∷ gs) = ⊥
KeepsEach (f ∷ fs) [] = ⊥
KeepsEach (f ∷ fs) (g ∷ gs) = Keeps f g × KeepsEach fs gs

-- the running function may declare more too
pub record Grows (old new : Nesting) : Type 0 where
  pub enclosing : KeepsEach old.enclosing new.enclosing
  pub locals : Extends old.running.locals new.running.locals
  pub begins : new.running.begins ≡ old.running.begins
  pub captured : Extends old.running.captured new.running.captured

keeps-refl : (f : FunctionScope) → Keeps f f
keeps-refl f = record { locals = refl; begins = refl; captured = extends-refl f.captured }

keeps-trans : (f g h : FunctionScope) → Keeps f g → Keeps g h → Keeps f h
keeps-trans f g h p q = record {
  locals = q.locals ∙ p.locals;
  begins = q.begins ∙ p.begins;
  captured = extends-trans f.captured g.captured h.captured p.captured q.captured;
}

keeps_each-refl : (fs : List FunctionScope) → KeepsEach fs fs
keeps_each-refl [] = tt
keeps_each-refl (f ∷ fs) = (keeps-refl f, keeps_each-refl fs)

keeps_each-trans : (fs gs hs : List FunctionScope) → KeepsEach fs gs → KeepsEach gs hs → KeepsEach fs hs
keeps_each-trans [] [] [] p q = tt
keeps_each-trans [] [] (h ∷ hs) p q = q
keeps_each-trans [] (g ∷ gs) hs p q = absurd p
keeps_each-trans (f ∷ fs) [] hs p q = absurd p
keeps_each-trans (f ∷ fs) (g ∷ gs) [] p q = q
keeps_each-trans (f ∷ fs) (g ∷ gs) (h ∷ hs) p q = (keeps-trans f g h p.0 q.0, keeps_each-trans fs gs hs p.1 q.1)

pub keeps_each-length : (fs gs : List FunctionScope) → KeepsEach fs gs → length gs ≡ length fs
keeps_each-length [] [] p = refl
keeps_each-length [] (g ∷ gs) p = absurd p
keeps_each-length (f ∷ fs) [] p = absurd p
keeps_each-length (f ∷ fs) (g ∷ gs) p = ap suc (keeps_each-length fs gs p.1)

-- the last function apart
pub keeps_each-push : (fs : List FunctionScope) (f : FunctionScope) (gs : List FunctionScope)
    → KeepsEach (fs ++ f ∷ []) gs → (front : List FunctionScope) × (last : FunctionScope) × (gs ≡ front ++ last ∷ [])
    × KeepsEach fs front × Keeps f last
keeps_each-push [] f [] p = absurd p
keeps_each-push [] f (g ∷ []) p = ([], g, refl, tt, p.0)
keeps_each-push [] f (g ∷ h ∷ gs) p = absurd p.1
keeps_each-push (e ∷ fs) f [] p = absurd p
keeps_each-push (e ∷ fs) f (g ∷ gs) p =
    let r = keeps_each-push fs f gs p.1 in
    (g ∷ r.0, r.1, ap (λ (t : List FunctionScope). g ∷ t) r.2, (p.0, r.3), r.4)

keeps-if : (b : Bool) (d : Declaration) (f : FunctionScope)
    → Keeps f (if b then record { locals = f.locals; begins = f.begins; captured = f.captured ++ d ∷ [] } else f)
keeps-if true d f = record { locals = refl; begins = refl; captured = extends-push f.captured d }
keeps-if false d f = keeps-refl f

pub naming-keeps : (d : Declaration) (k : ℕ) (f : FunctionScope) → Keeps f (naming d k f)
naming-keeps d k f = keeps-if (nat_lt d.depth k && (captured_place d f == length f.captured)) d f

naming_each-keeps : (d : Declaration) (k : ℕ) (fs : List FunctionScope) → KeepsEach fs (naming_each d k fs)
naming_each-keeps d k [] = tt
naming_each-keeps d k (f ∷ fs) = (naming-keeps d k f, naming_each-keeps d (k + 1) fs)

grows-refl : (s : Nesting) → Grows s s
grows-refl s = record {
  enclosing = keeps_each-refl s.enclosing;
  locals = extends-refl s.running.locals;
  begins = refl;
  captured = extends-refl s.running.captured;
}

grows-trans : (s t u : Nesting) → Grows s t → Grows t u → Grows s u
grows-trans s t u p q = record {
  enclosing = keeps_each-trans s.enclosing t.enclosing u.enclosing p.enclosing q.enclosing;
  locals = extends-trans s.running.locals t.running.locals u.running.locals p.locals q.locals;
  begins = q.begins ∙ p.begins;
  captured = extends-trans s.running.captured t.running.captured u.running.captured p.captured q.captured;
}

noted-grows : (s : Nesting) (o : Option Declaration) → Grows s (noted o s)
noted-grows s None = grows-refl s
noted-grows s (Some d) =
    let k = naming-keeps d (length s.enclosing) s.running in
    record {
      enclosing = naming_each-keeps d 0 s.enclosing;
      locals = ([], k.locals ∙ sym (append-nil s.running.locals));
      begins = k.begins;
      captured = k.captured;
    }

declared-grows : (name : List ℕ) (s : Nesting) → Grows s (declared name s)
declared-grows name s = record {
  enclosing = keeps_each-refl s.enclosing;
  locals = extends-push s.running.locals name;
  begins = refl;
  captured = extends-refl s.running.captured;
}

-- the scopes behind a block or a function are those before it, but for what was captured
pub record Restores (old new : Nesting) : Type 0 where
  pub enclosing : KeepsEach old.enclosing new.enclosing
  pub running : Keeps old.running new.running

restores-grows : (s t : Nesting) → Restores s t → Grows s t
restores-grows s t r = record {
  enclosing = r.enclosing;
  locals = ([], r.running.locals ∙ sym (append-nil s.running.locals));
  begins = r.running.begins;
  captured = r.running.captured;
}

-- a block that ends
pub left-block : (s t : Nesting) → Grows (entered false s) t
    → left t ≡ record {
      enclosing = t.enclosing;
      running = record {
        locals = take (length s.running.locals) t.running.locals;
        begins = front t.running.begins;
        captured = t.running.captured;
      };
    }
left-block s t g = ap (block_left t) (ap last g.begins ∙ last-push s.running.begins (length s.running.locals))

left-restores : (function : Bool) (s t : Nesting) → Grows (entered function s) t → Restores s (left t)
left-restores true s t g =
    let r = keeps_each-push s.enclosing s.running t.enclosing g.enclosing in
    subst (Restores s) (sym (left-function t r.0 r.1 (ap last g.begins) r.2))
    (record { enclosing = r.3; running = r.4 })
left-restores false s t g =
    let begin : ℕ = length s.running.locals in
    subst (Restores s) (sym (left-block s t g))
    (record {
      enclosing = g.enclosing;
      running = record {
        locals = rw g.locals.1 (take_at s.running.locals g.locals.0 begin refl);
        begins = ap front g.begins
            ∙ front-push s.running.begins begin;
        captured = g.captured;
      };
    })

pub after-grows : (text : Text) (s : Nesting) → Grows s (after text s)
after-grows Nothing s = grows-refl s
after-grows (Declares name rest) s = grows-trans s (declared name s) (after rest (declared name s))
    (declared-grows name s) (after-grows rest (declared name s))
after-grows (Names name rest) s = grows-trans s (named name s) (after rest (named name s))
    (noted-grows s (declaration name s)) (after-grows rest (named name s))
after-grows (Encloses function body rest) s =
    let back = left (after body (entered function s)) in
    grows-trans s back (after rest back) (restores-grows s back
    (left-restores function s (after body (entered function s)) (after-grows body (entered function s))))
    (after-grows rest back)

pub enclosed-restores : (function : Bool) (body : Text) (s : Nesting)
    → Restores s (left (after body (entered function s)))
enclosed-restores function body s = left-restores function s (after body (entered function s))
    (after-grows body (entered function s))

declaration_in-keeps : (name : List ℕ) (k : ℕ) (fs gs : List FunctionScope) → KeepsEach fs gs
    → declaration_in name k gs ≡ declaration_in name k fs
declaration_in-keeps name k [] [] p = refl
declaration_in-keeps name k [] (g ∷ gs) p = absurd p
declaration_in-keeps name k (f ∷ fs) [] p = absurd p
declaration_in-keeps name k (f ∷ fs) (g ∷ gs) p = rw (declaration_in-keeps name (k + 1) fs gs p.1, p.0.locals) refl

declaration-restores : (name : List ℕ) (s t : Nesting) → Restores s t → declaration name t ≡ declaration name s
declaration-restores name s t r = rw (
  r.running.locals,
  keeps_each-length s.enclosing t.enclosing r.enclosing,
  declaration_in-keeps name 0 s.enclosing t.enclosing r.enclosing,
) refl

pub declaration-enclosed : (function : Bool) (body : Text) (s : Nesting) (name : List ℕ)
    → declaration name (left (after body (entered function s))) ≡ declaration name s
declaration-enclosed function body s name =
    declaration-restores name s (left (after body (entered function s))) (enclosed-restores function body s)

pub locals-enclosed : (function : Bool) (body : Text) (s : Nesting)
    → (left (after body (entered function s))).running.locals ≡ s.running.locals
locals-enclosed function body s = (enclosed-restores function body s).running.locals

pub length-after : (text : Text) (s : Nesting) → length (after text s).enclosing ≡ length s.enclosing
length-after text s = keeps_each-length s.enclosing (after text s).enclosing (after-grows text s).enclosing

pub naming_each-length : (d : Declaration) (k : ℕ) (fs : List FunctionScope) → length (naming_each d k fs) ≡ length fs
naming_each-length d k fs = keeps_each-length fs (naming_each d k fs) (naming_each-keeps d k fs)

noted-restores : (s : Nesting) (o : Option Declaration) → Restores s (noted o s)
noted-restores s None = record { enclosing = keeps_each-refl s.enclosing; running = keeps-refl s.running }
noted-restores s (Some d) = record {
  enclosing = naming_each-keeps d 0 s.enclosing;
  running = naming-keeps d (length s.enclosing) s.running;
}

pub declaration-named : (name other : List ℕ) (s : Nesting) → declaration name (named other s) ≡ declaration name s
declaration-named name other s = declaration-restores name s (named other s) (noted-restores s (declaration other s))
