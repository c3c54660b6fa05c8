-- A name keeps its declaration through a text that does not declare it.
use Rattle.std.proofs.Common.{◌≡◌, ℕ, List, refl, ◌∙◌}
use Rattle.lua_scope.specs.Scoping.{Nesting, entered, left, declared, named, declaration}
use Rattle.lua_scope.specs.Texts.{Text, Nothing, Declares, Names, Encloses, after, DeclaresNot}
use Rattle.lua_scope.proofs.Behind.{declaration-named, declaration-enclosed}
use Rattle.lua_scope.proofs.Declared.{declaration-declared_other}

pub declaration-after : (name : List ℕ) (text : Text) (s : Nesting) → DeclaresNot name text
    → declaration name (after text s) ≡ declaration name s
declaration-after name Nothing s h = refl
declaration-after name (Declares other rest) s h = declaration-after name rest (declared other s) h.1
    ∙ declaration-declared_other other name s h.0
declaration-after name (Names other rest) s h = declaration-after name rest (named other s) h
    ∙ declaration-named name other s
declaration-after name (Encloses function body rest) s h =
    declaration-after name rest (left (after body (entered function s))) h ∙ declaration-enclosed function body s name
