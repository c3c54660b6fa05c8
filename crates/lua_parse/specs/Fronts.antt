-- Trees that the parser puts together or takes apart.
use Rattle.std.specs.Prelude.{ℕ, ◌≡◌, List, [], ◌∷◌, ◌++◌}
use Rattle.lua_grammar.specs.declared.context.Context.{Context}
use Rattle.lua_grammar.specs.declared.expressions.Name.{Name}
use Rattle.lua_grammar.specs.declared.expressions.Expr.{Expr}
use Rattle.lua_grammar.specs.declared.expressions.Expr.TheVariants as expr
use Rattle.lua_grammar.specs.declared.expressions.Suffix.{Suffix}
use Rattle.lua_grammar.specs.declared.expressions.Suffix.TheVariants as suffix_of
use Rattle.lua_grammar.specs.declared.statements.Target.TheVariants as target_of
use Rattle.lua_grammar.specs.Positions.{Position, ResumesExpression}
use Rattle.lua_grammar.specs.Classes.{Sought}
use Rattle.lua_grammar.specs.Stuck.{fresh}
use Rattle.lua_parse.specs.Nests.{IsSpared}
use Rattle.lua_grammar.specs.Contexts.{every_rule}
use Rattle.lua_grammar.specs.Things as thing
use Rattle.lua_grammar.specs.Parts.{suffixed}
use Rattle.lua_grammar.specs.Grammar.{Spelled}
use Rattle.lua_parse.specs.declared.trees.Front.{Front}
use Rattle.lua_parse.specs.declared.trees.Front.TheVariants as front

-- what a head and its suffixes are at the front of a statement
abbrev pub FrontOf : Expr → List Suffix → Front → Type 0
FrontOf head all (front.Target (target_of.Name n)) = (head ≡ expr.Name n) × (all ≡ [])
FrontOf head all (front.Target (target_of.Index e k)) = (suffixes : List Suffix) × (e ≡ suffixed head suffixes)
    × (all ≡ suffixes ++ suffix_of.Key k ∷ [])
FrontOf head all (front.Call e how) = (suffixes : List Suffix) × (e ≡ suffixed head suffixes)
    × (all ≡ suffixes ++ suffix_of.Call how ∷ [])
FrontOf head all front.Neither = (all ≡ []) × ((n : Name) → head ≡ expr.Name n → ⊥)

-- a head and its suffixes were read that are this front, as an expression of their own
pub record IsFront (c : Context) (sought : Sought) (found : Front) (i j : Position) : Type 0 where
  pub head : Expr
  pub all : List Suffix
  pub behind : Position
  pub spelled : Spelled every_rule c (thing.chain head all) (fresh i) behind
  pub resumes : ResumesExpression i behind j
  pub few : IsSpared sought all behind
  pub is : FrontOf head all found
