-- Trees put together from their parts.
use Rattle.std.specs.Prelude.{◌≡◌, ℕ, List, [], ◌∷◌, ◌++◌}
use Rattle.lua_grammar.specs.declared.operators.Binary.{Binary}
use Rattle.lua_grammar.specs.declared.expressions.Expr.{Expr}
use Rattle.lua_grammar.specs.declared.expressions.Expr.TheVariants as expr
use Rattle.lua_grammar.specs.declared.expressions.Link.{Link, roll-Link}
use Rattle.lua_grammar.specs.declared.expressions.Suffix.{Suffix}
use Rattle.lua_grammar.specs.declared.expressions.Suffix.TheVariants as suffix_of
use Rattle.lua_grammar.specs.declared.expressions.Call.{Call}
use Rattle.lua_grammar.specs.declared.statements.Stat.{Stat, roll-Stat}
use Rattle.lua_grammar.specs.declared.statements.Deed.{Deed}
use Rattle.lua_grammar.specs.declared.statements.Deed.TheVariants as deed
use Rattle.lua_grammar.specs.declared.statements.Branch.{Branch, roll-Branch}

-- a head with what goes on with it, as one expression
abbrev pub suffixed : Expr → List Suffix → Expr
suffixed head [] = head
suffixed head (suffix ∷ suffixes) = expr.Suffixed head (suffix ∷ suffixes)

-- an operand with the links behind it, as one expression
abbrev pub row : Expr → List Link → Expr
row first [] = first
row first (link ∷ links) = expr.Row first (link ∷ links)

abbrev pub link_of : Binary → Expr → Link
link_of by operand = roll-Link (record { by = by; operand = operand })

abbrev pub stat_of : ℕ → Deed → Stat
stat_of line deed = roll-Stat (record { line = line; deed = deed })

abbrev pub branch_of : Expr → List Stat → Branch
branch_of test block = roll-Branch (record { test = test; block = block })

-- the expression is this call of that value
pub record IsCall (function : Expr) (how : Call) (e : Expr) : Type 0 where
  pub head : Expr
  pub suffixes : List Suffix
  pub called : function ≡ suffixed head suffixes
  pub is : e ≡ expr.Suffixed head (suffixes ++ suffix_of.Call how ∷ [])

-- the expressions are this call alone
abbrev pub IsSingleCall : List Expr → Expr → Call → Type 0
IsSingleCall es function how = (e : Expr) × (es ≡ e ∷ []) × IsCall function how e

-- what a `return` with these values does: a single call takes the place of the running function
pub data IsReturn (es : List Expr) : Deed → Type 0 where
  of_values : ((function : Expr) (how : Call) → IsSingleCall es function how → ⊥) → IsReturn es (deed.Return es)
  of_call : {function : Expr} {how : Call} → IsSingleCall es function how → IsReturn es (deed.ReturnCall function how)
