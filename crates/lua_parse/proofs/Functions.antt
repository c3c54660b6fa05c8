-- What the productions of functions say that were not read.
use Rattle.std.proofs.Common.{◌≡◌, ℕ, Bool, true, [], inl, inr, subst}
use Rattle.lua_lex.specs.declared.kinds.TokenKind.TheVariants as kind
use Rattle.lua_grammar.specs.declared.context.Context.{Context}
use Rattle.lua_grammar.specs.declared.expressions.Name.{Name}
use Rattle.lua_grammar.specs.Positions as at
use Rattle.lua_grammar.specs.Positions.{Position}
use Rattle.lua_grammar.specs.Classes as class
use Rattle.lua_grammar.specs.Productions as parts
use Rattle.lua_grammar.specs.Productions.{Read, HasLevel}
use Rattle.lua_grammar.specs.Stuck as stuck
use Rattle.lua_grammar.specs.Stuck.{named_function}
use Rattle.lua_parse.specs.declared.stops.Halt.{Halt}
use Rattle.lua_parse.specs.declared.stops.Halt.TheVariants as halt
use Rattle.lua_parse.specs.Halts.{IsRefused, IsMethodRefused}
use Rattle.lua_parse.specs.Steps.{Lacks, OpensNone}
use Rattle.lua_parse.proofs.Passed.{unexpected}

-- no body is begun
pub no_body : (c : Context) (line : ℕ) (method : Bool) (i z : Position) (r : Halt) → OpensNone r i z → HasLevel c
    → IsRefused r c (class.function_body line method) i z
no_body c line method i z (halt.Syntax f) l level =
    unexpected kind.LeftParen _ z (λ unseen. stuck.no_parameters unseen level) l
no_body c line method i z halt.NoMemory l level = tt

-- ---- methods

pub no_method_name : (c : Context) (line : ℕ) {i : Position} (r : Halt) (z : Position) → Lacks kind.Name r i z
    → IsMethodRefused r c line i z
no_method_name c line r z l = rw (l.is, l.stays) (inl (_, _, parts.nothing, stuck.no_name l.unseen))

pub no_method_body : (c : Context) (line : ℕ) {n : Name} {i k : Position} (r : Halt) (z : Position) → at.TakesName n i k
    → IsRefused r c (class.function_body line true) k z → IsMethodRefused r c line i z
no_method_body c line (halt.Syntax f) z t s = inr (_, _, t, s)
no_method_body c line halt.NoMemory z t s = tt

pub no_method : {c : Context} {i j k : Position} (r : Halt) (z : Position) → at.Sees kind.Function i → HasLevel c
    → Read (named_function c (at.line i)) i [] j → at.Takes kind.Colon j k → IsMethodRefused r c (at.line i) k z
    → IsRefused r c class.deed i z
no_method (halt.Syntax f) z seen level read t (inl (p, rest, up_to, s)) = stuck.method_refused seen level read t up_to s
no_method (halt.Syntax f) z seen level read t (inr (n, l, u, s)) = stuck.method_inside seen level read t u s
no_method halt.NoMemory z seen level read t s = tt

pub method_on_line : (c : Context) {line line' : ℕ} (i z : Position) (r : Halt) → line ≡ line'
    → IsMethodRefused r c line i z
    → IsMethodRefused r c line' i z
method_on_line c i z r e s = subst (λ (l : ℕ). IsMethodRefused r c l i z) e s
