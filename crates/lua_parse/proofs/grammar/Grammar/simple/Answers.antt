use Rattle.std.proofs.Common.{◌≡◌, false, Result, Ok, Err, MatchResult, sym, ap, ◌∙◌, refl}
use Rattle.lua_lex.specs.declared.kinds.TokenKind.{TokenKind}
use Rattle.lua_lex.specs.declared.kinds.TokenKind.TheVariants as kind
use Rattle.lua_grammar.specs.declared.context.Context.{Context}
use Rattle.lua_grammar.specs.declared.expressions.Expr.{Expr}
use Rattle.lua_grammar.specs.Positions.{Position}
use Rattle.lua_grammar.specs.Contexts.{every_rule}
use Rattle.lua_grammar.specs.Classes as class
use Rattle.lua_grammar.specs.Things as thing
use Rattle.lua_grammar.specs.Grammar.{Spelled}
use Rattle.lua_grammar.specs.Stuck as stuck
use Rattle.lua_parse.specs.declared.stops.Halt.{Halt}
use Rattle.lua_parse.specs.Nests.{begins_other}
use Rattle.lua_parse.specs.Halts.{IsRefused, Reads}
use Rattle.lua_parse.proofs.grammar.Grammar.simple.Goals as goal

-- none of the words that come before
no_other : (k : TokenKind) → (k ≡ kind.Name → ⊥) → (k ≡ kind.LeftParen → ⊥) → (k ≡ kind.LeftBrace → ⊥)
    → (k ≡ kind.Function → ⊥)
    → (k ≡ kind.Dots → ⊥) → begins_other k ≡ false
no_other kind.Name a b c d e = absurd (a refl)
no_other kind.LeftParen a b c d e = absurd (b refl)
no_other kind.LeftBrace a b c d e = absurd (c refl)
no_other kind.Function a b c d e = absurd (d refl)
no_other kind.Dots a b c d e = absurd (e refl)
no_other k a b c d e = refl

-- without the condition, which holds
surely : (k : TokenKind) (c : Context) (i j : Position) (result : Result Expr Halt)
    → MatchResult result (λ e. Spelled every_rule c (thing.simple e) i j) (λ r. begins_other k ≡ false
    → IsRefused r c class.simple i j)
    → begins_other k ≡ false → Reads c class.simple thing.simple result i j
surely k c i j (Ok e) m other = m
surely k c i j (Err r) m other = m other

pub returns-in_default : goal.returns-in_default
returns-in_default g c = rw c.unexpected.ensures
    (stuck.simple (ap stuck.begins_simple (sym c.peek.ensures ∙ c.in_default.is)))

pub returns-in_default-kind : goal.returns-in_default-kind
returns-in_default-kind g c = let no = c.in_default-kind in
    surely _ _ _ _ c.constant.result (c.constant.ensures c.args.self.now.context)
    (no_other _ no.not-Name no.not-LeftParen no.not-LeftBrace no.not-Function no.not-Dots)
