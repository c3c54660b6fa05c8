use Rattle.std.proofs.Common.{◌≡◌, false}
use Rattle.lua_grammar.specs.Grammar as rule
use Rattle.lua_grammar.specs.Positions as at
use Rattle.std.proofs.lemmas.Result.{err_from_is_err_and}
use Rattle.lua_grammar.specs.Stuck as stuck
use Rattle.lua_lex.specs.declared.kinds.TokenKind.TheVariants as kind
use Rattle.lua_parse.proofs.Passed.{goes_on}
use Rattle.lua_parse.proofs.Seen.{sees_not}
use Rattle.lua_parse.proofs.grammar.Grammar.field.Goals as goal

pub returns-then-sees : goal.returns-then-sees
returns-then-sees g c = c.keyed.ensures

pub returns-then-is_named : goal.returns-then-is_named
returns-then-is_named g c = c.named.ensures

pub returns : goal.returns
returns g c =
    let plain : at.is_named (at.kind c.args.reader.now) (at.kind (at.next c.args.reader.now)) ≡ false =
    rw (← c.peek.ensures, ← c.peek_behind.ensures, ← c.is_named.ensures) (cc) in
    rule.plain plain c.in_ok-expression.ensures

pub returns-in_err-expression : goal.returns-in_err-expression
returns-in_err-expression g c = let p = err_from_is_err_and c.from_residual.result c.from_residual.ensures.1 in
    rw (p.1, p.2) (let plain : at.is_named (at.kind c.args.reader.now) (at.kind (at.next c.args.reader.now)) ≡ false =
    rw (← c.peek.ensures, ← c.peek_behind.ensures, ← c.is_named.ensures) (cc) in
    goes_on _ _ (λ f s. stuck.plain (sees_not kind.LeftBracket c.args.reader.now c.sees.ensures (cc)) plain s)
    c.in_err-expression.ensures)

pub named-requires-clause-named : goal.named-requires-clause-named
named-requires-clause-named g c = rw (← c.peek.ensures, ← c.peek_behind.ensures, ← c.is_named.ensures) (cc)
