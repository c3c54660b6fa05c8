use Rattle.std.proofs.lemmas.Result.{err_from_is_err_and}
use Rattle.lua_lex.specs.declared.kinds.TokenKind.TheVariants as kind
use Rattle.lua_grammar.specs.Grammar as rule
use Rattle.lua_grammar.specs.Stuck as stuck
use Rattle.lua_parse.proofs.Kept.{no_chain}
use Rattle.lua_parse.proofs.Passed.{unexpected}
use Rattle.lua_parse.proofs.Seen.{sees_not}
use Rattle.lua_parse.proofs.grammar.Grammar.head.Goals as goal

pub returns-then-sees : goal.returns-then-sees
returns-then-sees g c = c.parenthesis.ensures

pub returns : goal.returns
returns g c = rule.name c.in_ok-take_name.ensures

pub returns-in_err-take_name : goal.returns-in_err-take_name
returns-in_err-take_name g c = let p = err_from_is_err_and c.from_residual.result c.from_residual.ensures.1 in
    rw (p.1, p.2) (unexpected kind.Name _ _
    (λ no. stuck.head (no_chain _ (sees_not kind.LeftParen c.args.reader.now c.sees.ensures (cc)) no))
    c.in_err-take_name.ensures)
