use Rattle.std.proofs.lemmas.Result.{err_from_is_err_and}
use Rattle.lua_grammar.specs.Stuck as stuck
use Rattle.lua_parse.proofs.Parted.{front_call, front_target, front_neither}
use Rattle.lua_parse.proofs.Passed.{goes_on}
use Rattle.lua_parse.proofs.grammar.Grammar.chain_statement.Goals as goal

pub returns-in_err-function : goal.returns-in_err-function
returns-in_err-function g c = let p = err_from_is_err_and c.from_residual.result c.from_residual.ensures.1 in
    rw (p.1, p.2) (goes_on _ _ (λ f s. stuck.front c.requires.begins s) c.in_err-function.ensures)

pub returns-in-Call : goal.returns-in-Call
returns-in-Call g c = front_call _ _ (rw c.in-Call.is at c.in_ok-function.ensures)

pub returns-in_ok-deed-in-Target : goal.returns-in_ok-deed-in-Target
returns-in_ok-deed-in-Target g c = c.in_ok-deed-in-Target.ensures _
    (front_target _ (rw c.in-Target.is at c.in_ok-function.ensures))

pub returns-in_err-deed-in-Target : goal.returns-in_err-deed-in-Target
returns-in_err-deed-in-Target g c =
    let p = err_from_is_err_and c.from_residual-in_err-deed-in-Target.result
    c.from_residual-in_err-deed-in-Target.ensures.1 in
    rw (p.1, p.2) (c.in_err-deed-in-Target.ensures _ (front_target _ (rw c.in-Target.is at c.in_ok-function.ensures)))

pub returns-in-Neither : goal.returns-in-Neither
returns-in-Neither g c = rw c.unexpected.ensures (front_neither (rw c.in-Neither.is at c.in_ok-function.ensures))
