use Rattle.std.proofs.lemmas.Result.{err_from_is_err_and}
use Rattle.lua_grammar.specs.Stuck as stuck
use Rattle.lua_parse.proofs.Parted.{front_target, no_front_target}
use Rattle.lua_parse.proofs.Passed.{goes_on}
use Rattle.lua_parse.proofs.grammar.Grammar.target.Goals as goal

pub returns-in_err-target : goal.returns-in_err-target
returns-in_err-target g c = let p = err_from_is_err_and c.from_residual.result c.from_residual.ensures.1 in
    rw (p.1, p.2) (goes_on _ _ (λ f s. stuck.target s) c.in_err-target.ensures)

pub returns-in-Target : goal.returns-in-Target
returns-in-Target g c = front_target _ (rw c.in-Target.is at c.in_ok-target.ensures)

pub returns : goal.returns
returns g c = rw c.unexpected.ensures (no_front_target _ c.in_ok-target.ensures
    (λ target e. c.in_default.not-Target target e))
