use Rattle.lua_grammar.specs.Grammar as rule
use Rattle.lua_parse.proofs.Leads.{none_yet, one_more, ended, led}
use Rattle.lua_grammar.proofs.Progress.{takes, takes_name, eaten, eats_also}
use Rattle.std.proofs.lemmas.Result.{err_from_is_err_and}
use Rattle.lua_grammar.specs.Productions as parts
use Rattle.lua_grammar.specs.Stuck as stuck
use Rattle.lua_parse.proofs.Passed.{lacks_name}
use Rattle.lua_parse.proofs.statements.path.Goals as goal

pub more-init : goal.more-init
more-init c = rw c.new-path.ensures (λ context. none_yet)

pub more-preserved : goal.more-preserved
more-preserved c = λ context. one_more (c.more.invariant context) c.in_ok-push.ensures.ok
    (λ rest end s. rule.more_path (c.eat.ensures.seen (cc)) c.in_ok-take_name.ensures s)
    (λ f z s. let t = c.eat.ensures.seen (cc) in stuck.inside (parts.path t.seen) (parts.more t
    (parts.more (_, c.in_ok-take_name.ensures) parts.nothing)) s)

pub more-smaller : goal.more-smaller
more-smaller c = (eats_also (takes (c.eat.ensures.seen (cc))) (eaten (takes_name c.in_ok-take_name.ensures))).words

pub returns : goal.returns
returns c = λ context. let no = c.eat.ensures.unseen (cc) in
    rw (c.in_ok-exact.ensures, no.0) (ended (c.more.invariant context) (rule.no_path no.1))

pub returns-in_err-take_name : goal.returns-in_err-take_name
returns-in_err-take_name c = λ context. let p = err_from_is_err_and c.from_residual.result c.from_residual.ensures.1 in
    rw (p.1, p.2) (let t = c.eat.ensures.seen (cc) in
    led _ _ (c.more.invariant context) (lacks_name _ _ (parts.path t.seen) (parts.more t parts.nothing)
    c.in_err-take_name.ensures))
