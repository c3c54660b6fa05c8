use Rattle.std.proofs.Common.{◌∙◌}
use Rattle.std.proofs.lemmas.Result.{err_from_is_err_and}
use Rattle.lua_lex.specs.declared.kinds.TokenKind.TheVariants as kind
use Rattle.lua_grammar.specs.Grammar as rule
use Rattle.lua_grammar.specs.Stuck as stuck
use Rattle.lua_parse.proofs.Leads.{none_yet, one_more, ended_by, led}
use Rattle.lua_parse.proofs.Passed.{unexpected}
use Rattle.lua_grammar.proofs.Progress.{takes, takes_name, eaten, eats_also}
use Rattle.lua_parse.proofs.lists.names.Goals as goal

pub more-init : goal.more-init
more-init c = rw c.new-names.ensures (λ context. none_yet)

pub returns-in_err-take_name : goal.returns-in_err-take_name
returns-in_err-take_name c = λ context. let p = err_from_is_err_and c.from_residual.result c.from_residual.ensures.1 in
    rw (p.1, p.2) (led _ _ (c.more.invariant context) (unexpected kind.Name _ _ stuck.name c.in_err-take_name.ensures))

pub returns-then-not-eat : goal.returns-then-not-eat
returns-then-not-eat c = λ context. let no = c.eat.ensures.unseen (cc) in
    rw no.0 (ended_by (c.more.invariant context) (c.in_ok-exact.ensures ∙ c.in_ok-push.ensures.ok)
    (rule.one_name c.in_ok-take_name.ensures no.1))

pub more-preserved : goal.more-preserved
more-preserved c = λ context. let t = c.eat.ensures.seen (cc) in
    one_more (c.more.invariant context) c.in_ok-push.ensures.ok
    (λ rest end s. rule.more_names c.in_ok-take_name.ensures t s)
    (λ f z s. stuck.more_names c.in_ok-take_name.ensures t s)

pub more-smaller : goal.more-smaller
more-smaller c = (eats_also (takes_name c.in_ok-take_name.ensures) (eaten (takes (c.eat.ensures.seen (cc))))).words
