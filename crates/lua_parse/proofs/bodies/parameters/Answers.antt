use Rattle.std.proofs.Common.{◌≡◌}
use Rattle.lua_grammar.specs.Grammar as rule
use Rattle.lua_parse.proofs.Leads.{no_parameter_yet, one_more_parameter, last_parameter, dots_behind}
use Rattle.lua_grammar.proofs.Progress.{takes, takes_name, eaten, eats_also}
use Rattle.std.proofs.lemmas.Result.{err_from_is_err_and}
use Rattle.lua_lex.specs.declared.kinds.TokenKind.TheVariants as kind
use Rattle.lua_parse.proofs.Passed.{unexpected}
use Rattle.lua_parse.proofs.Seen.{sees_not}
use Rattle.lua_parse.proofs.bodies.parameters.Goals as goal

pub returns-then-sees : goal.returns-then-sees
returns-then-sees c = λ context. rw c.new-names.ensures (rule.no_parameters (c.sees.ensures.0 (cc)))

pub more-init : goal.more-init
more-init c = rw c.new-names.ensures (λ context. no_parameter_yet
    (sees_not kind.RightParen c.args.reader.now c.sees.ensures (cc)))

pub returns-then-eat : goal.returns-then-eat
returns-then-eat c = λ context. rw c.in_ok-exact.ensures
    (dots_behind (c.more.invariant context) (c.eat.ensures.seen (cc)))

pub returns-then-not-eat : goal.returns-then-not-eat
returns-then-not-eat c = λ context.
    let none : c.eat.new.self ≡ c.more.reader = (c.eat.ensures.unseen (cc)).0 in
    let no = c.eat-in-more.ensures.unseen (cc) in
    rw (c.in_ok-exact-2.ensures, no.0) (last_parameter (c.more.invariant context) c.in_ok-push.ensures.ok
    (rw none at c.in_ok-take_name.ensures)
    no.1)

pub more-preserved : goal.more-preserved
more-preserved c = λ context.
    let none : c.eat.new.self ≡ c.more.reader = (c.eat.ensures.unseen (cc)).0 in
    one_more_parameter (c.more.invariant context) c.in_ok-push.ensures.ok (rw none at c.in_ok-take_name.ensures)
    (c.eat-in-more.ensures.seen (cc))

pub more-smaller : goal.more-smaller
more-smaller c =
    let none : c.eat.new.self ≡ c.more.reader = (c.eat.ensures.unseen (cc)).0 in
    (eats_also (takes_name (rw none at c.in_ok-take_name.ensures))
    (eaten (takes (c.eat-in-more.ensures.seen (cc))))).words

pub returns-in_err-take_name : goal.returns-in_err-take_name
returns-in_err-take_name c = λ context. let p =
    err_from_is_err_and c.from_residual-in_err-take_name.result c.from_residual-in_err-take_name.ensures.1 in
    rw (p.1, p.2) (let none : c.eat.new.self ≡ c.more.reader = (c.eat.ensures.unseen (cc)).0 in
    unexpected kind.Name _ _ (λ no. (c.more.invariant context).lacking (c.eat.ensures.unseen (cc)).1 no)
    (rw none at c.in_err-take_name.ensures))
