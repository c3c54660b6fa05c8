use Rattle.std.proofs.lemmas.Result.{err_from_is_err_and}
use Rattle.lua_lex.specs.declared.kinds.TokenKind.TheVariants as kind
use Rattle.lua_grammar.specs.Grammar as rule
use Rattle.lua_grammar.specs.Stuck as stuck
use Rattle.lua_grammar.proofs.Progress.{goes, takes, eats_also}
use Rattle.lua_parse.proofs.Leads.{first_target, next_target}
use Rattle.lua_parse.proofs.Passed.{goes_on, unexpected}
use Rattle.lua_parse.proofs.grammar.Grammar.assignment.Goals as goal

pub more-init : goal.more-init
more-init g c = λ start s. rw (c.in_ok-push.ensures.ok, c.new-targets.ensures) (first_target s)

pub more-preserved : goal.more-preserved
more-preserved g c = λ start s. next_target (c.more.invariant start s) (c.eat.ensures.seen (cc)) c.in_ok-target.ensures
    c.in_ok-push-2.ensures.ok

pub more-smaller : goal.more-smaller
more-smaller g c = (eats_also (takes (c.eat.ensures.seen (cc))) (goes c.in_ok-target.ensures)).words

pub returns : goal.returns
returns g c = λ start s.
    let no = c.eat.ensures.unseen (cc) in
    rw c.in_ok-targets.ensures
    (rule.assign ((c.more.invariant start s).ends no.1) (rw no.0 at c.in_ok-take.ensures) c.in_ok-values.ensures)

pub returns-in_err-target : goal.returns-in_err-target
returns-in_err-target g c = λ start first. let p =
    err_from_is_err_and c.from_residual-in_err-target.result c.from_residual-in_err-target.ensures.1 in
    rw (p.1, p.2) (goes_on _ _
    (λ f s. (c.more.invariant start first).backs _ (c.eat.ensures.seen (cc)) f _ (stuck.first_target s))
    c.in_err-target.ensures)

pub returns-in_err-take : goal.returns-in_err-take
returns-in_err-take g c = λ start first. let p =
    err_from_is_err_and c.from_residual-in_err-take.result c.from_residual-in_err-take.ensures.1 in
    let no = c.eat.ensures.unseen (cc) in
    rw (p.1, p.2) (unexpected kind.Assign _ _
    (λ none. stuck.no_assign ((c.more.invariant start first).ends no.1) none) (rw no.0 at c.in_err-take.ensures))

pub returns-in_err-values : goal.returns-in_err-values
returns-in_err-values g c = λ start first. let p =
    err_from_is_err_and c.from_residual-in_err-values.result c.from_residual-in_err-values.ensures.1 in
    let no = c.eat.ensures.unseen (cc) in
    rw (p.1, p.2) (goes_on _ _
    (λ f s. stuck.assigned ((c.more.invariant start first).ends no.1) (rw no.0 at c.in_ok-take.ensures) s)
    c.in_err-values.ensures)
