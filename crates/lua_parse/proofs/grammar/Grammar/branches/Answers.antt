use Rattle.std.proofs.Common.{List, [], ◌∷◌, ◌++◌, ap, ◌∙◌}
use Rattle.lua_grammar.specs.Grammar as rule
use Rattle.lua_parse.proofs.Leads.{none_yet, ended, led}
use Rattle.lua_grammar.proofs.Progress.{goes, takes, eats_also}
use Rattle.lua_parse.proofs.Leads.{one_more_branch}
use Rattle.lua_grammar.specs.declared.statements.Branch.{Branch}
use Rattle.std.proofs.lemmas.Result.{err_from_is_err_and}
use Rattle.lua_parse.proofs.Passed.{passed}
use Rattle.lua_grammar.specs.Productions as parts
use Rattle.lua_parse.proofs.grammar.Grammar.branches.Goals as goal

pub more-init : goal.more-init
more-init g c = record {
  done = [];
  all_are = c.in_ok-push.ensures.ok
      ∙ ap (λ (xs : List Branch). xs ++ c.args.first ∷ []) c.new-branches.ensures;
  leads = none_yet;
}

pub more-preserved : goal.more-preserved
more-preserved g c = one_more_branch c.more.invariant c.in_ok-push-2.ensures.ok (c.eat.ensures.seen (cc))
    c.in_ok-branch.ensures c.requires.room

pub more-smaller : goal.more-smaller
more-smaller g c = (eats_also (takes (c.eat.ensures.seen (cc))) (goes c.in_ok-branch.ensures)).words

pub returns : goal.returns
returns g c =
    let no = c.eat.ensures.unseen (cc) in
    rw (c.in_ok-exact.ensures, no.0) (
      c.more.invariant.done,
      c.more.invariant.all_are,
      ended c.more.invariant.leads (rule.no_branches no.1),
    )

pub returns-in_err-branch : goal.returns-in_err-branch
returns-in_err-branch g c = let p = err_from_is_err_and c.from_residual-in_err-branch.result
    c.from_residual-in_err-branch.ensures.1 in
    rw (p.1, p.2) (let t = c.eat.ensures.seen (cc) in
    led _ _ c.more.invariant.leads (passed _ _ (parts.branches t.seen c.requires.room) (parts.more t parts.nothing)
    c.in_err-branch.ensures))
