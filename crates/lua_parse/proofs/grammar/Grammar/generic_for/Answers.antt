use Rattle.lua_grammar.specs.Grammar as rule
use Rattle.std.proofs.lemmas.Result.{err_from_is_err_and}
use Rattle.lua_grammar.specs.Stuck as stuck
use Rattle.lua_lex.specs.declared.kinds.TokenKind.TheVariants as kind
use Rattle.lua_parse.proofs.Passed.{goes_on, unexpected}
use Rattle.lua_parse.proofs.Seen.{no_assign_behind}
use Rattle.lua_parse.proofs.grammar.Grammar.generic_for.Goals as goal

pub returns : goal.returns
returns g c = rule.generic_for (c.in_ok-names.ensures c.args.self.now.context) c.in_ok-take.ensures c.in_ok-list.ensures
    c.in_ok-block.ensures

pub returns-in_err-names : goal.returns-in_err-names
returns-in_err-names g c = let p = err_from_is_err_and c.from_residual.result c.from_residual.ensures.1 in
    rw (p.1, p.2) (goes_on _ _ (λ f s. stuck.for_names c.requires.room s)
    (c.in_err-names.ensures c.args.self.now.context))

pub returns-in_err-take : goal.returns-in_err-take
returns-in_err-take g c = let p = err_from_is_err_and c.from_residual-in_err-take.result
    c.from_residual-in_err-take.ensures.1 in
    rw (p.1, p.2) (let names = c.in_ok-names.ensures c.args.self.now.context in
    unexpected kind.In _ _ (λ no. stuck.for_in c.requires.room (no_assign_behind c.requires.unnamed names) names no)
    c.in_err-take.ensures)

pub returns-in_err-list : goal.returns-in_err-list
returns-in_err-list g c = let p = err_from_is_err_and c.from_residual-in_err-list.result
    c.from_residual-in_err-list.ensures.1 in
    rw (p.1, p.2) (goes_on _ _
    (λ f s. stuck.for_list c.requires.room (c.in_ok-names.ensures c.args.self.now.context) c.in_ok-take.ensures s)
    c.in_err-list.ensures)

pub returns-in_err-block : goal.returns-in_err-block
returns-in_err-block g c = let p = err_from_is_err_and c.from_residual-in_err-block.result
    c.from_residual-in_err-block.ensures.1 in
    rw (p.1, p.2) (goes_on _ _ (λ f s. stuck.for_block c.requires.room (c.in_ok-names.ensures c.args.self.now.context)
    c.in_ok-take.ensures
    c.in_ok-list.ensures s) c.in_err-block.ensures)
