use Rattle.std.proofs.Common.{arith}
use Rattle.lua_grammar.specs.Grammar as rule
use Rattle.lua_grammar.proofs.Progress.{goes, takes, also, eaten, has_place}
use Rattle.lua_grammar.specs.Things as thing
use Rattle.std.proofs.lemmas.Result.{err_from_is_err_and}
use Rattle.lua_grammar.specs.Productions as parts
use Rattle.lua_grammar.specs.Stuck as stuck
use Rattle.lua_lex.specs.declared.kinds.TokenKind.TheVariants as kind
use Rattle.lua_parse.proofs.Passed.{goes_on, unexpected}
use Rattle.lua_parse.proofs.Functions.{no_body}
use Rattle.lua_parse.proofs.grammar.Grammar.function_body.Goals as goal

pub end_body-requires : goal.end_body-requires
end_body-requires g c =
    let o = c.in_ok-number.ensures in
    let place = has_place o.begins in
    let after = also (eaten (takes o.takes))
    (also (goes {t = thing.parameters _ _} (c.in_ok-parameters.ensures c.args.self.now.context))
    (also (eaten (takes c.in_ok-take.ensures))
    (also (goes c.in_ok-block.ensures) (eaten (takes c.in_ok-take-2.ensures))))) in
    omega (arith, place, after.bodies)

pub returns : goal.returns
returns g c =
    let o = c.in_ok-number.ensures in
    rule.function_body o.begins o.takes (c.in_ok-parameters.ensures c.args.self.now.context) c.in_ok-take.ensures
    c.requires.room
    (rw c.function.ensures at c.in_ok-block.ensures) c.in_ok-take-2.ensures
    c.end_body.ensures

pub returns-in_err-number : goal.returns-in_err-number
returns-in_err-number g c = let p = err_from_is_err_and c.from_residual.result c.from_residual.ensures.1 in
    rw (p.1, p.2) (no_body _ _ _ _ _ _ c.in_err-number.ensures c.requires.room)

pub returns-in_err-parameters : goal.returns-in_err-parameters
returns-in_err-parameters g c = let p = err_from_is_err_and c.from_residual-in_err-parameters.result
    c.from_residual-in_err-parameters.ensures.1 in
    rw (p.1, p.2) (let o = c.in_ok-number.ensures in
    goes_on _ _ (λ f s. stuck.in_parameters o.begins o.takes c.requires.room s)
    (c.in_err-parameters.ensures c.args.self.now.context))

pub returns-in_err-take : goal.returns-in_err-take
returns-in_err-take g c = let p = err_from_is_err_and c.from_residual-in_err-take.result
    c.from_residual-in_err-take.ensures.1 in
    rw (p.1, p.2) (let o = c.in_ok-number.ensures in
    let ps = c.in_ok-parameters.ensures c.args.self.now.context in
    unexpected kind.RightParen _ _ (λ no. stuck.body_refused o.begins o.takes c.requires.room ps parts.nothing
    (stuck.no_word no))
    c.in_err-take.ensures)

pub returns-in_err-block : goal.returns-in_err-block
returns-in_err-block g c = let p = err_from_is_err_and c.from_residual-in_err-block.result
    c.from_residual-in_err-block.ensures.1 in
    rw (p.1, p.2) (let o = c.in_ok-number.ensures in
    let ps = c.in_ok-parameters.ensures c.args.self.now.context in
    goes_on _ _ (λ f s. stuck.body_inside o.begins o.takes c.requires.room ps c.in_ok-take.ensures s)
    (rw c.function.ensures at
    c.in_err-block.ensures))

pub returns-in_err-take-2 : goal.returns-in_err-take-2
returns-in_err-take-2 g c = let p = err_from_is_err_and c.from_residual-in_err-take-2.result
    c.from_residual-in_err-take-2.ensures.1 in
    rw (p.1, p.2) (let o = c.in_ok-number.ensures in
    let ps = c.in_ok-parameters.ensures c.args.self.now.context in
    unexpected kind.End _ _ (λ no. stuck.body_refused o.begins o.takes c.requires.room ps
    (parts.more c.in_ok-take.ensures (parts.more (_, rw c.function.ensures at c.in_ok-block.ensures) parts.nothing))
    (stuck.no_word no))
    c.in_err-take-2.ensures)
