use Rattle.std.proofs.Common.{ap, refl}
use Rattle.std.proofs.lemmas.Result.{err_from_is_err_and}
use Rattle.lua_grammar.specs.Grammar as rule
use Rattle.lua_grammar.specs.Productions as parts
use Rattle.lua_grammar.specs.Stuck as stuck
use Rattle.lua_grammar.specs.declared.expressions.Name.{Name}
use Rattle.lua_parse.proofs.Passed.{passed, faulty, on_line}
use Rattle.lua_parse.proofs.grammar.Grammar.function.Goals as goal

pub returns : goal.returns
returns g c = rule.function (ap (λ (n : Name). n.line) c.name-line.ensures)
    (record { seen = c.requires.seen; taken = c.pass.ensures }) c.in_ok-number.ensures

pub returns-in_err-room : goal.returns-in_err-room
returns-in_err-room g c = let p = err_from_is_err_and c.from_residual.result c.from_residual.ensures.1 in
    rw (p.1, p.2) (faulty _ _ _ _ _ _ c.in_err-room.ensures.0
    (stuck.simple_level (ap stuck.nests_simple c.requires.seen) c.in_err-room.ensures.1))

pub returns-in_err-number : goal.returns-in_err-number
returns-in_err-number g c = let p = err_from_is_err_and c.from_residual-in_err-number.result
    c.from_residual-in_err-number.ensures.1 in
    let on = ap (λ (n : Name). n.line) c.name-line.ensures in
    rw (p.1, p.2) (passed {i = c.args.reader.now} _ _ (parts.function c.requires.seen c.in_ok-room.ensures)
    (parts.more (refl, record { seen = c.requires.seen; taken = c.pass.ensures }) parts.nothing)
    (on_line _ _ _ _ _ on c.in_err-number.ensures))
