use Rattle.lua_grammar.specs.Grammar as rule
use Rattle.std.proofs.lemmas.Result.{err_from_is_err_and}
use Rattle.lua_grammar.specs.Productions as parts
use Rattle.lua_parse.proofs.Passed.{passed, lacks, lacks_name}
use Rattle.lua_parse.proofs.Seen.{named_is}
use Rattle.lua_parse.proofs.grammar.Grammar.numeric_for.Goals as goal

pub returns : goal.returns
returns g c = rule.numeric_for c.in_ok-name.ensures c.in_ok-take.ensures c.in_ok-begin.ensures c.in_ok-take-2.ensures
    c.in_ok-limit.ensures c.in_ok-step.ensures c.in_ok-block.ensures

pub returns-in_err-name : goal.returns-in_err-name
returns-in_err-name g c = let p = err_from_is_err_and c.from_residual.result c.from_residual.ensures.1 in
    rw (p.1, p.2) (lacks_name _ _ (let n = named_is _ _ c.requires.named in parts.numeric_for n.0 n.1 c.requires.room)
    parts.nothing
    c.in_err-name.ensures)

pub returns-in_err-take : goal.returns-in_err-take
returns-in_err-take g c = let p = err_from_is_err_and c.from_residual-in_err-take.result
    c.from_residual-in_err-take.ensures.1 in
    rw (p.1, p.2) (lacks _ _ (let n = named_is _ _ c.requires.named in parts.numeric_for n.0 n.1 c.requires.room)
    (parts.more (_, c.in_ok-name.ensures) parts.nothing) c.in_err-take.ensures)

pub returns-in_err-begin : goal.returns-in_err-begin
returns-in_err-begin g c = let p = err_from_is_err_and c.from_residual-in_err-begin.result
    c.from_residual-in_err-begin.ensures.1 in
    rw (p.1, p.2) (passed _ _ (let n = named_is _ _ c.requires.named in parts.numeric_for n.0 n.1 c.requires.room)
    (parts.more (_, c.in_ok-name.ensures) (parts.more c.in_ok-take.ensures parts.nothing)) c.in_err-begin.ensures)

pub returns-in_err-take-2 : goal.returns-in_err-take-2
returns-in_err-take-2 g c = let p = err_from_is_err_and c.from_residual-in_err-take-2.result
    c.from_residual-in_err-take-2.ensures.1 in
    rw (p.1, p.2) (lacks _ _ (let n = named_is _ _ c.requires.named in parts.numeric_for n.0 n.1 c.requires.room)
    (parts.more (_, c.in_ok-name.ensures) (parts.more c.in_ok-take.ensures
    (parts.more (_, c.in_ok-begin.ensures) parts.nothing)))
    c.in_err-take-2.ensures)

pub returns-in_err-limit : goal.returns-in_err-limit
returns-in_err-limit g c = let p = err_from_is_err_and c.from_residual-in_err-limit.result
    c.from_residual-in_err-limit.ensures.1 in
    rw (p.1, p.2) (passed _ _ (let n = named_is _ _ c.requires.named in parts.numeric_for n.0 n.1 c.requires.room)
    (parts.more (_, c.in_ok-name.ensures) (parts.more c.in_ok-take.ensures (parts.more (_, c.in_ok-begin.ensures)
    (parts.more c.in_ok-take-2.ensures parts.nothing)))) c.in_err-limit.ensures)

pub returns-in_err-step : goal.returns-in_err-step
returns-in_err-step g c = let p = err_from_is_err_and c.from_residual-in_err-step.result
    c.from_residual-in_err-step.ensures.1 in
    rw (p.1, p.2) (passed _ _ (let n = named_is _ _ c.requires.named in parts.numeric_for n.0 n.1 c.requires.room)
    (parts.more (_, c.in_ok-name.ensures) (parts.more c.in_ok-take.ensures (parts.more (_, c.in_ok-begin.ensures)
    (parts.more c.in_ok-take-2.ensures (parts.more (_, c.in_ok-limit.ensures) parts.nothing))))) c.in_err-step.ensures)

pub returns-in_err-block : goal.returns-in_err-block
returns-in_err-block g c = let p = err_from_is_err_and c.from_residual-in_err-block.result
    c.from_residual-in_err-block.ensures.1 in
    rw (p.1, p.2) (passed _ _ (let n = named_is _ _ c.requires.named in parts.numeric_for n.0 n.1 c.requires.room)
    (parts.more (_, c.in_ok-name.ensures) (parts.more c.in_ok-take.ensures (parts.more (_, c.in_ok-begin.ensures)
    (parts.more c.in_ok-take-2.ensures (parts.more (_, c.in_ok-limit.ensures)
    (parts.more (_, c.in_ok-step.ensures) parts.nothing)))))) c.in_err-block.ensures)
