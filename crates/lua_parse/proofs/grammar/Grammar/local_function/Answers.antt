use Rattle.std.proofs.Common.{ap, sym, ◌∙◌}
use Rattle.lua_grammar.specs.Grammar as rule
use Rattle.lua_grammar.specs.declared.expressions.Name.{Name}
use Rattle.std.proofs.lemmas.Result.{err_from_is_err_and}
use Rattle.lua_grammar.specs.Positions as at
use Rattle.lua_grammar.specs.Productions as parts
use Rattle.lua_grammar.specs.Stuck as stuck
use Rattle.lua_parse.proofs.Passed.{passed, lacks_name, faulty, on_line}
use Rattle.lua_parse.proofs.Seen.{sees_behind}
use Rattle.lua_parse.proofs.grammar.Grammar.local_function.Goals as goal

pub returns : goal.returns
returns g c = λ start t. rule.local_function t (ap (λ (n : Name). n.line) c.name-line.ensures) c.in_ok-take.ensures
    c.in_ok-name.ensures c.in_ok-number.ensures

pub returns-in_err-room : goal.returns-in_err-room
returns-in_err-room g c = λ start t. let p = err_from_is_err_and c.from_residual.result c.from_residual.ensures.1 in
    rw (p.1, p.2) (faulty _ _ _ _ _ _ c.in_err-room.ensures.0
    (stuck.local_level t c.requires.seen c.in_err-room.ensures.1))

pub returns-in_err-name : goal.returns-in_err-name
returns-in_err-name g c = λ start t. let p =
    err_from_is_err_and c.from_residual-in_err-name.result c.from_residual-in_err-name.ensures.1 in
    rw (p.1, p.2) (let here = sees_behind t c.requires.seen in
    lacks_name _ _ (parts.local_function t.seen here c.in_ok-room.ensures)
    (parts.more t (parts.more (ap at.line (sym t.taken), c.in_ok-take.ensures) parts.nothing)) c.in_err-name.ensures)

pub returns-in_err-number : goal.returns-in_err-number
returns-in_err-number g c = λ start t. let p = err_from_is_err_and c.from_residual-in_err-number.result
    c.from_residual-in_err-number.ensures.1 in
    rw (p.1, p.2) (let here = sees_behind t c.requires.seen in
    passed _ _ (parts.local_function t.seen here c.in_ok-room.ensures)
    (parts.more t (parts.more (ap at.line (sym t.taken), c.in_ok-take.ensures)
    (parts.more (_, c.in_ok-name.ensures) parts.nothing)))
    (on_line _ _ _ _ _ (ap (λ (n : Name). n.line) c.name-line.ensures ∙ ap at.line t.taken) c.in_err-number.ensures))
