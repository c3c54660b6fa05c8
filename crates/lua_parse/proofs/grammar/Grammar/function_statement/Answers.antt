use Rattle.std.proofs.Common.{ap, refl}
use Rattle.lua_grammar.specs.Grammar as rule
use Rattle.lua_grammar.specs.declared.expressions.Name.{Name}
use Rattle.std.proofs.lemmas.Result.{err_from_is_err_and}
use Rattle.lua_grammar.specs.Stuck as stuck
use Rattle.lua_grammar.specs.Productions as parts
use Rattle.lua_lex.specs.declared.kinds.TokenKind.TheVariants as kind
use Rattle.lua_parse.proofs.Passed.{faulty, goes_on, unexpected, on_line}
use Rattle.lua_parse.proofs.Functions.{method_on_line, no_method}
use Rattle.lua_parse.proofs.grammar.Grammar.function_statement.Goals as goal

pub returns-then-eat : goal.returns-then-eat
returns-then-eat g c =
    let m = c.in_ok-deed.ensures in
    rw m.is (rule.method_statement (ap (λ (n : Name). n.line) c.name-line.ensures) c.in_ok-take.ensures
    c.in_ok-name.ensures (c.in_ok-path.ensures c.args.self.now.context) (c.eat.ensures.seen (cc)) m.takes m.spelled)

pub returns : goal.returns
returns g c =
    let no = c.eat.ensures.unseen (cc) in
    rule.function_statement (ap (λ (n : Name). n.line) c.name-line.ensures) c.in_ok-take.ensures c.in_ok-name.ensures
    (c.in_ok-path.ensures c.args.self.now.context) no.1 (rw no.0 at c.in_ok-number.ensures)

pub returns-in_err-room : goal.returns-in_err-room
returns-in_err-room g c = let p = err_from_is_err_and c.from_residual.result c.from_residual.ensures.1 in
    rw (p.1, p.2) (faulty _ _ _ _ _ _ c.in_err-room.ensures.0
    (stuck.deed_level (ap stuck.nests_statement c.requires.seen) c.in_err-room.ensures.1))

pub returns-in_err-name : goal.returns-in_err-name
returns-in_err-name g c = let p = err_from_is_err_and c.from_residual-in_err-name.result
    c.from_residual-in_err-name.ensures.1 in
    rw (p.1, p.2) (unexpected kind.Name _ _ (λ no. stuck.function_refused c.requires.seen c.in_ok-room.ensures
    (parts.more (refl, c.in_ok-take.ensures) parts.nothing) (stuck.no_name no)) c.in_err-name.ensures)

pub returns-in_err-path : goal.returns-in_err-path
returns-in_err-path g c = let p = err_from_is_err_and c.from_residual-in_err-path.result
    c.from_residual-in_err-path.ensures.1 in
    rw (p.1, p.2) (goes_on _ _ (λ f s. stuck.function_inside c.requires.seen c.in_ok-room.ensures
    (parts.more (refl, c.in_ok-take.ensures)
    (parts.more (_, c.in_ok-name.ensures) parts.nothing)) s) (c.in_err-path.ensures c.args.self.now.context))

pub returns-in_err-deed : goal.returns-in_err-deed
returns-in_err-deed g c = let p = err_from_is_err_and c.from_residual-in_err-deed.result
    c.from_residual-in_err-deed.ensures.1 in
    rw (p.1, p.2) (no_method _ _ c.requires.seen c.in_ok-room.ensures
    (parts.more (refl, c.in_ok-take.ensures) (parts.more (_, c.in_ok-name.ensures)
    (parts.more (_, c.in_ok-path.ensures c.args.self.now.context) parts.nothing)))
    (c.eat.ensures.seen (cc)) (method_on_line _ _ _ _ (ap (λ (n : Name). n.line) c.name-line.ensures)
    c.in_err-deed.ensures))

pub returns-in_err-number : goal.returns-in_err-number
returns-in_err-number g c = let p = err_from_is_err_and c.from_residual-in_err-number.result
    c.from_residual-in_err-number.ensures.1 in
    rw (p.1, p.2) (let no = c.eat.ensures.unseen (cc) in
    goes_on _ _ (λ f s. stuck.function_statement c.requires.seen c.in_ok-room.ensures
    (parts.more (refl, c.in_ok-take.ensures) (parts.more (_, c.in_ok-name.ensures)
    (parts.more (_, c.in_ok-path.ensures c.args.self.now.context) parts.nothing))) no.1 s)
    (on_line _ _ _ _ _ (ap (λ (n : Name). n.line) c.name-line.ensures) (rw no.0 at c.in_err-number.ensures)))
