use Rattle.std.proofs.Common.{rules, ◌≡◌, true, Some, sym, ap, ◌∙◌}
use Rattle.std.proofs.lemmas.Result.{err_from_is_err_and}
use Rattle.lua_grammar.specs.Positions as at
use Rattle.lua_grammar.specs.Stuck as stuck
use Rattle.lua_grammar.specs.Stuck.{IsNearCall, nests_suffix}
use Rattle.lua_parse.proofs.Kept.{has_room}
use Rattle.lua_parse.proofs.Passed.{faulty}
use Rattle.lua_parse.proofs.grammar.Grammar.suffix_room.Goals as goal

pub returns-in_err-near-in-Some-LeftParen : goal.returns-in_err-near-in-Some-LeftParen
returns-in_err-near-in-Some-LeftParen g c = let p =
    err_from_is_err_and c.from_residual.result c.from_residual.ensures.1 in
    rw (p.1, p.2) (λ sought. faulty _ _ _ _ _ _ c.in_err-near-in-Some-LeftParen.ensures.0
    (stuck.suffix_line (sym c.peek.ensures ∙ c.in-Some-LeftParen.is ∙ ap Some c.in-Some-LeftParen.field-0-is)
    c.in_err-near-in-Some-LeftParen.ensures.1))

pub returns-in_ok-near-in-Some-LeftParen : goal.returns-in_ok-near-in-Some-LeftParen
returns-in_ok-near-in-Some-LeftParen g c = has_room _ _ _ (λ s. c.in_ok-near-in-Some-LeftParen.ensures)
    (ap stuck.nests_suffix (sym c.peek.ensures ∙ c.in-Some-LeftParen.is ∙ ap Some c.in-Some-LeftParen.field-0-is))
    c.room.ensures

pub returns-in-Some-LeftBrace : goal.returns-in-Some-LeftBrace
returns-in-Some-LeftBrace g c =
    let near : IsNearCall c.args.reader.now = search rules in
    let nests : nests_suffix (at.kind c.args.reader.now) ≡ true = search rules in
    has_room _ _ _ near nests c.room-in-Some-LeftBrace.ensures
