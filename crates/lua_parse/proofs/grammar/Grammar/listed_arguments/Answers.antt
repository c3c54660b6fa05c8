use Rattle.std.proofs.Common.{◌≡◌, ap}
use Rattle.std.proofs.lemmas.Result.{err_from_is_err_and}
use Rattle.lua_grammar.specs.Grammar as rule
use Rattle.lua_grammar.specs.Productions as parts
use Rattle.lua_grammar.specs.Stuck as stuck
use Rattle.lua_grammar.proofs.Inversions.{unseen_at}
use Rattle.lua_parse.proofs.Passed.{faulty, lacks, passed}
use Rattle.lua_parse.proofs.grammar.Grammar.listed_arguments.Goals as goal

pub returns-then-eat : goal.returns-then-eat
returns-then-eat g c = rw c.new.ensures (rule.no_arguments c.in_ok-take.ensures c.in_ok-near.ensures
    c.in_ok-room.ensures (c.eat.ensures.seen (cc)))

pub returns : goal.returns
returns g c =
    let unseen : c.eat.new.self ≡ c.take.new.self = (c.eat.ensures.unseen (cc)).0 in
    rule.arguments c.in_ok-take.ensures c.in_ok-near.ensures c.in_ok-room.ensures
    (rw unseen at c.in_ok-arguments.ensures) c.in_ok-take-2.ensures

pub returns-in_err-near : goal.returns-in_err-near
returns-in_err-near g c = let p = err_from_is_err_and c.from_residual.result c.from_residual.ensures.1 in
    rw (p.1, p.2) (faulty _ _ _ _ _ _ c.in_err-near.ensures.0
    (stuck.arguments_line c.requires.seen c.in_err-near.ensures.1))

pub returns-in_err-room : goal.returns-in_err-room
returns-in_err-room g c = let p = err_from_is_err_and c.from_residual-in_err-room.result
    c.from_residual-in_err-room.ensures.1 in
    rw (p.1, p.2) (faulty _ _ _ _ _ _ c.in_err-room.ensures.0
    (stuck.arguments_level (ap stuck.nests_suffix c.requires.seen)
    (ap parts.begins_arguments c.requires.seen) (λ s. c.in_ok-near.ensures) c.in_err-room.ensures.1))

pub returns-in_err-arguments : goal.returns-in_err-arguments
returns-in_err-arguments g c = let p = err_from_is_err_and c.from_residual-in_err-arguments.result
    c.from_residual-in_err-arguments.ensures.1 in
    let no = c.eat.ensures.unseen (cc) in
    rw (p.1, p.2) (passed _ _ (parts.arguments c.requires.seen c.in_ok-near.ensures
    (unseen_at c.in_ok-take.ensures.taken no.1) c.in_ok-room.ensures)
    (parts.more c.in_ok-take.ensures parts.nothing) (rw no.0 at c.in_err-arguments.ensures))

pub returns-in_err-take-2 : goal.returns-in_err-take-2
returns-in_err-take-2 g c = let p = err_from_is_err_and c.from_residual-in_err-take-2.result
    c.from_residual-in_err-take-2.ensures.1 in
    let no = c.eat.ensures.unseen (cc) in
    let unseen : c.eat.new.self ≡ c.take.new.self = no.0 in
    rw (p.1, p.2) (lacks _ _ (parts.arguments c.requires.seen c.in_ok-near.ensures
    (unseen_at c.in_ok-take.ensures.taken no.1) c.in_ok-room.ensures)
    (parts.more c.in_ok-take.ensures (parts.more (_, rw unseen at c.in_ok-arguments.ensures) parts.nothing))
    c.in_err-take-2.ensures)
