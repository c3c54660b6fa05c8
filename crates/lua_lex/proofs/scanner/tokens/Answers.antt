use Rattle.std.proofs.Common.{◌≡◌, ◌<◌, [], length, arith, inl}
use Rattle.std.proofs.lemmas.Bool.Decides.{nat_tests}
use Rattle.std.proofs.lemmas.Grind.{common_steps}
use Rattle.lua_lex.proofs.LexemeLemmas.{HasRead-length, HasRead-more, HasRead-all, HasRead-stop, tokens_no_stop}
use Rattle.lua_lex.proofs.LexemeLemmas.{stop_along, stop_is}
use Rattle.lua_lex.proofs.scanner.tokens.Goals as goal

pub overflow_add-line : goal.overflow_add-line
overflow_add-line c =
    let few = HasRead-length c.args.text.now c.loop-rest.tokens c.loop-rest.lines c.loop-rest.rest.now
    c.loop-rest.invariant in omega (arith, few.1)

pub returns-in-Err-clause-only : goal.returns-in-Err-clause-only
returns-in-Err-clause-only c = λ list has.
    let more : 0 < length c.loop-rest.rest.now = grind (arith, nat_tests, c.loop-rest-test.ensures) in
    absurd (tokens_no_stop c.args.text.now list _ _ has
    (HasRead-stop c.args.text.now c.loop-rest.tokens c.loop-rest.lines c.loop-rest.rest.now c.in-Err.kind
    c.loop-rest.invariant c.in-Err.ensures.first more))

pub returns-in-Err-clause-stop : goal.returns-in-Err-clause-stop
returns-in-Err-clause-stop c = λ line kind e.
    let more : 0 < length c.loop-rest.rest.now = grind (arith, nat_tests, c.loop-rest-test.ensures) in
    stop_along c.args.text.now _ line _ kind
    (HasRead-stop c.args.text.now c.loop-rest.tokens c.loop-rest.lines c.loop-rest.rest.now c.in-Err.kind
    c.loop-rest.invariant c.in-Err.ensures.first more) (cc)

pub returns-in-Err-clause-only_stop : goal.returns-in-Err-clause-only_stop
returns-in-Err-clause-only_stop c = λ line kind stops.
    let more : 0 < length c.loop-rest.rest.now = grind (arith, nat_tests, c.loop-rest-test.ensures) in
    inl (stop_is c.args.text.now _ line _ kind
    (HasRead-stop c.args.text.now c.loop-rest.tokens c.loop-rest.lines c.loop-rest.rest.now c.in-Err.kind
    c.loop-rest.invariant c.in-Err.ensures.first more) stops)

pub pass-lines-requires : goal.pass-lines-requires
pass-lines-requires c =
    let few = HasRead-length c.args.text.now c.loop-rest.tokens c.loop-rest.lines c.loop-rest.rest.now
    c.loop-rest.invariant in omega (arith, few.1, c.split_at.ensures.front_len, c.in-Ok.ensures.within)

pub loop-rest-preserved : goal.loop-rest-preserved
loop-rest-preserved c =
    rw (c.in_ok-push_token.ensures, c.pass-lines.ensures)
    (HasRead-more c.args.text.now c.loop-rest.tokens c.loop-rest.lines c.loop-rest.rest.now c.in-Ok.item
    c.split_at.result.0.now c.split_at.result.1.now c.loop-rest.invariant c.in-Ok.ensures.first c.in-Ok.ensures.some
    c.in-Ok.ensures.within c.split_at.ensures.front c.split_at.ensures.back)

pub returns-clause-only_stop : goal.returns-clause-only_stop
returns-clause-only_stop c = λ line kind stops.
    let none : c.loop-rest.rest.now ≡ [] = grind (arith, nat_tests, common_steps, c.loop-rest-test.ensures) in
    tokens_no_stop c.args.text.now c.loop-rest.tokens line kind
    (HasRead-all c.args.text.now c.loop-rest.tokens c.loop-rest.lines c.loop-rest.rest.now c.loop-rest.invariant none)
    stops
