use Rattle.std.proofs.Common.{ap, length, arith}
use Rattle.lua_lex.proofs.PieceLemmas.{HasPieces-more, HasPieces-broken, piece_shortens}
use Rattle.lua_lex.proofs.quotes.after_string.Goals as goal

pub loop-first-smaller : goal.loop-first-smaller
loop-first-smaller c =
    let there = c.in-Some.ensures.cases.0 in
    let long = ap length there in
    let less = piece_shortens c.in-Some.first.now c.in-Some.more.now c.in-Ok.next.now c.in-Ok.ensures in omega arith

pub loop-first-preserved : goal.loop-first-preserved
loop-first-preserved c =
    HasPieces-more c.args.quote c.args.text.now c.loop-first.rest.now c.in-Some.first.now c.in-Some.more.now
    c.in-Ok.next.now c.loop-first.invariant c.in-Some.ensures.cases.0 c.if-first-quote.false c.in-Ok.ensures

pub returns-in-Err : goal.returns-in-Err
returns-in-Err c =
    HasPieces-broken c.args.quote c.args.text.now c.loop-first.rest.now c.in-Some.first.now c.in-Some.more.now
    c.in-Err.kind c.loop-first.invariant c.in-Some.ensures.cases.0 c.in-Err.ensures
