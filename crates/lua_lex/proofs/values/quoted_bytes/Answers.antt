use Rattle.std.proofs.Common.{◌≡◌, ◌<◌, [], Some, ap, length, arith}
use Rattle.std.proofs.lemmas.Bool.Decides.{nat_tests}
use Rattle.std.proofs.lemmas.Grind.{common_steps}
use Rattle.lua_lex.proofs.PieceLemmas.{piece_shortens}
use Rattle.lua_lex.proofs.ValueLemmas.{HasValue-more, HasValue-only, HasValue-more_behind, HasValue-broken}
use Rattle.lua_lex.proofs.ValueLemmas.{HasValue-ended}
use Rattle.lua_lex.proofs.values.quoted_bytes.Goals as goal

pub loop-first-smaller : goal.loop-first-smaller
loop-first-smaller c =
    let long = ap length c.in-Some.ensures.cases.0 in
    let less = piece_shortens c.in-Some.first.now c.in-Some.more.now c.in-Ok.next.now c.in-Ok.ensures in omega arith

pub loop-first-preserved : goal.loop-first-preserved
loop-first-preserved c =
    rw c.in_ok-push.ensures.ok (HasValue-more c.args.quote c.args.text.now c.loop-first.bytes c.loop-first.rest.now
    c.in-Some.first.now c.in-Some.more.now c.in-Ok.next.now c.first_byte.result c.loop-first.invariant
    c.in-Some.ensures.cases.0 c.if-first-quote.false c.in-Ok.ensures c.first_byte.ensures)

pub returns-then-is_empty-clause-only : goal.returns-then-is_empty-clause-only
returns-then-is_empty-clause-only c = λ pieces are text.
    let none : c.in-Some.more.now ≡ [] = grind (arith, nat_tests, common_steps, c.if-is_empty.ensures) in
    ap Some (HasValue-only c.args.quote c.args.text.now c.loop-first.bytes c.loop-first.rest.now c.in-Some.first.now
    c.in-Some.more.now c.requires c.loop-first.invariant c.in-Some.ensures.cases.0 c.if-first-quote.true none pieces are
    text)

pub returns-then-first-quote-clause-only : goal.returns-then-first-quote-clause-only
returns-then-first-quote-clause-only c = λ pieces are text.
    let some : 0 < length c.in-Some.more.now = grind (arith, nat_tests, c.if-is_empty.ensures) in
    absurd (HasValue-more_behind c.args.quote c.args.text.now c.loop-first.bytes c.loop-first.rest.now
    c.in-Some.first.now c.in-Some.more.now c.requires c.loop-first.invariant c.in-Some.ensures.cases.0
    c.if-first-quote.true some pieces are text)

pub returns-in-Err-clause-only : goal.returns-in-Err-clause-only
returns-in-Err-clause-only c = λ pieces are text.
    absurd (HasValue-broken c.args.quote c.args.text.now c.loop-first.bytes c.loop-first.rest.now c.in-Some.first.now
    c.in-Some.more.now c.in-Err.field-0 c.requires c.loop-first.invariant c.in-Some.ensures.cases.0 c.in-Err.ensures
    pieces are text)

pub returns-clause-only : goal.returns-clause-only
returns-clause-only c = λ pieces are text.
    let none : c.loop-first.rest.now ≡ [] = grind (arith, common_steps) in
    absurd (HasValue-ended c.args.quote c.args.text.now c.loop-first.bytes c.loop-first.rest.now c.requires
    c.loop-first.invariant none pieces are text)
