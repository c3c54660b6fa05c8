use Rattle.std.proofs.Common.{◌≡◌, ◌+◌, length, true, false, arith, rules}
use Rattle.lua_lex.specs.Long.{closes}
use Rattle.lua_lex.proofs.LongLemmas.{IsAt-start, IsAt-none, IsAt-found, IsAt-more}
use Rattle.lua_lex.proofs.long.close.Goals as goal

pub loop-at-init : goal.loop-at-init
loop-at-init c = IsAt-start c.args.level c.args.text.now

pub overflow_add-at : goal.overflow_add-at
overflow_add-at c = let less = c.in-Some.ensures.0.high in omega (arith, less)

pub returns-then-closes-clause-value : goal.returns-then-closes-clause-value
returns-then-closes-clause-value c =
    let there : closes c.args.level c.split_at.result.1.now ≡ true = let t = c.if-closes.true in let e =
    c.closes.ensures.value in search rules in
    let long : length c.split_at.result.1.now + (c.in-Some.at + 1) ≡ length c.loop-at.rest.now =
    omega (arith, c.split_at.ensures.back_len) in
    IsAt-found c.args.level c.args.text.now c.loop-at.rest.now c.split_at.result.1.now c.in-Some.at c.loop-at.invariant
    c.in-Some.ensures c.split_at.ensures.back long there

pub loop-at-preserved : goal.loop-at-preserved
loop-at-preserved c =
    let not_there : closes c.args.level c.split_at.result.1.now ≡ false = let t = c.if-closes.false in let e =
    c.closes.ensures.value in search rules in
    let long : length c.split_at.result.1.now + (c.in-Some.at + 1) ≡ length c.loop-at.rest.now =
    omega (arith, c.split_at.ensures.back_len) in
    IsAt-more c.args.level c.args.text.now c.loop-at.rest.now c.split_at.result.1.now c.in-Some.at c.loop-at.invariant
    c.in-Some.ensures c.split_at.ensures.back long not_there

pub returns-clause-value : goal.returns-clause-value
returns-clause-value c = IsAt-none c.args.level c.args.text.now c.loop-at.rest.now c.loop-at.invariant
    c.in_default.ensures
