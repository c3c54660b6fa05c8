use Rattle.std.proofs.Common.{◌≡◌, true, rules}
use Rattle.lua_lex.specs.Lines.{is_break}
use Rattle.lua_lex.proofs.ValueLemmas.{feeds_more}
use Rattle.lua_lex.proofs.values.line_feeds.Goals as goal

pub loop-first-preserved-then-is_break : goal.loop-first-preserved-then-is_break
loop-first-preserved-then-is_break c =
    let broken : is_break c.in-Some.first.now ≡ true = let t = c.if-is_break.true in let e = c.if-is_break.ensures in
    search rules in
    rw (c.in_ok-push.ensures.ok, c.after_break-rest.ensures)
    (feeds_more c.args.text.now c.loop-first.bytes c.loop-first.rest.now c.in-Some.first.now c.in-Some.more.now
    c.loop-first.invariant c.in-Some.ensures.cases.0 broken)
