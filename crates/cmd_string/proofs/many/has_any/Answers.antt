use Rattle.std.proofs.Common.{◌≡◌, ◌+◌, ◌<◌, ◌≤◌, ◌||◌, length, drop, sym, ap, ◌∙◌, arith, true, false}
use Rattle.std.specs.FinMap as finite
use Rattle.cmd_string.specs.StringRows.{has_any}
use Rattle.cmd_string.proofs.Parts.{any-step, any-end}
use Rattle.cmd_string.proofs.many.has_any.Goals as goal

pub returns-then-is_there : goal.returns-then-is_there
returns-then-is_there c =
    let more : c.loop-place.place + 1 < length c.args.words.now = omega arith in
    let there : finite.contains_key c.args.world.now.store c.index-words-place.result ≡ true = sym c.is_there.ensures
    ∙ c.if-is_there.true in
    sym (c.loop-place.invariant ∙ any-step c.args.world.now.store c.args.words.now c.loop-place.place
    c.index-words-place.result more c.index-words-place.is
    ∙ ap (λ b. b || has_any c.args.world.now.store (drop (c.loop-place.place + 2) c.args.words.now)) there)

pub loop-place-preserved : goal.loop-place-preserved
loop-place-preserved c =
    let more : c.loop-place.place + 1 < length c.args.words.now = omega arith in
    let there : finite.contains_key c.args.world.now.store c.index-words-place.result ≡ false = sym c.is_there.ensures
    ∙ c.if-is_there.false in
    c.loop-place.invariant ∙ any-step c.args.world.now.store c.args.words.now c.loop-place.place c.index-words-place.result
    more c.index-words-place.is
    ∙ ap (λ b. b || has_any c.args.world.now.store (drop (c.loop-place.place + 2) c.args.words.now)) there

pub returns : goal.returns
returns c =
    let few : length c.args.words.now ≤ c.loop-place.place + 1 = omega arith in
    sym (c.loop-place.invariant ∙ any-end c.args.world.now.store c.args.words.now c.loop-place.place few)
