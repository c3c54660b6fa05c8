use Rattle.std.proofs.Common.{◌≡◌, ◌+◌, ◌∷◌, drop, sym, subst, ◌∙◌}
use Rattle.cmd_keys.proofs.Leaving.{Leaves, leaves_none, leaves_more, leaves_past, drop_item}
use Rattle.cmd_keys.proofs.removing.removals.Goals as goal

pub loop-key-init : goal.loop-key-init
loop-key-init c =
    rw (c.new-gone.ensures, c.new-records.ensures) (leaves_none c.args.world.now.store c.args.keys.now)

pub loop-key-preserved-then-not-leaves : goal.loop-key-preserved-then-not-leaves
loop-key-preserved-then-not-leaves c =
    let keys = c.args.keys.now in
    let i = c.loop-key.key-index in
    let key = c.key-item.result in
    let split : drop i keys ≡ key ∷ drop (i + 1) keys = drop_item keys i key c.loop-key-test.true c.key-item.is in
    leaves_past c.args.world.now.store keys c.loop-key.gone c.loop-key.records key (drop (i + 1) keys)
    (subst (Leaves c.args.world.now.store keys c.loop-key.gone c.loop-key.records) split c.loop-key.invariant)
    (sym c.leaves.ensures ∙ c.if-not-leaves.true)

pub loop-key-preserved : goal.loop-key-preserved
loop-key-preserved c =
    let keys = c.args.keys.now in
    let i = c.loop-key.key-index in
    let key = c.key-item.result in
    let split : drop i keys ≡ key ∷ drop (i + 1) keys = drop_item keys i key c.loop-key-test.true c.key-item.is in
    rw (c.in_ok-insert.ensures.ok, c.in_ok-push.ensures.ok, c.in_ok-clone.ensures.cases, c.in_ok-clone-2.ensures.cases)
    (leaves_more c.args.world.now.store keys c.loop-key.gone c.loop-key.records key (drop (i + 1) keys)
    (subst (Leaves c.args.world.now.store keys c.loop-key.gone c.loop-key.records) split c.loop-key.invariant)
    (sym c.leaves.ensures ∙ c.if-not-leaves.false))
