use Rattle.std.proofs.Common.{◌≡◌}
use Rattle.std.specs.FinMap as finite
use Rattle.cmd_keys.proofs.KeyLists.{randomkey-none}
use Rattle.cmd_keys.proofs.listing.random_key.Goals as goal

pub returns-then-count-eq0 : goal.returns-then-count-eq0
returns-then-count-eq0 c =
    let empty : finite.len c.args.world.now.store ≡ 0 = cc in
    rw c.reply.ensures (record { row_is = randomkey-none c.args.world.now empty; told = tt })
