use Rattle.std.proofs.Common.{◌≡◌, ◌++◌, length}
use Rattle.ks_space.specs.Purge.{gone, purged}
use Rattle.ks_space.proofs.space.Space.purge.Given as goal

abbrev pub invariant-loop-key : goal.invariant-loop-key
invariant-loop-key l = (l.keys ++ gone l.self l.now ≡ gone l.fn.self l.now)
    × (purged l.self l.now ≡ purged l.fn.self l.now)

abbrev pub decreases-loop-key : goal.decreases-loop-key
decreases-loop-key l = length (gone l.self l.now)
