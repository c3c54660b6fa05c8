use Rattle.std.proofs.Common.{◌++◌, map}
use Rattle.ks_space.proofs.KeyLists.{IsKeyList}
use Rattle.ks_space.proofs.table.Table.keys.Given as goal

abbrev pub invariant-loop-key : goal.invariant-loop-key
invariant-loop-key l = IsKeyList l.self (l.keys.items ++ map (λ k. k.items) l.key-iterator)
