use Rattle.std.proofs.Common.{◌≡◌, ◌+◌, ◌≤◌, Bool, length, count_by}
use denote.Param.Always.{always_mut}
use Rattle.std.specs.Fn.{ComputesKey}
use Rattle.std.specs.List.Sorted.{IsPartitionedBy}
use Rattle.ks_tree.proofs.tree.Tree.partition_point.Given as goal

abbrev pub invariant-loop-tree : goal.invariant-loop-tree
invariant-loop-tree g l = record {
  callable : always_mut g.P.FnMut l.pred;
  room : length l.tree ≤ l.count;
  within : l.count ≤ length l.self;
  left_out : (p : g.row.T.Denot → Bool) → ComputesKey g.P.FnMut p l.initial.pred → IsPartitionedBy p l.self
      → ComputesKey g.P.FnMut p l.pred × IsPartitionedBy p l.tree
      × (l.count + count_by p l.tree ≡ count_by p l.self + length l.tree);
}
