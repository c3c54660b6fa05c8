use Rattle.std.proofs.Common.{[]}
use Rattle.ks_tree.proofs.list.TreeList.copy_range.Goals as goal

pub returns : goal.returns
returns g c = rw (← c.self.view_is) (c.in_ok-copy_range.ensures [] (rw c.new-copies.ensures tt))
