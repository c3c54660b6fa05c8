use Rattle.std.proofs.Common.{◌≡◌, ◌-◌, ◌++◌, ◌∷◌, [], ◌∙◌, ap, sym, length}
use Rattle.std.specs.List.{slice_range}
use Rattle.std.proofs.lemmas.Result.{on_ok_weaker}
use Rattle.ks_tree.specs.Trees.{items}
use Rattle.ks_tree.proofs.Sides.{range_copied}
use Rattle.ks_tree.proofs.tree.Tree.+copy_range.Goals as goal

pub returns : goal.returns
returns g t c =
    let node = c.in-Full.node.value in
    let from = c.args.from in
    let to = c.args.to in
    let is : c.args.self.now ≡ node.left ++ node.item ∷ node.right = sym c.self.view_is ∙ ap items c.in-Full.is in
    let here : c.len-here.result ≡ length node.left = rw c.deref.ensures at c.len-here.ensures in
    on_ok_weaker c.copy_range-2.result (λ rest xs all.
    let left = rw c.deref-2.ensures at (c.in_ok-copy_range.ensures xs all) in
    let item = rw c.deref-3.ensures at (c.in_ok-copy_item.ensures (xs ++ slice_range node.left from to) left) in
    let right = rest (xs ++ slice_range node.left from to
    ++ slice_range (node.item ∷ []) (from - length node.left) (to - length node.left)) item in
    rw is (range_copied g.T.Clone.is_clone node.left node.right node.item from to c.len-here.result xs
    c.copy_range-2.new.copies here (rw (
      c.deref-4.ensures,
      c.saturating_sub.ensures,
      c.saturating_sub-2.ensures,
    ) at right))) c.copy_range-2.ensures
