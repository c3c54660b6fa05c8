use Rattle.std.proofs.Common.{◌≡◌, ◌++◌, ◌∷◌, ◌∙◌, ap, sym}
use Rattle.ks_tree.specs.Trees.{items}
use Rattle.ks_tree.proofs.Sides.{AllZip-append}
use Rattle.ks_tree.proofs.tree.Tree.+copy.Goals as goal

pub returns : goal.returns
returns g t c =
    let node = c.in-Full.node.value in
    let is : c.args.self.now ≡ node.left ++ node.item ∷ node.right = sym c.self.view_is ∙ ap items c.in-Full.is in
    let left = rw c.deref.ensures at c.in_ok-left.ensures in
    let item = rw c.deref-2.ensures at c.in_ok-item.ensures.cases in
    let right = rw c.deref-3.ensures at c.in_ok-right.ensures in
    rw (is, c.in_ok-copy.ensures.ok)
    (AllZip-append g.T.Clone.is_clone node.left (node.item ∷ node.right) c.in_ok-left.left
    (c.in_ok-item.item ∷ c.in_ok-right.right) left (item, right))
