use Rattle.std.proofs.Common.{◌≡◌, ◌+◌, ◌∷◌, ◌++◌, ◌∙◌, length, length-append, ap, sym, subst, arith}
use Rattle.ks_tree.specs.Trees.{items, IsBalanced}
use Rattle.ks_tree.specs.Weights.{AreInBalance}
use Rattle.ks_tree.proofs.Depths.{node_room, node_shallow}
use Rattle.ks_tree.proofs.tree.Tree.+depth.Goals as goal

pub overflow_add-result : goal.overflow_add-result
overflow_add-result g t c =
    let node = c.in-Full.node.value in
    let is : c.args.self.now ≡ node.left ++ node.item ∷ node.right = sym c.self.view_is ∙ ap items c.in-Full.is in
    let long : length c.args.self.now ≡ length node.left + length node.right + 1 =
    rw is (omega (arith, length-append node.left (node.item ∷ node.right))) in
    let left = rw c.deref.ensures at c.depth-left.ensures.within in
    let right = rw c.deref-2.ensures at c.depth-right.ensures.within in
    omega (arith, c.max.ensures)

pub returns-clause-room : goal.returns-clause-room
returns-clause-room g t c =
    let node = c.in-Full.node.value in
    let is : c.args.self.now ≡ node.left ++ node.item ∷ node.right = sym c.self.view_is ∙ ap items c.in-Full.is in
    let long : length c.args.self.now ≡ length node.left + length node.right + 1 =
    rw is (omega (arith, length-append node.left (node.item ∷ node.right))) in
    let left = rw c.deref.ensures at c.depth-left.ensures.room in
    let right = rw c.deref-2.ensures at c.depth-right.ensures.room in
    rw (long, c.max.ensures) (node_room (length node.left)
    (length node.right) c.depth-left.result c.depth-right.result left right)

pub returns-clause-shallow : goal.returns-clause-shallow
returns-clause-shallow g t c =
    let node = c.in-Full.node.value in
    let is : c.args.self.now ≡ node.left ++ node.item ∷ node.right = sym c.self.view_is ∙ ap items c.in-Full.is in
    let long : length c.args.self.now ≡ length node.left + length node.right + 1 =
    rw is (omega (arith, length-append node.left (node.item ∷ node.right))) in
    let sides : AreInBalance (length node.left) (length node.right) =
    subst IsBalanced c.in-Full.is c.self.invariant.1 in
    let left = rw c.deref.ensures at c.depth-left.ensures.shallow in
    let right = rw c.deref-2.ensures at c.depth-right.ensures.shallow in
    rw (long, c.max.ensures) (node_shallow (length node.left)
    (length node.right) c.depth-left.result c.depth-right.result sides left right)
