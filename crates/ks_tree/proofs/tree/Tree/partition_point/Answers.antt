use Rattle.std.proofs.Common.{◌≡◌, ◌++◌, ◌∷◌, ◌∙◌, length-append, count_by, ap, sym, refl, arith}
use borrow.Author.Rules.{of_calls}
use Rattle.std.proofs.lemmas.Fn.{called}
use Rattle.std.proofs.slice.Orders.{answers_next}
use Rattle.ks_tree.specs.Trees.{items}
use Rattle.ks_tree.proofs.Sides.{parted_left, parted_right, count_behind, count_before}
use Rattle.ks_tree.proofs.tree.Tree.partition_point.Goals as goal

pub loop-tree-preserved-then-pred : goal.loop-tree-preserved-then-pred
loop-tree-preserved-then-pred g c =
    let node = c.in-Full.node.value in
    let is : c.loop-tree.tree.now ≡ node.left ++ node.item ∷ node.right = sym c.tree.view_is ∙ ap items c.in-Full.is in
    let call = called g.P.FnMut c.if-pred.ensures refl in
    let long = length-append node.left (node.item ∷ node.right) in
    let room = rw is at c.loop-tree.invariant.room in
    record {
      callable = search of_calls;
      room = rw c.deref-then-pred.ensures (omega arith);
      within = omega arith;
      left_out = λ p computes parted.
          let now = c.loop-tree.invariant.left_out p computes parted in
          let next = answers_next g.P.FnMut _ _ _ _ _ call now.0 in
          let passes = sym (rw c.deref.ensures at next.0) in
          let here = rw is at now.1 in
          rw c.deref-then-pred.ensures (
            next.1,
            parted_right p node.left node.right node.item here,
            count_behind p node.left node.right node.item here c.loop-tree.count (count_by p c.args.self.now) passes
                (rw is at now.2),
          );
    }

pub loop-tree-preserved : goal.loop-tree-preserved
loop-tree-preserved g c =
    let node = c.in-Full.node.value in
    let is : c.loop-tree.tree.now ≡ node.left ++ node.item ∷ node.right = sym c.tree.view_is ∙ ap items c.in-Full.is in
    let call = called g.P.FnMut c.if-pred.ensures refl in
    let long = length-append node.left (node.item ∷ node.right) in
    let room = rw is at c.loop-tree.invariant.room in
    let right = rw c.deref-else-pred.ensures at c.len.ensures in
    record {
      callable = search of_calls;
      room = rw c.deref-else-pred-2.ensures (omega arith);
      within = omega arith;
      left_out = λ p computes parted.
          let now = c.loop-tree.invariant.left_out p computes parted in
          let next = answers_next g.P.FnMut _ _ _ _ _ call now.0 in
          let fails = sym (rw c.deref.ensures at next.0) in
          let here = rw is at now.1 in
          rw (c.deref-else-pred-2.ensures, right) (
            next.1,
            parted_left p node.left node.right node.item here,
            count_before p node.left node.right node.item here c.loop-tree.count
                (count_by p c.args.self.now) fails room (rw is at now.2),
          );
    }
