use Rattle.std.proofs.Common.{◌∙◌, ap, sym, ◌∷◌, ◌++◌, arith}
use Rattle.std.specs.List.{insert}
use Rattle.ks_tree.proofs.Sides.{insert_right}
use Rattle.ks_tree.proofs.tree.Tree.+insert.Goals as goal

pub returns-else-at-here : goal.returns-else-at-here
returns-else-at-here g t c =
    let left = c.unlink-left.result.0 in
    let item = c.unlink-left.result.1.value.item in
    let right = c.unlink-left.result.2 in
    c.balance-else-at-here.ensures
    ∙ ap (λ l. left ++ item ∷ l) c.insert-else-at-here.ensures
    ∙ sym (insert_right left right item c.args.node.value.item c.args.at _ (omega arith))
    ∙ ap (λ l. insert l c.args.at c.args.node.value.item) (sym c.unlink-left.ensures.items)
