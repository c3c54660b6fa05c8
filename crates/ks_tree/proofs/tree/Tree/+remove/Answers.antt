use Rattle.std.proofs.Common.{◌∙◌, ap, sym, ◌∷◌, ◌++◌, arith}
use Rattle.std.specs.List.{remove, slice_get}
use Rattle.ks_tree.proofs.Sides.{remove_right, remove_here, slice_get_here}
use Rattle.ks_tree.proofs.tree.Tree.+remove.Goals as goal

pub returns-then-at-here-2-clause-rest : goal.returns-then-at-here-2-clause-rest
returns-then-at-here-2-clause-rest g t c =
    let left = c.unlink-left.result.0 in
    let item = c.unlink-left.result.1.value.item in
    let right = c.unlink-left.result.2 in
    c.balance-then-at-here-2.ensures
    ∙ ap (λ l. left ++ item ∷ l) c.remove-gone-then-at-here-2.ensures.rest
    ∙ sym (remove_right left right item c.args.at _ (omega arith))
    ∙ ap (λ l. remove l c.args.at) (sym c.unlink-left.ensures.items)

pub returns-else-at-here-2-clause-value : goal.returns-else-at-here-2-clause-value
returns-else-at-here-2-clause-value g t c =
    ap (λ l. slice_get l c.args.at) c.unlink-left.ensures.items
    ∙ slice_get_here c.unlink-left.result.0 c.unlink-left.result.2 c.unlink-left.result.1.value.item c.args.at
    (omega arith)

pub returns-else-at-here-2-clause-rest : goal.returns-else-at-here-2-clause-rest
returns-else-at-here-2-clause-rest g t c =
    c.merge.ensures
    ∙ sym (remove_here c.unlink-left.result.0 c.unlink-left.result.2 c.unlink-left.result.1.value.item c.args.at
    (omega arith))
    ∙ ap (λ l. remove l c.args.at) (sym c.unlink-left.ensures.items)
