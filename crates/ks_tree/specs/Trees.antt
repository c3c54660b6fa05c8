-- What a tree of items is seen as.
use Rattle.std.specs.Prelude.{List, [], ◌∷◌, ◌++◌, length}
use Rattle.ks_tree.specs.Weights.{AreInBalance}
use Rattle.ks_tree.specs.declared.tree.Root.{Root}
use Rattle.ks_tree.specs.declared.tree.Root.TheVariants.{Empty, Full}

-- the items in order: those of the left side, the node's own, those of the right side
abbrev pub items : {T : Type 0} → Root T → List T
items Empty = []
items (Full node) = node.value.left ++ node.value.item ∷ node.value.right

-- the node's sides are in balance
abbrev pub IsBalanced : {T : Type 0} → Root T → Type 0
IsBalanced Empty = Unit {0}
IsBalanced (Full node) = AreInBalance (length node.value.left) (length node.value.right)
