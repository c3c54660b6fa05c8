use Rattle.std.proofs.Common.{◌∙◌, ap, refl}
use Rattle.std.specs.Cmp.Lexicographic.{lists_agrees}
use Rattle.std.specs.Ordering.{is_lt, is_some_and}
use Rattle.ks_tree.specs.Order.{bytes_cmp}
use Rattle.ks_value.proofs.set.is_below.Goals as goal

pub returns : goal.returns
returns c =
    c.lt.ensures ∙ ap (is_some_and is_lt) (lists_agrees (λ x y. refl) c.as_slice.result.now c.args.other.now)
    ∙ ap (λ member. is_lt (bytes_cmp member c.args.other.now)) c.as_slice.ensures
