use Rattle.std.proofs.Common.{◌∙◌, ap, rules, count_by}
use Rattle.std.specs.Ordering.{is_lt}
use Rattle.std.proofs.lemmas.Fn.{always_returns_same}
use Rattle.ks_tree.specs.Order.{bytes_cmp}
use Rattle.ks_value.proofs.Sets.{below-partitioned}
use Rattle.ks_value.proofs.set.SetValue.place_of.Goals as goal

pub returns-clause-value : goal.returns-clause-value
returns-clause-value c =
    c.partition_point.ensures.count (λ known. is_lt (bytes_cmp known c.args.member.now))
    (always_returns_same _ _ _ (λ a r f' called. (search rules, search rules)))
    (below-partitioned c.self.inside.members c.args.member.now c.self.invariant)
    ∙ ap (count_by (λ known. is_lt (bytes_cmp known c.args.member.now))) c.self.view_is
