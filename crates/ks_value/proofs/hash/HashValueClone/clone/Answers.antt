use Rattle.std.proofs.Common.{◌∙◌}
use Rattle.std.specs.List.{each_same}
use Rattle.ks_tree.proofs.MapLaws.{keys_cloned}
use Rattle.ks_value.proofs.hash.HashValueClone.clone.Goals as goal

pub returns : goal.returns
returns c = record {
  cases = keys_cloned (λ k. k.items) _ _ (λ x y same. each_same x.items y.items same.0)
      (λ v w same. same) c.self.inside.pairs.entries c.in_ok-clone.field-0.entries c.in_ok-clone.ensures.cases
      ∙ c.self.view_is;
}
