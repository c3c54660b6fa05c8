use Rattle.std.proofs.Common.{◌∙◌, ap, rules}
use Rattle.std.specs.FinMap as finite
use Rattle.std.specs.List.{each_same}
use Rattle.ks_tree.specs.Order.{bytes_cmp}
use Rattle.ks_tree.proofs.MapLaws.{keys_cloned}
use Rattle.ks_zset.proofs.scores.ScoresClone.clone.Goals as goal

pub returns : goal.returns
returns c = record {
  cases = ap (λ es. finite.from_entries {R = bytes_cmp} es)
      (keys_cloned (λ k. k.items) _ _ (λ k l h. each_same k.items l.items h.0)
      (λ x y h. search rules) c.self.inside.scores.entries c.in_ok-clone.field-0.entries
      c.in_ok-clone.ensures.cases)
      ∙ c.self.view_is;
}
