use Rattle.std.proofs.Common.{◌≡◌, ◌∙◌, ap, ℕ, vec_len}
use Rattle.std.specs.List.{AllZip, each_same}
use Rattle.std.specs.FinMap as finite
use Rattle.ks_space.specs.Store.{bytes_cmp}
use Rattle.ks_tree.proofs.MapLaws.{keys_cloned}
use Rattle.ks_space.proofs.table.TableClone.clone.Goals as goal

pub returns : goal.returns
returns c = record {
  cases = ap (λ l. finite.from_entries {R = bytes_cmp} l)
      (keys_cloned (λ k. k.items) (λ x y. AllZip (λ (a b : ℕ). b ≡ a) x.items y.items × (vec_len y ≡ vec_len x))
      (λ x y. y ≡ x) (λ x y h. each_same x.items y.items h.0)
      (λ x y same. same) c.self.inside.entries.entries c.in_ok-clone.field-0.entries c.in_ok-clone.ensures.cases)
      ∙ c.self.view_is;
}
