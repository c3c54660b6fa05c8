-- The order of byte strings is total, and tells all of them apart.
use Rattle.std.proofs.Common.{◌≡◌, ◌≢◌, ℕ, cond, List, refl}
use Rattle.std.specs.Ordering.{is_eq, eq_by_cmp}
use Rattle.std.specs.Cmp.{IsTotalOrder}
use Rattle.std.specs.declared.cmp.Ordering.TheVariants.{Less, Equal, Greater}
use Rattle.std.specs.FinMap.{IsAntisymmetric, nat_cmp-IsAntisymmetric, slice_cmp-IsAntisymmetric}
use Rattle.std.proofs.lemmas.Cmp.{nat_list_cmp_total}
use Rattle.ks_tree.specs.Order.{bytes_cmp}

pub bytes_total : IsTotalOrder bytes_cmp
bytes_total = nat_list_cmp_total

pub bytes_exact : IsAntisymmetric bytes_cmp
bytes_exact = slice_cmp-IsAntisymmetric nat_cmp-IsAntisymmetric

pub cond-other : {A : Type 0} (q k : List ℕ) (x y : A) → q ≢ k → cond (eq_by_cmp bytes_cmp q k) x y ≡ y
cond-other q k x y apart =
    elim (bytes_cmp q k) as (λ r. bytes_cmp q k ≡ r → cond (is_eq r) x y ≡ y) [
      | Less ↦ λ e. refl
      | Equal ↦ λ e. absurd (apart (bytes_exact q k e))
      | Greater ↦ λ e. refl
    ] refl
