-- The depth of a node by those of its sides, where the sides are in balance.
use Rattle.std.proofs.Common.{◌≡◌, ℕ, zero, suc, ◌+◌, ◌*◌, ◌^◌, ◌≤◌, ◌⊎◌, inl, inr, max, sym, ap, ◌∙◌, arith}
use Rattle.std.proofs.Math.Nat.{pow-suc, le-max_left, le-max_right, mul-le-mul_left, mul_assoc, mul_comm}
use Rattle.std.proofs.Math.Pow.{pow_mono}
use Rattle.ks_tree.specs.Weights.{AreInBalance, HasRoom, IsShallow}

max_is_one : (d e : ℕ) → (max d e ≡ d) ⊎ (max d e ≡ e)
max_is_one zero e = inr (omega arith)
max_is_one (suc d) zero = inl (omega arith)
max_is_one (suc d) (suc e) = later (max_is_one d e)
  where
    later : (max d e ≡ d) ⊎ (max d e ≡ e) → (max (suc d) (suc e) ≡ suc d) ⊎ (max (suc d) (suc e) ≡ suc e)
    later (inl is) = inl (omega arith)
    later (inr is) = inr (omega arith)

pow-next : (n k : ℕ) → n ^ (k + 1) ≡ n ^ k * n
pow-next n k = let next : k + 1 ≡ suc k = omega arith in rw next (pow-suc n k)

-- a level above a side of m items that has no more than its share of all n
shallow_above : (d m n : ℕ) → 4 * (m + 1) ≤ 3 * (n + 1) → IsShallow d m → IsShallow (d + 1) n
shallow_above d m n share shallow =
    let wide : 3 ^ d * (4 * (m + 1)) ≤ 3 ^ d * (3 * (n + 1)) = mul-le-mul_left (3 ^ d) share in
    let four : 4 ^ (d + 1) ≡ 4 ^ d * 4 = pow-next 4 d in
    let three : 3 ^ (d + 1) * (n + 1) ≡ 3 ^ d * (3 * (n + 1)) = ap (λ x. x * (n + 1)) (pow-next 3 d)
    ∙ mul_assoc (3 ^ d) 3 (n + 1) in
    let spread : 3 ^ d * (4 * (m + 1)) ≡ 4 * (3 ^ d * (m + 1)) = sym (mul_assoc (3 ^ d) 4 (m + 1))
    ∙ ap (λ x. x * (m + 1)) (mul_comm (3 ^ d) 4) ∙ mul_assoc 4 (3 ^ d) (m + 1) in
    by_products (4 ^ d) (3 ^ d * (m + 1)) (3 ^ d * (4 * (m + 1))) (3 ^ d * (3 * (n + 1))) (4 ^ (d + 1))
    (3 ^ (d + 1) * (n + 1)) four three wide spread shallow
  where
    by_products : (a b c e f h : ℕ) → f ≡ a * 4 → h ≡ e → c ≤ e → c ≡ 4 * b → a ≤ b → f ≤ h
    by_products a b c e f h four three wide spread le = omega arith

pub node_shallow : (m n d e : ℕ) → AreInBalance m n → IsShallow d m → IsShallow e n
    → IsShallow (max d e + 1) (m + n + 1)
node_shallow m n d e sides left right = by_deeper (max_is_one d e)
  where
    by_deeper : (max d e ≡ d) ⊎ (max d e ≡ e) → IsShallow (max d e + 1) (m + n + 1)
    by_deeper (inl is) = rw is (shallow_above d m (m + n + 1) (omega arith) left)
    by_deeper (inr is) = rw is (shallow_above e n (m + n + 1) (omega arith) right)

pub node_room : (m n d e : ℕ) → HasRoom d m → HasRoom e n → HasRoom (max d e + 1) (m + n + 1)
node_room m n d e left right =
    let two = pow-next 2 (max d e) in
    let d_room = pow_mono (le-max_left d e) in
    let e_room = pow_mono (le-max_right d e) in
    omega (arith, two, d_room, e_room)
