-- Quotients and remainders of integers.
use Rattle.std.proofs.Common.{◌≡◌, ◌≢◌, ℕ, suc, zero, ◌*◌, ◌/◌, ◌%◌, ◌<◌, ◌≤◌, true, ℤ, pos, negsuc, neg_ℤ, ◌+ℤ◌}
use Rattle.std.proofs.Common.{◌-ℤ◌, ◌*ℤ◌, ◌≤ℤ◌, ◌<ℤ◌, unsigned_abs, refl, sym, ap, ◌∙◌, inl, inr, arith, int_div}
use Rattle.std.proofs.Common.{int_rem, w64, to_z, of_z, FitsSigned}
use Rattle.std.specs.Int.{int_div_euclid, int_rem_euclid}
use Rattle.std.specs.Int.RustNames.{int_lt}
use Rattle.std.proofs.Math.IntN.{suc_ℤ-*ℤ, pred_ℤ-*ℤ, +ℤ_one, -ℤ_one, +ℤ_idr}
use Rattle.std.proofs.Math.Nat.{mul-mod_left, div-le_self, mod-le}
use Rattle.std.proofs.lemmas.Int.{ints, quot-rem, unsigned_abs-mul, fits_signed_from_abs, to_z-of_z, quot_is}
use Rattle.std.proofs.lemmas.Nat.{div-add-mod'}
use Rattle.rs_whole.specs.Wholes.{IsWhole, IsQuotient, IsModulo}

-- a magnitude, whatever the sign
pub abs_neg : (n : ℕ) → unsigned_abs (neg_ℤ (pos n)) ≡ n
abs_neg zero = refl
abs_neg (suc n) = refl

pub abs_zero : (z : ℤ) → unsigned_abs z ≡ 0 → z ≡ pos 0
abs_zero (pos n) e = ap pos e
abs_zero (negsuc n) e = absurd (omega arith)

abs_rem : (a b : ℤ) → unsigned_abs (int_rem a b) ≡ unsigned_abs a % unsigned_abs b
abs_rem (pos a) b = refl
abs_rem (negsuc a) b = abs_neg (suc a % unsigned_abs b)

abs_div-le : (a b : ℤ) → unsigned_abs (int_div a b) ≤ unsigned_abs a
abs_div-le (pos a) (pos b) = div-le_self a b
abs_div-le (pos a) (negsuc b) = omega (arith, abs_neg (a / suc b), div-le_self a (suc b))
abs_div-le (negsuc a) (pos b) = omega (arith, abs_neg (suc a / b), div-le_self (suc a) b)
abs_div-le (negsuc a) (negsuc b) = div-le_self (suc a) (suc b)

-- where nothing is left, the quotient is whole, and within the bounds of a
pub quotient_is : (a b : ℤ) → b ≢ pos 0 → int_rem a b ≡ pos 0 → IsQuotient a b (int_div a b)
quotient_is a b some none =
    (some, sym (+ℤ_idr (int_div a b *ℤ b)) ∙ ap (λ r. int_div a b *ℤ b +ℤ r) (sym none) ∙ quot-rem a b)

pub quotient_small : (a b : ℤ) → IsWhole a → IsWhole (int_div a b)
quotient_small a b small = omega (arith, abs_div-le a b)

-- of a whole quotient nothing is left
pub none_left : (a b z : ℤ) → z *ℤ b ≡ a → int_rem a b ≡ pos 0
none_left a b z e =
    abs_zero _ (abs_rem a b ∙ ap (λ n. n % unsigned_abs b) (sym (ap unsigned_abs e) ∙ unsigned_abs-mul z b)
    ∙ mul-mod_left (unsigned_abs z) (unsigned_abs b))

negated : (q b : ℕ) → neg_ℤ (pos q) *ℤ negsuc b ≡ pos (q * suc b)
negated zero b = omega (arith, ints)
negated (suc q) b = refl

-- division with a remainder that is not negative
pub euclid : (a b : ℤ) → b ≢ pos 0 → int_div_euclid a b *ℤ b +ℤ int_rem_euclid a b ≡ a
euclid (pos a) (pos b) some = ap pos (div-add-mod' a b)
euclid (pos a) (negsuc b) some =
    ap (λ p. p +ℤ pos (a % suc b)) (negated (a / suc b) b) ∙ ap pos (div-add-mod' a (suc b))
euclid (negsuc a) (pos zero) some = absurd (some refl)
euclid (negsuc a) (pos (suc b)) some =
    omega (arith, ints, div-add-mod' a (suc b))
euclid (negsuc a) (negsuc b) some =
    omega (arith, ints, div-add-mod' a (suc b))

next_product : (q b : ℤ) → (q +ℤ pos 1) *ℤ b ≡ q *ℤ b +ℤ b
next_product q b = ap (λ s. s *ℤ b) (+ℤ_one q) ∙ suc_ℤ-*ℤ q b

-- what is left of a by q times b lies between 0 and b
pub floor_above : (a b q r : ℤ) → q *ℤ b +ℤ r ≡ a → pos 0 ≤ℤ r → r <ℤ b → IsModulo a b r
floor_above a b q r e low high =
    let next = next_product q b in
    (q, inl (omega (arith, ints), omega (arith, ints), omega (arith, ints, next)), omega (arith, ints))

pub floor_below : (a b q r : ℤ) → q *ℤ b +ℤ r ≡ a → r ≤ℤ pos 0 → b <ℤ r → IsModulo a b r
floor_below a b q r e low high =
    let next = next_product q b in
    (q, inr (omega (arith, ints), omega (arith, ints), omega (arith, ints, next)), omega (arith, ints))

pub fits_whole : (z : ℤ) → IsWhole z → FitsSigned w64 z
fits_whole z small = fits_signed_from_abs w64 z (omega arith)

-- a number of 64 bits is 0 where its bits are
pub zero_bits : (z : ℤ) → FitsSigned w64 z → of_z w64 z ≡ 0 → z ≡ pos 0
zero_bits (pos n) fits e = ap pos e
zero_bits (negsuc n) fits e = absurd (omega (arith, fits.sfits))

-- what the code's `a % b` is told to be
pub rest_is : (a b : ℤ) → IsWhole a → IsWhole b → of_z w64 (int_rem (to_z w64 (of_z w64 a)) (to_z w64 (of_z w64 b))) ≡ 0
    → int_rem a b ≡ pos 0
rest_is a b small_a small_b e =
    let fits_a = fits_whole a small_a in
    let fits_b = fits_whole b small_b in
    let plain = simp (to_z-of_z) at e in
    zero_bits (int_rem a b)
    (fits_whole (int_rem a b) (omega (arith, abs_rem a b, mod-le (unsigned_abs a) (unsigned_abs b)))) plain

pub rest_bits : (a b : ℤ) → FitsSigned w64 a → FitsSigned w64 b → int_rem a b ≡ pos 0
    → of_z w64 (int_rem (to_z w64 (of_z w64 a)) (to_z w64 (of_z w64 b))) ≡ 0
rest_bits a b fits_a fits_b none = simp (to_z-of_z) (ap (of_z w64) none)

-- the code's `a / b`, where nothing is left
pub quotient_bits : (a b : ℤ) → IsWhole a → IsWhole b
    → to_z w64 (of_z w64 (int_div (to_z w64 (of_z w64 a)) (to_z w64 (of_z w64 b)))) ≡ int_div a b
quotient_bits a b small_a small_b =
    quot_is w64 a b (fits_whole a small_a) (fits_whole b small_b)
    (fits_whole (int_div a b) (quotient_small a b small_a))

pub no_quotient : (a b x y : ℤ) → IsWhole a → IsWhole b → a ≡ x → b ≡ y
    → (of_z w64 (int_rem (to_z w64 (of_z w64 a)) (to_z w64 (of_z w64 b))) ≡ 0 → ⊥)
    → (z : ℤ) → IsWhole z → IsQuotient x y z → ⊥
no_quotient a b x y small_a small_b a_is b_is left z small q =
    left (rest_bits a b (fits_whole a small_a) (fits_whole b small_b)
    (none_left a b z (ap (λ v. z *ℤ v) b_is ∙ q.1 ∙ sym a_is)))

pub quotient_of : (a b x y : ℤ) → IsWhole a → IsWhole b → a ≡ x → b ≡ y → (of_z w64 b ≡ 0 → ⊥)
    → of_z w64 (int_rem (to_z w64 (of_z w64 a)) (to_z w64 (of_z w64 b))) ≡ 0
    → IsQuotient x y (to_z w64 (of_z w64 (int_div (to_z w64 (of_z w64 a)) (to_z w64 (of_z w64 b)))))
quotient_of a b x y small_a small_b a_is b_is some none =
    rw (quotient_bits a b small_a small_b, ← a_is, ← b_is)
    (quotient_is a b (λ e. some (ap (of_z w64) e)) (rest_is a b small_a small_b none))

pub quotient_within : (a b : ℤ) → IsWhole a → IsWhole b
    → IsWhole (to_z w64 (of_z w64 (int_div (to_z w64 (of_z w64 a)) (to_z w64 (of_z w64 b)))))
quotient_within a b small_a small_b = rw (quotient_bits a b small_a small_b) (quotient_small a b small_a)

euclid_rest : (a b : ℤ) → b ≢ pos 0
    → (pos 0 ≤ℤ int_rem_euclid a b) × (unsigned_abs (int_rem_euclid a b) < unsigned_abs b)
euclid_rest (pos a) (pos zero) some = absurd (some refl)
euclid_rest (pos a) (pos (suc b)) some = (omega (arith, ints), omega arith)
euclid_rest (pos a) (negsuc b) some = (omega (arith, ints), omega arith)
euclid_rest (negsuc a) (pos zero) some = absurd (some refl)
euclid_rest (negsuc a) (pos (suc b)) some = (omega (arith, ints), omega arith)
euclid_rest (negsuc a) (negsuc b) some = (omega (arith, ints), omega arith)

previous_product : (q b : ℤ) → (q -ℤ pos 1) *ℤ b ≡ q *ℤ b -ℤ b
previous_product q b = ap (λ s. s *ℤ b) (-ℤ_one q) ∙ pred_ℤ-*ℤ q b

modulo_above : (a : ℤ) (b : ℕ) → IsModulo a (pos (suc b)) (int_rem_euclid a (pos (suc b)))
modulo_above a b =
    let some : pos (suc b) ≢ pos 0 = λ e. omega (arith, ints) in
    let rest = euclid_rest a (pos (suc b)) some in
    floor_above a (pos (suc b)) (int_div_euclid a (pos (suc b))) (int_rem_euclid a (pos (suc b)))
    (euclid a (pos (suc b)) some) rest.0 (above (int_rem_euclid a (pos (suc b))) rest.0 rest.1)
  where
    above : (r : ℤ) → pos 0 ≤ℤ r → unsigned_abs r < suc b → r <ℤ pos (suc b)
    above (pos n) low high = omega (arith, ints)
    above (negsuc n) low high = absurd (omega (arith, ints))

modulo_below : (a : ℤ) (b : ℕ) → int_rem_euclid a (negsuc b) ≢ pos 0
    → IsModulo a (negsuc b) (int_rem_euclid a (negsuc b) +ℤ negsuc b)
modulo_below a b left =
    let some : negsuc b ≢ pos 0 = λ e. omega (arith, ints) in
    let rest = euclid_rest a (negsuc b) some in
    let between = below (int_rem_euclid a (negsuc b)) rest.0 rest.1 left in
    let same = euclid a (negsuc b) some in
    let next = next_product (int_div_euclid a (negsuc b) -ℤ pos 1) (negsuc b) in
    let previous = previous_product (int_div_euclid a (negsuc b)) (negsuc b) in
    floor_below a (negsuc b) (int_div_euclid a (negsuc b) -ℤ pos 1) (int_rem_euclid a (negsuc b) +ℤ negsuc b)
    (omega (arith, ints, previous, same)) between.0 between.1
  where
    below : (r : ℤ) → pos 0 ≤ℤ r → unsigned_abs r < suc b → r ≢ pos 0
        → ((r +ℤ negsuc b) ≤ℤ pos 0) × (negsuc b <ℤ (r +ℤ negsuc b))
    below (pos n) low high left = let some : n ≢ 0 = λ e. left (ap pos e) in (omega (arith, ints), omega (arith, ints))
    below (negsuc n) low high left = absurd (omega (arith, ints))

modulo_none : (a : ℤ) (b : ℕ) → int_rem_euclid a (negsuc b) ≡ pos 0 → IsModulo a (negsuc b) (pos 0)
modulo_none a b none =
    let some : negsuc b ≢ pos 0 = λ e. omega (arith, ints) in
    floor_below a (negsuc b) (int_div_euclid a (negsuc b)) (pos 0)
    (ap (λ r. int_div_euclid a (negsuc b) *ℤ negsuc b +ℤ r) (sym none) ∙ euclid a (negsuc b) some)
    (omega (arith, ints)) (omega (arith, ints))

-- the rest that the code returns where b is above 0, or nothing is left
pub modulo_plain : (a b : ℤ) → b ≢ pos 0 → (b <ℤ pos 0 → int_rem_euclid a b ≡ pos 0) → IsModulo a b (int_rem_euclid a b)
modulo_plain a (pos zero) some none = absurd (some refl)
modulo_plain a (pos (suc b)) some none = modulo_above a b
modulo_plain a (negsuc b) some none = let left = none (omega (arith, ints)) in rw left (modulo_none a b left)

-- and else
pub modulo_moved : (a b : ℤ) → b <ℤ pos 0 → int_rem_euclid a b ≢ pos 0 → IsModulo a b (int_rem_euclid a b +ℤ b)
modulo_moved a (pos b) below left = absurd (omega (arith, ints))
modulo_moved a (negsuc b) below left = modulo_below a b left

rest_fits : (a b : ℤ) → IsWhole b → b ≢ pos 0 → IsWhole (int_rem_euclid a b)
rest_fits a b small some = let rest = euclid_rest a b some in omega (arith, rest.1)

not_zero : (b : ℤ) → (of_z w64 b ≡ 0 → ⊥) → b ≢ pos 0
not_zero b some e = some (ap (of_z w64) e)

-- what the code returns, told by its bits
pub plain_result : (a b x y r : ℤ) → IsWhole a → IsWhole b → a ≡ x → b ≡ y → (of_z w64 b ≡ 0 → ⊥)
    → r ≡ int_rem_euclid (to_z w64 (of_z w64 a)) (to_z w64 (of_z w64 b))
    → (int_lt (to_z w64 (of_z w64 b)) (pos 0) ≡ true → of_z w64 r ≡ 0)
    → IsModulo x y (to_z w64 (of_z w64 r))
plain_result a b x y r small_a small_b a_is b_is some r_is none =
    let fits_a = fits_whole a small_a in
    let fits_b = fits_whole b small_b in
    let is : r ≡ int_rem_euclid a b = simp (to_z-of_z) at r_is in
    let fits_r : FitsSigned w64 r = rw is (fits_whole _ (rest_fits a b small_b (not_zero b some))) in
    let none' : b <ℤ pos 0 → int_rem_euclid a b ≡ pos 0 =
    λ below. sym is ∙ zero_bits r fits_r (none (rw (to_z-of_z w64 b fits_b) (lt_true b (pos 0) below))) in
    rw (to_z-of_z w64 r fits_r, is, ← a_is, ← b_is) (modulo_plain a b (not_zero b some) none')
  where
    lt_true : (v w : ℤ) → v <ℤ w → int_lt v w ≡ true
    lt_true v w h = grind (arith, ints)

pub moved_result : (a b x y r : ℤ) → IsWhole a → IsWhole b → a ≡ x → b ≡ y → (of_z w64 b ≡ 0 → ⊥)
    → r ≡ int_rem_euclid (to_z w64 (of_z w64 a)) (to_z w64 (of_z w64 b)) → (of_z w64 r ≡ 0 → ⊥)
    → int_lt (to_z w64 (of_z w64 b)) (pos 0) ≡ true
    → IsModulo x y (to_z w64 (of_z w64 (to_z w64 (of_z w64 r) +ℤ to_z w64 (of_z w64 b))))
moved_result a b x y r small_a small_b a_is b_is some r_is left below =
    let fits_a = fits_whole a small_a in
    let fits_b = fits_whole b small_b in
    let is : r ≡ int_rem_euclid a b = simp (to_z-of_z) at r_is in
    let fits_r : FitsSigned w64 r = rw is (fits_whole _ (rest_fits a b small_b (not_zero b some))) in
    let rest = euclid_rest a b (not_zero b some) in
    let under : b <ℤ pos 0 = lt_from b (pos 0) (simp (to_z-of_z) at below) in
    let low : pos 0 ≤ℤ r = rw is rest.0 in
    let fits_sum : FitsSigned w64 (r +ℤ b) = omega (arith, ints, fits_r.sfits, fits_b.sfits) in
    rw (to_z-of_z w64 r fits_r, to_z-of_z w64 b fits_b, to_z-of_z w64 (r +ℤ b) fits_sum, is, ← a_is, ← b_is)
    (modulo_moved a b under (λ e. left (ap (of_z w64) (is ∙ e))))
  where
    lt_from : (v w : ℤ) → int_lt v w ≡ true → v <ℤ w
    lt_from v w h = grind (arith, ints)
