-- Powers of integers.
use Rattle.std.proofs.Common.{◌≡◌, ◌≢◌, ℕ, suc, zero, ◌+◌, ◌*◌, ◌%◌, ◌^◌, ◌<◌, ◌≤◌, Bool, true, false, cond, ◌==◌}
use Rattle.std.proofs.Common.{nat_lt, ℤ, pos, negsuc, neg_ℤ, ◌*ℤ◌, unsigned_abs, ◌⊎◌, refl, sym, ap, ◌∙◌, subst, inl}
use Rattle.std.proofs.Common.{inr, arith, Option, Some, None, Result, Ok, Err, FitsSigned, w64, to_z, of_z}
use Rattle.std.specs.Option.{SomeIff, ok_or}
use Rattle.std.specs.Int.{int_pow}
use Rattle.std.specs.Int.RustNames.{int_lt}
use Rattle.std.proofs.Math.Nat.{pow-zero, pow-suc, pow-le-pow_left, pow-le-pow_right, one-le-pow}
use Rattle.std.proofs.lemmas.Bool.Decides.{nat_tests}
use Rattle.std.proofs.lemmas.Int.{ints, unsigned_abs-mul, to_z-of_z}
use Rattle.rs_whole.specs.Wholes.{IsWhole, Computes, IsPower}
use Rattle.rs_whole.specs.Exponents.{short_exponent}
use Rattle.rs_whole.proofs.Division.{abs_neg, fits_whole}

one_pow : (n : ℕ) → 1 ^ n ≡ 1
one_pow zero = pow-zero 1
one_pow (suc n) = pow-suc 1 n ∙ ap (λ p. p * 1) (one_pow n)

zero_pow : (n : ℕ) → 0 < n → 0 ^ n ≡ 0
zero_pow zero some = absurd (omega arith)
zero_pow (suc n) some = omega (arith, pow-suc 0 n)

pub abs_pow : (a : ℤ) (n : ℕ) → unsigned_abs (int_pow a n) ≡ unsigned_abs a ^ n
abs_pow (pos a) n = refl
abs_pow (negsuc a) n = by_parity (n % 2 == 0)
  where
    by_parity : (even : Bool) → unsigned_abs (cond even (pos (suc a ^ n)) (neg_ℤ (pos (suc a ^ n)))) ≡ suc a ^ n
    by_parity true = refl
    by_parity false = abs_neg (suc a ^ n)

pub short-parity : (n : ℕ) → short_exponent n % 2 ≡ n % 2
short-parity n = grind (arith, nat_tests)

short-long : (n : ℕ) → 64 ≤ n → (64 ≤ short_exponent n) × (short_exponent n ≤ 65)
short-long n long = grind (arith, nat_tests)

-- 2^64 and more
beyond : (a n : ℕ) → 2 ≤ a → 64 ≤ n → 2 ^ 53 < a ^ n
beyond a n two long = omega (arith, pow-le-pow_left {n = 2} {m = a} two n, pow-le-pow_right {n = 2} (omega arith) long)

-- a short exponent gives the same power, or both pass 2^53
pub short_power : (a : ℤ) (n : ℕ) → (int_pow a (short_exponent n) ≡ int_pow a n)
    ⊎ ((2 ^ 53 < unsigned_abs (int_pow a (short_exponent n))) × (2 ^ 53 < unsigned_abs (int_pow a n)))
short_power a n = by_length (nat_lt n 64) refl
  where
    long_power : (a : ℤ) → 64 ≤ n → (int_pow a (short_exponent n) ≡ int_pow a n)
        ⊎ ((2 ^ 53 < unsigned_abs (int_pow a (short_exponent n))) × (2 ^ 53 < unsigned_abs (int_pow a n)))
    long_power (pos zero) long =
        let s = short-long n long in
        inl (ap pos (zero_pow (short_exponent n) (omega arith) ∙ sym (zero_pow n (omega arith))))
    long_power (pos (suc zero)) long = inl (ap pos (one_pow (short_exponent n) ∙ sym (one_pow n)))
    long_power (pos (suc (suc a))) long =
        let s = short-long n long in
        inr (beyond (suc (suc a)) (short_exponent n) (omega arith) s.0, beyond (suc (suc a)) n (omega arith) long)
    long_power (negsuc zero) long =
        inl (ap (λ (p : ℕ). cond (p == 0) (pos (1 ^ short_exponent n)) (neg_ℤ (pos (1 ^ short_exponent n))))
        (short-parity n)
        ∙ ap (λ (p : ℕ). cond (n % 2 == 0) (pos p) (neg_ℤ (pos p))) (one_pow (short_exponent n) ∙ sym (one_pow n)))
    long_power (negsuc (suc a)) long =
        let s = short-long n long in
        let first = abs_pow (negsuc (suc a)) (short_exponent n) in
        let second = abs_pow (negsuc (suc a)) n in
        let first' = beyond (suc (suc a)) (short_exponent n) (omega arith) s.0 in
        let second' = beyond (suc (suc a)) n (omega arith) long in
        inr (omega arith, omega arith)

    by_length : (t : Bool) → nat_lt n 64 ≡ t → (int_pow a (short_exponent n) ≡ int_pow a n)
        ⊎ ((2 ^ 53 < unsigned_abs (int_pow a (short_exponent n))) × (2 ^ 53 < unsigned_abs (int_pow a n)))
    by_length true is = inl (ap (int_pow a) (ap (λ t. cond t n (64 + n % 2)) is))
    by_length false is = let long : 64 ≤ n = grind (arith, nat_tests) in long_power a long

-- the power that the code raised, where it is within the bounds
pub power_is : (a : ℤ) (n : ℕ) (p : ℤ) → int_pow a (short_exponent n) ≡ p → IsWhole p → p ≡ int_pow a n
power_is a n p e small = by (short_power a n)
  where
    by : (int_pow a (short_exponent n) ≡ int_pow a n)
        ⊎ ((2 ^ 53 < unsigned_abs (int_pow a (short_exponent n))) × (2 ^ 53 < unsigned_abs (int_pow a n)))
        → p ≡ int_pow a n
    by (inl same) = sym e ∙ same
    by (inr far) = absurd (omega (arith, ap unsigned_abs e, far.0))

-- no power within the bounds
pub no_power : (a : ℤ) (n : ℕ) → (IsWhole (int_pow a (short_exponent n)) → ⊥) → (z : ℤ) → IsWhole z → z ≡ int_pow a n
    → ⊥
no_power a n far z small is = by (short_power a n)
  where
    by : (int_pow a (short_exponent n) ≡ int_pow a n)
        ⊎ ((2 ^ 53 < unsigned_abs (int_pow a (short_exponent n))) × (2 ^ 53 < unsigned_abs (int_pow a n))) → ⊥
    by (inl same) = far (subst IsWhole (is ∙ sym same) small)
    by (inr far') = omega (arith, ap unsigned_abs is, far'.1)

pub no_power_fits : (a : ℤ) (n : ℕ) → (FitsSigned w64 (int_pow a (short_exponent n)) → ⊥) → (z : ℤ) → IsWhole z
    → z ≡ int_pow a n → ⊥
no_power_fits a n far = no_power a n (λ small. far (fits_whole _ small))

pub Computes-along : {E : Type 0} (P Q : ℤ → Type 0) (r : Result ℤ E) → ((z : ℤ) → P z → Q z) → ((z : ℤ) → Q z → P z)
    → Computes P r → Computes Q r
Computes-along P Q (Ok z) forth back h = forth z h
Computes-along P Q (Err e) forth back h = λ z small q. h z small (back z q)

two_times : (p q : ℕ) → 1 ≤ p → 2 ≤ q → 2 ≤ p * q
two_times (suc p) (suc q) some two = omega arith
two_times zero q some two = absurd (omega arith)
two_times (suc p) zero some two = absurd (omega arith)

far : (p q : ℕ) → 2 ≤ q → p * q ≡ 1 → ⊥
far zero q two e = omega arith
far (suc p) q two e = omega arith

-- only 1 and -1 have a whole power below 0
pub no_reciprocal : (a b z : ℤ) → int_lt b (pos 0) ≡ true → unsigned_abs a ≢ 1 → IsPower a b z → ⊥
no_reciprocal a (pos n) z below other is = absurd (grind (arith, ints))
no_reciprocal a (negsuc n) z below other is =
    let product = sym (unsigned_abs-mul z (int_pow a (suc n))) ∙ ap unsigned_abs is in
    by (unsigned_abs a) refl (sym (ap (λ p. unsigned_abs z * p) (abs_pow a (suc n))) ∙ product)
  where
    by : (m : ℕ) → unsigned_abs a ≡ m → unsigned_abs z * unsigned_abs a ^ suc n ≡ 1 → ⊥
    by zero m e = let none = zero_pow (suc n) (omega arith) in
        let e' : unsigned_abs z * 0 ≡ 1 = ap (λ p. unsigned_abs z * p) (sym (ap (λ x. x ^ suc n) m ∙ none)) ∙ e in
        omega arith
    by (suc zero) m e = other m
    by (suc (suc m)) is e =
        let more : 2 ≤ unsigned_abs a ^ suc n = let le : 2 ≤ unsigned_abs a = omega arith in
        omega (
          arith,
          pow-suc (unsigned_abs a) n,
          two_times (unsigned_abs a ^ n) (unsigned_abs a) (one-le-pow n (unsigned_abs a) (omega arith)) le,
        ) in
        far (unsigned_abs z) (unsigned_abs a ^ suc n) more e

-- a power of 1 or -1 is its own reciprocal
sign_square : (a : ℤ) (n : ℕ) → unsigned_abs a ≡ 1 → int_pow a n *ℤ int_pow a n ≡ pos 1
sign_square (pos a) n one = let p : a ^ n ≡ 1 = ap (λ x. x ^ n) one ∙ one_pow n in ap (λ x. pos (x * x)) p
sign_square (negsuc a) n one = let p : suc a ^ n ≡ 1 = ap (λ x. x ^ n) one ∙ one_pow n in by (n % 2 == 0) p
  where
    by : (even : Bool) → suc a ^ n ≡ 1 → cond even (pos (suc a ^ n)) (neg_ℤ (pos (suc a ^ n))) *ℤ cond even
        (pos (suc a ^ n)) (neg_ℤ (pos (suc a ^ n))) ≡ pos 1
    by true p = ap (λ x. pos x *ℤ pos x) p
    by false p = ap (λ x. neg_ℤ (pos x) *ℤ neg_ℤ (pos x)) p

sign_cases : (a : ℤ) → unsigned_abs a ≡ 1 → (a ≡ pos 1) ⊎ (a ≡ negsuc 0)
sign_cases (pos a) one = inl (ap pos one)
sign_cases (negsuc a) one = let z : a ≡ 0 = omega arith in inr (ap negsuc z)

sign_inverse : (z p : ℤ) → unsigned_abs p ≡ 1 → z *ℤ p ≡ pos 1 → z ≡ p
sign_inverse z p one e = by (sign_cases p one)
  where
    by : (p ≡ pos 1) ⊎ (p ≡ negsuc 0) → z ≡ p
    by (inl is) = plus z (sym (ap (λ x. z *ℤ x) is) ∙ e) ∙ sym is
      where
        plus : (z : ℤ) → z *ℤ pos 1 ≡ pos 1 → z ≡ pos 1
        plus (pos n) e = omega (arith, ints)
        plus (negsuc n) e = omega (arith, ints)
    by (inr is) = minus z (sym (ap (λ x. z *ℤ x) is) ∙ e) ∙ sym is
      where
        minus : (z : ℤ) → z *ℤ negsuc 0 ≡ pos 1 → z ≡ negsuc 0
        minus (pos n) e = omega (arith, ints)
        minus (negsuc n) e = omega (arith, ints)

-- the power by the magnitude of the exponent is the power
pub signed_power : {E : Type 0} (a b : ℤ) (r : Result ℤ E) → (int_lt b (pos 0) ≡ true → unsigned_abs a ≡ 1)
    → Computes (λ z. z ≡ int_pow a (unsigned_abs b)) r → Computes (IsPower a b) r
signed_power a (pos n) r one h = h
signed_power a (negsuc n) r one h =
    let sign = one refl in
    let p1 : unsigned_abs (int_pow a (suc n)) ≡ 1 = abs_pow a (suc n) ∙ ap (λ x. x ^ suc n) sign ∙ one_pow (suc n) in
    Computes-along (λ z. z ≡ int_pow a (suc n)) (λ z. z *ℤ int_pow a (suc n) ≡ pos 1) r
    (λ z is. ap (λ x. x *ℤ int_pow a (suc n)) is ∙ sign_square a (suc n) sign)
    (λ z is. sign_inverse z (int_pow a (suc n)) p1 is) h

-- what is made of the power that the code raised
pub made_power : {E : Type 0} (a : ℤ) (n : ℕ) (p : ℤ) (made : Option ℤ) (error : E) (r : Result ℤ E)
    → int_pow a (short_exponent n) ≡ p → SomeIff made (IsWhole p) p → r ≡ ok_or made error
    → Computes (λ z. z ≡ int_pow a n) r
made_power a n p None error r e is_made r_is = rw r_is (no_power a n (λ small. is_made (subst IsWhole e small)))
made_power a n p (Some q) error r e is_made r_is = rw r_is (is_made.1 ∙ power_is a n p e is_made.0)

-- the same, told by the bits
pub power_made : {E : Type 0} (a : ℤ) (n e : ℕ) (p : ℤ) (made : Option ℤ) (error : E) (r : Result ℤ E)
    → FitsSigned w64 a → FitsSigned w64 p → e ≡ short_exponent n
    → p ≡ int_pow (to_z w64 (of_z w64 a)) e → SomeIff made (IsWhole (to_z w64 (of_z w64 p))) (to_z w64 (of_z w64 p))
    → r ≡ ok_or made error → Computes (λ z. z ≡ int_pow a n) r
power_made a n e p made error r fits fits_p short is is_made r_is =
    let raised : int_pow a (short_exponent n) ≡ p =
    sym (is ∙ ap (λ x. int_pow x e) (to_z-of_z w64 a fits) ∙ ap (int_pow a) short) in
    let plain : SomeIff made (IsWhole p) p = subst (λ x. SomeIff made (IsWhole x) x) (to_z-of_z w64 p fits_p) is_made in
    made_power a n p made error r raised plain r_is

pub power_too_long : (a : ℤ) (n e : ℕ) → FitsSigned w64 a → e ≡ short_exponent n
    → (FitsSigned w64 (int_pow (to_z w64 (of_z w64 a)) e) → ⊥) → (z : ℤ) → IsWhole z → z ≡ int_pow a n → ⊥
power_too_long a n e fits short far = no_power_fits a n (λ small. far
    (subst (FitsSigned w64) (sym (ap (λ x. int_pow x e) (to_z-of_z w64 a fits) ∙ ap (int_pow a) short)) small))

pub pow_result : {E : Type 0} (a b x y : ℤ) (n : ℕ) (r : Result ℤ E) → IsWhole a → IsWhole b → a ≡ x → b ≡ y
    → n ≡ unsigned_abs (to_z w64 (of_z w64 b))
    → (int_lt (to_z w64 (of_z w64 b)) (pos 0) ≡ true → unsigned_abs (to_z w64 (of_z w64 a)) ≡ 1)
    → Computes (λ z. z ≡ int_pow (to_z w64 (of_z w64 a)) n) r → Computes (IsPower x y) r
pow_result a b x y n r small_a small_b a_is b_is n_is sign h =
    let plain_a = to_z-of_z w64 a (fits_whole a small_a) in
    let plain_b = to_z-of_z w64 b (fits_whole b small_b) in
    rw (← a_is, ← b_is)
    (signed_power a b r (λ below. sym (ap unsigned_abs plain_a) ∙ sign (ap (λ v. int_lt v (pos 0)) plain_b ∙ below))
    (Computes-along (λ z. z ≡ int_pow (to_z w64 (of_z w64 a)) n) (λ z. z ≡ int_pow a (unsigned_abs b)) r (λ z is. is
    ∙ same plain_a plain_b) (λ z is. is ∙ sym (same plain_a plain_b)) h))
  where
    same : to_z w64 (of_z w64 a) ≡ a → to_z w64 (of_z w64 b) ≡ b
        → int_pow (to_z w64 (of_z w64 a)) n ≡ int_pow a (unsigned_abs b)
    same plain_a plain_b = ap (λ v. int_pow v n) plain_a ∙ ap (int_pow a) (n_is ∙ ap unsigned_abs plain_b)

pub no_pow : (a b x y : ℤ) (n : ℕ) → IsWhole a → IsWhole b → a ≡ x → b ≡ y → n ≡ unsigned_abs (to_z w64 (of_z w64 a))
    → int_lt (to_z w64 (of_z w64 b)) (pos 0) ≡ true → (n ≡ 1 → ⊥)
    → (z : ℤ) → IsWhole z → IsPower x y z → ⊥
no_pow a b x y n small_a small_b a_is b_is n_is below other z small is =
    let plain_a = to_z-of_z w64 a (fits_whole a small_a) in
    let plain_b = to_z-of_z w64 b (fits_whole b small_b) in
    no_reciprocal x y z (ap (λ v. int_lt v (pos 0)) (sym (plain_b ∙ b_is)) ∙ below)
    (λ one. other (n_is ∙ ap unsigned_abs (plain_a ∙ a_is) ∙ one)) is
