-- Exponents past the last number of 64 bits.
use Rattle.std.proofs.Common.{◌≡◌, ℕ, zero, suc, ◌+◌, ◌-◌, ◌*◌, ◌^◌, ◌<◌, ◌≤◌, min, List, length, refl, sym, ap, ◌∙◌}
use Rattle.std.proofs.Common.{arith, ◌⊎◌, inl, inr}
use Rattle.std.specs.Str.Parse.{AllDigits, digits_value}
use Rattle.std.proofs.Math.Nat.{pow-le-pow_right, mul-le-mul_right, le-mul_of_pos_right}
use Rattle.std.proofs.lemmas.Bool.{cases_lt}
use Rattle.std.proofs.lemmas.Nat.{pow-add}
use Rattle.std.proofs.lemmas.Int.Digits.{digits_value-lt}
use Rattle.rs_whole.specs.Numerals.{Sign, Exponent, IsExponent, exponent_text, rises, falls}
use Rattle.rs_whole.specs.Shifts.{shift_of, rises_by, falls_by}
use Rattle.rs_whole.proofs.Places.{ten_pow}

-- nothing below ten to the x is a number moved up by x places or more, but 0
too_low : (n d x k : ℕ) → d < 10 ^ x → x ≤ k → n * 10 ^ k ≡ d → (n ≡ 0) × (d ≡ 0)
too_low zero d x k small le e = (refl, omega (arith, e))
too_low (suc n) d x k small le e =
    let more = pow-le-pow_right {n = 10} (omega arith) le in
    let product : 10 ^ k ≤ suc n * 10 ^ k = omega (arith, le-mul_of_pos_right {m = suc n} (10 ^ k) (omega arith)) in
    absurd (omega arith)

both_ways : (P Q : Type 0) → Type 0
both_ways P Q = (P → Q) × (Q → P)

zero_product : (n k d : ℕ) → n ≡ 0 → d ≡ 0 → n * 10 ^ k ≡ d
zero_product n k d none zero_d = ap (λ x. x * 10 ^ k) none ∙ omega (arith, zero_d)

capped_falls : (n d lw lf f cap : ℕ) → d < 10 ^ (lw + lf) → lw ≤ cap
    → both_ways (n * 10 ^ (lf + min f cap) ≡ d) (n * 10 ^ (lf + f) ≡ d)
unfolding both_ways
capped_falls n d lw lf f cap small le = by_order (cases_lt cap f)
  where
    by_order : (cap < f) ⊎ (f ≤ cap)
        → (n * 10 ^ (lf + min f cap) ≡ d → n * 10 ^ (lf + f) ≡ d)
        × (n * 10 ^ (lf + f) ≡ d → n * 10 ^ (lf + min f cap) ≡ d)
    by_order (inl far) = (
      λ e. let none = too_low n d (lw + lf) (lf + min f cap) small (omega arith) e in
          zero_product n (lf + f) d none.0 none.1,
      λ e. let none = too_low n d (lw + lf) (lf + f) small (omega arith) e in
          zero_product n (lf + min f cap) d none.0 none.1,
    )
    by_order (inr near) = let same : min f cap ≡ f = omega arith in
        (λ e. ap (λ p. n * 10 ^ (lf + p)) (sym same) ∙ e, λ e. ap (λ p. n * 10 ^ (lf + p)) same ∙ e)

capped_rises : (n d lf r cap : ℕ) → n < 10 ^ 16 → (cap < r → 16 + lf ≤ cap)
    → both_ways (n * 10 ^ lf ≡ d * 10 ^ min r cap) (n * 10 ^ lf ≡ d * 10 ^ r)
unfolding both_ways
capped_rises n d lf r cap small room = by_order (cases_lt cap r)
  where
    moved : n * 10 ^ lf < 10 ^ (16 + lf)
    moved = let split = pow-add 10 16 lf in let positive = ten_pow lf in
        let product = mul-le-mul_right (10 ^ lf) (let le : suc n ≤ 10 ^ 16 = omega arith in le) in omega arith

    by_order : (cap < r) ⊎ (r ≤ cap) → (n * 10 ^ lf ≡ d * 10 ^ min r cap → n * 10 ^ lf ≡ d * 10 ^ r)
        × (n * 10 ^ lf ≡ d * 10 ^ r → n * 10 ^ lf ≡ d * 10 ^ min r cap)
    by_order (inl far) =
        let enough = room far in (
          λ e. let none = too_low d (n * 10 ^ lf) (16 + lf) (min r cap) moved (omega arith) (sym e) in
              none.1 ∙ sym (zero_product d r 0 none.0 refl),
          λ e. let none = too_low d (n * 10 ^ lf) (16 + lf) r moved (omega arith) (sym e) in
              none.1 ∙ sym (zero_product d (min r cap) 0 none.0 refl),
        )
    by_order (inr near) = let same : min r cap ≡ r = omega arith in
        (λ e. e ∙ ap (λ p. d * 10 ^ p) same, λ e. e ∙ ap (λ p. d * 10 ^ p) (sym same))

-- digits of a number past 64 bits are twenty or more
many_digits : (ds : List ℕ) → AllDigits 10 ds → 2 ^ 64 - 1 < digits_value 10 ds → 19 < length ds
many_digits ds all far = by_order (cases_lt 19 (length ds))
  where
    by_order : (19 < length ds) ⊎ (length ds ≤ 19) → 19 < length ds
    by_order (inl long) = long
    by_order (inr short) = let below = digits_value-lt 10 ds all in
        let most = pow-le-pow_right {n = 10} (omega arith) short in absurd (omega arith)

raised : (n d lf : ℕ) (ds : List ℕ) → n ≤ 2 ^ 53 → AllDigits 10 ds → lf + length ds < 2 ^ 64
    → (n * 10 ^ (lf + 0) ≡ d * 10 ^ min (digits_value 10 ds) (2 ^ 64 - 1)
    → n * 10 ^ (lf + 0) ≡ d * 10 ^ digits_value 10 ds)
    × (n * 10 ^ (lf + 0) ≡ d * 10 ^ digits_value 10 ds
    → n * 10 ^ (lf + 0) ≡ d * 10 ^ min (digits_value 10 ds) (2 ^ 64 - 1))
unfolding both_ways
raised n d lf ds small all room =
    let none : lf + 0 ≡ lf = omega arith in
    let ways = capped_rises n d lf (digits_value 10 ds) (2 ^ 64 - 1) (omega arith) (λ far. let many =
    many_digits ds all far in omega arith) in (
      λ h. ap (λ p. n * 10 ^ p) none ∙ ways.0 (ap (λ p. n * 10 ^ p) (sym none) ∙ h),
      λ h. ap (λ p. n * 10 ^ p) none ∙ ways.1 (ap (λ p. n * 10 ^ p) (sym none) ∙ h),
    )

lowered : (n d lw lf : ℕ) (ds : List ℕ) → d < 10 ^ (lw + lf) → lw < 2 ^ 64
    → (n * 10 ^ (lf + min (digits_value 10 ds) (2 ^ 64 - 1)) ≡ d * 10 ^ 0
    → n * 10 ^ (lf + digits_value 10 ds) ≡ d * 10 ^ 0)
    × (n * 10 ^ (lf + digits_value 10 ds) ≡ d * 10 ^ 0
    → n * 10 ^ (lf + min (digits_value 10 ds) (2 ^ 64 - 1)) ≡ d * 10 ^ 0)
unfolding both_ways
lowered n d lw lf ds below room =
    let one : d * 10 ^ 0 ≡ d = omega arith in
    let ways = capped_falls n d lw lf (digits_value 10 ds) (2 ^ 64 - 1) below (omega arith) in
    (λ h. ways.0 (h ∙ one) ∙ sym one, λ h. ways.1 (h ∙ one) ∙ sym one)

-- the shift that the code reads says of a number within 53 bits what the exponent says
pub shift_says : (n d lw lf : ℕ) (e : Exponent) → IsExponent e → n ≤ 2 ^ 53 → d < 10 ^ (lw + lf)
    → lw + (lf + length (exponent_text e)) < 2 ^ 64
    → (n * 10 ^ (lf + falls_by (shift_of e)) ≡ d * 10 ^ rises_by (shift_of e)
    → n * 10 ^ (lf + falls e) ≡ d * 10 ^ rises e)
    × (n * 10 ^ (lf + falls e) ≡ d * 10 ^ rises e
    → n * 10 ^ (lf + falls_by (shift_of e)) ≡ d * 10 ^ rises_by (shift_of e))
shift_says n d lw lf Exponent.absent is small below room = (λ h. h, λ h. h)
shift_says n d lw lf (Exponent.power letter Sign.none ds) is small below room =
    raised n d lf ds small is.1.1 (omega arith)
shift_says n d lw lf (Exponent.power letter Sign.plus ds) is small below room =
    raised n d lf ds small is.1.1 (omega arith)
shift_says n d lw lf (Exponent.power letter Sign.minus ds) is small below room =
    lowered n d lw lf ds below (omega arith)
