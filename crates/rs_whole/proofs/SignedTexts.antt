-- Numerals behind a sign.
use Rattle.std.proofs.Common.{◌≡◌, ℕ, ◌<◌, ℤ, pos, neg_ℤ, unsigned_abs, Some, None, Result, Ok, Err, IsErr}
use Rattle.std.proofs.Common.{MatchResult, List, [], ◌∷◌, ◌++◌, refl, sym, ap, subst, ◌∙◌, arith, ◌⊎◌, inl, inr}
use Rattle.std.specs.Char.{digit_value}
use Rattle.rs_whole.specs.Wholes.{IsWhole, Computes}
use Rattle.rs_whole.specs.Numerals.{Sign, sign_text, Numeral, numeral_text, IsProper, StandsFor, SignedStandsFor}
use Rattle.rs_whole.proofs.Heads.{same_head, same_tail}
use Rattle.rs_whole.proofs.Division.{abs_neg}

abbrev IsSignByte : ℕ → Type 0
IsSignByte s = (s ≡ 43) ⊎ (s ≡ 45)

sign_no_digit : (s b : ℕ) → IsSignByte s → s ≡ b → digit_value b < 10 → ⊥
sign_no_digit s b (inl e) same small = let d : digit_value 43 < 10 =
    subst (λ x. digit_value x < 10) (sym same ∙ e) small in omega arith
sign_no_digit s b (inr e) same small = let d : digit_value 45 < 10 =
    subst (λ x. digit_value x < 10) (sym same ∙ e) small in omega arith

-- a numeral does not begin with a sign
no_sign : (s : ℕ) (rest : List ℕ) (numeral : Numeral) → IsSignByte s → IsProper numeral
    → s ∷ rest ≡ numeral_text numeral → ⊥
no_sign s rest (Numeral.by_tens (b ∷ w) f e) sign is text = sign_no_digit s b sign (same_head s b rest _ text) is.0.0
no_sign s rest (Numeral.by_tens [] (Some ds) e) sign is text = point sign (same_head s 46 rest _ text)
  where
    point : IsSignByte s → s ≡ 46 → ⊥
    point (inl e) p = omega arith
    point (inr e) p = omega arith
no_sign s rest (Numeral.by_tens [] None e) sign is text = omega (arith, is.2)
no_sign s rest (Numeral.by_sixteens ds) sign is text = zeros sign (same_head s 48 rest _ text)
  where
    zeros : IsSignByte s → s ≡ 48 → ⊥
    zeros (inl e) p = omega arith
    zeros (inr e) p = omega arith

pub behind_minus : (rest : List ℕ) (sign : Sign) (numeral : Numeral) → IsProper numeral
    → 45 ∷ rest ≡ sign_text sign ++ numeral_text numeral → (sign ≡ Sign.minus) × (rest ≡ numeral_text numeral)
behind_minus rest Sign.none numeral is text = absurd (no_sign 45 rest numeral (inr refl) is text)
behind_minus rest Sign.plus numeral is text = absurd (let h = same_head 45 43 rest _ text in omega arith)
behind_minus rest Sign.minus numeral is text = (refl, same_tail 45 45 rest (numeral_text numeral) text)

pub behind_plus : (rest : List ℕ) (sign : Sign) (numeral : Numeral) → IsProper numeral
    → 43 ∷ rest ≡ sign_text sign ++ numeral_text numeral → (sign ≡ Sign.plus) × (rest ≡ numeral_text numeral)
behind_plus rest Sign.none numeral is text = absurd (no_sign 43 rest numeral (inl refl) is text)
behind_plus rest Sign.minus numeral is text = absurd (let h = same_head 43 45 rest _ text in omega arith)
behind_plus rest Sign.plus numeral is text = (refl, same_tail 43 43 rest (numeral_text numeral) text)

pub negated_value : {E : Type 0} (numeral : Numeral) (r s : Result ℤ E) → Computes (StandsFor numeral) r
    → MatchResult r (λ z. s ≡ Ok (neg_ℤ z)) (λ _. IsErr s) → Computes (SignedStandsFor Sign.minus numeral) s
negated_value numeral (Ok z) s h is = rw is (h.0, ap neg_ℤ h.1, h.2)
negated_value numeral (Err e) (Ok z) h is = absurd (cc)
negated_value numeral (Err e) (Err d) h is = λ z small value.
    let size : IsWhole (pos value.0) = omega (arith, abs_neg value.0, ap unsigned_abs value.1, small) in
    h (pos value.0) size (value.0, refl, value.2)
