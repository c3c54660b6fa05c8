-- Integers of 64 bits at keys.
use Rattle.std.proofs.Common.{◌≡◌, ℕ, cond, List, Option, Some, None, Ok, Err, refl, sym, ap, ◌∙◌, FitsSigned, w64}
use Rattle.std.proofs.Common.{arith}
use Rattle.std.proofs.lemmas.Fmt.{decimal_digit}
use Rattle.std.specs.Prelude.{ℤ, pos, SomeIff, codes}
use Rattle.std.specs.Option.{ok_or, unwrap_or}
use Rattle.ks_space.specs.Store.{Store}
use Rattle.cmd_args.specs.declared.refusal.Refusal.TheVariants.{Overflow}
use Rattle.cmd_rows.specs.Numbers.{number, is_within_64}
use Rattle.cmd_rows.specs.Strings.{string_at}
use Rattle.cmd_rows.proofs.NumberTexts.{number-is, within-is, within-true}
use Rattle.cmd_rows.specs.Outcomes.{then_found}
use Rattle.cmd_string.specs.StringRows.{fitting, integer_at}
use Rattle.cmd_string.proofs.StringWalk.{by_test}

-- a sum that is none where it does not fit
pub fitting-is : (z : ℤ) (found : Option ℤ) → SomeIff found (FitsSigned w64 z) z → ok_or found Overflow ≡ fitting z
fitting-is z (Some n) h = ap (λ m. Ok m) h.1 ∙ sym (ap (λ b. cond b (Ok z) (Err Overflow)) (within-true z h.0))
fitting-is z None h =
    by_test (λ b. Err Overflow ≡ cond b (Ok z) (Err Overflow)) (is_within_64 z)
    (λ fits. absurd (h (within-is z fits))) (λ _. refl)

-- an absent key counts as 0
pub integer-absent : (store : Store) (key : List ℕ) → string_at store key ≡ Ok None → integer_at store key ≡ Ok (pos 0)
integer-absent store key e =
    ap (λ f. then_found f (λ text. number (unwrap_or text (codes "0")))) e
    ∙ number-is (codes "0") (pos 0) (sym (decimal_digit 0 (omega arith))) (within-is (pos 0) refl)
