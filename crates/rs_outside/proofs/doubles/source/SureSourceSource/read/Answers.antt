use Rattle.std.proofs.Common.{◌≡◌, ℕ, List, ◌++◌, Some, length, take, drop, sym, ap, ◌∙◌, arith}
use Rattle.std.proofs.lemmas.List.{take-append-drop, drop-drop, length-take-le}
use Rattle.std.proofs.Math.Seq.{take-append_seam}
use Rattle.std.proofs.lemmas.Grind.{common_steps}
use Rattle.rs_outside.proofs.doubles.source.SureSourceSource.read.Goals as goal

-- what was copied to the front of the buffer, and what is left, are what was left
copied_is : (left into front rest : List ℕ) (n : ℕ) → length front ≡ n → front ≡ take n left → rest ≡ drop n left
    → left ≡ take n (front ++ into) ++ rest
copied_is left into front rest n len front_is rest_is =
    let all : take n left ++ drop n left ≡ left = take-append-drop n left in
    let seam : take n (front ++ into) ≡ front =
    ap (λ k. take k (front ++ into)) (sym len) ∙ take-append_seam front into in
    sym (ap (λ t. t ++ rest) seam ∙ ap (λ t. t ++ rest) front_is ∙ ap (λ t. take n left ++ t) rest_is ∙ all)

pub returns-clause-bytes : goal.returns-clause-bytes
returns-clause-bytes c =
    let n = c.min-n.result in
    let at = c.args.self.now.at in
    let bytes = c.args.self.now.bytes in
    let left : c.split_at.result.1.now ≡ drop at bytes = grind (arith, common_steps) in
    let front_len : length c.copy_from_slice.new.self ≡ n =
    c.copy_from_slice.ensures.len ∙ length-take-le n c.args.into.now (omega arith) in
    let front : c.copy_from_slice.new.self ≡ take n (drop at bytes) =
    c.copy_from_slice.ensures.after ∙ ap (take n) left in
    ap Some (copied_is _ _ c.copy_from_slice.new.self _ n front_len front (sym (drop-drop n at bytes)))
