-- Where a text is cut: behind a prefix, and behind its first line.
use Rattle.std.proofs.Common.{◌≡◌, ◌≢◌, ℕ, zero, suc, ◌<◌, true, ◌==◌, Option, Some, None, MatchOption, IfSome}
use Rattle.std.proofs.Common.{IsSomeAnd, Bor, List, [], ◌∷◌, ◌++◌, length, take, drop, get_or, sym, ap, ◌∙◌, arith}
use Rattle.std.proofs.Common.{length-append}
use Rattle.std.specs.List.{AllByRecursion}
use Rattle.std.proofs.Math.Seq.{take-append_seam, drop-append_seam, get_or-append_seam}
use Rattle.std.proofs.lemmas.Bool.{eq-eqb, eqb-true}
use Rattle.std.proofs.lemmas.List.{append_cancel_left}
use Rattle.memchr.specs.Find.{IsFirstByte, is_byte}

pub prefix_found : (text prefix : List ℕ) (r : Option (Bor (List ℕ)))
    → MatchOption r ((rest : List ℕ) → text ≢ prefix ++ rest) (λ x. text ≡ prefix ++ x.now)
    → IfSome r (λ x. text ≡ prefix ++ x.now)
prefix_found text prefix None h = tt
prefix_found text prefix (Some x) h = h

pub prefix_only : (text prefix : List ℕ) (r : Option (Bor (List ℕ)))
    → MatchOption r ((rest : List ℕ) → text ≢ prefix ++ rest) (λ x. text ≡ prefix ++ x.now)
    → (rest : List ℕ) → text ≡ prefix ++ rest → IsSomeAnd r (λ x. x.now ≡ rest)
prefix_only text prefix None h rest e = absurd (h rest e)
prefix_only text prefix (Some x) h rest e = append_cancel_left prefix x.now rest (sym h ∙ e)

-- no byte of a line is its end
inside : (line rest : List ℕ) (k : ℕ) → AllByRecursion (λ b. b ≢ 10) line → k < length line
    → (get_or (line ++ 10 ∷ rest) k 0 == 10) ≡ true → ⊥
inside [] rest k each below is = omega arith
inside (b ∷ line) rest zero each below is = each.0 (eqb-true b 10 is)
inside (b ∷ line) rest (suc k) each below is = inside line rest k each.1 (omega arith) is

end_is : (text line rest : List ℕ) → text ≡ line ++ 10 ∷ rest → (get_or text (length line) 0 == 10) ≡ true
end_is text line rest e = eq-eqb (get_or text (length line) 0) 10 (ap (λ t. get_or t (length line) 0) e
    ∙ get_or-append_seam line 10 rest 0)

end_within : (text line rest : List ℕ) → text ≡ line ++ 10 ∷ rest → length line < length text
end_within text line rest e = let long = ap length e in omega (arith, length-append line (10 ∷ rest))

-- a text with no LF has no line
pub no_line : (text line rest : List ℕ) → IsFirstByte (is_byte 10) text None → text ≡ line ++ 10 ∷ rest → ⊥
no_line text line rest nowhere e =
    nowhere (length line) (omega arith) (end_within text line rest e) (end_is text line rest e)

same : (a b : ℕ) → (a < b → ⊥) → (b < a → ⊥) → a ≡ b
same a b low high = grind arith

line_end : (text line rest : List ℕ) (k : ℕ) → IsFirstByte (is_byte 10) text (Some k)
    → AllByRecursion (λ b. b ≢ 10) line → text ≡ line ++ 10 ∷ rest → k ≡ length line
line_end text line rest k first each e = same k (length line)
    (λ below. inside line rest k each below (ap (λ t. get_or t k 0 == 10) (sym e) ∙ first.1))
    (λ above. first.0.before (length line) (omega arith) above (end_is text line rest e))

-- the first LF cuts a text into its first line and what follows it
pub cut-line : (text line rest front back more : List ℕ) (k first : ℕ) → IsFirstByte (is_byte 10) text (Some k)
    → AllByRecursion (λ b. b ≢ 10) line → text ≡ line ++ 10 ∷ rest
    → front ≡ take k text → back ≡ drop k text → back ≡ first ∷ more → (front ≡ line) × (more ≡ rest)
cut-line text line rest front back more k first found each e front_is back_is split =
    let at = line_end text line rest k found each e in
    let tail : first ∷ more ≡ 10 ∷ rest = sym split ∙ back_is ∙ ap (λ i. drop i text) at ∙ ap (drop (length line)) e
    ∙ drop-append_seam line (10 ∷ rest) in
    (front_is ∙ ap (λ i. take i text) at ∙ ap (take (length line)) e ∙ take-append_seam line (10 ∷ rest), cc)
