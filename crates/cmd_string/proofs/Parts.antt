-- Words by their places, and strings by their lengths.
use Rattle.std.proofs.Common.{◌≡◌, ℕ, suc, ◌+◌, ◌<◌, ◌≤◌, false, ◌||◌, List, [], ◌∷◌, length, drop, get_or, refl, sym}
use Rattle.std.proofs.Common.{ap, ◌∙◌, arith, length-append, length-drop}
use Rattle.std.proofs.Math.Seq.{drop-cons}
use Rattle.std.proofs.lemmas.List.{length-take, length-replicate}
use Rattle.std.specs.Prelude.{◌≢◌, ℤ, pos, negsuc, nat_abs}
use lib.Signed.{lt_z}
use Rattle.std.specs.FinMap as finite
use Rattle.std.proofs.lemmas.Bool.{lt-leb}
use Rattle.ks_space.specs.Store.{Store}
use Rattle.cmd_args.specs.declared.refusal.Refusal.TheVariants.{TooLong}
use Rattle.cmd_rows.specs.Outcomes.{refused}
use Rattle.cmd_string.specs.Ranges.{written_over}
use Rattle.cmd_string.specs.StringRows.{has_any, grown_row, range_row}

-- the first of two words more is a key
pub any-step : (store : Store) (words : List (List ℕ)) (place : ℕ) (key : List ℕ) → place + 1 < length words
    → key ≡ get_or words place key
    → has_any store (drop place words) ≡ (finite.contains_key store key || has_any store (drop (place + 2) words))
any-step store words place key more is =
    let here : place < length words = omega arith in
    let next : suc place < length words = omega arith in
    let two : drop place words ≡ get_or words place key ∷ get_or words (suc place) key ∷ drop
    (suc (suc place)) words = rw (drop-cons words place key, drop-cons words (suc place) key) in
    let back : suc (suc place) ≡ place + 2 = omega arith in
    ap (has_any store) two ∙ ap (λ k. finite.contains_key store k || has_any store (drop (suc (suc place)) words))
    (sym is)
    ∙ ap (λ n. finite.contains_key store key || has_any store (drop n words)) back

-- one word more is no pair
few : (store : Store) (words : List (List ℕ)) → length words ≤ 1 → has_any store words ≡ false
few store [] h = refl
few store (key ∷ []) h = refl
few store (key ∷ value ∷ words) h = absurd (omega arith)

pub any-end : (store : Store) (words : List (List ℕ)) (place : ℕ) → length words ≤ place + 1
    → has_any store (drop place words) ≡ false
any-end store words place h = few store (drop place words) (rw length-drop (omega arith))

-- a string that is written too far on is too long
pub too_far : (key old value : List ℕ) (offset : ℕ) → 16777216 < offset
    → grown_row key (written_over old offset value) ≡ refused TooLong
too_far key old value offset far =
    let long : 16777216 < length (written_over old offset value) =
    simp (length-append, length-take, length-replicate) (omega arith) in
    let test = lt-leb (length (written_over old offset value)) 16777216 long in
    rw test

-- also where the offset is one of 64 bits
pub range-far : (key old value : List ℕ) (at : ℤ) → lt_z at (pos 0) ≡ false → 16777216 < nat_abs at → value ≢ []
    → range_row key old at value ≡ refused TooLong
range-far key old [] (pos offset) after far some = absurd (some refl)
range-far key old (byte ∷ value) (pos offset) after far some = too_far key old (byte ∷ value) offset far
range-far key old value (negsuc offset) after far some = absurd (cc)
