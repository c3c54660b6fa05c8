-- The first close of a long bracket.
use Rattle.std.proofs.Common.{◌≡◌, ℕ, zero, suc, ◌+◌, ◌-◌, ◌<◌, ◌≤◌, Bool, true, false, cond, ◌==◌, ◌&&◌, Option, Some}
use Rattle.std.proofs.Common.{None, option_map, List, [], ◌∷◌, length, drop, get_or, refl, sym, ap, ◌∙◌, arith}
use Rattle.memchr.specs.Find.{IsFirstByte, is_byte}
use Rattle.lua_lex.specs.Long.{closes, close}

map_same : (f g : ℕ → ℕ) (o : Option ℕ) → ((n : ℕ) → f n ≡ g n) → option_map f o ≡ option_map g o
map_same f g None same = refl
map_same f g (Some n) same = ap Some (same n)

map_twice : (f g : ℕ → ℕ) (o : Option ℕ) → option_map f (option_map g o) ≡ option_map (λ n. f (g n)) o
map_twice f g None = refl
map_twice f g (Some n) = refl

-- up to the first `]`
close_to : (n : ℕ) (rest : List ℕ) (at : ℕ) → at < length rest → ((k : ℕ) → k < at → (get_or rest k 0 == 93) ≡ false)
    → (get_or rest at 0 == 93) ≡ true
    → close n rest ≡ cond (closes n (drop (suc at) rest)) (Some at)
    (option_map (λ k. at + 1 + k) (close n (drop (suc at) rest)))
close_to n [] at within before here = absurd (omega arith)
close_to n (b ∷ rest) zero within before here = by_test (closes n rest)
  where
    by_test : (t : Bool) → cond ((b == 93) && t) (Some 0) (option_map suc (close n rest))
        ≡ cond t (Some 0) (option_map (λ k. 0 + 1 + k) (close n rest))
    by_test true = rw here refl
    by_test false = rw here (map_same suc (λ k. 0 + 1 + k) (close n rest) (λ k. omega arith))
close_to n (b ∷ rest) (suc at) within before here =
    let other : (b == 93) ≡ false = before 0 (omega arith) in
    let after = close_to n rest at (omega arith) (λ k less. before (suc k) (omega arith)) here in
    rw other (ap (option_map suc) after ∙ by_test (closes n (drop (suc at) rest)))
  where
    by_test : (t : Bool) → option_map suc (cond t (Some at)
        (option_map (λ k. at + 1 + k) (close n (drop (suc at) rest))))
        ≡ cond t (Some (suc at)) (option_map (λ k. suc at + 1 + k) (close n (drop (suc at) rest)))
    by_test true = refl
    by_test false = map_twice suc (λ k. at + 1 + k) (close n (drop (suc at) rest))
        ∙ map_same (λ k. suc (at + 1 + k)) (λ k. suc at + 1 + k) (close n (drop (suc at) rest)) (λ k. omega arith)

fails : (t : Bool) → (t ≡ true → ⊥) → t ≡ false
fails true lacks = absurd (lacks refl)
fails false lacks = refl

close_none : (n : ℕ) (rest : List ℕ) → ((k : ℕ) → k < length rest → (get_or rest k 0 == 93) ≡ false)
    → close n rest ≡ None
close_none n [] none = refl
close_none n (b ∷ rest) none =
    let other : (b == 93) ≡ false = none 0 (omega arith) in
    let after = close_none n rest (λ k less. none (suc k) (omega arith)) in rw (other, after) refl

-- where the search has come
abbrev pub IsAt : ℕ → List ℕ → List ℕ → Type 0
IsAt n text rest = (length rest ≤ length text)
    × (close n text ≡ option_map (λ k. length text - length rest + k) (close n rest))

pub IsAt-start : (n : ℕ) (text : List ℕ) → IsAt n text text
IsAt-start n text = (omega arith, sym (by (close n text)))
  where
    by : (o : Option ℕ) → option_map (λ k. length text - length text + k) o ≡ o
    by None = refl
    by (Some k) = ap Some (omega arith)

pub IsAt-none : (n : ℕ) (text rest : List ℕ) → IsAt n text rest → IsFirstByte (is_byte 93) rest None
    → None ≡ close n text
IsAt-none n text rest h found =
    let none = close_none n rest (λ k less. fails (get_or rest k 0 == 93) (found k (omega arith) less)) in
    sym (h.1 ∙ ap (option_map (λ k. length text - length rest + k)) none)

pub IsAt-found : (n : ℕ) (text rest more : List ℕ) (at : ℕ) → IsAt n text rest → IsFirstByte (is_byte 93) rest (Some at)
    → more ≡ drop (at + 1) rest → length more + (at + 1) ≡ length rest → closes n more ≡ true
    → Some (length text - length more - 1) ≡ close n text
IsAt-found n text rest more at h found more_is long holds =
    let next : at + 1 ≡ suc at = omega arith in
    let there : more ≡ drop (suc at) rest = more_is ∙ ap (λ k. drop k rest) next in
    let to = close_to n rest at (omega arith)
    (λ k less. fails (get_or rest k 0 == 93) (found.0.before k (omega arith) less)) found.1 in
    let closed : close n rest ≡ Some at = to
    ∙ ap (λ t. cond t (Some at) (option_map (λ k. at + 1 + k) (close n (drop (suc at) rest))))
    (ap (closes n) (sym there) ∙ holds) in
    let place : length text - length rest + at ≡ length text - length more - 1 = omega (arith, h.0) in
    sym (h.1 ∙ ap (option_map (λ k. length text - length rest + k)) closed ∙ ap Some place)

pub IsAt-more : (n : ℕ) (text rest more : List ℕ) (at : ℕ) → IsAt n text rest → IsFirstByte (is_byte 93) rest (Some at)
    → more ≡ drop (at + 1) rest → length more + (at + 1) ≡ length rest → closes n more ≡ false
    → IsAt n text more
IsAt-more n text rest more at h found more_is long lacks =
    let next : at + 1 ≡ suc at = omega arith in
    let there : more ≡ drop (suc at) rest = more_is ∙ ap (λ k. drop k rest) next in
    let to = close_to n rest at (omega arith)
    (λ k less. fails (get_or rest k 0 == 93) (found.0.before k (omega arith) less)) found.1 in
    let later : close n rest ≡ option_map (λ k. at + 1 + k) (close n more) =
    to ∙ ap (λ t. cond t (Some at) (option_map (λ k. at + 1 + k) (close n (drop (suc at) rest))))
    (ap (closes n) (sym there) ∙ lacks) ∙ ap (λ t. option_map (λ k. at + 1 + k) (close n t)) (sym there) in (
      omega (arith, h.0),
      h.1 ∙ ap (option_map (λ k. length text - length rest + k)) later
          ∙ map_twice (λ k. length text - length rest + k) (λ k. at + 1 + k) (close n more)
          ∙ map_same (λ k. length text - length rest + (at + 1 + k)) (λ k. length text - length more + k) (close n more)
          (λ k. omega (arith, h.0)),
    )
