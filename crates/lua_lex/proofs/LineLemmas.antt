-- Line breaks, counted byte by byte.
use Rattle.std.proofs.Common.{◌≡◌, ℕ, ◌+◌, ◌≤◌, length, Bool, true, false, cond, not, ◌==◌, ◌&&◌, List, [], ◌∷◌, ◌++◌}
use Rattle.std.proofs.Common.{refl, sym, ap, ◌∙◌, arith}
use Rattle.lua_lex.specs.declared.lines.Lines.{Lines}
use Rattle.lua_lex.specs.Lines.{is_break, is_pair, breaks, pass_byte, pass}

-- what is left to count behind a break byte that may begin a pair
breaks_behind : ℕ → List ℕ → ℕ
breaks_behind p [] = 0
breaks_behind p (c ∷ text) = cond (is_pair p c) (breaks text) (breaks (c ∷ text))

pub both : (a b : Bool) → (a && b) ≡ true → (a ≡ true) × (b ≡ true)
both true b e = (refl, e)
both false b e = absurd (cc)

not_break : (c : ℕ) (text : List ℕ) → is_break c ≡ false → breaks (c ∷ text) ≡ breaks text
not_break c [] lacks = rw lacks refl
not_break c (d ∷ text) lacks = rw lacks refl

one_break : (c : ℕ) (text : List ℕ) → is_break c ≡ true → breaks (c ∷ text) ≡ 1 + breaks_behind c text
unfolding breaks_behind
one_break c [] is = rw is refl
one_break c (d ∷ text) is = by_pair (is_pair c d) refl
  where
    by_pair : (t : Bool) → is_pair c d ≡ t → cond t (1 + breaks text)
        (cond (is_break c) (1 + breaks (d ∷ text)) (breaks (d ∷ text))) ≡ 1 + cond t (breaks text) (breaks (d ∷ text))
    by_pair true e = refl
    by_pair false e = rw is refl

pass_is : (n p : ℕ) (text : List ℕ) → (pass (record { breaks = n; pending = p }) text).breaks ≡ n + breaks_behind p text
unfolding breaks_behind
pass_is n p [] = omega arith
pass_is n p (c ∷ text) = by_break (is_break c) refl (λ m q. pass_is m q text)
  where
    no_pair : is_break c ≡ false → is_pair p c ≡ false
    no_pair lacks = by_pair (is_pair p c) refl
      where
        by_pair : (t : Bool) → is_pair p c ≡ t → t ≡ false
        by_pair false e = refl
        by_pair true e = let parts = both (is_break p) (is_break c && not (p == c)) e in let more =
            both (is_break c) (not (p == c)) parts.1 in absurd (cc)

    none_behind : (t : List ℕ) → breaks_behind 0 t ≡ breaks t
    none_behind [] = refl
    none_behind (d ∷ t) = refl

    by_pair : (t : Bool) → is_break c ≡ true → is_pair p c ≡ t
        → ((m q : ℕ) → (pass (record { breaks = m; pending = q }) text).breaks ≡ m + breaks_behind q text)
        → (pass (cond (not t) (record { breaks = n + 1; pending = c }) (record { breaks = n; pending = 0 }))
        text).breaks ≡ n + cond t (breaks text) (breaks (c ∷ text))
    by_pair true is e counts = counts n 0 ∙ ap (λ x. n + x) (none_behind text)
    by_pair false is e counts = counts (n + 1) c ∙ omega (arith, one_break c text is)

    by_break : (t : Bool) → is_break c ≡ t → ((m q : ℕ) → (pass (record { breaks = m; pending = q }) text).breaks ≡ m
        + breaks_behind q text)
        → (pass (cond (t && not (is_pair p c)) (record { breaks = n + 1; pending = c })
        (record { breaks = n; pending = 0 })) text).breaks ≡ n + cond (is_pair p c) (breaks text) (breaks (c ∷ text))
    by_break true is counts = by_pair (is_pair p c) is refl counts
    by_break false lacks counts = counts n 0 ∙ ap (λ x. n + x) (none_behind text ∙ sym (not_break c text lacks))
        ∙ ap (λ t. n + cond t (breaks text) (breaks (c ∷ text))) (sym (no_pair lacks))

-- the running count is the number of line breaks
pub pass-breaks : (text : List ℕ) → (pass (record { breaks = 0; pending = 0 }) text).breaks ≡ breaks text
unfolding breaks_behind
pass-breaks text = pass_is 0 0 text ∙ by text
  where
    by : (text : List ℕ) → 0 + breaks_behind 0 text ≡ breaks text
    by [] = refl
    by (c ∷ text) = omega arith

pub pass-append : (lines : Lines) (xs ys : List ℕ) → pass lines (xs ++ ys) ≡ pass (pass lines xs) ys
pass-append lines [] ys = refl
pass-append lines (b ∷ xs) ys = pass-append (pass_byte lines b) xs ys

-- no more line breaks than bytes
pub pass-le : (lines : Lines) (text : List ℕ) → (pass lines text).breaks ≤ lines.breaks + length text
pass-le lines [] = omega arith
pass-le lines (b ∷ text) = omega (
  arith,
  pass-le (pass_byte lines b) text,
  one (is_break b && not (is_pair lines.pending b)),
)
  where
    one : (t : Bool) → (cond {A = Lines} t (record { breaks = lines.breaks + 1; pending = b })
        (record { breaks = lines.breaks; pending = 0 })).breaks ≤ lines.breaks + 1
    one true = omega arith
    one false = omega arith
