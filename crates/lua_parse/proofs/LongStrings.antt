-- A long string is found again in the text that ends with it.
use Rattle.std.proofs.Common.{◌≡◌, ℕ, suc, ◌+◌, ◌<◌, ◌≤◌, ◌⊎◌, inl, inr, Bool, true, false, cond, ◌==◌, ◌&&◌, List, []}
use Rattle.std.proofs.Common.{◌∷◌, ◌++◌, length, drop, Option, Some, None, option_map, option_and_then, refl, sym, ap}
use Rattle.std.proofs.Common.{◌∙◌, arith, length-drop}
use Rattle.std.proofs.lemmas.List.{drop-append-le}
use Rattle.std.proofs.lemmas.Bool.Decides.{nat_tests}
use Rattle.lua_lex.specs.Long.{begins, equals, level, closes, close, long_len}

-- a run of `=` ends within the front, or fills it
equals_either : (front more : List ℕ) → (equals front ≡ equals (front ++ more))
    ⊎ ((equals front ≡ length front) × (length front ≤ equals (front ++ more)))
equals_either [] more = inr (refl, omega arith)
equals_either (b ∷ front) more = by_byte (b == 61) (equals_either front more)
  where
    by_byte : (t : Bool) → (equals front ≡ equals (front ++ more))
        ⊎ ((equals front ≡ length front) × (length front ≤ equals (front ++ more)))
        → (cond t (1 + equals front) 0 ≡ cond t (1 + equals (front ++ more)) 0)
        ⊎ ((cond t (1 + equals front) 0 ≡ suc (length front))
        × (suc (length front) ≤ cond t (1 + equals (front ++ more)) 0))
    by_byte false either = inl refl
    by_byte true (inl e) = inl (ap (λ n. 1 + n) e)
    by_byte true (inr f) = let e = f.0 in let le = f.1 in inr (omega (arith, e), omega (arith, le))

equals_front : (front more : List ℕ) → equals (front ++ more) < length front → equals front ≡ equals (front ++ more)
equals_front front more less = by_run (equals_either front more)
  where
    by_run : (equals front ≡ equals (front ++ more))
        ⊎ ((equals front ≡ length front) × (length front ≤ equals (front ++ more)))
        → equals front ≡ equals (front ++ more)
    by_run (inl e) = e
    by_run (inr f) = let le = f.1 in absurd (omega (arith, le, less))

apart : (a n : ℕ) → n < a → (a == n) ≡ false
apart a n less = grind (arith, nat_tests)

equals_test : (n : ℕ) (front more : List ℕ) → n < length front → (equals front == n) ≡ (equals (front ++ more) == n)
equals_test n front more less = by_run (equals_either front more)
  where
    by_run : (equals front ≡ equals (front ++ more))
        ⊎ ((equals front ≡ length front) × (length front ≤ equals (front ++ more)))
        → (equals front == n) ≡ (equals (front ++ more) == n)
    by_run (inl e) = ap (λ m. m == n) e
    by_run (inr f) = let e = f.0 in let le = f.1 in apart (equals front) n (omega (arith, e, less))
        ∙ sym (apart (equals (front ++ more)) n (omega (arith, le, less)))

begins_front : (b : ℕ) (front more : List ℕ) → 0 < length front → begins b front ≡ begins b (front ++ more)
begins_front b [] more some = absurd (omega arith)
begins_front b (c ∷ front) more some = refl

begins_behind : (b n : ℕ) (front more : List ℕ) → n < length front
    → begins b (drop n front) ≡ begins b (drop n (front ++ more))
begins_behind b n front more less =
    let some : 0 < length (drop n front) = omega (arith, length-drop n front) in
    begins_front b (drop n front) more some ∙ ap (begins b) (sym (drop-append-le n front more (omega arith)))

closes_front : (n : ℕ) (front more : List ℕ) → n < length front → closes n front ≡ closes n (front ++ more)
closes_front n front more less =
    ap (λ (t : Bool). t && begins 93 (drop n front)) (equals_test n front more less)
    ∙ ap (λ (t : Bool). (equals (front ++ more) == n) && t) (begins_behind 93 n front more less)

close_front : (n : ℕ) (front more : List ℕ) (at : ℕ) → close n (front ++ more) ≡ Some at → at + n + 2 ≤ length front
    → close n front ≡ Some at
close_front n [] more at e fits = absurd (omega arith)
close_front n (b ∷ front) more at e fits =
    ap (λ (t : Bool). cond t (Some 0) (option_map suc (close n front)))
    (ap (λ (t : Bool). (b == 93) && t) (closes_front n front more (omega arith)))
    ∙ by_test (b == 93 && closes n (front ++ more)) at e fits (λ before is few. close_front n front more before is few)
  where
    by_test : (t : Bool) (at : ℕ) → cond t (Some 0) (option_map suc (close n (front ++ more))) ≡ Some at
        → at + n + 2 ≤ suc (length front)
        → ((before : ℕ) → close n (front ++ more) ≡ Some before → before + n + 2 ≤ length front
        → close n front ≡ Some before)
        → cond t (Some 0) (option_map suc (close n front)) ≡ Some at
    by_test true at e fits again = e
    by_test false at e fits again = by_place (close n (front ++ more)) refl e
      where
        by_place : (found : Option ℕ) → close n (front ++ more) ≡ found → option_map suc found ≡ Some at
            → option_map suc (close n front) ≡ Some at
        by_place None is e = absurd (cc)
        by_place (Some before) is e =
            let at_is : suc before ≡ at = cc in
            ap (option_map suc) (again before is (omega arith)) ∙ ap Some at_is

-- the parts of a long string
pub record IsLongFront (front : List ℕ) : Type 0 where
  pub at : ℕ
  pub opened : level front ≡ Some at
  pub closed : long_len front ≡ Some (length front)

-- its length, by the level of its bracket
length_of : List ℕ → Option ℕ → Option ℕ
length_of text found = option_and_then (λ n. option_map (λ at. n + 1 + at + n + 2) (close n (drop (n + 1) text))) found

long_front_of : (front more : List ℕ) → length_of (front ++ more) (level (front ++ more)) ≡ Some (length front)
    → (at : ℕ) × (level front ≡ Some at) × (length_of front (Some at) ≡ Some (length front))
unfolding length_of
long_front_of front more e = by_level (begins 91 (drop (equals (front ++ more)) (front ++ more))) refl e
  where
    by_close : (found : Option ℕ) → begins 91 (drop (equals (front ++ more)) (front ++ more)) ≡ true
        → close (equals (front ++ more)) (drop (equals (front ++ more) + 1) (front ++ more)) ≡ found
        → option_map (λ at. equals (front ++ more) + 1 + at + equals (front ++ more) + 2) found ≡ Some (length front)
        → (at : ℕ) × (level front ≡ Some at) × (option_map (λ n. at + 1 + n + at + 2) (close at (drop (at + 1) front))
        ≡ Some (length front))
    by_close None is found_is g = absurd (cc)
    by_close (Some at) is found_is g =
        let size : equals (front ++ more) + 1 + at + equals (front ++ more) + 2 ≡ length front = cc in
        let same : equals front ≡ equals (front ++ more) = equals_front front more (omega arith) in
        let opens : begins 91 (drop (equals front) front) ≡ true = ap (λ m. begins 91 (drop m front)) same
        ∙ begins_behind 91 (equals (front ++ more)) front more (omega arith) ∙ is in
        let behind : drop (equals (front ++ more) + 1) (front ++ more) ≡ drop (equals (front ++ more) + 1) front
        ++ more = drop-append-le (equals (front ++ more) + 1) front more (omega arith) in
        let fits : at + equals (front ++ more) + 2 ≤ length (drop (equals (front ++ more) + 1) front) =
        omega (arith, length-drop (equals (front ++ more) + 1) front) in
        let closed : close (equals front) (drop (equals front + 1) front) ≡ Some at =
        ap (λ m. close m (drop (m + 1) front)) same
        ∙ close_front (equals (front ++ more)) (drop (equals (front ++ more) + 1) front) more at
        (ap (close (equals (front ++ more))) (sym behind) ∙ found_is) fits in
        let long : equals front + 1 + at + equals front + 2 ≡ length front = omega arith in (
          equals front,
          ap (λ (t : Bool). cond t (Some (equals front)) None) opens,
          ap (option_map (λ n. equals front + 1 + n + equals front + 2)) closed ∙ ap Some long,
        )

    by_level : (t : Bool) → begins 91 (drop (equals (front ++ more)) (front ++ more)) ≡ t
        → option_and_then (λ n. option_map (λ at. n + 1 + at + n + 2) (close n (drop (n + 1) (front ++ more))))
        (cond t (Some (equals (front ++ more))) None) ≡ Some (length front)
        → (at : ℕ) × (level front ≡ Some at) × (option_map (λ n. at + 1 + n + at + 2) (close at (drop (at + 1) front))
        ≡ Some (length front))
    by_level false is f = absurd (cc)
    by_level true is f = by_close (close (equals (front ++ more)) (drop (equals (front ++ more) + 1) (front ++ more)))
        is refl f

pub long_front : (front more : List ℕ) → long_len (front ++ more) ≡ Some (length front) → IsLongFront front
unfolding long_len length_of
long_front front more e =
    let p = long_front_of front more e in
    record { at = p.0; opened = p.1; closed = ap (length_of front) p.1 ∙ p.2 }
