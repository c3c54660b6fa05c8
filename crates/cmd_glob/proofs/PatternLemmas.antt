-- The parts behind a set.
use Rattle.std.proofs.Common.{◌≡◌, ◌≤◌, ◌+◌, ◌++◌, ◌∙◌, append_assoc, ap, sym, cond, drop, ℕ, Bool, true, false, List}
use Rattle.std.proofs.Common.{[], ◌∷◌, length, refl, arith, not}
use Rattle.std.specs.List.{before_first, after_first, position_or_len}
use Rattle.std.proofs.lemmas.Bool.{cond-true}
use Rattle.std.proofs.lemmas.Grind.{common_steps}
use Rattle.cmd_glob.specs.declared.symbol.Symbol.{Symbol}
use Rattle.cmd_glob.specs.declared.byte_set.ByteSet.{ByteSet}
use Rattle.cmd_glob.specs.declared.part.Part.{Part}
use Rattle.cmd_glob.specs.declared.part.Part.TheVariants.{OneOf}
use Rattle.cmd_glob.specs.Sets.{set_of}
use Rattle.cmd_glob.specs.Symbols.{is_mark}
use Rattle.cmd_glob.specs.Patterns.{parts_from}

within_at : (b : Bool) (x : Symbol) (xs : List Symbol) (n : ℕ)
    → parts_from true xs ≡ parts_from false (drop (n + 1) xs)
    → parts_from (not b) xs ≡ parts_from false (drop (cond (not b) (1 + n) 0 + 1) (x ∷ xs))
within_at true x xs n h = refl
within_at false x xs n h = let e : drop (1 + n + 1) (x ∷ xs) ≡ drop (n + 1) xs = grind (arith, common_steps) in h
    ∙ ap (parts_from false) (sym e)

-- behind the `]` of a set, or behind the end of the pattern
pub parts_from-within : (xs : List Symbol) → parts_from true xs ≡ parts_from false (after_first (is_mark 93) xs)
parts_from-within [] = refl
parts_from-within (x ∷ xs) = within_at (is_mark 93 x) x xs (position_or_len (is_mark 93) xs) (parts_from-within xs)

pub after_first-le : (xs : List Symbol) → length (after_first (is_mark 93) xs) ≤ length xs
after_first-le xs = grind (arith, common_steps)

set_first : (s : Symbol) (xs : List Symbol) → is_mark 91 s ≡ true
    → parts_from false (s ∷ xs) ≡ OneOf (set_of (before_first (is_mark 93) xs)) ∷ parts_from false
    (after_first (is_mark 93) xs)
set_first s xs h = cond-true (is_mark 91 s) _ _ h
    ∙ ap (λ ps. OneOf (set_of (before_first (is_mark 93) xs)) ∷ ps) (parts_from-within xs)

-- a set is read, and the symbols behind it are left
pub reads_set : (parts now : List Part) (set : ByteSet) (first : Symbol)
    (more inside behind rest symbols : List Symbol) → is_mark 91 first ≡ true → rest ≡ first ∷ more
    → inside ≡ before_first (is_mark 93) more → behind ≡ after_first (is_mark 93) more → set ≡ set_of inside
    → now ≡ parts ++ OneOf set ∷ [] → parts ++ parts_from false rest ≡ parts_from false symbols
    → now ++ parts_from false behind ≡ parts_from false symbols
reads_set parts now set first more inside behind rest symbols open_ is_rest is_inside is_behind is_set is_now before =
    let e = set_first first more open_ in
    rw (is_now, is_set, is_inside, is_behind, append_assoc) (ap (λ ps. parts ++ ps) (sym e)
    ∙ ap (λ xs. parts ++ parts_from false xs) (sym is_rest) ∙ before)
