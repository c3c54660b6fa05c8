-- What was read of some parts goes on to all of them.
use Rattle.std.proofs.Common.{◌≡◌, inl, inr, ℕ, suc, ◌+◌, ◌<◌, ◌≤◌, List, [], ◌∷◌, ◌++◌, length, Option, IsSome}
use Rattle.std.proofs.Common.{is_some, refl, sym, ap, ◌∙◌, subst, arith}
use Rattle.std.proofs.lemmas.List.{append_assoc}
use Rattle.lua_lex.specs.declared.kinds.TokenKind.{TokenKind}
use Rattle.lua_grammar.specs.declared.context.Context.{Context}
use Rattle.lua_grammar.specs.declared.words.Word.{Word}
use Rattle.lua_grammar.specs.Positions as at
use Rattle.lua_grammar.specs.Positions.{Position}
use Rattle.lua_grammar.specs.Contexts.{Rules, every_rule}
use Rattle.lua_grammar.specs.Stops.{up_to}
use Rattle.lua_grammar.specs.Classes.{Class}
use Rattle.lua_grammar.specs.Productions as part
use Rattle.lua_grammar.specs.Productions.{Part, AreParts, Read}
use Rattle.lua_grammar.proofs.Continuations.{instead, lead, GoesOn}
use Rattle.lua_grammar.proofs.Instead.{kind_shown, words_from, next_shown}
use Rattle.lua_grammar.proofs.Completes.{allowed, First, Fits, fit, first_is, least_all, AllMet, completed}
use Rattle.lua_grammar.proofs.PartsRead.{Comes, parts_on}

pub read_fits : {ps qs : List Part} {i j : Position} → Read ps i qs j → (F : Option TokenKind → Type 0) → Fits ps F
    → Fits qs F
read_fits part.nothing F f = f
read_fits (part.more {p} {ps} x r) F f = read_fits r F (fit p ps F f).1

-- the words of `i` but the last n can go on to all these parts, with what F allows behind
abbrev pub PartsGoOn : Rules → List Part → (Option TokenKind → Type 0) → ℕ → Position → Type 0
PartsGoOn rules ps F n i =
    (t : List Word) → F (lead t) → (more : List Word) × (z : Position) × AreParts rules ps (instead n (more ++ t) i) z
    × (z.words ≡ t)

-- up to where a part is to begin: the shortest words of it and of those behind it follow
pub parts_left : {ps qs : List Part} {i j : Position} {n : ℕ} → Read ps i qs j → (F : Option TokenKind → Type 0)
    → Fits ps F → AllMet qs
    → n ≡ length j.words → PartsGoOn every_rule ps F n i
parts_left {qs = qs} {i} {j} {n} r F f h e t may =
    let words : List Word = least_all qs ++ t in
    let there : (instead n words j).words ≡ words = words_from j e in
    let (z, xs, end) = completed every_rule qs F (instead n words j) t h (read_fits r F f) may there in
    let comes : Comes n words j (First qs F) =
    inr (subst (λ (ws : List Word). First qs F (lead ws)) (sym there) (first_is qs F t may)) in
    let (_, _, all) = parts_on r F f every_rule n words z (omega (arith, e), comes, xs) in
    (least_all qs, z, all, end)

-- up to within a part that goes on
pub parts_inside : {ps rest : List Part} {c : Context} {k : Class} {i j : Position} {n : ℕ}
    → Read ps i (part.some c k ∷ rest) j
    → (F : Option TokenKind → Type 0) → Fits ps F → AllMet rest → {rules : Rules} → GoesOn rules c k n j
    → n < length j.words
    → PartsGoOn rules ps F n i
parts_inside {ps} {rest} {c} {k} {i} {j} {n} r F f h {rules} goes less t may =
    let (fits, f') = fit (part.some c k) rest F (read_fits r F f) in
    let (more, y, x, e) = goes (least_all rest ++ t) (λ x. allowed k x _ (fits _ (first_is rest F t may))) in
    let (z, xs, end) = completed rules rest F y t h f' may e in
    let words : List Word = more ++ (least_all rest ++ t) in
    let (_, _, all) = parts_on r F f rules n words z
    (omega (arith, less), inl (kind_shown j (inl less)), (y, x, xs)) in (
      more ++ least_all rest,
      z,
      subst (λ (ws : List Word). AreParts rules ps (instead n ws i) z)
          (sym (append_assoc more (least_all rest) t)) all,
      end,
    )

-- ---- with the operator that is one too many

some_word : (words : List Word) → 0 < length words → IsSome (at.kind_of (at.first_of words))
some_word [] h = absurd (omega (arith, h))
some_word (word ∷ words) h = refl

one_less : (i : Position) (words : List Word) → 0 < length words → length (at.behind i words).words + 1 ≡ length words
one_less i [] h = absurd (omega (arith, h))
one_less i (word ∷ words) h = omega arith

pub parts_behind_operator : {ps rest : List Part} {i j : Position} {n : ℕ} → Read ps i (part.operator ∷ rest) j
    → (F : Option TokenKind → Type 0)
    → Fits ps F → AllMet rest → suc n ≡ length j.words → PartsGoOn (up_to 2) ps F n i
parts_behind_operator {ps} {rest} {i} {j} {n} r F f h e t may =
    let words : List Word = least_all rest ++ t in
    let less : n < length j.words = omega (arith, e) in
    let some : 0 < length j.words = omega (arith, e) in
    let reaches : n ≤ length j.words = omega (arith, e) in
    let shown : at.kind (instead n words j) ≡ at.kind j = kind_shown j (inl less) in
    let next : Position = at.next (record j { operators = suc j.operators }) in
    let count : n ≡ length next.words = omega
    (arith, e, one_less (record j { operators = suc j.operators }) j.words some) in
    let passes : at.PassesOperator (instead n words j) (instead n words next) = record {
      some = ap is_some shown ∙ some_word j.words some;
      taken = sym (next_shown n words (record j { operators = suc j.operators }) less);
    } in
    let (z, xs, end) = completed (up_to 2) rest F (instead n words next) t h (read_fits r F f) may
    (words_from next count) in
    let (_, _, all) = parts_on r F f (up_to 2) n words z (reaches, inl shown, (instead n words next, (tt, passes), xs))
    in
    (least_all rest, z, all, end)
