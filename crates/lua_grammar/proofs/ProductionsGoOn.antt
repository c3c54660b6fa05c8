-- What was read of a production goes on to the whole of it.
use Rattle.std.proofs.Common.{◌≡◌, ◌⊎◌, inl, inr, ℕ, suc, ◌<◌, ◌≤◌, true, List, ◌∷◌, length, refl, sym, ◌∙◌, subst}
use Rattle.std.proofs.Common.{arith}
use Rattle.std.proofs.lemmas.Bool.{cases_lt}
use Rattle.lua_grammar.specs.declared.kinds.SyntaxKind.{SyntaxKind}
use Rattle.lua_grammar.specs.declared.context.Context.{Context}
use Rattle.lua_grammar.specs.Positions.{Position}
use Rattle.lua_grammar.specs.Contexts.{Rules, every_rule}
use Rattle.lua_grammar.specs.Stops.{up_to}
use Rattle.lua_grammar.specs.Classes.{Class}
use Rattle.lua_grammar.specs.Productions as part
use Rattle.lua_grammar.specs.Productions.{Part, Production, Read}
use Rattle.lua_grammar.specs.Stuck as stop
use Rattle.lua_grammar.specs.Stuck.{Refuses}
use Rattle.lua_grammar.proofs.Continuations as only
use Rattle.lua_grammar.proofs.Continuations.{Mode, GoesOn, Goal}
use Rattle.lua_grammar.proofs.Instead.{kind_shown, line_shown}
use Rattle.lua_grammar.proofs.Joins.{joins}
use Rattle.lua_grammar.proofs.Completes.{Allows, allows, need, met, AllMet}
use Rattle.lua_grammar.proofs.ProductionsFit.{fits, has, rest_of, all_plain, plain, plain_part, plain_behind}
use Rattle.lua_grammar.proofs.ProductionsFit.{plain_goal, goal_plain}
use Rattle.lua_grammar.proofs.PartsGoOn.{PartsGoOn, parts_left, parts_inside, parts_behind_operator}

-- ---- what is known of the parts that are left

read_met : {ps qs : List Part} {i j : Position} → Read ps i qs j → AllMet ps → AllMet qs
read_met part.nothing h = h
read_met (part.more {p} x r) h = read_met r (met (need p) h).1

-- where some words were read
left_met : {ps qs : List Part} {i j : Position} → Read ps i qs j → length j.words < length i.words → AllMet (rest_of ps)
    → AllMet qs
left_met part.nothing less h = absurd (omega (arith, less))
left_met (part.more x r) less h = read_met r h

rest_met : {ps rest : List Part} {p : Part} {i j : Position} → Read ps i (p ∷ rest) j → AllMet (rest_of ps)
    → AllMet rest
rest_met part.nothing h = h
rest_met {p = p} (part.more x r) h = (met (need p) (read_met r h)).1

read_plain : {ps qs : List Part} {i j : Position} → Read ps i qs j → all_plain ps ≡ true → all_plain qs ≡ true
read_plain part.nothing e = e
read_plain (part.more {p} {ps} x r) e = read_plain r (plain_behind p ps e)

-- ---- productions

joined : {c : Context} {i : Position} {k : Class} {ps : List Part} {rules : Rules} {n : ℕ} → Production c i k ps
    → n < length i.words
    → PartsGoOn rules ps (Allows k) n i → GoesOn rules c k n i
joined {i = i} {k} production less goes t may =
    let (more, z, xs, end) = goes t (allows k _ may) in
    let (j, x, e) = joins production (kind_shown i (inl less)) (line_shown i (inl less)) refl z xs in
    (more, j, x, e ∙ end)

-- up to where a part is to begin
production_left : {c : Context} {i j : Position} {k : Class} {ps qs : List Part} {n : ℕ} → Production c i k ps
    → Read ps i qs j → n ≡ length j.words
    → n < length i.words → GoesOn every_rule c k n i
production_left {k = k} production read e less =
    joined production less (parts_left read (Allows k) (fits production)
    (left_met read (omega (arith, e, less)) (has production)) e)

operator_left : {c : Context} {i j : Position} {k : Class} {ps rest : List Part} {m n : ℕ} → Production c i k ps
    → Read ps i (part.operator ∷ rest) j → m ≡ 2
    → suc n ≡ length j.words → n < length i.words → GoesOn (up_to m) c k n i
operator_left {c} {i} {k = k} {n = n} production read is e less =
    let goes = parts_behind_operator read (Allows k) (fits production) (rest_met read (has production)) e in
    subst (λ (m : ℕ). GoesOn (up_to m) c k n i) (sym is) (joined production less goes)

refused : {f : SyntaxKind} {c : Context} {i j : Position} {k : Class} {ps rest : List Part} {p : Part} {rules : Rules}
    {n : ℕ} → Production c i k ps
    → Read ps i (p ∷ rest) j → Refuses f p j → Mode f j rules n → n < length i.words → GoesOn rules c k n i
refused production read r only.before less = production_left production read refl less
refused production read (stop.no_word s) (only.with_word is e) less = absurd (omega (arith, is))
refused production read (stop.no_name s) (only.with_word is e) less = absurd (omega (arith, is))
refused production read (stop.no_end s) (only.with_word is e) less = absurd (omega (arith, is))
refused production read (stop.too_long seen h) (only.with_word is e) less =
    operator_left production read (omega (arith, is)) e less

-- a part of a production is refused
pub production_refused : {f : SyntaxKind} {c : Context} {i j : Position} {k : Class} {ps rest : List Part} {p : Part}
    → Production c i k ps
    → Read ps i (p ∷ rest) j → Refuses f p j → {rules : Rules} {n : ℕ} → Mode f j rules n → n < length i.words
    → Goal rules c k n i
production_refused {i = i} {k = k} production read r {n = n} mode less =
    goal_plain k n i (plain production).0 (refused production read r mode less)

inside_or_left : {f : SyntaxKind} {c c' : Context} {i j z : Position} {k k' : Class} {ps rest : List Part}
    {rules : Rules} {n : ℕ} → Production c i k ps
    → Read ps i (part.some c' k' ∷ rest) j → (n < length j.words → GoesOn rules c' k' n j) → Mode f z rules n
    → length z.words ≤ length j.words
    → n < length i.words → (n < length j.words) ⊎ (length j.words ≤ n) → GoesOn rules c k n i
inside_or_left {k = k} production read goes mode le less (inl inside) =
    joined production less (parts_inside read (Allows k) (fits production) (rest_met read (has production))
    (goes inside) inside)
inside_or_left production read goes only.before le less (inr ge) =
    production_left production read (omega (arith, le, ge)) less
inside_or_left production read goes (only.with_word is e) le less (inr ge) = absurd (omega (arith, e, le, ge))

-- a part of a production is where the reader stops
pub production_inside : {f : SyntaxKind} {c c' : Context} {i j z : Position} {k k' : Class} {ps rest : List Part}
    → Production c i k ps
    → Read ps i (part.some c' k' ∷ rest) j → {rules : Rules} {n : ℕ} → (n < length j.words → Goal rules c' k' n j)
    → Mode f z rules n
    → length z.words ≤ length j.words → n < length i.words → Goal rules c k n i
production_inside {c' = c'} {i = i} {j} {k = k} {k'} {ps} {rest} production read {n = n} goal mode le less =
    let (is_whole, are) = plain production in
    let (is, _) = plain_part c' k' rest (read_plain read are) in
    goal_plain k n i is_whole (inside_or_left production read (λ h. plain_goal k' n j is (goal h)) mode le less
    (cases_lt n (length j.words)))
