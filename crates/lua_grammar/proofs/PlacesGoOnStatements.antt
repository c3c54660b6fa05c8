-- Words that stop at the first word of a statement, or behind its `local`, go on to it.
use Rattle.std.proofs.Common.{◌≡◌, inl, ℕ, suc, ◌<◌, true, false, List, [], ◌∷◌, ◌++◌, length, Option, Some, refl, ap}
use Rattle.std.proofs.Common.{◌∙◌, arith}
use Rattle.lua_lex.specs.declared.kinds.TokenKind.{TokenKind}
use Rattle.lua_lex.specs.declared.kinds.TokenKind.TheVariants as kind
use Rattle.lua_grammar.specs.declared.kinds.SyntaxKind.TheVariants as fault
use Rattle.lua_grammar.specs.declared.context.Context.{Context}
use Rattle.lua_grammar.specs.declared.words.Word.{Word}
use Rattle.lua_grammar.specs.declared.statements.Deed.TheVariants as deed_of
use Rattle.lua_grammar.specs.Words.{ends_block}
use Rattle.lua_grammar.specs.Positions as at
use Rattle.lua_grammar.specs.Positions.{Position, Takes, Sees, SeesNot}
use Rattle.lua_grammar.specs.Contexts.{Rules, HasRoom}
use Rattle.lua_grammar.specs.Grammar as by
use Rattle.lua_grammar.specs.Classes as class
use Rattle.lua_grammar.specs.Stuck.{nests_statement}
use Rattle.lua_grammar.proofs.Continuations.{instead, lead, Mode, before, with_word, GoesOn}
use Rattle.lua_grammar.proofs.Modes.{free, nothing_seen}
use Rattle.lua_grammar.proofs.Instead.{kind_shown, words_from, takes_instead, behind_word}
use Rattle.lua_grammar.proofs.Least.{word_of, nil_words, name_words, body_words, loop_words, branch_words, range_words}
use Rattle.lua_grammar.proofs.Least.{nil_expression, one_name, no_values, front_kind, next_words, takes_front}
use Rattle.lua_grammar.proofs.Least.{takes_front_name, ReadsTo, least_function_body, least_loop, least_branch}
use Rattle.lua_grammar.proofs.Least.{least_range}
use Rattle.lua_grammar.proofs.Behind.{ends_operands, ends_with_no}
use Rattle.lua_grammar.proofs.PlacesGoOn.{bodied}

-- ---- the shortest words, where there is room by these rules

-- end
do_at : {rules : Rules} {c : Context} (i : Position) {t : List Word} → HasRoom rules c → Sees kind.Do i
    → (at.next i).words ≡ word_of kind.End ∷ t → ReadsTo rules c class.deed i t
do_at i room seen e =
    let j = at.next i in (
      at.next j,
      (
        _,
        by.do_block (record { seen = seen; taken = refl }) room
            (by.no_statements (ap ends_block (front_kind j e))) (takes_front j e),
      ),
      next_words j e,
    )

-- nil do end
while_at : {rules : Rules} {c : Context} (i : Position) {t : List Word} → HasRoom rules c → Sees kind.While i
    → (at.next i).words ≡ nil_words ++ loop_words ++ t → ReadsTo rules c class.deed i t
while_at i room seen e =
    let (j, x, e1) = nil_expression (at.next i) e (refl, refl) in
    let (k, loop, e2) = least_loop j room e1 in
    (k, (_, by.while_loop (record { seen = seen; taken = refl }) x.1 loop.1), e2)

-- until nil
repeat_at : {rules : Rules} {c : Context} (i : Position) {t : List Word} → HasRoom rules c → Sees kind.Repeat i
    → (at.next i).words ≡ word_of kind.Until ∷ nil_words ++ t → ends_block (lead t) ≡ true
    → ReadsTo rules c class.deed i t
repeat_at i {t} room seen e ends =
    let j = at.next i in
    let (k, x, e1) = nil_expression (at.next j) (next_words j e) (ends_operands (lead t) ends) in (
      k,
      (
        _,
        by.repeat_loop (record { seen = seen; taken = refl }) room
            (by.no_statements (ap ends_block (front_kind j e))) (takes_front j e) x.1,
      ),
      e1,
    )

-- nil then end
if_at : {rules : Rules} {c : Context} (i : Position) {t : List Word} → HasRoom rules c → Sees kind.If i
    → (at.next i).words ≡ branch_words ++ word_of kind.End ∷ t → ReadsTo rules c class.deed i t
if_at i room seen e =
    let (j, branch, e1) = least_branch (at.next i) room e refl in
    let branches = by.no_branches (λ s. cc (s, front_kind j e1)) in
    let otherwise = by.no_else (λ s. cc (s, front_kind j e1)) in (
      at.next j,
      (
        _,
        by.if_statement (record { seen = seen; taken = refl }) branch.1 branches otherwise
            (takes_front j e1),
      ),
      next_words j e1,
    )

-- Name in nil do end
for_at : {rules : Rules} {c : Context} (i : Position) {t : List Word} → HasRoom rules c → Sees kind.For i
    → (at.next i).words ≡ range_words ++ t → ReadsTo rules c class.deed i t
for_at i room seen e =
    let (j, range, e1) = least_range (at.next i) room e in
    (j, (_, by.for_loop (record { seen = seen; taken = refl }) range.1), e1)

-- Name ( ) end
function_at : {rules : Rules} {c : Context} (i : Position) {t : List Word} → HasRoom rules c → Sees kind.Function i
    → (at.next i).words ≡ name_words ++ body_words ++ t → ReadsTo rules c class.deed i t
function_at i room seen e =
    let j = at.next i in
    let e1 = next_words j e in
    bodied room (record { seen = seen; taken = refl }) (takes_front_name j e refl)
    (by.no_path (λ s. cc (s, front_kind (at.next j) e1))) e1

-- ---- statements

pub deed_goes_on : {rules : Rules} {c : Context} {n : ℕ} (i : Position) → Mode fault.Unexpected i rules n
    → n < length i.words
    → GoesOn rules c class.deed n i
deed_goes_on i m less = absurd (nothing_seen m i (omega arith) less)

abbrev Shortest : Rules → Context → TokenKind → List Word → Type 0
Shortest rules c k words = (q : Position) (t : List Word) → ends_block (lead t) ≡ true → Sees k q
    → (at.next q).words ≡ words ++ t
    → ReadsTo rules c class.deed q t

-- the word that is left, and then these
shortest_goes_on : {rules : Rules} {c : Context} {k : TokenKind} (n : ℕ) (i : Position) (words : List Word) → Sees k i
    → suc n ≡ length i.words
    → Shortest rules c k words → GoesOn rules c class.deed n i
shortest_goes_on n i words s e least t follow =
    let seen = kind_shown i (inl (omega (arith, e))) ∙ s in
    let (j, x, end) = least (instead n (words ++ t) i) t (follow deed_of.Break) seen (behind_word n (words ++ t) i e) in
    (words, j, x, end)

nested_goes_on : {rules : Rules} {c : Context} (n : ℕ) (i : Position) (w : Option TokenKind) → at.kind i ≡ w
    → nests_statement w ≡ true
    → suc n ≡ length i.words → HasRoom rules c → GoesOn rules c class.deed n i
nested_goes_on n i (Some kind.Do) s h e room =
    shortest_goes_on n i (word_of kind.End ∷ []) s e (λ q t ends seen e'. do_at q room seen e')
nested_goes_on n i (Some kind.While) s h e room =
    shortest_goes_on n i (nil_words ++ loop_words) s e (λ q t ends seen e'. while_at q room seen e')
nested_goes_on n i (Some kind.Repeat) s h e room =
    shortest_goes_on n i (word_of kind.Until ∷ nil_words) s e (λ q t ends seen e'. repeat_at q room seen e' ends)
nested_goes_on n i (Some kind.If) s h e room =
    shortest_goes_on n i (branch_words ++ word_of kind.End ∷ []) s e (λ q t ends seen e'. if_at q room seen e')
nested_goes_on n i (Some kind.For) s h e room =
    shortest_goes_on n i range_words s e (λ q t ends seen e'. for_at q room seen e')
nested_goes_on n i (Some kind.Function) s h e room =
    shortest_goes_on n i (name_words ++ body_words) s e (λ q t ends seen e'. function_at q room seen e')
nested_goes_on n i w s h e room = absurd (cc)

pub deed_level_goes_on : {c : Context} (i : Position) → nests_statement (at.kind i) ≡ true
    → {rules : Rules} {n : ℕ} → Mode fault.TooDeep i rules n → n < length i.words → GoesOn rules c class.deed n i
deed_level_goes_on i h before less = absurd (omega (arith, less))
deed_level_goes_on i h {n = n} (with_word r e) less = nested_goes_on n i (at.kind i) refl h e (free fault.TooDeep r _)

-- local Name
local_goes_on : {rules : Rules} {c : Context} {i j : Position} (n : ℕ) → Takes kind.Local i j → n ≡ length j.words
    → GoesOn rules c class.deed n i
local_goes_on {j = j} n u e t follow =
    let words : List Word = name_words ++ t in
    let ends : ends_block (lead t) ≡ true = follow deed_of.Break in
    let u' = takes_instead n words u (omega (arith, e)) in
    let (k, names, e1) = one_name (instead n words j) (words_from j e) (ends_with_no kind.Comma refl (lead t) ends) in
    let (l, values, e2) = no_values k e1 (ends_with_no kind.Assign refl (lead t) ends) in
    (name_words, l, (_, by.local u' names.1 values.1), e2)

-- local function Name ( ) end
local_function_goes_on : {rules : Rules} {c : Context} {i j : Position} (n : ℕ) → Takes kind.Local i j
    → Sees kind.Function j → suc n ≡ length j.words
    → HasRoom rules c → GoesOn rules c class.deed n i
local_function_goes_on {j = j} n u s e room t follow =
    let words : List Word = name_words ++ body_words ++ t in
    let u' = takes_instead n words u (omega (arith, e)) in
    let p : Position = instead n words j in
    let seen : Sees kind.Function p = kind_shown j (inl (omega (arith, e))) ∙ s in
    let q = at.next p in
    let e1 : q.words ≡ words = behind_word n words j e in
    let (l, body, e2) = least_function_body (at.line p) false (at.next q) room (next_words q e1) in
    let x = by.local_function u' refl (record { seen = seen; taken = refl }) (takes_front_name q e1 refl) body.1 in
    (name_words ++ body_words, l, (_, x), e2)

pub local_level_goes_on : {c : Context} {i j : Position} → Takes kind.Local i j → Sees kind.Function j
    → {rules : Rules} {n : ℕ} → Mode fault.TooDeep j rules n → GoesOn rules c class.deed n i
local_level_goes_on u s {n = n} before = local_goes_on n u refl
local_level_goes_on u s {n = n} (with_word r e) = local_function_goes_on n u s e (free fault.TooDeep r _)

-- ---- the last statement of a block

pub break_statement_goes_on : {c : Context} (i : Position) → Sees kind.Break i
    → {rules : Rules} {n : ℕ} → Mode fault.NoLoop i rules n → n < length i.words → GoesOn rules c class.last_deed n i
break_statement_goes_on i s before less = absurd (omega (arith, less))
break_statement_goes_on i s {n = n} (with_word r e) less = λ t follow.
    let seen : Sees kind.Break (instead n t i) = kind_shown i (inl less) ∙ s in (
      [],
      _,
      (deed_of.Break, by.break_statement (record { seen = seen; taken = refl }) (free fault.NoLoop r _)),
      behind_word n t i e,
    )
