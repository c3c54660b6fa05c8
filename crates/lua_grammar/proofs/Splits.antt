-- Whatever of a class is spelled at a position is the parts of the production that the words there call for.
use Rattle.std.proofs.Common.{◌≡◌, ℕ, suc, Bool, true, false, List, ◌∷◌, Option, Some, None, IsSome, option_and_then}
use Rattle.std.proofs.Common.{refl, sym, ap, ◌∙◌}
use Rattle.lua_lex.specs.declared.kinds.TokenKind.{TokenKind}
use Rattle.lua_lex.specs.declared.kinds.TokenKind.TheVariants as kind
use Rattle.lua_grammar.specs.declared.context.Context.{Context}
use Rattle.lua_grammar.specs.declared.operators.Unary.{Unary}
use Rattle.lua_grammar.specs.declared.operators.Binary.{Binary}
use Rattle.lua_grammar.specs.Operators.{unary_operator, binary_operator}
use Rattle.lua_grammar.specs.Words.{ends_block, ends_return}
use Rattle.lua_grammar.specs.Positions as at
use Rattle.lua_grammar.specs.Positions.{Position, Takes, TakesName, Passes, PassesOperator, Sees, SeesNot}
use Rattle.lua_grammar.specs.Contexts.{Rules}
use Rattle.lua_grammar.specs.Grammar as by
use Rattle.lua_grammar.specs.Classes.{Class, Reads}
use Rattle.lua_grammar.specs.Productions as parts
use Rattle.lua_grammar.specs.Productions.{Part, AreParts, Production}
use Rattle.lua_grammar.proofs.Inversions.{on_line, names_it, last_goes_on, form, power_at, exponent_at, links_at}
use Rattle.lua_grammar.proofs.Inversions.{simple_at, prefix_at, head_at, suffix_at, call_at, arguments_at, unkeyed_at}
use Rattle.lua_grammar.proofs.Inversions.{block_at, return_at, deed_at}

-- ---- words

-- the production of these parts is called for by two words, and not by one
abbrev pub looks_ahead : List Part → Bool
looks_ahead (parts.word kind.Do ∷ ps) = false
looks_ahead (parts.word k ∷ ps) = true
looks_ahead (parts.name ∷ ps) = true
looks_ahead (parts.function_on line ∷ ps) = true
looks_ahead _ = false

sign_some : (by : Unary) (w : Option TokenKind) → option_and_then unary_operator w ≡ Some by → IsSome w
sign_some by None e = absurd (cc)
sign_some by (Some k) e = refl

joint_some : (rank : ℕ) (by : Binary) (w : Option TokenKind) → at.of_rank rank (option_and_then binary_operator w)
    ≡ Some by → IsSome w
joint_some rank by None e = absurd (cc)
joint_some rank by (Some k) e = refl

-- ---- steps

-- the word is taken, and the reader stands behind it
step : {k : TokenKind} {i : Position} → Sees k i → Takes k i (at.next i)
step s = record { seen = s; taken = refl }

step_name : {i : Position} → Sees kind.Name i → TakesName (at.name i) i (at.next i)
step_name s = record { seen = s; name_is = refl; taken = refl }

pass : {by : Unary} {i : Position} → at.sign i ≡ Some by → Passes i (at.next i)
pass {i = i} e = record { some = sign_some _ (at.kind i) e; taken = refl }

pass_operator : (rank : ℕ) {by : Binary} {i : Position} → at.joint rank i ≡ Some by
    → PassesOperator i (at.next (record i { operators = suc i.operators }))
pass_operator rank {i = i} e = record { some = joint_some rank _ (at.kind i) e; taken = refl }

sign_is : (i i' : Position) → at.kind i' ≡ at.kind i → at.sign i' ≡ at.sign i
sign_is i i' w = ap (λ (k : Option TokenKind). option_and_then unary_operator k) w

joint_is : (rank : ℕ) (i i' : Position) → at.kind i' ≡ at.kind i → at.joint rank i' ≡ at.joint rank i
joint_is rank i i' w = ap (λ (k : Option TokenKind). at.of_rank rank (option_and_then binary_operator k)) w

-- ---- productions

pub splits : {c : Context} {i i' : Position} {k : Class} {ps : List Part} → Production c i k ps → at.kind i' ≡ at.kind i
    → at.line i' ≡ at.line i
    → (looks_ahead ps ≡ true → (at.kind (at.next i') ≡ at.kind (at.next i))
    × (at.line (at.next i') ≡ at.line (at.next i)))
    → {rules : Rules} {j : Position} → Reads rules c k i' j → AreParts rules ps i' j
splits (parts.operand le) w l n (x, s) = let (e, links, k, is, a, b) = (form s).0 le in (_, (_, a), (_, (_, b), refl))
splits {i = i} {i' = i'} (parts.unary e h) w l n (x, s) =
    let e' = sign_is i i' w ∙ e in
    let (operand, is, room, a) = power_at e' s in
    (_, pass e', (_, (_, a), refl))
splits {i = i} {i' = i'} (parts.power e) w l n (x, s) = let (base, links, k, is, a, b) =
    power_at (sign_is i i' w ∙ e) s in (_, (_, a), (_, (_, b), refl))
splits {i = i} {i' = i'} (parts.unary_exponent e h) w l n (x, s) =
    let e' = sign_is i i' w ∙ e in
    let (operand, is, room, a) = exponent_at e' s in
    (_, pass e', (_, (_, a), refl))
splits {i = i} {i' = i'} (parts.exponent e) w l n (x, s) = (_, (_, exponent_at (sign_is i i' w ∙ e) s), refl)
splits {i = i} {i' = i'} (parts.links {rank = rank} e) w l n (x, s) =
    let e' = joint_is rank i i' w ∙ e in
    let (operand, rest, k, is, short, a, b) = links_at e' s in
    (_, (short, pass_operator rank e'), (_, (_, a), (_, (_, b), refl)))
splits (parts.function seen h) w l n (x, s) =
    let (number, is, a) = simple_at (w ∙ seen) s in
    (_, (sym l, step (w ∙ seen)), (_, (_, on_line l a), refl))
splits (parts.table seen) w l n (x, s) = let (fields, is, a) = simple_at (w ∙ seen) s in (_, (_, a), refl)
splits (parts.prefix h) w l n (x, s) =
    let (head, all, is, a) = prefix_at (ap parts.begins_chain w ∙ h) s in
    (_, ((head, all, tt), a), refl)
splits (parts.parenthesis seen h) w l n (x, s) =
    let (inside, k, is, room, a, t) = head_at (w ∙ seen) s in
    (_, step (w ∙ seen), (_, (_, a), (_, t, refl)))
splits (parts.member seen) w l n (x, s) = let (name, is, t) = suffix_at (w ∙ seen) s in
    (_, step (w ∙ seen), (_, (_, t), refl))
splits (parts.index seen h) w l n (x, s) =
    let (e, k, is, room, a, t) = suffix_at (w ∙ seen) s in
    (_, step (w ∙ seen), (_, (_, a), (_, t, refl)))
splits (parts.method seen) w l n (x, s) =
    let (name, es, k, is, t, a) = suffix_at (w ∙ seen) s in
    (_, step (w ∙ seen), (_, (_, t), (_, (_, a), refl)))
splits (parts.call h) w l n (x, s) =
    let (es, is, a) = call_at (ap parts.begins_arguments w ∙ h) s in
    (_, (_, a), refl)
splits (parts.arguments seen near not h) w l n (x, s) =
    let (nears, room, (none, some)) = arguments_at (w ∙ seen) s in
    let (next, line) = n refl in
    let (k, a, t) = some (λ e. not (sym next ∙ e)) in
    (_, step (w ∙ seen), (_, (_, a), (_, t, refl)))
splits (parts.table_argument seen) w l n (x, s) = let (fields, is, a) = arguments_at (w ∙ seen) s in (_, (_, a), refl)
splits (parts.constructor seen h) w l n (x, s) =
    let (k, room, a, t) = form s in
    (_, step (w ∙ seen), (_, (_, a), (_, t, refl)))
splits (parts.keyed seen) w l n (x, s) =
    let (key, e, k, m, o, is, a, t, u, b) = (form s).0 (w ∙ seen) in
    (_, step (w ∙ seen), (_, (_, a), (_, t, (_, u, (_, (_, b), refl)))))
splits {i' = i'} (parts.named seen behind) w l n (x, s) =
    let (next, line) = n refl in
    let (e, is, a) = unkeyed_at (names_it i' (w ∙ seen) (next ∙ behind)) (λ b. cc (b, w, seen)) s in
    (_, (_, step_name (w ∙ seen)), (_, step (next ∙ behind), (_, (_, a), refl)))
splits (parts.statements e last) w l n (x, s) =
    let (stat, rest, k, is, a, b) = block_at (ap ends_block w ∙ e) (ap parts.begins_last w ∙ last) s in
    (_, (_, a), (_, (_, b), refl))
splits (parts.last last) w l n (x, s) =
    let begins = ap parts.begins_last w ∙ last in
    let (stat, is, a, ends) = block_at (last_goes_on _ begins) begins s in
    (_, (_, a), (_, (ends, refl), refl))
splits parts.statement w l n (x, s) = let (deed, k, is, a, p) = form s in (_, (_, a), (_, p, refl))
splits parts.last_statement w l n (x, s) = let (deed, k, is, a, p) = form s in (_, (_, a), (_, p, refl))
splits (parts.return_values seen e) w l n (x, s) =
    let (next, line) = n refl in
    let (es, a, is) = return_at (w ∙ seen) (ap ends_return next ∙ e) s in
    (_, step (w ∙ seen), (_, (_, a), refl))
splits (parts.do_block seen h) w l n (x, s) =
    let (block, k, is, room, a, t) = deed_at (w ∙ seen) s in
    (_, step (w ∙ seen), (_, (_, a), (_, t, refl)))
splits (parts.while_loop seen h) w l n (x, s) =
    let (e, block, k, is, a, b) = deed_at (w ∙ seen) s in
    (_, step (w ∙ seen), (_, (_, a), (_, (_, b), refl)))
splits (parts.repeat_loop seen h) w l n (x, s) =
    let (block, e, k, m, is, room, a, t, b) = deed_at (w ∙ seen) s in
    (_, step (w ∙ seen), (_, (_, a), (_, t, (_, (_, b), refl))))
splits (parts.if_statement seen h) w l n (x, s) =
    let (branch, branches, block, k, m, o, is, a, b, d, t) = deed_at (w ∙ seen) s in
    (_, step (w ∙ seen), (_, (_, a), (_, (_, b), (_, (_, d), (_, t, refl)))))
splits (parts.branch h) w l n (x, s) =
    let (e, block, k, m, is, a, t, room, b) = form s in
    (_, (_, a), (_, t, (_, (_, b), refl)))
splits (parts.branches seen h) w l n (x, s) =
    let (branch, rest, k, is, a, b) = (form s).0 (w ∙ seen) in
    (_, step (w ∙ seen), (_, (_, a), (_, (_, b), refl)))
splits (parts.otherwise seen h) w l n (x, s) =
    let (room, a) = (form s).0 (w ∙ seen) in
    (_, step (w ∙ seen), (_, (_, a), refl))
splits (parts.for_loop seen h) w l n (x, s) = (_, step (w ∙ seen), (_, (_, deed_at (w ∙ seen) s), refl))
splits (parts.numeric_for seen behind h) w l n (x, s) =
    let (next, line) = n refl in
    let (begin, limit, by, block, k, m, o, p, is, a, t, b, d, e) = (form s).0 (next ∙ behind) in (
      _,
      (_, step_name (w ∙ seen)),
      (
        _,
        step (next ∙ behind),
        (_, (_, a), (_, t, (_, (_, b), (_, (_, d), (_, (_, e), refl))))),
      ),
    )
splits (parts.step seen) w l n (x, s) =
    let (e, is, a) = (form s).0 (w ∙ seen) in
    (_, step (w ∙ seen), (_, (_, a), refl))
splits (parts.loop_block h) w l n (x, by.loop_block t r a u) = (_, t, (_, (_, a), (_, u, refl)))
splits (parts.path seen) w l n (x, s) =
    let (name, rest, k, is, t, a) = (form s).0 (w ∙ seen) in
    (_, step (w ∙ seen), (_, (_, t), (_, (_, a), refl)))
splits (parts.local_function seen behind h) w l n (x, s) =
    let (next, line) = n refl in
    let (name, number, k, is, t, a) = (deed_at (w ∙ seen) s).0 (next ∙ behind) in
    (_, step (w ∙ seen), (_, (sym line, step (next ∙ behind)), (_, (_, t), (_, (_, on_line line a), refl))))
splits (parts.local seen not) w l n (x, s) =
    let (next, line) = n refl in
    let (names, es, k, is, a, b) = (deed_at (w ∙ seen) s).1 (λ e. not (sym next ∙ e)) in
    (_, step (w ∙ seen), (_, (_, a), (_, (_, b), refl)))
splits (parts.values seen) w l n (x, s) = (_, step (w ∙ seen), (_, (_, (form s).0 (w ∙ seen)), refl))
