-- What a word that was seen tells of the step behind it.
use Rattle.std.proofs.Common.{◌≡◌, ◌≢◌, ◌↔◌, ℕ, suc, Bool, true, false, IsTrue, List, Option, Some, None}
use Rattle.std.proofs.Common.{option_and_then, IsSome, subst, refl}
use Rattle.lua_lex.specs.declared.kinds.TokenKind.{TokenKind}
use Rattle.lua_lex.specs.declared.kinds.TokenKind.TheVariants as kind
use Rattle.lua_grammar.specs.declared.context.Context.{Context}
use Rattle.lua_grammar.specs.declared.expressions.Name.{Name}
use Rattle.lua_grammar.specs.declared.operators.Binary.{Binary}
use Rattle.lua_grammar.specs.declared.operators.Unary.{Unary}
use Rattle.lua_grammar.specs.Operators.{binary_operator, unary_operator}
use Rattle.lua_grammar.specs.Positions as at
use Rattle.lua_grammar.specs.Positions.{Position}
use Rattle.lua_grammar.specs.Productions.{begins_last}
use Rattle.lua_grammar.specs.Stuck.{begins_deed}
use Rattle.lua_grammar.specs.Contexts.{every_rule}
use Rattle.lua_grammar.specs.Things as thing
use Rattle.lua_grammar.specs.Grammar.{Spelled}
use Rattle.lua_grammar.specs.Grammar as rule
use Rattle.lua_grammar.proofs.Progress.{Eats, eats_some, eats_to}

pub sees_not : {b : Bool} (k : TokenKind) (i : Position) → (IsTrue b ↔ at.Sees k i) → b ≡ false → at.SeesNot k i
sees_not {b} k i tells e = λ seen. let is : b ≡ true = tells.1 seen in absurd (cc)

separator_some : (k : Option TokenKind) → at.is_separator k ≡ true → IsSome k
separator_some None e = absurd (cc)
separator_some (Some k) e = refl

pub separator_passes : {i j : Position} → at.is_separator (at.kind i) ≡ true → j ≡ at.next i → at.Passes i j
separator_passes {i} {j} e taken = record { some = separator_some (at.kind i) e; taken = taken }

pub separator_eats : {i j : Position} → at.is_separator (at.kind i) ≡ true → j ≡ at.next i → Eats i j
separator_eats {i} {j} e taken = eats_to taken (eats_some i (separator_some (at.kind i) e))

pub joint_some : (rank : ℕ) (by : Binary) (k : Option TokenKind) → at.of_rank rank (option_and_then binary_operator k)
    ≡ Some by → IsSome k
joint_some rank by None e = absurd (cc)
joint_some rank by (Some k) e = refl

pub operator_passes : (rank : ℕ) {by : Binary} {i j : Position} → at.joint rank i ≡ Some by
    → j ≡ at.next (record i { operators = suc i.operators }) → at.PassesOperator i j
operator_passes rank {by} {i} {j} e taken = record { some = joint_some rank by (at.kind i) e; taken = taken }

pub operator_eats : (rank : ℕ) {by : Binary} {i j : Position} → at.joint rank i ≡ Some by
    → j ≡ at.next (record i { operators = suc i.operators }) → Eats i j
operator_eats rank {by} {i} {j} e taken =
    let counted : Position = record i { operators = suc i.operators } in
    let eats : Eats counted (at.next counted) = eats_some counted (joint_some rank by (at.kind i) e) in
    eats_to taken (record { front = eats.front; split = eats.split; words = eats.words; bodies = eats.bodies })

sign_some : (by : Unary) (k : Option TokenKind) → option_and_then unary_operator k ≡ Some by → IsSome k
sign_some by None e = absurd (cc)
sign_some by (Some k) e = refl

pub sign_passes : {by : Unary} {i j : Position} → at.sign i ≡ Some by → j ≡ at.next i → at.Passes i j
sign_passes {by} {i} {j} e taken = record { some = sign_some by (at.kind i) e; taken = taken }

-- ---- names with `=` behind them

pub named_is : (v w : Option TokenKind) → at.is_named v w ≡ true → (v ≡ Some kind.Name) × (w ≡ Some kind.Assign)
named_is (Some kind.Name) (Some kind.Assign) e = (refl, refl)
named_is v w e = absurd (cc)

not_assigned : (v w : Option TokenKind) → at.is_named v w ≡ false → v ≡ Some kind.Name → w ≢ Some kind.Assign
not_assigned v w e named = λ assigned. let is : at.is_named v w ≡ true = rw (named, assigned) refl in
    absurd (cc (e, is))

pub no_assign_behind : {c : Context} {names : List Name} {i j : Position} → at.names_field i ≡ false
    → Spelled every_rule c (thing.names names) i j → at.SeesNot kind.Assign (at.next i)
no_assign_behind {i = i} e (rule.one_name n s) = not_assigned (at.kind i) (at.kind (at.next i)) e n.seen
no_assign_behind {i = i} e (rule.more_names n t ns) = not_assigned (at.kind i) (at.kind (at.next i)) e n.seen

-- ---- the words that statements begin with

pub return_is : (w : Option TokenKind) → begins_last w ≡ true → w ≢ Some kind.Break → w ≡ Some kind.Return
return_is (Some kind.Break) e other = absurd (other refl)
return_is (Some kind.Return) e other = refl
return_is w e other = absurd (cc)

pub no_deed : (w : Option TokenKind) → w ≢ Some kind.Do → w ≢ Some kind.While → w ≢ Some kind.Repeat → w ≢ Some kind.If
    → w ≢ Some kind.For
    → w ≢ Some kind.Function → w ≢ Some kind.Local → w ≢ Some kind.Name → w ≢ Some kind.LeftParen
    → begins_deed w ≡ false
no_deed (Some kind.Do) a b d e f g h k m = absurd (a refl)
no_deed (Some kind.While) a b d e f g h k m = absurd (b refl)
no_deed (Some kind.Repeat) a b d e f g h k m = absurd (d refl)
no_deed (Some kind.If) a b d e f g h k m = absurd (e refl)
no_deed (Some kind.For) a b d e f g h k m = absurd (f refl)
no_deed (Some kind.Function) a b d e f g h k m = absurd (g refl)
no_deed (Some kind.Local) a b d e f g h k m = absurd (h refl)
no_deed (Some kind.Name) a b d e f g h k m = absurd (k refl)
no_deed (Some kind.LeftParen) a b d e f g h k m = absurd (m refl)
no_deed w a b d e f g h k m = refl

-- ---- what comes behind a word that was taken

pub sees_behind : {k k' : TokenKind} {i j : Position} → at.Takes k i j → at.Sees k' j → at.Sees k' (at.next i)
sees_behind {k' = k'} t seen = subst (λ (p : Position). at.Sees k' p) t.taken seen

pub unseen_behind : {k k' : TokenKind} {i j : Position} → at.Takes k i j → at.SeesNot k' j → at.SeesNot k' (at.next i)
unseen_behind {k' = k'} t unseen = subst (λ (p : Position). at.SeesNot k' p) t.taken unseen
