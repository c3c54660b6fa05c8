-- Where a reader of a call or an assignment is stuck, none is spelled, whatever words stand behind the next one.
use Rattle.std.proofs.Common.{◌≡◌, inl, inr, ℕ, true, List, [], refl, sym, ap, ◌∙◌}
use Rattle.lua_lex.specs.declared.kinds.TokenKind.TheVariants as kind
use Rattle.lua_grammar.specs.declared.kinds.SyntaxKind.{SyntaxKind}
use Rattle.lua_grammar.specs.declared.kinds.SyntaxKind.TheVariants as fault
use Rattle.lua_grammar.specs.declared.context.Context.{Context}
use Rattle.lua_grammar.specs.declared.words.Word.{Word}
use Rattle.lua_grammar.specs.declared.expressions.Expr.{Expr}
use Rattle.lua_grammar.specs.declared.expressions.Suffix.{Suffix}
use Rattle.lua_grammar.specs.declared.statements.Deed.{Deed}
use Rattle.lua_grammar.specs.declared.statements.Target.{Target}
use Rattle.lua_grammar.specs.Positions as at
use Rattle.lua_grammar.specs.Positions.{Position, Takes, SeesNot}
use Rattle.lua_grammar.specs.Contexts.{Rules, every_rule}
use Rattle.lua_grammar.specs.Stops.{rank, up_to}
use Rattle.lua_grammar.specs.Things as thing
use Rattle.lua_grammar.specs.Grammar as by
use Rattle.lua_grammar.specs.Grammar.{Spelled}
use Rattle.lua_grammar.specs.Classes as class
use Rattle.lua_grammar.specs.Classes.{EndsInCall, IsName, IsSought, Reads}
use Rattle.lua_grammar.specs.Productions.{begins_chain}
use Rattle.lua_grammar.specs.Stuck.{Stuck, fresh}
use Rattle.lua_grammar.proofs.Continuations.{instead, Shown}
use Rattle.lua_grammar.proofs.FirstWords.{first_word}
use Rattle.lua_grammar.proofs.Forms.{ChainDeedForm}
use Rattle.lua_grammar.proofs.Inversions.{moved, takes_at, form, chain_deed_at}
use Rattle.lua_grammar.proofs.Instead.{kind_shown, shown_before}
use Rattle.lua_grammar.proofs.Ends.{nothing_is_end}
use Rattle.lua_grammar.proofs.Again.{again, again_unique, again_own_chain}
use Rattle.lua_grammar.proofs.Progress.{also, eaten, takes, goes}
use Rattle.lua_grammar.proofs.StuckGoes.{stuck_goes}
use Rattle.lua_grammar.proofs.Unique.{NoCall}
use Rattle.lua_grammar.proofs.NeverParts.{Never, next_instead, word_again}
use Rattle.lua_grammar.proofs.OnceTargets.{target_chain, targets_chain}

-- ---- the chains that statements begin with

front_of : {rules : Rules} {c : Context} {i z : Position} → Reads rules c (class.own_chain class.target) i z
    → Reads rules c (class.own_chain class.front) i z
front_of ((e, all, is), x) = ((e, all, is.0), x)

front_by : {rules : Rules} {c : Context} {deed : Deed} {i z : Position} → ChainDeedForm rules c deed i z
    → (k : Position) × Reads rules c (class.own_chain class.front) i k
front_by (inl (targets, es, k, l, is, x, t, y)) = let (m, own) = targets_chain x in (m, front_of own)
front_by (inr (head, all, ss, how, is, x, e)) = (_, ((_, _, (λ none. absurd (nothing_is_end ss _ (sym none ∙ e)))), x))

-- what begins with a name or a parenthesis at `i`, with other words behind
begins_there : (i : Position) (n : ℕ) (words : List Word) → begins_chain (at.kind i) ≡ true → Shown i n words
    → begins_chain (at.kind (instead n words i)) ≡ true
begins_there i n words begins h = ap begins_chain (kind_shown i h) ∙ begins

pub never_front : {f : SyntaxKind} {c : Context} {i z : Position} → begins_chain (at.kind i) ≡ true
    → Stuck f c (class.own_chain class.front) i z → Never f c (class.own_chain class.front) i z
    → Never f c class.deed i z
never_front {i = i} {z} begins s never n words h j (deed, x) =
    let (k, (e, a)) = front_by (chain_deed_at (begins_there i n words begins (shown_before i z (stuck_goes s).words h))
    x) in
    never n words h k (e, a)

pub never_alone : {c : Context} {e : Expr} {i j : Position} → Spelled every_rule c (thing.own_chain e []) i j
    → (IsName e → ⊥)
    → Never fault.Unexpected c class.deed i j
never_alone {i = i} {j} x none n words h m (deed, y) =
    let begins = ap begins_chain (kind_shown i (shown_before i j (goes x).words h)) ∙ first_word x in
    let (k, ((e', all, is), a)) = front_by (chain_deed_at begins y) in
    let (same, rest, to) = again_own_chain x h a in
    let (name, named) = is (sym rest) in
    none (name, same ∙ named)

-- ---- assignments

-- what is no call is an assignment
assignment : {rules : Rules} {c : Context} {deed : Deed} {i z : Position} → begins_chain (at.kind i) ≡ true
    → NoCall rules c i
    → Spelled rules c (thing.deed deed) i z
    → (targets : List Target) × (es : List Expr) × (k : Position) × (l : Position)
    × Spelled rules c (thing.targets targets) i k × Takes kind.Assign k l × Spelled rules c (thing.list es) l z
assignment {rules} {c} {deed} {i} {z} begins none x = by_form (chain_deed_at begins x)
  where
    by_form : ChainDeedForm rules c deed i z → (targets : List Target) × (es : List Expr) × (k : Position)
        × (l : Position)
        × Spelled rules c (thing.targets targets) i k × Takes kind.Assign k l × Spelled rules c (thing.list es) l z
    by_form (inl (targets, es, k, l, is, x, t, y)) = (targets, es, k, l, x, t, y)
    by_form (inr (head, all, ss, how, is, x, e)) = absurd (none head all ss how _ x e)

pub never_more_targets : {f : SyntaxKind} {c : Context} {t : Target} {i j k z : Position}
    → Spelled every_rule c (thing.target t) i j
    → Takes kind.Comma j k → Stuck f c class.targets k z → Never f c class.targets k z → Never f c class.targets i z
never_more_targets {t = t} {j = j} {k} {z} one u s never n words h m (ts, x) =
    let there = shown_before j z (also (eaten (takes u)) (stuck_goes s)).words h in
    let (t', j', a, (goes_on, ends)) = form x in
    let (seen, to) = word_again n words (again class.target t one there (t', a)) u there in
    let (rest, is, b) = goes_on seen in
    never n words h m (rest, moved to b)

pub never_more_of_targets : {f : SyntaxKind} {c : Context} {t : Target} {i j k z : Position}
    → Spelled every_rule c (thing.target t) i j
    → Takes kind.Comma j k → Stuck f c class.targets k z → Never f c class.targets k z → Never f c class.deed i z
never_more_of_targets {f} {i = i} {j} {k} {z} x t s never n words h m (deed, y) =
    let there = shown_before j z (also (eaten (takes t)) (stuck_goes s)).words h in
    let begins = ap begins_chain (kind_shown i (shown_before i j (goes x).words there)) ∙ first_word x in
    let (targets, es, k', l, ts, u, list) = assignment begins (again_unique x (up_to (rank f)) there).1 y in
    never_more_targets x t s never n words h k' (targets, ts)

-- the assignment that these targets begin, with other words behind
assigned_list : {rules : Rules} {c : Context} {ts : List Target} {deed : Deed} {i j z : Position} (n : ℕ)
    (words : List Word)
    → Spelled every_rule c (thing.targets ts) i j → Shown j n words
    → Spelled rules c (thing.deed deed) (instead n words i) z
    → (es : List Expr) × (l : Position) × Takes kind.Assign (instead n words j) l × Spelled rules c (thing.list es) l z
assigned_list {rules} {ts = ts} {i = i} {j} n words x h y =
    let begins = ap begins_chain (kind_shown i (shown_before i j (goes x).words h)) ∙ first_word x in
    let (targets, es, k, l, a, t, list) = assignment begins (again_unique x rules h).1 y in
    (es, l, takes_at (again class.targets ts x h (targets, a)) t, list)

pub never_no_assign : {c : Context} {ts : List Target} {i j : Position} → Spelled every_rule c (thing.targets ts) i j
    → SeesNot kind.Assign j
    → Never fault.Unexpected c class.deed i j
never_no_assign {j = j} x none n words h m (deed, y) =
    let (es, l, t, list) = assigned_list n words x h y in
    absurd (none (sym (kind_shown j h) ∙ t.seen))

pub never_assigned : {f : SyntaxKind} {c : Context} {ts : List Target} {i j k z : Position}
    → Spelled every_rule c (thing.targets ts) i j
    → Takes kind.Assign j k → Stuck f c class.list k z → Never f c class.list k z → Never f c class.deed i z
never_assigned {j = j} {k} {z} x t s never n words h m (deed, y) =
    let there = shown_before j z (also (eaten (takes t)) (stuck_goes s)).words h in
    let (es, l, t', list) = assigned_list n words x there y in
    never n words h m (es, moved (next_instead n words j t.taken there t'.taken) list)

-- ---- targets

pub never_first_target : {f : SyntaxKind} {c : Context} {i z : Position} → Stuck f c class.target i z
    → Never f c class.target i z
    → Never f c class.targets i z
never_first_target s never n words h j (ts, x) = let (t, k, a, rest) = form x in never n words h k (t, a)

pub never_target : {f : SyntaxKind} {c : Context} {i z : Position} → Stuck f c (class.own_chain class.target) i z
    → Never f c (class.own_chain class.target) i z → Never f c class.target i z
never_target s never n words h j (t, x) = never n words h j (target_chain x)

pub never_no_target : {c : Context} {e : Expr} {all : List Suffix} {i j k : Position}
    → Spelled every_rule c (thing.chain e all) (fresh i) k
    → at.ResumesExpression i k j → (IsSought class.target e all → ⊥) → Never fault.Unexpected c class.target i j
never_no_target {c} {e} {all} {i} {j} x r none n words h m (t, y) =
    let own : Spelled every_rule c (thing.own_chain e all) i j = by.own_chain (record { begun = refl }) x r in
    let ((e', all', is), a) = target_chain y in
    let (same, rest, to) = again_own_chain own h a in
    none (rw (same, rest) is)
