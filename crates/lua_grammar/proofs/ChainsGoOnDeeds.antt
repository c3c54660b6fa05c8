-- How a call or an assignment goes on that a reader gets stuck in.
use Rattle.std.proofs.Common.{◌≡◌, ◌⊎◌, inl, inr, ℕ, ◌<◌, ◌≤◌, Bool, true, false, List, [], ◌∷◌, ◌++◌, length, refl}
use Rattle.std.proofs.Common.{arith}
use Rattle.std.proofs.Math.Nat.{eq-or-lt_of_le}
use Rattle.lua_lex.specs.declared.kinds.TokenKind.TheVariants as kind
use Rattle.lua_grammar.specs.declared.kinds.SyntaxKind.{SyntaxKind}
use Rattle.lua_grammar.specs.declared.kinds.SyntaxKind.TheVariants as fault
use Rattle.lua_grammar.specs.declared.context.Context.{Context}
use Rattle.lua_grammar.specs.declared.words.Word.{Word}
use Rattle.lua_grammar.specs.declared.expressions.Expr.{Expr}
use Rattle.lua_grammar.specs.declared.statements.Deed.TheVariants as deed_of
use Rattle.lua_grammar.specs.declared.statements.Target.{Target}
use Rattle.lua_grammar.specs.Positions as at
use Rattle.lua_grammar.specs.Positions.{Position, Takes}
use Rattle.lua_grammar.specs.Contexts.{Rules, every_rule}
use Rattle.lua_grammar.specs.Things as thing
use Rattle.lua_grammar.specs.Grammar as by
use Rattle.lua_grammar.specs.Grammar.{Spelled}
use Rattle.lua_grammar.specs.Parts.{suffixed}
use Rattle.lua_grammar.specs.Classes as class
use Rattle.lua_grammar.specs.Classes.{Reads}
use Rattle.lua_grammar.proofs.Continuations.{Mode, GoesOn, OwnChainGoesOn, EndsList, instead, lead}
use Rattle.lua_grammar.proofs.Instead.{words_from, kind_shown, takes_less, takes_instead}
use Rattle.lua_grammar.proofs.Least.{word_of, nil_words, next_words, takes_front, nil_list, ReadsTo}
use Rattle.lua_grammar.proofs.Behind.{ends_lists}
use Rattle.lua_grammar.proofs.Carry.{carry}
use Rattle.lua_grammar.proofs.Modes.{within, all_seen}
use Rattle.lua_grammar.proofs.ChainsGoOnSuffixes.{regrouped}
use Rattle.lua_grammar.proofs.ChainsGoOnTargets as target
use Rattle.lua_grammar.proofs.ChainsGoOnTargets.{read_whole, target_goes_on, first_target_goes_on, more_targets_goes_on}

-- = nil
abbrev assign_words : List Word
assign_words = word_of kind.Assign ∷ nil_words

assign_behind : (rules : Rules) (c : Context) (targets : List Target) (i j : Position) (t : List Word)
    → Spelled rules c (thing.targets targets) i j
    → j.words ≡ assign_words ++ t → EndsList (lead t) → ReadsTo rules c class.deed i t
assign_behind rules c targets i j t s behind ends =
    let (k, (es, xs), end) = nil_list (at.next j) (next_words j behind) ends in
    (k, (_, by.assign s (takes_front j behind) xs), end)

-- targets that go on are assigned to
assignment_goes_on : (rules : Rules) (c : Context) (n : ℕ) (i : Position) → GoesOn rules c class.targets n i
    → GoesOn rules c class.deed n i
assignment_goes_on rules c n i goes t follows =
    let (more, j, (targets, s), behind) = goes (assign_words ++ t) (λ y. ((refl, refl), λ e. cc)) in
    let words = (more ++ assign_words) ++ t in
    let (k, x, end) = assign_behind rules c targets (instead n words i) j t (regrouped n more assign_words t i s) behind
    (ends_lists (lead t) (follows deed_of.Break)) in
    (more ++ assign_words, k, x, end)

-- ---- each way to get stuck

pub front_goes_on : (rules : Rules) (c : Context) (n : ℕ) (i : Position)
    → (call : Bool) × OwnChainGoesOn rules c call n i → GoesOn rules c class.deed n i
front_goes_on rules c n i (true, goes) t follows =
    let (ends, none) = ends_lists (lead t) (follows deed_of.Break) in
    let (more, e, all, j, s, behind, (suffixes, how, is)) = goes t ends in
    (more, j, (deed_of.Call (suffixed e suffixes) how, by.call_statement suffixes s is), behind)
front_goes_on rules c n i (false, goes) t follows =
    assignment_goes_on rules c n i (first_target_goes_on rules c n i (target_goes_on rules c n i goes)) t follows

-- a parenthesis alone
pub alone_goes_on : {c : Context} {e : Expr} {i j : Position} → Spelled every_rule c (thing.own_chain e []) i j
    → {rules : Rules} {n : ℕ}
    → Mode fault.Unexpected j rules n → GoesOn rules c class.deed n i
alone_goes_on {c} {i = i} s {rules} {n} mode =
    assignment_goes_on rules c n i (first_target_goes_on rules c n i (target.alone_goes_on s mode))

pub more_of_targets_goes_on : {f : SyntaxKind} (c : Context) {x : Target} (i : Position) {j k z : Position}
    → Spelled every_rule c (thing.target x) i j → Takes kind.Comma j k → {rules : Rules} {n : ℕ} → Mode f z rules n
    → length z.words ≤ length k.words → (n < length k.words → GoesOn rules c class.targets n k)
    → GoesOn rules c class.deed n i
more_of_targets_goes_on c i x comma {rules} {n} mode le goes =
    assignment_goes_on rules c n i (more_targets_goes_on c i x comma mode le goes)

pub no_assign_goes_on : {c : Context} {targets : List Target} {i j : Position}
    → Spelled every_rule c (thing.targets targets) i j
    → {rules : Rules} {n : ℕ} → Mode fault.Unexpected j rules n → GoesOn rules c class.deed n i
no_assign_goes_on {c} {targets} {i} {j} s {rules} {n} mode =
    assignment_goes_on rules c n i (read_whole rules c class.targets n i j targets s (all_seen mode))

pub assigned_goes_on : {f : SyntaxKind} (c : Context) {targets : List Target} (i : Position) {j k z : Position}
    → Spelled every_rule c (thing.targets targets) i j → Takes kind.Assign j k → {rules : Rules} {n : ℕ}
    → Mode f z rules n
    → length z.words ≤ length k.words → (n < length k.words → GoesOn rules c class.list n k)
    → GoesOn rules c class.deed n i
assigned_goes_on c {targets} i {j} {k} x assign {rules} {n} mode le goes t follows = by_cases (eq-or-lt_of_le left)
  where
    left : n ≤ length k.words
    left = omega (arith, within mode, le)

    there : n < length j.words
    there = takes_less assign left

    front : (words : List Word) → Spelled rules c (thing.targets targets) (instead n words i) (instead n words j)
    front words = carry x rules n words (omega (arith, there)) (inl (kind_shown j (inl there)))

    ends : EndsList (lead t)
    ends = ends_lists (lead t) (follows deed_of.Break)

    by_cases : (n ≡ length k.words) ⊎ (n < length k.words)
        → (more : List Word) × (end : Position) × Reads rules c class.deed (instead n (more ++ t) i) end
        × (end.words ≡ t)
    by_cases (inr less) =
        let (more, end, (es, s), behind) = goes less t (λ y. ends) in
        (more, end, (_, by.assign (front (more ++ t)) (takes_instead n (more ++ t) assign left) s), behind)
    by_cases (inl is) =
        let words = nil_words ++ t in
        let (end, (es, s), behind) = nil_list (instead n words k) (words_from k is) ends in
        (nil_words, end, (_, by.assign (front words) (takes_instead n words assign left) s), behind)
