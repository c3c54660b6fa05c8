-- How what can be assigned to goes on that a reader gets stuck in.
use Rattle.std.proofs.Common.{◌≡◌, ◌≢◌, ◌⊎◌, inl, inr, ℕ, ◌<◌, ◌≤◌, true, false, List, [], ◌∷◌, ◌++◌, length, Some}
use Rattle.std.proofs.Common.{refl, sym, ap, ◌∙◌, subst, arith}
use Rattle.std.proofs.Math.Nat.{eq-or-lt_of_le}
use Rattle.std.proofs.lemmas.List.{same_from_push}
use Rattle.lua_lex.specs.declared.kinds.TokenKind.TheVariants as kind
use Rattle.lua_grammar.specs.declared.kinds.SyntaxKind.{SyntaxKind}
use Rattle.lua_grammar.specs.declared.kinds.SyntaxKind.TheVariants as fault
use Rattle.lua_grammar.specs.declared.context.Context.{Context}
use Rattle.lua_grammar.specs.declared.words.Word.{Word}
use Rattle.lua_grammar.specs.declared.expressions.Expr.{Expr}
use Rattle.lua_grammar.specs.declared.expressions.Expr.TheVariants as expr
use Rattle.lua_grammar.specs.declared.expressions.Suffix.{Suffix}
use Rattle.lua_grammar.specs.declared.expressions.Suffix.TheVariants as suffix_of
use Rattle.lua_grammar.specs.declared.statements.Target.{Target}
use Rattle.lua_grammar.specs.declared.statements.Target.TheVariants as target_of
use Rattle.lua_grammar.specs.Positions as at
use Rattle.lua_grammar.specs.Positions.{Position, Takes, SeesNot}
use Rattle.lua_grammar.specs.Contexts.{Rules, every_rule}
use Rattle.lua_grammar.specs.Things as thing
use Rattle.lua_grammar.specs.Grammar as by
use Rattle.lua_grammar.specs.Grammar.{Spelled}
use Rattle.lua_grammar.specs.Classes as class
use Rattle.lua_grammar.specs.Classes.{Class, Tree, thing_of, Reads, EndsInCall, IsSought}
use Rattle.lua_grammar.specs.Stuck.{fresh}
use Rattle.lua_grammar.proofs.Ends.{nothing_is_end, no_call}
use Rattle.lua_grammar.proofs.Inversions.{form}
use Rattle.lua_grammar.proofs.Progress.{goes}
use Rattle.lua_grammar.proofs.Continuations.{Mode, GoesOn, OwnChainGoesOn, Follows, EndsOperand, EndsInKey, EndsAs}
use Rattle.lua_grammar.proofs.Continuations.{instead, lead}
use Rattle.lua_grammar.proofs.Instead.{words_from, kind_shown, takes_less, takes_instead, counts_instead}
use Rattle.lua_grammar.proofs.Least.{name_words, lead_is, name_chain, ReadsTo}
use Rattle.lua_grammar.proofs.Carry.{carry}
use Rattle.lua_grammar.proofs.Kept.{head_kept, end_in_more}
use Rattle.lua_grammar.proofs.Modes.{within, all_seen, short}
use Rattle.lua_grammar.proofs.ChainsGoOnSuffixes.{member_words, member_last}
use Rattle.lua_grammar.proofs.Unique.{resumed}

-- ---- what was read to its end

-- what may follow it may be put behind
pub read_whole : (rules : Rules) (c : Context) (k : Class) (n : ℕ) (i j : Position) (x : Tree k)
    → Spelled every_rule c (thing_of k x) i j
    → n ≡ length j.words → GoesOn rules c k n i
read_whole rules c k n i j x s e t follows =
    let end = instead n t j in
    let behind = words_from j e in
    let first : at.kind end ≡ lead t = lead_is end behind in
    let may = subst (λ w. Follows (thing_of k x) w) (sym first) (follows x) in
    ([], end, (x, carry s rules n t (omega (arith, e)) (inr may)), behind)

-- ---- a target and targets

pub name_target : (rules : Rules) (c : Context) (i : Position) (t : List Word) → i.words ≡ name_words ++ t
    → EndsOperand (lead t)
    → ReadsTo rules c class.target i t
name_target rules c i t e ends =
    let (j, x, behind) = name_chain (fresh i) e ends in
    (resumed i j, (_, by.name_target (by.own_chain (record { begun = refl }) x (record { resumed = refl }))), behind)

target_of_chain : (rules : Rules) (c : Context) (e : Expr) (all : List Suffix) (i j : Position) → EndsAs false e all
    → Spelled rules c (thing.own_chain e all) i j → Reads rules c class.target i j
target_of_chain rules c e all i j (inl ((n, is), none)) s =
    let named = subst (λ (x : Expr). Spelled rules c (thing.own_chain x all) i j) is s in (
      target_of.Name n,
      by.name_target (subst
          (λ (xs : List Suffix). Spelled rules c (thing.own_chain (expr.Name n) xs) i j) none named),
    )
target_of_chain rules c e all i j (inr (suffixes, k, is)) s = (_, by.index_target suffixes s is)

pub target_goes_on : (rules : Rules) (c : Context) (n : ℕ) (i : Position) → OwnChainGoesOn rules c false n i
    → GoesOn rules c class.target n i
target_goes_on rules c n i goes t follows =
    let (more, e, all, j, s, behind, end) = goes t (follows (target_of.Name (record { text = 0; line = 0; start = 0 })))
    in
    (more, j, target_of_chain rules c e all (instead n (more ++ t) i) j end s, behind)

unseen : (i : Position) (t : List Word) → i.words ≡ t → lead t ≢ Some kind.Comma → SeesNot kind.Comma i
unseen i t e none = λ s. none (sym (lead_is i e) ∙ s)

pub first_target_goes_on : (rules : Rules) (c : Context) (n : ℕ) (i : Position) → GoesOn rules c class.target n i
    → GoesOn rules c class.targets n i
first_target_goes_on rules c n i goes t follows =
    let (ends, none) = follows [] in
    let (more, j, (x, s), behind) = goes t (λ y. ends) in
    (more, j, (x ∷ [], by.one_target s (unseen j t behind none)), behind)

pub more_targets_goes_on : {f : SyntaxKind} (c : Context) {target : Target} (i : Position) {j k z : Position}
    → Spelled every_rule c (thing.target target) i j → Takes kind.Comma j k → {rules : Rules} {n : ℕ} → Mode f z rules n
    → length z.words ≤ length k.words → (n < length k.words → GoesOn rules c class.targets n k)
    → GoesOn rules c class.targets n i
more_targets_goes_on c {target} i {j} {k} x comma {rules} {n} mode le goes t follows =
    by_cases (eq-or-lt_of_le left)
  where
    left : n ≤ length k.words
    left = omega (arith, within mode, le)

    there : n < length j.words
    there = takes_less comma left

    first : (words : List Word) → Spelled rules c (thing.target target) (instead n words i) (instead n words j)
    first words = carry x rules n words (omega (arith, there)) (inl (kind_shown j (inl there)))

    by_cases : (n ≡ length k.words) ⊎ (n < length k.words)
        → (more : List Word) × (end : Position) × Reads rules c class.targets (instead n (more ++ t) i) end
        × (end.words ≡ t)
    by_cases (inr less) =
        let (more, end, (xs, s), behind) = goes less t follows in (
          more,
          end,
          (target ∷ xs, by.more_targets (first (more ++ t)) (takes_instead n (more ++ t) comma left) s),
          behind,
        )
    by_cases (inl is) =
        let words = name_words ++ t in
        let (ends, none) = follows [] in
        let (end, (y, s), behind) = name_target rules c (instead n words k) t (words_from k is) ends in
        let last = by.one_target s (unseen end t behind none) in (
          name_words,
          end,
          (target ∷ y ∷ [], by.more_targets (first words) (takes_instead n words comma left) last),
          behind,
        )

-- ---- a chain that is no target

-- a field behind suffixes that were read
longer_suffixes : {c : Context} {all : List Suffix} {i k : Position} → Spelled every_rule c (thing.suffixes all) i k
    → (rules : Rules) (n : ℕ) (t : List Word)
    → n ≡ length k.words → k.suffixes < 1000 → EndsOperand (lead t)
    → (xs : List Suffix) × (j : Position) × Spelled rules c (thing.suffixes xs) (instead n (member_words ++ t) i) j
    × (j.words ≡ t) × EndsInKey xs
longer_suffixes {c} {i = i} (by.no_suffixes e) rules n t is count ends =
    member_last rules c (instead n (member_words ++ t) i) t (short rules i.suffixes count) (words_from i is) ends
longer_suffixes {i = i} (by.more_suffixes {suffix = s} h g x xs) rules n t is count ends =
    let words = member_words ++ t in
    let on = goes xs in
    let (more, j, ys, behind, is_key) = longer_suffixes xs rules n t is count ends in (
      s ∷ more,
      j,
      by.more_suffixes (short rules i.suffixes h) (counts_instead n words g)
          (carry x rules n words (omega (arith, is, on.words)) (inr tt)) ys,
      behind,
      end_in_more false s more is_key,
    )

longer_chain : {c : Context} {e : Expr} {all : List Suffix} {i k : Position}
    → Spelled every_rule c (thing.chain e all) (fresh i) k → (rules : Rules) (n : ℕ)
    → n ≡ length k.words → k.suffixes < 1000 → OwnChainGoesOn rules c false n i
longer_chain {e = e} {i = i} (by.chain x xs) rules n is count t ends =
    let words = member_words ++ t in
    let on = goes xs in
    let (all, j, ys, behind, is_key) = longer_suffixes xs rules n t is count ends in
    let s = by.chain (carry x rules n words (omega (arith, is, on.words)) (inr tt)) ys in (
      member_words,
      e,
      all,
      resumed i j,
      by.own_chain (record { begun = refl }) s (record { resumed = refl }),
      behind,
      inr is_key,
    )

abbrev Ending : List Suffix → Type 0
Ending all = (all ≡ []) ⊎ (EndsInCall all ⊎ EndsInKey all)

ending : (all : List Suffix) → Ending all
ending [] = inl refl
ending (s ∷ all) = inr (behind s (ending all))
  where
    one : (s : Suffix) → EndsInCall (s ∷ []) ⊎ EndsInKey (s ∷ [])
    one (suffix_of.Key k) = inr ([], k, refl)
    one (suffix_of.Call how) = inl ([], how, refl)

    behind : (s : Suffix) {all : List Suffix} → Ending all → EndsInCall (s ∷ all) ⊎ EndsInKey (s ∷ all)
    behind s (inl none) = subst (λ (xs : List Suffix). EndsInCall (s ∷ xs) ⊎ EndsInKey (s ∷ xs)) (sym none) (one s)
    behind s {all} (inr (inl call)) = inl (end_in_more true s all call)
    behind s {all} (inr (inr is_key)) = inr (end_in_more false s all is_key)

-- a head alone leaves the count as it was
pub alone_kept : {c : Context} {e : Expr} {all : List Suffix} {i k : Position}
    → Spelled every_rule c (thing.chain e all) i k → all ≡ []
    → k.suffixes ≡ i.suffixes
alone_kept (by.chain x (by.no_suffixes h)) none = head_kept x
alone_kept (by.chain x (by.more_suffixes h g y ys)) none = absurd (cc)

no_target_counts : {c : Context} {e : Expr} {all : List Suffix} (i : Position) {k : Position}
    → Spelled every_rule c (thing.chain e all) (fresh i) k
    → (EndsInCall all → k.suffixes < 1000) → (IsSought class.target e all → ⊥) → Ending all → k.suffixes < 1000
no_target_counts i x count none (inl is) = omega (arith, alone_kept x is)
no_target_counts i x count none (inr (inl call)) = count call
no_target_counts i x count none (inr (inr (suffixes, k, is))) =
    absurd (none (
      λ e. absurd (nothing_is_end suffixes _ (sym e ∙ is)),
      λ call. no_call (same_from_push suffixes call.0 _ _ (sym is ∙ call.2)).1,
    ))

pub no_target_goes_on : {c : Context} {e : Expr} {all : List Suffix} (i : Position) {j k : Position}
    → Spelled every_rule c (thing.chain e all) (fresh i) k
    → at.ResumesExpression i k j → (EndsInCall all → k.suffixes < 1000) → (IsSought class.target e all → ⊥)
    → {rules : Rules} {n : ℕ}
    → Mode fault.Unexpected j rules n → GoesOn rules c class.target n i
no_target_goes_on {c} {all = all} i x r count none {rules} {n} mode =
    let is = all_seen mode ∙ ap (λ (p : Position). length p.words) r.resumed in
    target_goes_on rules c n i (longer_chain x rules n is (no_target_counts i x count none (ending all)))

pub alone_goes_on : {c : Context} {e : Expr} {i j : Position} → Spelled every_rule c (thing.own_chain e []) i j
    → {rules : Rules} {n : ℕ}
    → Mode fault.Unexpected j rules n → GoesOn rules c class.target n i
alone_goes_on {c} {i = i} s {rules} {n} mode =
    let (k, x, r) = form s in
    let is = all_seen mode ∙ ap (λ (p : Position). length p.words) r.resumed in
    target_goes_on rules c n i (longer_chain x rules n is (omega (arith, alone_kept x refl)))
