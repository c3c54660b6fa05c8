-- How a name or a parenthesis with its suffixes goes on that a reader gets stuck in.
use Rattle.std.proofs.Common.{◌≡◌, ◌⊎◌, inl, inr, ℕ, ◌<◌, ◌≤◌, Bool, true, false, List, [], ◌++◌, length, refl, arith}
use Rattle.std.proofs.Math.Nat.{eq-or-lt_of_le}
use Rattle.lua_grammar.specs.declared.kinds.SyntaxKind.{SyntaxKind}
use Rattle.lua_grammar.specs.declared.context.Context.{Context}
use Rattle.lua_grammar.specs.declared.words.Word.{Word}
use Rattle.lua_grammar.specs.declared.expressions.Expr.{Expr}
use Rattle.lua_grammar.specs.declared.expressions.Suffix.{Suffix}
use Rattle.lua_grammar.specs.Positions.{Position}
use Rattle.lua_grammar.specs.Contexts.{Rules, every_rule, IsShort}
use Rattle.lua_grammar.specs.Things as thing
use Rattle.lua_grammar.specs.Grammar as by
use Rattle.lua_grammar.specs.Grammar.{Spelled}
use Rattle.lua_grammar.specs.Classes as class
use Rattle.lua_grammar.specs.Classes.{Sought}
use Rattle.lua_grammar.specs.Stuck.{fresh}
use Rattle.lua_grammar.proofs.Continuations.{Mode, Goal, GoesOn, ChainGoesOn, EndIn, EndsAs, instead}
use Rattle.lua_grammar.proofs.Instead.{words_from}
use Rattle.lua_grammar.proofs.Least.{no_suffixes}
use Rattle.lua_grammar.proofs.Carry.{carry}
use Rattle.lua_grammar.proofs.Kept.{head_kept}
use Rattle.lua_grammar.proofs.Modes.{within, short}
use Rattle.lua_grammar.proofs.ChainsGoOnSuffixes.{member_words, member_last, regrouped}
use Rattle.lua_grammar.proofs.Unique.{resumed}

-- suffixes that end so make a chain of any head that ends so
pub ends_as : (call : Bool) (e : Expr) (all : List Suffix) → EndIn call all → EndsAs call e all
ends_as true e all end = end
ends_as false e all end = inr end

-- ---- behind a head that goes on

-- a field behind the head
head_member : (rules : Rules) (c : Context) (n : ℕ) (i : Position) → i.suffixes ≡ 0 → GoesOn rules c class.head n i
    → ChainGoesOn rules c false n i
head_member rules c n i none goes t ends =
    let (more, j, (e, x), behind) = goes (member_words ++ t) (λ s. tt) in
    let count : IsShort rules j.suffixes = short rules j.suffixes (omega (arith, head_kept x, none)) in
    let (all, k, xs, end, is_key) = member_last rules c j t count behind ends in
    (more ++ member_words, e, all, k, regrouped n more member_words t i (by.chain x xs), end, inr is_key)

pub chain_head_goes_on : (rules : Rules) (c : Context) (sought : Sought) (n : ℕ) (i : Position)
    → GoesOn rules c class.head n i
    → Goal rules c (class.chain sought) n i
chain_head_goes_on rules c class.anything n i goes =
    λ t follows.
    let (more, j, (e, x), behind) = goes t (λ s. tt) in
    (more, j, ((e, [], tt), by.chain x (no_suffixes j behind (follows (e, [], tt)))), behind)
chain_head_goes_on rules c class.front n i goes = λ none. (false, head_member rules c n i none goes)
chain_head_goes_on rules c class.target n i goes = λ none. head_member rules c n i none goes

-- ---- behind a head that was read

suffixes_inside : (rules : Rules) (c : Context) (sought : Sought) (n : ℕ) (i j : Position) (e : Expr)
    → ((words : List Word) → Spelled rules c (thing.head e) (instead n words i) (instead n words j))
    → Goal rules c (class.suffixes sought) n j → Goal rules c (class.chain sought) n i
suffixes_inside rules c class.anything n i j e x goes =
    λ t follows.
    let (more, k, (all, xs), behind) = goes t (λ y. follows (e, [], tt)) in
    (more, k, ((e, all.0, tt), by.chain (x (more ++ t)) xs), behind)
suffixes_inside rules c class.front n i j e x (call, goes) =
    λ none. (
      call,
      λ t ends.
          let (more, all, k, xs, behind, end) = goes t ends in
          (more, e, all, k, by.chain (x (more ++ t)) xs, behind, ends_as call e all end),
    )
suffixes_inside rules c class.target n i j e x goes =
    λ none t ends.
    let (more, all, k, xs, behind, end) = goes t ends in
    (more, e, all, k, by.chain (x (more ++ t)) xs, behind, ends_as false e all end)

pub chain_suffixes_goes_on : {f : SyntaxKind} (c : Context) (sought : Sought) {e : Expr} (i : Position) {j z : Position}
    → Spelled every_rule c (thing.head e) i j → {rules : Rules} {n : ℕ} → Mode f z rules n
    → length z.words ≤ length j.words
    → (n < length j.words → Goal rules c (class.suffixes sought) n j) → Goal rules c (class.chain sought) n i
chain_suffixes_goes_on c sought {e} i {j} x {rules} {n} mode le goes = by_cases (eq-or-lt_of_le left)
  where
    left : n ≤ length j.words
    left = omega (arith, within mode, le)

    at_last : n ≡ length j.words → GoesOn rules c class.head n i
    at_last is t follows = ([], instead n t j, (e, carry x rules n t left (inr tt)), words_from j is)

    by_cases : (n ≡ length j.words) ⊎ (n < length j.words) → Goal rules c (class.chain sought) n i
    by_cases (inr more) = suffixes_inside rules c sought n i j e (λ words. carry x rules n words left (inr tt))
        (goes more)
    by_cases (inl is) = chain_head_goes_on rules c sought n i (at_last is)

-- ---- as an expression of its own

pub own_chain_goes_on : (rules : Rules) (c : Context) (sought : Sought) (n : ℕ) (i : Position)
    → Goal rules c (class.chain sought) n (fresh i)
    → Goal rules c (class.own_chain sought) n i
own_chain_goes_on rules c class.anything n i goes =
    λ t follows.
    let (more, j, (x, s), behind) = goes t follows in
    (more, resumed i j, (x, by.own_chain (record { begun = refl }) s (record { resumed = refl })), behind)
own_chain_goes_on rules c class.front n i goes =
    let (call, goes_on) = goes refl in (
      call,
      λ t ends.
          let (more, e, all, j, s, behind, end) = goes_on t ends in (
            more,
            e,
            all,
            resumed i j,
            by.own_chain (record { begun = refl }) s (record { resumed = refl }),
            behind,
            end,
          ),
    )
own_chain_goes_on rules c class.target n i goes =
    λ t ends.
    let (more, e, all, j, s, behind, end) = goes refl t ends in
    (more, e, all, resumed i j, by.own_chain (record { begun = refl }) s (record { resumed = refl }), behind, end)
