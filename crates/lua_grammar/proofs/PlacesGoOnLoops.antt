-- Words that stop inside the head of a `for .. in` go on to it.
use Rattle.std.proofs.Common.{◌≡◌, ◌⊎◌, inl, inr, ℕ, ◌<◌, ◌≤◌, List, [], ◌++◌, length, sym, subst, arith}
use Rattle.std.proofs.lemmas.List.{append_assoc}
use Rattle.std.proofs.Math.Nat.{eq-or-lt_of_le}
use Rattle.lua_lex.specs.declared.kinds.TokenKind.TheVariants as kind
use Rattle.lua_grammar.specs.declared.kinds.SyntaxKind.{SyntaxKind}
use Rattle.lua_grammar.specs.declared.kinds.SyntaxKind.TheVariants as fault
use Rattle.lua_grammar.specs.declared.context.Context.{Context}
use Rattle.lua_grammar.specs.declared.words.Word.{Word}
use Rattle.lua_grammar.specs.declared.expressions.Name.{Name}
use Rattle.lua_grammar.specs.declared.expressions.Expr.{Expr}
use Rattle.lua_grammar.specs.declared.statements.Stat.{Stat}
use Rattle.lua_grammar.specs.declared.statements.Deed.TheVariants as deed_of
use Rattle.lua_grammar.specs.Positions.{Position, Takes, Sees}
use Rattle.lua_grammar.specs.Contexts.{Rules, every_rule}
use Rattle.lua_grammar.specs.Things as thing
use Rattle.lua_grammar.specs.Grammar as by
use Rattle.lua_grammar.specs.Grammar.{Spelled}
use Rattle.lua_grammar.specs.Classes as class
use Rattle.lua_grammar.specs.Productions.{HasLevel}
use Rattle.lua_grammar.proofs.Progress.{goes}
use Rattle.lua_grammar.proofs.Continuations.{instead, EndsList, Mode, GoesOn}
use Rattle.lua_grammar.proofs.Modes.{within, all_seen, room}
use Rattle.lua_grammar.proofs.Instead.{words_from, takes_less, takes_instead}
use Rattle.lua_grammar.proofs.Carry.{carry, carry_shown}
use Rattle.lua_grammar.proofs.Least.{nil_words, loop_words, nil_list, front_kind, least_loop, in_is_no_comma, in_words}
use Rattle.lua_grammar.proofs.Least.{range_from, do_ends_list}
use Rattle.lua_grammar.proofs.PlacesGoOn.{Completion, longer, or_least}

pub for_names_goes_on : {rules : Rules} {c : Context} (n : ℕ) (i : Position) → HasLevel c
    → GoesOn rules c class.names n i
    → GoesOn rules c class.for_range n i
for_names_goes_on {rules} n i level g t follow =
    let (more, j, names, end) = g (in_words ++ t) (λ x. in_is_no_comma) in
    let (k, range, end') = range_from (room rules level) names.1 end in
    longer class.for_range n i {j = k} (more ++ in_words) (sym (append_assoc more in_words t)) range end'

pub for_in_goes_on : {c : Context} {names : List Name} {i j : Position} {rules : Rules} {n : ℕ} → HasLevel c
    → Spelled every_rule c (thing.names names) i j → Mode fault.Unexpected j rules n
    → GoesOn rules c class.for_range n i
for_in_goes_on {c} {names} {j = j} {rules} {n} level x m t follow =
    let words : List Word = in_words ++ t in
    let put : (instead n words j).words ≡ words = words_from j (all_seen m) in
    let seen : Sees kind.In (instead n words j) = front_kind (instead n words j) put in
    let x' = carry x rules n words (omega (arith, within m)) (inr (λ s. cc (s, seen))) in
    let (k, range, end) = range_from (room rules level) x' put in
    (in_words, k, range, end)

pub for_list_goes_on : {f : SyntaxKind} {c : Context} {names : List Name} {i j k z : Position} {rules : Rules} {n : ℕ}
    → HasLevel c
    → Spelled every_rule c (thing.names names) i j → Takes kind.In j k → Mode f z rules n
    → length z.words ≤ length k.words
    → (n < length k.words → GoesOn rules c class.list n k) → GoesOn rules c class.for_range n i
for_list_goes_on {c = c} {i = i} {j} {k} {rules = rules} {n} level x u m le g t follow =
    let left : n ≤ length k.words = omega (arith, within m, le) in
    let (more, l, values, end) = or_least class.list n k nil_words left (λ q s e follow. nil_list q e (follow [])) g
    (loop_words ++ t) (λ x. do_ends_list) in
    let words : List Word = more ++ (loop_words ++ t) in
    let x' = carry_shown x rules (inl (takes_less u left)) in
    let (o, loop, end') = least_loop l (room rules level) end in
    let range = by.generic_for x' (takes_instead n words u left) values.1 loop.1 in
    longer class.for_range n i {j = o} (more ++ loop_words) (sym (append_assoc more loop_words t)) (_, range) end'

pub for_block_goes_on : {f : SyntaxKind} {c : Context} {names : List Name} {es : List Expr} {i j k l z : Position}
    {rules : Rules} {n : ℕ} → HasLevel c
    → Spelled every_rule c (thing.names names) i j → Takes kind.In j k → Spelled every_rule c (thing.list es) k l
    → Mode f z rules n
    → length z.words ≤ length l.words → (n < length l.words → GoesOn rules c class.loop_block n l)
    → GoesOn rules c class.for_range n i
for_block_goes_on {c = c} {names} {es} {i} {j} {k} {l} {rules = rules} {n} level x u y m le g t follow =
    by_length (eq-or-lt_of_le left) where
      left : n ≤ length l.words
      left = omega (arith, within m, le)

      behind : n ≤ length k.words
      behind = omega (arith, left, (goes y).words)

      range : (words : List Word) {o : Position}
          → Spelled rules c (thing.list es) (instead n words k) (instead n words l)
          → (loop : List Stat) → Spelled rules c (thing.loop_block loop) (instead n words l) o
          → Spelled rules c (thing.for_range (deed_of.ForIn names es loop)) (instead n words i) o
      range words y' loop z' = by.generic_for (carry_shown x rules (inl (takes_less u behind)))
          (takes_instead n words u behind) y' z'

      by_length : (n ≡ length l.words) ⊎ (n < length l.words) → Completion rules c class.for_range n i t
      by_length (inl e) =
          let words : List Word = loop_words ++ t in
          let put : (instead n words l).words ≡ words = words_from l e in
          let seen : Sees kind.Do (instead n words l) = front_kind (instead n words l) put in
          let (o, loop, end) = least_loop (instead n words l) (room rules level) put in (
            loop_words,
            o,
            (
              _,
              range words (carry y rules n words left (inr (subst EndsList (sym seen) do_ends_list)))
                  loop.0 loop.1,
            ),
            end,
          )
      by_length (inr less) =
          let (more, o, loop, end) = g less t (λ x. tt) in
          (more, o, (_, range (more ++ t) (carry_shown y rules (inl less)) loop.0 loop.1), end)
