-- Words that stop inside a function's parameters or its block go on to a function.
use Rattle.std.proofs.Common.{◌≡◌, ◌≢◌, ◌⊎◌, inl, inr, ℕ, ◌<◌, ◌≤◌, Bool, false, List, [], ◌∷◌, ◌++◌, length, Some}
use Rattle.std.proofs.Common.{refl, sym, ap, ◌∙◌, arith}
use Rattle.std.proofs.lemmas.List.{append_assoc}
use Rattle.std.proofs.Math.Nat.{eq-or-lt_of_le}
use Rattle.lua_lex.specs.declared.kinds.TokenKind.TheVariants as kind
use Rattle.lua_grammar.specs.declared.kinds.SyntaxKind.{SyntaxKind}
use Rattle.lua_grammar.specs.declared.kinds.SyntaxKind.TheVariants as fault
use Rattle.lua_grammar.specs.declared.context.Context.{Context}
use Rattle.lua_grammar.specs.declared.words.Word.{Word}
use Rattle.lua_grammar.specs.declared.expressions.Name.{Name}
use Rattle.lua_grammar.specs.declared.statements.Stat.{Stat}
use Rattle.lua_grammar.specs.Words.{ends_block}
use Rattle.lua_grammar.specs.Positions as at
use Rattle.lua_grammar.specs.Positions.{Position, Takes, TakesName, Sees, SeesNot}
use Rattle.lua_grammar.specs.Contexts as context
use Rattle.lua_grammar.specs.Contexts.{Rules, every_rule, HasRoom}
use Rattle.lua_grammar.specs.Things as thing
use Rattle.lua_grammar.specs.Grammar as by
use Rattle.lua_grammar.specs.Grammar.{Spelled}
use Rattle.lua_grammar.specs.Classes as class
use Rattle.lua_grammar.specs.Classes.{Class, Reads}
use Rattle.lua_grammar.specs.Productions as part
use Rattle.lua_grammar.specs.Productions.{Part, Read, nothing, more, HasLevel}
use Rattle.lua_grammar.specs.Stuck.{Refuses, no_word, no_name, no_end, too_long, body_rest}
use Rattle.lua_grammar.proofs.Progress.{goes}
use Rattle.lua_grammar.proofs.Continuations.{instead, lead, Mode, GoesOn}
use Rattle.lua_grammar.proofs.Modes.{within, all_seen, nothing_seen, room}
use Rattle.lua_grammar.proofs.Instead.{kind_shown, words_from, takes_less, takes_instead, name_instead, body_instead}
use Rattle.lua_grammar.proofs.Carry.{carry, carry_shown}
use Rattle.lua_grammar.proofs.Least.{word_of, name_words, front_kind, lead_is, next_words, takes_front}
use Rattle.lua_grammar.proofs.Least.{takes_front_name, no_parameters, empty_block, ReadsTo, body_from}
use Rattle.lua_grammar.proofs.PlacesGoOn.{Completion, longer, or_least}

-- ---- parameters

pub parameter_goes_on : {rules : Rules} {c : Context} {n : ℕ} (i : Position) → Mode fault.Unexpected i rules n
    → n < length i.words
    → GoesOn rules c class.parameters n i
parameter_goes_on i m less = absurd (nothing_seen m i (omega arith) less)

-- a last name behind the comma
named_parameter : {rules : Rules} {c : Context} {name : Name} {i j k : Position} {n : ℕ} {t : List Word}
    → TakesName name i j → Takes kind.Comma j k
    → n ≡ length k.words → lead t ≡ Some kind.RightParen → Completion rules c class.parameters n i t
named_parameter {name = name} {j = j} {k} {n} {t} x u e closes =
    let words : List Word = name_words ++ t in
    let p : Position = instead n words k in
    let put : p.words ≡ words = words_from k e in
    let end : (at.next p).words ≡ t = next_words p put in
    let closed : Sees kind.RightParen (at.next p) = lead_is (at.next p) end ∙ closes in
    let named : Sees kind.Name p = front_kind p put in
    let left : n ≤ length k.words = omega (arith, e) in
    let before : n < length j.words = takes_less u left in
    let x' = name_instead n words x (omega (arith, before)) in
    let rest = by.last_parameter (takes_front_name p put refl) (λ s. cc (s, closed)) in (
      name_words,
      at.next p,
      (
        (name ∷ at.name p ∷ [], false),
        by.more_parameters x' (takes_instead n words u left)
            (λ s. cc (s, named)) rest,
      ),
      end,
    )

pub more_parameters_goes_on : {f : SyntaxKind} {c : Context} {name : Name} {i j k z : Position} {rules : Rules} {n : ℕ}
    → TakesName name i j → Takes kind.Comma j k → SeesNot kind.RightParen k → Mode f z rules n
    → length z.words ≤ length k.words
    → (n < length k.words → GoesOn rules c class.parameters n k) → GoesOn rules c class.parameters n i
more_parameters_goes_on {c = c} {name} {i} {j} {k} {rules = rules} {n} x u unseen m le g t follow =
    by_length (eq-or-lt_of_le left) where
      left : n ≤ length k.words
      left = omega (arith, within m, le)

      by_length : (n ≡ length k.words) ⊎ (n < length k.words) → Completion rules c class.parameters n i t
      by_length (inl e) = named_parameter x u e (follow ([], false))
      by_length (inr less) =
          let (added, l, ps, end) = g less t follow in
          let words : List Word = added ++ t in
          let before : n < length j.words = takes_less u left in
          let unseen' : SeesNot kind.RightParen (instead n words k) = λ s. unseen (sym (kind_shown k (inl less)) ∙ s) in
          let x' = name_instead n words x (omega (arith, before)) in
          (added, l, ((name ∷ ps.0.0, ps.0.1), by.more_parameters x' (takes_instead n words u left) unseen' ps.1), end)

pub last_comma_goes_on : {c : Context} {name : Name} {i j k : Position} {rules : Rules} {n : ℕ} → TakesName name i j
    → Takes kind.Comma j k
    → Mode fault.Unexpected k rules n → GoesOn rules c class.parameters n i
last_comma_goes_on x u m t follow = named_parameter x u (all_seen m) (follow ([], false))

-- ---- bodies

-- ) end
abbrev close_words : List Word
close_words = word_of kind.RightParen ∷ word_of kind.End ∷ []

abbrev end_words : List Word
end_words = word_of kind.End ∷ []

-- where the `(` ought to stand, no word of the body has been read
pub no_parameters_goes_on : {rules : Rules} {c : Context} {line : ℕ} {method : Bool} {i : Position} {n : ℕ}
    → Mode fault.Unexpected i rules n
    → n < length i.words → GoesOn rules c (class.function_body line method) n i
no_parameters_goes_on {i = i} m less = absurd (nothing_seen m i (omega arith) less)

pub in_parameters_goes_on : {f : SyntaxKind} {rules : Rules} {c : Context} {number : ℕ} {i j k z : Position} {n : ℕ}
    (line : ℕ) (method : Bool)
    → at.BeginsBody number i j → Takes kind.LeftParen j k → HasLevel c → Mode f z rules n
    → length z.words ≤ length k.words
    → (n < length k.words → GoesOn rules c class.parameters n k) → GoesOn rules c (class.function_body line method) n i
in_parameters_goes_on {rules = rules} {c} {i = i} {k = k} {n = n} line method b u level m le g t follow =
    let left : n ≤ length k.words = omega (arith, within m, le) in
    let (added, l, ps, end) = or_least class.parameters n k [] left
    (λ q s e follow. no_parameters q e (follow ([], false))) g (close_words ++ t) (λ x. refl) in
    let words : List Word = added ++ (close_words ++ t) in
    let (o, x, end') = body_from line method (body_instead n words b) (takes_instead n words u left) ps.1
    (room rules level) end in
    longer (class.function_body line method) n i (added ++ close_words) (sym (append_assoc added close_words t)) x end'

-- the end of a body, behind its block
ended_body : {rules : Rules} {c : Context} {number : ℕ} {names : List Name} {varargs : Bool} {block : List Stat}
    {i j k l m o : Position}
    {t : List Word} (line : ℕ) (method : Bool) → at.BeginsBody number i j → Takes kind.LeftParen j k
    → Spelled rules c (thing.parameters names varargs) k l → Takes kind.RightParen l m → HasRoom rules c
    → Spelled rules (context.function varargs c) (thing.block block) m o → o.words ≡ end_words ++ t
    → ReadsTo rules c (class.function_body line method) i t
ended_body {number = number} {o = o} line method b u x v room y e =
    (_, (number, by.function_body b u x v room y (takes_front o e) (record { ended = refl })), next_words o e)

pub body_inside_goes_on : {f : SyntaxKind} {rules : Rules} {c : Context} {number : ℕ} {varargs : Bool}
    {names : List Name} {i j k l m z : Position}
    {n : ℕ} (line : ℕ) (method : Bool) → at.BeginsBody number i j → Takes kind.LeftParen j k → HasLevel c
    → Spelled every_rule c (thing.parameters names varargs) k l → Takes kind.RightParen l m → Mode f z rules n
    → length z.words ≤ length m.words → (n < length m.words → GoesOn rules (context.function varargs c) class.block n m)
    → GoesOn rules c (class.function_body line method) n i
body_inside_goes_on {rules = rules} {c} {i = i} {k = k} {l} {m} {n = n} line method b u level x v mode le g t follow =
    let left : n ≤ length m.words = omega (arith, within mode, le) in
    let (added, o, y, end) = or_least class.block n m [] left (λ q s e follow. empty_block q e (follow [])) g
    (end_words ++ t) (λ x. refl) in
    let words : List Word = added ++ (end_words ++ t) in
    let before : n < length l.words = takes_less v left in
    let u' = takes_instead n words u (omega (arith, before, (goes x).words)) in
    let x' = carry_shown x rules (inl before) in
    let (last, body, end') = ended_body line method (body_instead n words b) u' x' (takes_instead n words v left)
    (room rules level) y.1 end in
    longer (class.function_body line method) n i {j = last} (added ++ end_words) (sym (append_assoc added end_words t))
    body end'

-- no `)` behind the parameters
unclosed : {rules : Rules} {c : Context} {number : ℕ} {varargs : Bool} {names : List Name} {i j k l : Position} {n : ℕ}
    (line : ℕ) (method : Bool)
    → at.BeginsBody number i j → Takes kind.LeftParen j k → HasLevel c
    → Spelled every_rule c (thing.parameters names varargs) k l
    → n ≡ length l.words → GoesOn rules c (class.function_body line method) n i
unclosed {rules} {c} {k = k} {l} {n} line method b u level x e t follow =
    let words : List Word = close_words ++ t in
    let put : (instead n words l).words ≡ words = words_from l e in
    let u' = takes_instead n words u (omega (arith, e, (goes x).words)) in
    let x' = carry x rules n words (omega (arith, e)) (inr (front_kind (instead n words l) put)) in
    let (o, body, end) = body_from line method (body_instead n words b) u' x' (room rules level) put in
    (close_words, o, body, end)

-- no `end` behind the block
unended : {rules : Rules} {c : Context} {number : ℕ} {varargs : Bool} {names : List Name} {block : List Stat}
    {i j k l m o : Position} {n : ℕ}
    (line : ℕ) (method : Bool) → at.BeginsBody number i j → Takes kind.LeftParen j k → HasLevel c
    → Spelled every_rule c (thing.parameters names varargs) k l → Takes kind.RightParen l m
    → Spelled every_rule (context.function varargs c) (thing.block block) m o → n ≡ length o.words
    → GoesOn rules c (class.function_body line method) n i
unended {rules} {c} {l = l} {m} {o} {n} line method b u level x v y e t follow =
    let words : List Word = end_words ++ t in
    let put : (instead n words o).words ≡ words = words_from o e in
    let left : n ≤ length m.words = omega (arith, e, (goes y).words) in
    let before : n < length l.words = takes_less v left in
    let u' = takes_instead n words u (omega (arith, before, (goes x).words)) in
    let y' = carry y rules n words (omega (arith, e)) (inr (ap ends_block (front_kind (instead n words o) put))) in
    let x' = carry_shown x rules (inl before) in
    let (_, body, end) = ended_body line method (body_instead n words b) u' x' (takes_instead n words v left)
    (room rules level) y' put in
    (end_words, _, body, end)

-- ---- what is refused in a production

pub some_is_not_refused : {f : SyntaxKind} {p : Part} {z : Position} {c : Context} {k : Class} → Refuses f p z
    → p ≡ part.some c k → ⊥
some_is_not_refused (no_word s) e = cc
some_is_not_refused (no_name s) e = cc
some_is_not_refused (no_end s) e = cc
some_is_not_refused (too_long seen s) e = cc

pub refused_seen : {f : SyntaxKind} {p : Part} {z : Position} {rules : Rules} {n : ℕ} → Refuses f p z
    → p ≢ part.operator → Mode f z rules n
    → n ≡ length z.words
refused_seen (no_word s) other m = all_seen m
refused_seen (no_name s) other m = all_seen m
refused_seen (no_end s) other m = all_seen m
refused_seen (too_long seen s) other m = absurd (other refl)

-- what stops behind the parameters: the `)`, the block, or the `end`
data BodyStop (c : Context) (varargs : Bool) (l z : Position) (p : Part) : Type 0 where
  at_close : p ≡ part.word kind.RightParen → z ≡ l → BodyStop c varargs l z p
  at_block : p ≡ part.some (context.function varargs c) class.block → BodyStop c varargs l z p
  at_end : {m : Position} → p ≡ part.word kind.End → Takes kind.RightParen l m
      → Reads every_rule (context.function varargs c) class.block m z
      → BodyStop c varargs l z p

body_stop : {c : Context} {varargs : Bool} {l z : Position} {p : Part} {rest : List Part}
    → Read (body_rest c varargs) l (p ∷ rest) z
    → BodyStop c varargs l z p
body_stop nothing = at_close refl refl
body_stop (more v nothing) = at_block refl
body_stop (more v (more y nothing)) = at_end refl v y
body_stop (more v (more y (more u rest))) = elim rest [ ]

pub body_refused_goes_on : {f : SyntaxKind} {rules : Rules} {c : Context} {number : ℕ} {varargs : Bool}
    {names : List Name} {i j k l z : Position}
    {p : Part} {rest : List Part} {n : ℕ} (line : ℕ) (method : Bool) → at.BeginsBody number i j
    → Takes kind.LeftParen j k → HasLevel c
    → Spelled every_rule c (thing.parameters names varargs) k l → Read (body_rest c varargs) l (p ∷ rest) z
    → Refuses f p z → Mode f z rules n
    → GoesOn rules c (class.function_body line method) n i
body_refused_goes_on {f} {rules} {c} {varargs = varargs} {i = i} {l = l} {z} {p} {n = n} line method b u level x read
    refused m = by_stop (body_stop read) where
      by_stop : BodyStop c varargs l z p → GoesOn rules c (class.function_body line method) n i
      by_stop (at_close is to) =
          unclosed line method b u level x (refused_seen refused (λ e. cc) m ∙ ap (λ (q : Position). length q.words) to)
      by_stop (at_block is) = absurd (some_is_not_refused refused is)
      by_stop (at_end is v y) = unended line method b u level x v y.1 (refused_seen refused (λ e. cc) m)
