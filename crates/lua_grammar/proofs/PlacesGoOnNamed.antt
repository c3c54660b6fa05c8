-- Words that stop inside a statement `function`, behind that word, go on to it.
use Rattle.std.proofs.Common.{◌≡◌, ◌≢◌, ◌⊎◌, inl, inr, ℕ, ◌<◌, ◌≤◌, true, false, List, [], ◌∷◌, ◌++◌, length, Some}
use Rattle.std.proofs.Common.{refl, sym, ap, ◌∙◌, arith}
use Rattle.std.proofs.lemmas.List.{append_assoc}
use Rattle.std.proofs.Math.Nat.{eq-or-lt_of_le}
use Rattle.lua_lex.specs.declared.kinds.TokenKind.TheVariants as kind
use Rattle.lua_grammar.specs.declared.kinds.SyntaxKind.{SyntaxKind}
use Rattle.lua_grammar.specs.declared.context.Context.{Context}
use Rattle.lua_grammar.specs.declared.words.Word.{Word}
use Rattle.lua_grammar.specs.declared.expressions.Name.{Name}
use Rattle.lua_grammar.specs.Positions as at
use Rattle.lua_grammar.specs.Positions.{Position, Takes, TakesName, Sees, SeesNot}
use Rattle.lua_grammar.specs.Contexts.{Rules, every_rule}
use Rattle.lua_grammar.specs.Things as thing
use Rattle.lua_grammar.specs.Grammar as by
use Rattle.lua_grammar.specs.Grammar.{Spelled}
use Rattle.lua_grammar.specs.Classes as class
use Rattle.lua_grammar.specs.Productions as part
use Rattle.lua_grammar.specs.Productions.{Part, Read, nothing, more, HasLevel}
use Rattle.lua_grammar.specs.Stuck.{Refuses, no_word, no_name, no_end, too_long, named_function, method_rest}
use Rattle.lua_grammar.proofs.Progress.{goes}
use Rattle.lua_grammar.proofs.Continuations.{instead, Follows, Mode, GoesOn}
use Rattle.lua_grammar.proofs.Modes.{within, room}
use Rattle.lua_grammar.proofs.Instead.{kind_shown, line_shown, words_from, takes_less, name_less, takes_instead}
use Rattle.lua_grammar.proofs.Instead.{name_instead}
use Rattle.lua_grammar.proofs.Carry.{carry}
use Rattle.lua_grammar.proofs.Least.{name_words, body_words, front_kind, next_words, takes_front_name, no_path}
use Rattle.lua_grammar.proofs.Least.{least_function_body}
use Rattle.lua_grammar.proofs.PlacesGoOn.{Completion, longer, or_least, bodied}
use Rattle.lua_grammar.proofs.PlacesGoOnFunctions.{some_is_not_refused, refused_seen}

-- ---- what has been read

-- the words `function Name {. Name}`
record Front (c : Context) (i j : Position) : Type 0 where
  name : Name
  path : List Name
  behind : Position
  start : Position
  function : Takes kind.Function i behind
  named : TakesName name behind start
  followed : Spelled every_rule c (thing.path path) start j

front : {c : Context} {line : ℕ} {i j : Position} → Read (named_function c line) i [] j → Front c i j
front (more l (more x (more p nothing))) =
    record { name = x.0; path = p.0; behind = _; start = _; function = l.1; named = x.1; followed = p.1 }

-- what stops among them
data FrontStop (c : Context) (line : ℕ) (i j : Position) (p : Part) : Type 0 where
  at_function : p ≡ part.function_on line → FrontStop c line i j p
  at_name : p ≡ part.name → Takes kind.Function i j → FrontStop c line i j p
  at_path : {k : Position} {name : Name} → p ≡ part.some c class.path → Takes kind.Function i k → TakesName name k j
      → FrontStop c line i j p

front_stop : {c : Context} {line : ℕ} {i j : Position} {p : Part} {rest : List Part}
    → Read (named_function c line) i (p ∷ rest) j
    → FrontStop c line i j p
front_stop nothing = at_function refl
front_stop (more l nothing) = at_name refl l.1
front_stop (more l (more x nothing)) = at_path refl l.1 x.1
front_stop (more l (more x (more p rest))) = elim rest [ ]

function_is_not_refused : {f : SyntaxKind} {p : Part} {z : Position} {line : ℕ} → Refuses f p z
    → p ≡ part.function_on line → ⊥
function_is_not_refused (no_word s) e = cc
function_is_not_refused (no_name s) e = cc
function_is_not_refused (no_end s) e = cc
function_is_not_refused (too_long seen s) e = cc

-- what stops behind the `:` of a method: the name, or the body
data MethodStop (c : Context) (line : ℕ) (k z : Position) (p : Part) : Type 0 where
  at_last : p ≡ part.name → z ≡ k → MethodStop c line k z p
  at_body : p ≡ part.some c (class.function_body line true) → MethodStop c line k z p

method_stop : {c : Context} {line : ℕ} {k z : Position} {p : Part} {rest : List Part}
    → Read (method_rest c line) k (p ∷ rest) z
    → MethodStop c line k z p
method_stop nothing = at_last refl refl
method_stop (more x nothing) = at_body refl
method_stop (more x (more y rest)) = elim rest [ ]

-- the same words, with other ones behind them
front_instead : {c : Context} {i j : Position} (x : Front c i j) (rules : Rules) (n : ℕ) (words : List Word)
    → n ≤ length j.words
    → (at.kind (instead n words j) ≡ at.kind j) ⊎ Follows (thing.path x.path) (at.kind (instead n words j))
    → Takes kind.Function (instead n words i) (instead n words x.behind)
    × TakesName x.name (instead n words x.behind) (instead n words x.start)
    × Spelled rules c (thing.path x.path) (instead n words x.start) (instead n words j)
front_instead {j = j} x rules n words left follow =
    let named : n ≤ length x.start.words = omega (arith, left, (goes x.followed).words) in
    let behind : n < length x.behind.words = name_less x.named named in (
      takes_instead n words x.function (omega (arith, behind)),
      name_instead n words x.named named,
      carry x.followed rules n words left follow,
    )

-- ---- functions

-- Name ( ) end
function_unnamed : {rules : Rules} {c : Context} {i j : Position} {n : ℕ} → HasLevel c → Takes kind.Function i j
    → n ≡ length j.words
    → GoesOn rules c class.deed n i
function_unnamed {rules} {j = j} {n} level u e t follow =
    let words : List Word = name_words ++ body_words ++ t in
    let p : Position = instead n words j in
    let put : p.words ≡ words = words_from j e in
    let e1 : (at.next p).words ≡ body_words ++ t = next_words p put in
    let u' = takes_instead n words u (omega (arith, e)) in
    let none = by.no_path (λ s. cc (s, front_kind (at.next p) e1)) in
    let (o, x, end) = bodied (room rules level) u' (takes_front_name p put refl) none e1 in
    (name_words ++ body_words, o, x, end)

pub function_refused_goes_on : {f : SyntaxKind} {c : Context} {p : Part} {rest : List Part} {i j : Position}
    {rules : Rules} {n : ℕ} → HasLevel c
    → Read (named_function c (at.line i)) i (p ∷ rest) j → Refuses f p j → Mode f j rules n
    → GoesOn rules c class.deed n i
function_refused_goes_on {c = c} {p} {i = i} {j} {rules} {n} level read refused m = by_stop (front_stop read) where
  by_stop : FrontStop c (at.line i) i j p → GoesOn rules c class.deed n i
  by_stop (at_function is) = absurd (function_is_not_refused refused is)
  by_stop (at_name is u) = function_unnamed level u (refused_seen refused (λ e. cc) m)
  by_stop (at_path is u x) = absurd (some_is_not_refused refused is)

paren_is_no_dot : Some kind.LeftParen ≢ Some kind.Dot
paren_is_no_dot s = cc

paren_is_no_colon : Some kind.LeftParen ≢ Some kind.Colon
paren_is_no_colon s = cc

pub function_inside_goes_on : {f : SyntaxKind} {c : Context} {rest : List Part} {i j z : Position} {rules : Rules}
    {n : ℕ} → HasLevel c
    → Read (named_function c (at.line i)) i (part.some c class.path ∷ rest) j → Mode f z rules n
    → length z.words ≤ length j.words
    → (n < length j.words → GoesOn rules c class.path n j) → GoesOn rules c class.deed n i
function_inside_goes_on {c = c} {i = i} {j} {rules = rules} {n} level read m le g t follow =
    by_stop (front_stop read) where
      left : n ≤ length j.words
      left = omega (arith, within m, le)

      by_stop : FrontStop c (at.line i) i j (part.some c class.path) → Completion rules c class.deed n i t
      by_stop (at_function is) = absurd (cc)
      by_stop (at_name is u) = absurd (cc)
      by_stop (at_path {k = k} is u x) =
          let (added, l, path, end) = or_least class.path n j [] left (λ q s e follow. no_path q e (follow []).0) g
          (body_words ++ t)
          (λ x. (paren_is_no_dot, paren_is_no_colon)) in
          let words : List Word = added ++ (body_words ++ t) in
          let behind : n < length k.words = name_less x left in
          let (o, deed, end') = bodied (room rules level) (takes_instead n words u (omega (arith, behind)))
          (name_instead n words x left) path.1 end in
          longer class.deed n i {j = o} (added ++ body_words) (sym (append_assoc added body_words t)) deed end'

pub function_statement_goes_on : {f : SyntaxKind} {c : Context} {i j z : Position} {rules : Rules} {n : ℕ} → HasLevel c
    → Read (named_function c (at.line i)) i [] j → SeesNot kind.Colon j → Mode f z rules n
    → length z.words ≤ length j.words
    → n < length i.words → (n < length j.words → GoesOn rules c (class.function_body (at.line i) false) n j)
    → GoesOn rules c class.deed n i
function_statement_goes_on {c = c} {i} {j} {rules = rules} {n} level read unseen m le begun g t follow =
    by_length (eq-or-lt_of_le left) where
      left : n ≤ length j.words
      left = omega (arith, within m, le)

      x : Front c i j
      x = front read

      by_length : (n ≡ length j.words) ⊎ (n < length j.words) → Completion rules c class.deed n i t
      by_length (inl e) =
          let words : List Word = body_words ++ t in
          let put : (instead n words j).words ≡ words = words_from j e in
          let seen : Sees kind.LeftParen (instead n words j) = front_kind (instead n words j) put in
          let (u', x', p') = front_instead x rules n words left (inr ((λ s. cc (s, seen)), (λ s. cc (s, seen)))) in
          let (o, deed, end) = bodied (room rules level) u' x' p' put in
          (body_words, o, deed, end)
      by_length (inr less) =
          let (added, o, body, end) = g less t (λ x. tt) in
          let words : List Word = added ++ t in
          let same : at.kind (instead n words j) ≡ at.kind j = kind_shown j (inl less) in
          let (u', x', p') = front_instead x rules n words left (inl same) in
          let line : at.line i ≡ at.line (instead n words i) = sym (line_shown i (inl begun)) in
          (added, o, (_, by.function_statement line u' x' p' (λ s. unseen (sym same ∙ s)) body.1), end)

-- ---- methods

pub method_inside_goes_on : {f : SyntaxKind} {c : Context} {last : Name} {i j k l z : Position} {rules : Rules} {n : ℕ}
    → HasLevel c
    → Read (named_function c (at.line i)) i [] j → Takes kind.Colon j k → TakesName last k l → Mode f z rules n
    → length z.words ≤ length l.words
    → n < length i.words → (n < length l.words → GoesOn rules c (class.function_body (at.line i) true) n l)
    → GoesOn rules c class.deed n i
method_inside_goes_on {c = c} {i = i} {j} {k} {l} {rules = rules} {n} level read u v m le begun g t follow =
    let left : n ≤ length l.words = omega (arith, within m, le) in
    let (added, o, body, end) = or_least (class.function_body (at.line i) true) n l body_words left
    (λ q s e follow. least_function_body (at.line i) true q (room rules level) e)
    g t (λ x. tt) in
    let words : List Word = added ++ t in
    let named : n < length k.words = name_less v left in
    let colon : n < length j.words = takes_less u (omega (arith, named)) in
    let (u', x', p') = front_instead (front read) rules n words (omega (arith, colon)) (inl (kind_shown j (inl colon)))
    in
    let line : at.line i ≡ at.line (instead n words i) = sym (line_shown i (inl begun)) in
    let deed = by.method_statement line u' x' p' (takes_instead n words u (omega (arith, named)))
    (name_instead n words v left) body.1 in
    (added, o, (_, deed), end)

-- Name ( ) end, behind the `:`
method_unnamed : {rules : Rules} {c : Context} {i j k : Position} {n : ℕ} → HasLevel c → Front c i j
    → Takes kind.Colon j k → n ≡ length k.words
    → GoesOn rules c class.deed n i
method_unnamed {rules} {c} {i} {j} {k} {n} level x u e t follow =
    let words : List Word = name_words ++ body_words ++ t in
    let p : Position = instead n words k in
    let put : p.words ≡ words = words_from k e in
    let left : n ≤ length k.words = omega (arith, e) in
    let colon : n < length j.words = takes_less u left in
    let (u', x', p') = front_instead x rules n words (omega (arith, colon)) (inl (kind_shown j (inl colon))) in
    let (o, body, end) = least_function_body (at.line (instead n words i)) true (at.next p) (room rules level)
    (next_words p put) in
    let deed = by.method_statement refl u' x' p' (takes_instead n words u left) (takes_front_name p put refl) body.1 in
    (name_words ++ body_words, o, (_, deed), end)

pub method_refused_goes_on : {f : SyntaxKind} {c : Context} {p : Part} {rest : List Part} {i j k z : Position}
    {rules : Rules} {n : ℕ} → HasLevel c
    → Read (named_function c (at.line i)) i [] j → Takes kind.Colon j k
    → Read (method_rest c (at.line i)) k (p ∷ rest) z → Refuses f p z
    → Mode f z rules n → GoesOn rules c class.deed n i
method_refused_goes_on {c = c} {p} {i = i} {j} {k} {z} {rules} {n} level read u last refused m =
    by_stop (method_stop last) where
      by_stop : MethodStop c (at.line i) k z p → GoesOn rules c class.deed n i
      by_stop (at_last is to) =
          method_unnamed level (front read) u (refused_seen refused (λ e. cc) m
          ∙ ap (λ (q : Position). length q.words) to)
      by_stop (at_body is) = absurd (some_is_not_refused refused is)
