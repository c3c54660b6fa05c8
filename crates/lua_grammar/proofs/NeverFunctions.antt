-- Where a reader of a function is stuck, none is spelled, whatever words stand behind the next one.
use Rattle.std.proofs.Common.{◌≡◌, ℕ, Bool, true, false, List, [], ◌∷◌, refl, sym, ap, ◌∙◌, subst}
use Rattle.lua_lex.specs.declared.kinds.TokenKind.TheVariants as kind
use Rattle.lua_grammar.specs.declared.kinds.SyntaxKind.{SyntaxKind}
use Rattle.lua_grammar.specs.declared.kinds.SyntaxKind.TheVariants as fault
use Rattle.lua_grammar.specs.declared.context.Context.{Context}
use Rattle.lua_grammar.specs.declared.words.Word.{Word}
use Rattle.lua_grammar.specs.declared.expressions.Name.{Name}
use Rattle.lua_grammar.specs.declared.statements.Deed.{Deed}
use Rattle.lua_grammar.specs.Positions as at
use Rattle.lua_grammar.specs.Positions.{Position, Takes, TakesName, Sees, SeesNot}
use Rattle.lua_grammar.specs.Contexts as context
use Rattle.lua_grammar.specs.Contexts.{Rules, every_rule}
use Rattle.lua_grammar.specs.Stops.{rank, up_to}
use Rattle.lua_grammar.specs.Things as thing
use Rattle.lua_grammar.specs.Grammar.{Spelled}
use Rattle.lua_grammar.specs.Classes as class
use Rattle.lua_grammar.specs.Classes.{Reads}
use Rattle.lua_grammar.specs.Productions as parts
use Rattle.lua_grammar.specs.Productions.{Part, AreParts, Read}
use Rattle.lua_grammar.specs.Stuck.{Stuck, Refuses, named_function, body_rest, method_rest, begins_parameter}
use Rattle.lua_grammar.proofs.Continuations.{instead, Shown}
use Rattle.lua_grammar.proofs.Inversions.{moved, on_line, takes_at, form, parameters_at, deed_at}
use Rattle.lua_grammar.proofs.Instead.{kind_shown, line_shown, shown_before}
use Rattle.lua_grammar.proofs.Again.{again_parameters}
use Rattle.lua_grammar.proofs.Progress.{also, eaten, takes, takes_name, goes}
use Rattle.lua_grammar.proofs.StuckGoes.{read_goes, stuck_goes}
use Rattle.lua_grammar.proofs.NeverParts.{Never, next_instead, word_again, parts_at, rest_parts, refused_parts}
use Rattle.lua_grammar.proofs.NeverParts.{inside_parts}
use Rattle.lua_grammar.proofs.Rooms.{parameter_first}

-- ---- parameters

pub never_parameter : {c : Context} (i : Position) → begins_parameter (at.kind i) ≡ false
    → Never fault.Unexpected c class.parameters i i
never_parameter i none n words h j ((names, varargs), x) = absurd (cc (none, kind_shown i h, parameter_first x))

pub never_more_parameters : {f : SyntaxKind} {c : Context} {name : Name} {i j k z : Position} → TakesName name i j
    → Takes kind.Comma j k
    → Stuck f c class.parameters k z → Never f c class.parameters k z → Never f c class.parameters i z
never_more_parameters {i = i} {j} {k} {z} t u s never n words h m ((names, varargs), x) =
    let there = shown_before j z (also (eaten (takes u)) (stuck_goes s)).words h in
    let before = shown_before i j (eaten (takes_name t)).words there in
    let (goes_on, ends) = parameters_at (kind_shown i before ∙ t.seen) x in
    let (seen, to) = word_again n words (next_instead n words i t.taken before refl) u there in
    let (rest, is, unclosed, b) = goes_on seen in
    never n words h m ((rest, varargs), moved to b)

pub never_last_comma : {c : Context} {name : Name} {i j k : Position} → TakesName name i j → Takes kind.Comma j k
    → Sees kind.RightParen k
    → Never fault.Unexpected c class.parameters i k
never_last_comma {i = i} {j} {k} t u closed n words h m ((names, varargs), x) =
    let there = shown_before j k (eaten (takes u)).words h in
    let before = shown_before i j (eaten (takes_name t)).words there in
    let (goes_on, ends) = parameters_at (kind_shown i before ∙ t.seen) x in
    let (seen, to) = word_again n words (next_instead n words i t.taken before refl) u there in
    let (rest, is, unclosed, b) = goes_on seen in
    absurd (unclosed (ap at.kind to ∙ kind_shown k h ∙ closed))

-- ---- bodies

-- the front of a body, with other words behind
body_begun : (n : ℕ) (words : List Word) {number number' : ℕ} (i : Position) {j j' : Position}
    → at.BeginsBody number i j
    → at.BeginsBody number' (instead n words i) j' → j' ≡ instead n words j
body_begun n words i b b' = b'.begun ∙ ap (instead n words) (sym b.begun)

pub never_no_parameters : {c : Context} {line : ℕ} {method : Bool} (i : Position) → SeesNot kind.LeftParen i
    → Never fault.Unexpected c (class.function_body line method) i i
never_no_parameters i none n words h m (number, x) =
    let (names, varargs, block, j', k', l', m', n', o', b', t', ps, u', room, y, v', e') = form x in
    absurd (none (sym (kind_shown i h) ∙ ap at.kind (sym b'.begun) ∙ t'.seen))

-- the parameters of a body that is spelled with other words behind
parameters_begun : {rules : Rules} {c : Context} {names : List Name} {varargs : Bool} {number number' : ℕ} (n : ℕ)
    (words : List Word) (i : Position)
    {j k j' k' l' : Position} → at.BeginsBody number i j → Takes kind.LeftParen j k → Shown k n words
    → at.BeginsBody number' (instead n words i) j' → Takes kind.LeftParen j' k'
    → Spelled rules c (thing.parameters names varargs) k' l'
    → Spelled rules c (thing.parameters names varargs) (instead n words k) l'
parameters_begun n words i {j} {k} {k' = k'} b t h b' t' ps =
    let there = shown_before j k (eaten (takes t)).words h in
    let to = body_begun n words i b b' in
    moved (t'.taken ∙ ap at.next to ∙ next_instead n words j t.taken there refl) ps

pub never_in_parameters : {f : SyntaxKind} {c : Context} {line number : ℕ} {method : Bool} {i j k z : Position}
    → at.BeginsBody number i j
    → Takes kind.LeftParen j k → Stuck f c class.parameters k z → Never f c class.parameters k z
    → Never f c (class.function_body line method) i z
never_in_parameters {i = i} {k = k} {z} b t s never n words h m (number, x) =
    let (names, varargs, block, j', k', l', m', n', o', b', t', ps, u', room, y, v', e') = form x in
    let there = shown_before k z (stuck_goes s).words h in
    never n words h l' ((names, varargs), parameters_begun n words i b t there b' t' ps)

-- the parts that follow the parameters
body_parts : {rules : Rules} {c : Context} {line number number' : ℕ} {method varargs : Bool} {names : List Name}
    {i j k l e : Position}
    (n : ℕ) (words : List Word) → at.BeginsBody number i j → Takes kind.LeftParen j k
    → Spelled every_rule c (thing.parameters names varargs) k l → Shown l n words
    → Spelled rules c (thing.function_body line method number') (instead n words i) e
    → (end : Position) × AreParts rules (body_rest c varargs) (instead n words l) end
body_parts {rules} {c} {i = i} {k = k} {l} n words b t ps h x =
    let (names', varargs', block, j', k', l', m', n', o', b', t', ps', u', room, y, v', e') = form x in
    let there = shown_before k l (goes ps).words h in
    let (same, to) = again_parameters ps h (parameters_begun n words i b t there b' t' ps') in
    let y' = subst (λ (takes_more : Bool). Spelled rules (context.function takes_more c) (thing.block block) m' n')
    (sym same) y in
    (o', (m', takes_at to u', (n', (block, y'), (o', v', refl))))

pub never_body_refused : {f : SyntaxKind} {c : Context} {line number : ℕ} {method varargs : Bool} {names : List Name}
    {i j k l z : Position}
    {p : Part} {rest : List Part} → at.BeginsBody number i j → Takes kind.LeftParen j k
    → Spelled every_rule c (thing.parameters names varargs) k l → Read (body_rest c varargs) l (p ∷ rest) z
    → Refuses f p z
    → Never f c (class.function_body line method) i z
never_body_refused {l = l} {z} b t ps read r n words h m (number, x) =
    let (end, parts) = body_parts n words b t ps (shown_before l z (read_goes read).words h) x in
    refused_parts read r n words h end parts

pub never_body_inside : {f : SyntaxKind} {c : Context} {line number : ℕ} {method varargs : Bool} {names : List Name}
    {i j k l m z : Position}
    → at.BeginsBody number i j → Takes kind.LeftParen j k → Spelled every_rule c (thing.parameters names varargs) k l
    → Takes kind.RightParen l m → Stuck f (context.function varargs c) class.block m z
    → Never f (context.function varargs c) class.block m z
    → Never f c (class.function_body line method) i z
never_body_inside {f} {c} {varargs = varargs} {l = l} {m} {z} b t ps u s never n words h e (number, x) =
    let read : Read (body_rest c varargs) l (parts.some (context.function varargs c) class.block ∷ parts.word kind.End
    ∷ []) m =
    parts.more {p = parts.word kind.RightParen} u parts.nothing in
    let there = shown_before l z (also (eaten (takes u)) (stuck_goes s)).words h in
    let (end, parts) = body_parts n words b t ps there x in
    inside_parts f z read (stuck_goes s).words never n words h end parts

-- ---- statements

-- the name of a function, as parts, and what follows it
named_parts : {rules : Rules} {c : Context} {deed : Deed} (i : Position) {e : Position} (n : ℕ) (words : List Word)
    → Sees kind.Function i
    → Shown i n words → Spelled rules c (thing.deed deed) (instead n words i) e
    → (end : Position) × AreParts rules (named_function c (at.line i)) (instead n words i) end
    × (Sees kind.Colon end → AreParts rules (method_rest c (at.line i)) (at.next end) e)
    × (SeesNot kind.Colon end → Reads rules c (class.function_body (at.line i) false) end e)
named_parts i n words seen h x =
    let same = line_shown i h in
    let (name, path, k, l, t, p, (colon, none)) = deed_at (kind_shown i h ∙ seen) x in (
      l,
      (_, (sym same, record { seen = kind_shown i h ∙ seen; taken = refl }), (k, (name, t), (l, (path, p), refl))),
      λ s. (let (last, number, m, is, u, b) = colon s in (m, (last, u), (_, (number, on_line same b), refl))),
      λ s. (let (number, is, b) = none s in (number, on_line same b)),
    )

pub never_function_refused : {f : SyntaxKind} {c : Context} {p : Part} {rest : List Part} {i j : Position}
    → Sees kind.Function i
    → Read (named_function c (at.line i)) i (p ∷ rest) j → Refuses f p j → Never f c class.deed i j
never_function_refused {i = i} {j} seen read r n words h e (deed, x) =
    let (end, parts, colon, none) = named_parts i n words seen (shown_before i j (read_goes read).words h) x in
    refused_parts read r n words h end parts

pub never_function_inside : {f : SyntaxKind} {c : Context} {rest : List Part} {i j z : Position} → Sees kind.Function i
    → Read (named_function c (at.line i)) i (parts.some c class.path ∷ rest) j → Stuck f c class.path j z
    → Never f c class.path j z
    → Never f c class.deed i z
never_function_inside {f} {i = i} {j} {z} seen read s never n words h e (deed, x) =
    let there = shown_before i z (also (read_goes read) (stuck_goes s)).words h in
    let (end, parts, colon, none) = named_parts i n words seen there x in
    inside_parts f z read (stuck_goes s).words never n words h end parts

pub never_function_statement : {f : SyntaxKind} {c : Context} {i j z : Position} → Sees kind.Function i
    → Read (named_function c (at.line i)) i [] j → SeesNot kind.Colon j
    → Stuck f c (class.function_body (at.line i) false) j z
    → Never f c (class.function_body (at.line i) false) j z → Never f c class.deed i z
never_function_statement {f} {c} {i} {j} {z} seen read unseen s never n words h e (deed, x) =
    let there = shown_before j z (stuck_goes s).words h in
    let before = shown_before i j (read_goes read).words there in
    let (end, parts, colon, none) = named_parts i n words seen before x in
    let to = rest_parts (up_to (rank f)) n words end read there parts in
    let (number, b) = none (λ s. unseen (sym (kind_shown j there) ∙ ap at.kind (sym to) ∙ s)) in
    never n words h e (number, moved to b)

-- the parts that follow the `:`
method_parts : {rules : Rules} {c : Context} {deed : Deed} (i : Position) {j k e : Position} (n : ℕ) (words : List Word)
    → Sees kind.Function i
    → Read (named_function c (at.line i)) i [] j → Takes kind.Colon j k → Shown k n words
    → Spelled rules c (thing.deed deed) (instead n words i) e
    → AreParts rules (method_rest c (at.line i)) (instead n words k) e
method_parts {rules} {c} i {j} {k} {e} n words seen read t h x =
    let there = shown_before j k (eaten (takes t)).words h in
    let before = shown_before i j (read_goes read).words there in
    let (end, parts, colon, none) = named_parts i n words seen before x in
    let (seen_colon, to) = word_again n words (rest_parts rules n words end read there parts) t there in
    parts_at rules (method_rest c (at.line i)) e to (colon seen_colon)

pub never_method_refused : {f : SyntaxKind} {c : Context} {p : Part} {rest : List Part} {i j k z : Position}
    → Sees kind.Function i
    → Read (named_function c (at.line i)) i [] j → Takes kind.Colon j k
    → Read (method_rest c (at.line i)) k (p ∷ rest) z → Refuses f p z
    → Never f c class.deed i z
never_method_refused {i = i} {k = k} {z} seen read t read' r n words h e (deed, x) =
    refused_parts read' r n words h e (method_parts i n words seen read t (shown_before k z (read_goes read').words h)
    x)

pub never_method_inside : {f : SyntaxKind} {c : Context} {name : Name} {i j k l z : Position} → Sees kind.Function i
    → Read (named_function c (at.line i)) i [] j → Takes kind.Colon j k → TakesName name k l
    → Stuck f c (class.function_body (at.line i) true) l z → Never f c (class.function_body (at.line i) true) l z
    → Never f c class.deed i z
never_method_inside {f} {c} {i = i} {k = k} {l} {z} seen read t u s never n words h e (deed, x) =
    let read' : Read (method_rest c (at.line i)) k (parts.some c (class.function_body (at.line i) true) ∷ []) l =
    parts.more {p = parts.name} (_, u) parts.nothing in
    let there = shown_before k z (also (eaten (takes_name u)) (stuck_goes s)).words h in
    inside_parts f z read' (stuck_goes s).words never n words h e (method_parts i n words seen read t there x)
