-- Where a reader of a statement, of names or of a loop's range is stuck, none is spelled, whatever words stand behind
-- the next one.
use Rattle.std.proofs.Common.{◌≡◌, ◌⊎◌, inl, inr, ℕ, true, false, List, [], ◌∷◌, refl, sym, ap, ◌∙◌, subst, arith}
use Rattle.lua_lex.specs.declared.kinds.TokenKind.TheVariants as kind
use Rattle.lua_grammar.specs.declared.kinds.SyntaxKind.{SyntaxKind}
use Rattle.lua_grammar.specs.declared.kinds.SyntaxKind.TheVariants as fault
use Rattle.lua_grammar.specs.declared.context.Context.{Context}
use Rattle.lua_grammar.specs.declared.words.Word.{Word}
use Rattle.lua_grammar.specs.declared.expressions.Name.{Name}
use Rattle.lua_grammar.specs.declared.expressions.Expr.{Expr}
use Rattle.lua_grammar.specs.declared.statements.Stat.{Stat}
use Rattle.lua_grammar.specs.declared.statements.Deed.{Deed}
use Rattle.lua_grammar.specs.Positions as at
use Rattle.lua_grammar.specs.Positions.{Position, Takes, TakesName, Sees, SeesNot}
use Rattle.lua_grammar.specs.Contexts.{Rules, every_rule}
use Rattle.lua_grammar.specs.Stops.{rank, up_to}
use Rattle.lua_grammar.specs.Things as thing
use Rattle.lua_grammar.specs.Grammar as by
use Rattle.lua_grammar.specs.Grammar.{Spelled}
use Rattle.lua_grammar.specs.Classes as class
use Rattle.lua_grammar.specs.Classes.{Reads}
use Rattle.lua_grammar.specs.Stuck.{Stuck, IsFull, begins_deed, nests_statement}
use Rattle.lua_grammar.proofs.Continuations.{instead, Shown}
use Rattle.lua_grammar.proofs.FirstWords.{first_word}
use Rattle.lua_grammar.proofs.Inversions.{moved, takes_at, no_assignment, form, last_deed_at, deed_at}
use Rattle.lua_grammar.proofs.Instead.{kind_shown, shown_before, shown_next}
use Rattle.lua_grammar.proofs.Again.{again}
use Rattle.lua_grammar.proofs.Progress.{Goes, stays, also, eaten, takes, takes_name, goes}
use Rattle.lua_grammar.proofs.StuckGoes.{stuck_goes}
use Rattle.lua_grammar.proofs.NeverParts.{Never, next_instead, word_again}
use Rattle.lua_grammar.proofs.Rooms.{body_room, deed_room}

-- ---- first words

pub never_break : {c : Context} (i : Position) → Sees kind.Break i → c.in_loop ≡ false
    → Never fault.NoLoop c class.last_deed i i
never_break i s none n words h j (deed, x) =
    let (is, to, kept) = last_deed_at (kind_shown i h ∙ s) x in
    absurd (cc (none, kept))

pub never_deed : {c : Context} (i : Position) → begins_deed (at.kind i) ≡ false
    → Never fault.Unexpected c class.deed i i
never_deed i none n words h j (deed, x) =
    absurd (cc (none, kind_shown i h, first_word x))

pub never_deed_level : {c : Context} (i : Position) → nests_statement (at.kind i) ≡ true → IsFull c
    → Never fault.TooDeep c class.deed i i
never_deed_level i nests full n words h j (deed, x) =
    absurd (omega (arith, full, deed_room x (ap nests_statement (kind_shown i h) ∙ nests)))

pub never_local_level : {c : Context} {i j : Position} → Takes kind.Local i j → Sees kind.Function j → IsFull c
    → Never fault.TooDeep c class.deed i j
never_local_level {i = i} {j} t seen full n words h m (deed, x) =
    let before = shown_before i j (eaten (takes t)).words h in
    let (function, names) = deed_at (kind_shown i before ∙ t.seen) x in
    let to = next_instead n words i t.taken before refl in
    let (name, number, k, is, u, b) = function (ap at.kind to ∙ kind_shown j h ∙ seen) in
    absurd (omega (arith, full, body_room b))

-- ---- names

pub never_name : {c : Context} (i : Position) → SeesNot kind.Name i → Never fault.Unexpected c class.names i i
never_name i none n words h j (names, x) = let (seen, rest) = form x in absurd (none (sym (kind_shown i h) ∙ seen))

pub never_more_names : {f : SyntaxKind} {c : Context} {name : Name} {i j k z : Position} → TakesName name i j
    → Takes kind.Comma j k
    → Stuck f c class.names k z → Never f c class.names k z → Never f c class.names i z
never_more_names {i = i} {j} {k} {z} t u s never n words h m (names, x) =
    let there = shown_before j z (also (eaten (takes u)) (stuck_goes s)).words h in
    let before = shown_before i j (eaten (takes_name t)).words there in
    let (name_seen, (goes_on, ends)) = form x in
    let (seen, to) = word_again n words (next_instead n words i t.taken before refl) u there in
    let (rest, is, b) = goes_on seen in
    never n words h m (rest, moved to b)

-- ---- the range of a loop

-- a range with a `=` behind its first word, which is a name, or one over values
ranges : {rules : Rules} {c : Context} {deed : Deed} {i z : Position} → Spelled rules c (thing.for_range deed) i z
    → (Sees kind.Name i × Sees kind.Assign (at.next i))
    ⊎ ((names : List Name) × (es : List Expr) × (block : List Stat) × (k : Position) × (l : Position) × (m : Position)
    × Spelled rules c (thing.names names) i k × Takes kind.In k l × Spelled rules c (thing.list es) l m
    × Spelled rules c (thing.loop_block block) m z)
ranges (by.numeric_for t u x v y s b) = inl (t.seen, (takes_at t.taken u).seen)
ranges (by.generic_for x t y b) = inr (_, _, _, _, _, _, x, t, y, b)

-- a name alone
lone_names : {rules : Rules} {c : Context} (i : Position) → Sees kind.Name i → Sees kind.Assign (at.next i)
    → Reads rules c class.names i (at.next i)
lone_names i s t = (at.name i ∷ [], by.one_name (record { seen = s; name_is = refl; taken = refl }) (λ e. cc (e, t)))

pub never_for_names : {f : SyntaxKind} {c : Context} {i z : Position} → Stuck f c class.names i z
    → Never f c class.names i z
    → Never f c class.for_range i z
never_for_names {f} {c} {i} s never n words h j (deed, x) = by_range (ranges x)
  where
    by_range : (Sees kind.Name (instead n words i) × Sees kind.Assign (at.next (instead n words i)))
        ⊎ ((names : List Name) × (es : List Expr) × (block : List Stat) × (k : Position) × (l : Position)
        × (m : Position)
        × Spelled (up_to (rank f)) c (thing.names names) (instead n words i) k × Takes kind.In k l
        × Spelled (up_to (rank f)) c (thing.list es) l m
        × Spelled (up_to (rank f)) c (thing.loop_block block) m j) → ⊥
    by_range (inl (seen, assign)) = never n words h _ (lone_names (instead n words i) seen assign)
    by_range (inr (names, es, block, k, l, m, a, t, b, d)) = never n words h k (names, a)

-- names go past the first of them
names_behind : {rules : Rules} {c : Context} {names : List Name} {i j : Position}
    → Spelled rules c (thing.names names) i j → Goes (at.next i) j
names_behind {i = i} {j} (by.one_name t n) = subst (λ (p : Position). Goes p j) t.taken stays
names_behind {i = i} {j} (by.more_names t u ns) =
    subst (λ (p : Position). Goes p j) t.taken (also (eaten (takes u)) (goes ns))

-- the range over values, where names were read before that no `=` follows
values_range : {rules : Rules} {c : Context} {ns : List Name} {deed : Deed} {i j z : Position} (n : ℕ)
    (words : List Word)
    → SeesNot kind.Assign (at.next i) → Spelled every_rule c (thing.names ns) i j → Shown j n words
    → Spelled rules c (thing.for_range deed) (instead n words i) z
    → (es : List Expr) × (block : List Stat) × (l : Position) × (m : Position) × Takes kind.In (instead n words j) l
    × Spelled rules c (thing.list es) l m × Spelled rules c (thing.loop_block block) m z
values_range {rules} {c} {ns} {i = i} {j} {z} n words unseen ns_read h x = by_range (ranges x)
  where
    by_range : (Sees kind.Name (instead n words i) × Sees kind.Assign (at.next (instead n words i)))
        ⊎ ((names : List Name) × (es : List Expr) × (block : List Stat) × (k : Position) × (l : Position)
        × (m : Position)
        × Spelled rules c (thing.names names) (instead n words i) k × Takes kind.In k l
        × Spelled rules c (thing.list es) l m
        × Spelled rules c (thing.loop_block block) m z)
        → (es : List Expr) × (block : List Stat) × (l : Position) × (m : Position) × Takes kind.In (instead n words j) l
        × Spelled rules c (thing.list es) l m × Spelled rules c (thing.loop_block block) m z
    by_range (inl (seen, assign)) =
        let before = shown_before i j (goes ns_read).words h in
        let next = shown_before (at.next i) j (names_behind ns_read).words h in
        absurd (unseen (sym (kind_shown (at.next i) next) ∙ ap at.kind (sym (shown_next i before)) ∙ assign))
    by_range (inr (names, es, block, k, l, m, a, t, b, d)) =
        (es, block, l, m, takes_at (again class.names ns ns_read h (names, a)) t, b, d)

pub never_for_in : {c : Context} {ns : List Name} {i j : Position} → SeesNot kind.Assign (at.next i)
    → Spelled every_rule c (thing.names ns) i j
    → SeesNot kind.In j → Never fault.Unexpected c class.for_range i j
never_for_in {j = j} unseen ns none n words h m (deed, x) =
    let (es, block, l, k, t, b, d) = values_range n words unseen ns h x in
    absurd (none (sym (kind_shown j h) ∙ t.seen))

pub never_for_list : {f : SyntaxKind} {c : Context} {ns : List Name} {i j k z : Position}
    → Spelled every_rule c (thing.names ns) i j
    → Takes kind.In j k → Stuck f c class.list k z → Never f c class.list k z → Never f c class.for_range i z
never_for_list {i = i} {j} {k} {z} ns t s never n words h m (deed, x) =
    let there = shown_before j z (also (eaten (takes t)) (stuck_goes s)).words h in
    let (es, block, l, o, t', b, d) = values_range n words (no_assignment i (form ns) t) ns there x in
    never n words h o (es, moved (next_instead n words j t.taken there t'.taken) b)

pub never_for_block : {f : SyntaxKind} {c : Context} {ns : List Name} {es : List Expr} {i j k l z : Position}
    → Spelled every_rule c (thing.names ns) i j → Takes kind.In j k → Spelled every_rule c (thing.list es) k l
    → Stuck f c class.loop_block l z → Never f c class.loop_block l z → Never f c class.for_range i z
never_for_block {es = es} {i} {j} {k} {l} {z} ns t list s never n words h m (deed, x) =
    let behind = shown_before l z (stuck_goes s).words h in
    let there = shown_before j l (also (eaten (takes t)) (goes list)).words behind in
    let (es', block, k', l', t', b, d) = values_range n words (no_assignment i (form ns) t) ns there x in
    let to = again class.list es list behind (es', moved (next_instead n words j t.taken there t'.taken) b) in
    never n words h m (block, moved to d)
