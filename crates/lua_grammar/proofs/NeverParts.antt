-- Where a reader of parts is stuck, they are not spelled, whatever words stand behind the next one.
use Rattle.std.proofs.Common.{◌≡◌, ℕ, suc, ◌≤◌, true, false, List, ◌∷◌, length, Option, Some, refl, sym, ap, ◌∙◌, subst}
use Rattle.std.proofs.Common.{arith}
use Rattle.lua_lex.specs.declared.kinds.TokenKind.{TokenKind}
use Rattle.lua_lex.specs.declared.kinds.TokenKind.TheVariants as kind
use Rattle.lua_grammar.specs.declared.kinds.SyntaxKind.{SyntaxKind}
use Rattle.lua_grammar.specs.declared.context.Context.{Context}
use Rattle.lua_grammar.specs.declared.words.Word.{Word}
use Rattle.lua_grammar.specs.Positions as at
use Rattle.lua_grammar.specs.Positions.{Position, Takes, Sees, SeesNot}
use Rattle.lua_grammar.specs.Contexts.{Rules, every_rule}
use Rattle.lua_grammar.specs.Stops.{rank, up_to}
use Rattle.lua_grammar.specs.Classes.{Class, Reads}
use Rattle.lua_grammar.specs.Productions as parts
use Rattle.lua_grammar.specs.Productions.{Part, IsPart, AreParts, Read, Production}
use Rattle.lua_grammar.specs.Stuck as stuck
use Rattle.lua_grammar.specs.Stuck.{Refuses, Stuck}
use Rattle.lua_grammar.proofs.Continuations.{instead, Shown}
use Rattle.lua_grammar.proofs.Instead.{kind_shown, line_shown, shown_next, shown_before}
use Rattle.lua_grammar.proofs.Again.{again}
use Rattle.lua_grammar.proofs.Splits.{looks_ahead, splits}
use Rattle.lua_grammar.proofs.StuckGoes.{part_goes, read_goes, stuck_goes}

-- nothing of the class is spelled from `i` by the rules up to this one, whatever words stand behind the one at `z`
abbrev pub Never : SyntaxKind → Context → Class → Position → Position → Type 0
Never f c k i z = (n : ℕ) (words : List Word) → Shown z n words → (j : Position)
    → Reads (up_to (rank f)) c k (instead n words i) j → ⊥

-- ---- what was read is read again

-- behind the next word, with other words behind
pub next_instead : (n : ℕ) (words : List Word) (i : Position) {j j' : Position} → j ≡ at.next i → Shown i n words
    → j' ≡ at.next (instead n words i) → j' ≡ instead n words j
next_instead n words i to h to' = to' ∙ shown_next i h ∙ ap (instead n words) (sym to)

-- what was read before a word of this kind is read again, and the word comes again
pub word_again : (n : ℕ) (words : List Word) {k : TokenKind} {j l j' : Position} → j' ≡ instead n words j → Takes k j l
    → Shown j n words
    → (at.kind j' ≡ Some k) × (at.next j' ≡ instead n words l)
word_again n words {j = j} to t h =
    (ap at.kind to ∙ kind_shown j h ∙ t.seen, next_instead n words j t.taken h (ap at.next to))

semicolon_again : (n : ℕ) (words : List Word) (i j j' : Position) (w : Option TokenKind) → j ≡ at.behind_semicolon w i
    → Shown i n words
    → j' ≡ at.behind_semicolon w (instead n words i) → j' ≡ instead n words j
semicolon_again n words i j j' (Some kind.Semicolon) to h to' = next_instead n words i to h to'
semicolon_again n words i j j' w to h to' = to' ∙ ap (instead n words) (sym to)

part_again : (rules : Rules) (n : ℕ) (words : List Word) (p : Part) (i j j' : Position) → IsPart every_rule p i j
    → Shown j n words
    → IsPart rules p (instead n words i) j' → j' ≡ instead n words j
part_again rules n words p i j j' x h y = go p x y (shown_before i j (part_goes p i j x).words h)
  where
    go : (p : Part) → IsPart every_rule p i j → IsPart rules p (instead n words i) j' → Shown i n words
        → j' ≡ instead n words j
    go (parts.word k) t u s = next_instead n words i t.taken s u.taken
    go parts.name (m, t) (m', u) s = next_instead n words i t.taken s u.taken
    go (parts.function_on line) (on, t) (on', u) s = next_instead n words i t.taken s u.taken
    go parts.any t u s = next_instead n words i t.taken s u.taken
    go parts.operator (short, t) (short', u) s =
        next_instead n words (record i { operators = suc i.operators }) t.taken s u.taken
    go parts.semicolon t u s =
        let same = ap (λ (w : Option TokenKind). at.behind_semicolon w (instead n words i)) (kind_shown i s) in
        semicolon_again n words i j j' (at.kind i) t.taken s (u.taken ∙ same)
    go parts.block_end (end, to) (end', to') s = to' ∙ ap (instead n words) (sym to)
    go (parts.some c k) (a, t) b s = again k a t h b

pub parts_at : (rules : Rules) (ps : List Part) (e : Position) {i i' : Position} → i ≡ i' → AreParts rules ps i e
    → AreParts rules ps i' e
parts_at rules ps e to r = subst (λ (p : Position). AreParts rules ps p e) to r

-- the parts that are left stand where those before them were read up to
pub rest_parts : (rules : Rules) (n : ℕ) (words : List Word) (e : Position) {ps rest : List Part} {i j : Position}
    → Read ps i rest j → Shown j n words
    → AreParts rules ps (instead n words i) e → AreParts rules rest (instead n words j) e
rest_parts rules n words e parts.nothing h r = r
rest_parts rules n words e (parts.more {p = p} {ps = ps} {i = i} {j = k} {k = j} x read) h (k', y, r) =
    let to = part_again rules n words p i k k' x (shown_before k j (read_goes read).words h) y in
    rest_parts rules n words e read h (parts_at rules ps e to r)

-- ---- what is refused

-- the part that is refused stands nowhere there
pub refuses : {f : SyntaxKind} {p : Part} {z : Position} (n : ℕ) (words : List Word) → Refuses f p z → Shown z n words
    → (j : Position) → IsPart (up_to (rank f)) p (instead n words z) j → ⊥
refuses {z = z} n words (stuck.no_word none) h j t = none (sym (kind_shown z h) ∙ t.seen)
refuses {z = z} n words (stuck.no_name none) h j (m, t) = none (sym (kind_shown z h) ∙ t.seen)
refuses {z = z} n words (stuck.no_end on) h j (end, to) = let same = kind_shown z h in absurd (cc (on, end, same))
refuses {z = z} n words (stuck.too_long seen most) h j (short, t) = absurd (omega (arith, most, short))

-- parts of which one is refused are not spelled
pub refused_parts : {f : SyntaxKind} {ps rest : List Part} {p : Part} {i z : Position} → Read ps i (p ∷ rest) z
    → Refuses f p z
    → (n : ℕ) (words : List Word) → Shown z n words → (e : Position)
    → AreParts (up_to (rank f)) ps (instead n words i) e → ⊥
refused_parts {f} read r n words h e parts =
    let (j, x, more) = rest_parts (up_to (rank f)) n words e read h parts in
    refuses n words r h j x

-- nor one of which a part is not spelled
pub inside_parts : (f : SyntaxKind) (z : Position) {c : Context} {k : Class} {ps rest : List Part} {i j : Position}
    → Read ps i (parts.some c k ∷ rest) j → length z.words ≤ length j.words → Never f c k j z
    → (n : ℕ) (words : List Word) → Shown z n words
    → (e : Position) → AreParts (up_to (rank f)) ps (instead n words i) e → ⊥
inside_parts f z {j = j} read le never n words h e parts =
    let (m, x, more) = rest_parts (up_to (rank f)) n words e read (shown_before j z le h) parts in
    never n words h m x

-- ---- the productions of classes

no_refusal : {f : SyntaxKind} {p : Part} {line : ℕ} {i : Position} → Refuses f p i → p ≡ parts.function_on line → ⊥
no_refusal (stuck.no_word n) e = cc e
no_refusal (stuck.no_name n) e = cc e
no_refusal (stuck.no_end on) e = cc e
no_refusal (stuck.too_long seen most) e = cc e

-- the first word of a production is there, but for that of a loop's block
seen_first : {f : SyntaxKind} {c : Context} {k : Class} {ps : List Part} {p : Part} {i : Position}
    → Production c i k (p ∷ ps) → Refuses f p i
    → looks_ahead (p ∷ ps) ≡ false
seen_first (parts.function s h) r = absurd (no_refusal r refl)
seen_first (parts.parenthesis s h) (stuck.no_word n) = absurd (n s)
seen_first (parts.member s) (stuck.no_word n) = absurd (n s)
seen_first (parts.index s h) (stuck.no_word n) = absurd (n s)
seen_first (parts.method s) (stuck.no_word n) = absurd (n s)
seen_first (parts.arguments s near m h) (stuck.no_word n) = absurd (n s)
seen_first (parts.constructor s h) (stuck.no_word n) = absurd (n s)
seen_first (parts.keyed s) (stuck.no_word n) = absurd (n s)
seen_first (parts.named s t) (stuck.no_name n) = absurd (n s)
seen_first (parts.return_values s e) (stuck.no_word n) = absurd (n s)
seen_first (parts.while_loop s h) (stuck.no_word n) = absurd (n s)
seen_first (parts.repeat_loop s h) (stuck.no_word n) = absurd (n s)
seen_first (parts.if_statement s h) (stuck.no_word n) = absurd (n s)
seen_first (parts.branches s h) (stuck.no_word n) = absurd (n s)
seen_first (parts.otherwise s h) (stuck.no_word n) = absurd (n s)
seen_first (parts.for_loop s h) (stuck.no_word n) = absurd (n s)
seen_first (parts.numeric_for s t h) (stuck.no_name n) = absurd (n s)
seen_first (parts.step s) (stuck.no_word n) = absurd (n s)
seen_first (parts.path s) (stuck.no_word n) = absurd (n s)
seen_first (parts.local_function s t h) (stuck.no_word n) = absurd (n s)
seen_first (parts.local s t) (stuck.no_word n) = absurd (n s)
seen_first (parts.values s) (stuck.no_word n) = absurd (n s)
seen_first production r = refl

-- a word was read
read_word : (p : Part) (ps : List Part) (i j : Position) → looks_ahead (p ∷ ps) ≡ true → IsPart every_rule p i j
    → j ≡ at.next i
read_word (parts.word k) ps i j e t = t.taken
read_word parts.name ps i j e (m, t) = t.taken
read_word (parts.function_on line) ps i j e (on, t) = t.taken
read_word parts.any ps i j e t = absurd (cc e)
read_word parts.operator ps i j e t = absurd (cc e)
read_word parts.semicolon ps i j e t = absurd (cc e)
read_word parts.block_end ps i j e t = absurd (cc e)
read_word (parts.some c k) ps i j e t = absurd (cc e)

-- the word behind the next one stays, too, where it is asked for
abbrev NextShown : List Part → Position → ℕ → List Word → Type 0
NextShown ps i n words = looks_ahead ps ≡ true → Shown (at.next i) n words

next_read : (p : Part) {ps rest : List Part} (i : Position) {j k : Position} (n : ℕ) (words : List Word)
    → IsPart every_rule p i j → Read ps j rest k
    → Shown k n words → NextShown (p ∷ ps) i n words
next_read p {ps} i {j = j} {k} n words x read h e =
    subst (λ (q : Position). Shown q n words) (read_word p ps i j e x) (shown_before j k (read_goes read).words h)

split_shown : {c : Context} {i : Position} {k : Class} {ps : List Part} → Production c i k ps
    → (rules : Rules) (n : ℕ) (words : List Word)
    → Shown i n words → NextShown ps i n words → (j : Position) → Reads rules c k (instead n words i) j
    → AreParts rules ps (instead n words i) j
split_shown {i = i} w rules n words h next j x =
    splits w (kind_shown i h) (line_shown i h)
    (λ e. (
      ap at.kind (shown_next i h) ∙ kind_shown (at.next i) (next e),
      ap at.line (shown_next i h)
          ∙ line_shown (at.next i) (next e),
    )) x

pub never_refused : {f : SyntaxKind} {c : Context} {k : Class} {ps rest : List Part} {p : Part} {i z : Position}
    → Production c i k ps → Read ps i (p ∷ rest) z → Refuses f p z → Never f c k i z
never_refused {f} w parts.nothing r n words h j x =
    let on = seen_first w r in
    refused_parts parts.nothing r n words h j (split_shown w (up_to (rank f)) n words h (λ e. absurd (cc (on, e))) j x)
never_refused {f} {i = i} {z} w (parts.more {p = q} y read) r n words h j x =
    let before = shown_before i z (read_goes (parts.more y read)).words h in
    refused_parts (parts.more y read) r n words h j
    (split_shown w (up_to (rank f)) n words before (next_read q i n words y read h) j x)

pub never_inside : {f : SyntaxKind} {c c' : Context} {k k' : Class} {ps rest : List Part} {i j z : Position}
    → Production c i k ps → Read ps i (parts.some c' k' ∷ rest) j → Stuck f c' k' j z → Never f c' k' j z
    → Never f c k i z
never_inside {f} {i = i} {z = z} w parts.nothing s never n words h m x =
    let before = shown_before i z (stuck_goes s).words h in
    inside_parts f z parts.nothing (stuck_goes s).words never n words h m
    (split_shown w (up_to (rank f)) n words before (λ e. absurd (cc e)) m x)
never_inside {f} {i = i} {j} {z} w (parts.more {p = q} y read) s never n words h m x =
    let there = shown_before j z (stuck_goes s).words h in
    let before = shown_before i j (read_goes (parts.more y read)).words there in
    inside_parts f z (parts.more y read) (stuck_goes s).words never n words h m
    (split_shown w (up_to (rank f)) n words before (next_read q i n words y read there) m x)
