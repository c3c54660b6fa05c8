-- Where a reader of a name or a parenthesis and its suffixes is stuck, none is spelled, whatever words stand behind the
-- next one.
use Rattle.std.proofs.Common.{◌≡◌, true, false, List, ◌∷◌, sym, ap, ◌∙◌, arith}
use Rattle.lua_lex.specs.declared.kinds.TokenKind.TheVariants as kind
use Rattle.lua_grammar.specs.declared.kinds.SyntaxKind.{SyntaxKind}
use Rattle.lua_grammar.specs.declared.kinds.SyntaxKind.TheVariants as fault
use Rattle.lua_grammar.specs.declared.context.Context.{Context}
use Rattle.lua_grammar.specs.declared.expressions.Expr.{Expr}
use Rattle.lua_grammar.specs.declared.expressions.Suffix.{Suffix}
use Rattle.lua_grammar.specs.Words.{begins_suffix}
use Rattle.lua_grammar.specs.Positions as at
use Rattle.lua_grammar.specs.Positions.{Position, Sees, IsNear}
use Rattle.lua_grammar.specs.Contexts.{every_rule}
use Rattle.lua_grammar.specs.Things as thing
use Rattle.lua_grammar.specs.Grammar.{Spelled}
use Rattle.lua_grammar.specs.Classes as class
use Rattle.lua_grammar.specs.Classes.{Sought, EndsInCall, AreSought, IsSought}
use Rattle.lua_grammar.specs.Productions.{begins_chain, begins_arguments}
use Rattle.lua_grammar.specs.Stuck.{Stuck, IsFull, nests_simple, nests_suffix, fresh, counted}
use Rattle.lua_grammar.proofs.FirstWords.{first_word}
use Rattle.lua_grammar.proofs.Inversions.{moved, form, suffixes_at}
use Rattle.lua_grammar.proofs.Instead.{kind_shown, line_shown, shown_before}
use Rattle.lua_grammar.proofs.Again.{again}
use Rattle.lua_grammar.proofs.Progress.{goes}
use Rattle.lua_grammar.proofs.StuckGoes.{stuck_goes}
use Rattle.lua_grammar.proofs.NeverParts.{Never}
use Rattle.lua_grammar.proofs.Rooms.{head_room, arguments_room, suffix_room, arguments_near, suffix_near}
use Rattle.lua_grammar.proofs.Rooms.{nested_suffixes_begin}

-- ---- heads and chains

pub never_head : {c : Context} (i : Position) → begins_chain (at.kind i) ≡ false
    → Never fault.Unexpected c class.head i i
never_head i none n words h j (e, x) =
    absurd (cc (none, kind_shown i h, first_word x))

pub never_head_level : {c : Context} (i : Position) → Sees kind.LeftParen i → IsFull c
    → Never fault.TooDeep c class.head i i
never_head_level i s full n words h j (e, x) =
    absurd (omega (arith, full, head_room x (ap nests_simple (kind_shown i h ∙ s))))

pub never_chain_head : {f : SyntaxKind} {c : Context} (sought : Sought) {i z : Position} → Stuck f c class.head i z
    → Never f c class.head i z → Never f c (class.chain sought) i z
never_chain_head sought s never n words h j (e, x) = let (k, a, b) = form x in never n words h k (_, a)

suffixes_sought : (sought : Sought) (e : Expr) (all : List Suffix) → IsSought sought e all → AreSought sought all
suffixes_sought class.anything e all is = tt
suffixes_sought class.front e all is = tt
suffixes_sought class.target e all is = is.1

pub never_chain_suffixes : {f : SyntaxKind} {c : Context} {sought : Sought} {e : Expr} {i j z : Position}
    → Spelled every_rule c (thing.head e) i j → Stuck f c (class.suffixes sought) j z
    → Never f c (class.suffixes sought) j z
    → Never f c (class.chain sought) i z
never_chain_suffixes {sought = sought} {e} {j = j} {z} head s never n words h m ((e', all, is), x) =
    let (k, a, b) = form x in
    let to = again class.head e head (shown_before j z (stuck_goes s).words h) (e', a) in
    never n words h m ((all, suffixes_sought sought e' all is), moved to b)

pub never_own_chain : {f : SyntaxKind} {c : Context} {sought : Sought} {i z : Position}
    → Stuck f c (class.chain sought) (fresh i) z
    → Never f c (class.chain sought) (fresh i) z → Never f c (class.own_chain sought) i z
never_own_chain s never n words h j (e, x) = let (k, a, r) = form x in never n words h k (e, a)

-- ---- suffixes

pub never_suffix_line : {c : Context} (sought : Sought) (i : Position) → Sees kind.LeftParen i → (IsNear i → ⊥)
    → Never fault.Ambiguous c (class.suffixes sought) i i
never_suffix_line sought i s far n words h j ((all, is), x) =
    let seen = kind_shown i h ∙ s in
    let (suffix, rest, k, is', short, a, b) = suffixes_at (ap begins_suffix seen) x in
    let near = suffix_near a seen in
    far (sym (line_shown i h) ∙ near)

pub never_suffix_level : {c : Context} (sought : Sought) (i : Position) → nests_suffix (at.kind i) ≡ true → IsFull c
    → Never fault.TooDeep c (class.suffixes sought) i i
never_suffix_level sought i nests full n words h j ((all, is), x) =
    let nests' = ap nests_suffix (kind_shown i h) ∙ nests in
    let (suffix, rest, k, is', short, a, b) = suffixes_at (nested_suffixes_begin _ nests') x in
    absurd (omega (arith, full, suffix_room a nests'))

pub never_suffix : {f : SyntaxKind} {c : Context} (sought : Sought) {i z : Position} → begins_suffix (at.kind i) ≡ true
    → Stuck f c class.suffix (counted i) z → Never f c class.suffix (counted i) z
    → Never f c (class.suffixes sought) i z
never_suffix sought {i = i} {z} begins s never n words h j ((all, is), x) =
    let same = kind_shown (counted i) (shown_before (counted i) z (stuck_goes s).words h) in
    let (suffix, rest, k, is', short, a, b) = suffixes_at (ap begins_suffix same ∙ begins) x in
    never n words h k (suffix, a)

-- what follows the first of suffixes that are sought is sought
rest_sought : (sought : Sought) {suffix : Suffix} {rest all : List Suffix} → all ≡ suffix ∷ rest → AreSought sought all
    → AreSought sought rest
rest_sought class.anything is are = tt
rest_sought class.front is are = tt
rest_sought class.target {suffix = suffix} is are =
    λ (before, how, e). are (suffix ∷ before, how, is ∙ ap (λ (xs : List Suffix). suffix ∷ xs) e)

pub never_suffixes : {f : SyntaxKind} {c : Context} {sought : Sought} {one : Suffix} {i j z : Position}
    → begins_suffix (at.kind i) ≡ true
    → Spelled every_rule c (thing.suffix one) (counted i) j → Stuck f c (class.suffixes sought) j z
    → Never f c (class.suffixes sought) j z
    → Never f c (class.suffixes sought) i z
never_suffixes {sought = sought} {one} {i} {j} {z} begins first s never n words h m ((all, are), x) =
    let there = shown_before j z (stuck_goes s).words h in
    let same = kind_shown (counted i) (shown_before (counted i) j (goes first).words there) in
    let (suffix, rest, k, is, short, a, b) = suffixes_at (ap begins_suffix same ∙ begins) x in
    let to = again class.suffix one first there (suffix, a) in
    never n words h m ((rest, rest_sought sought is are), moved to b)

-- ---- arguments

pub never_arguments : {c : Context} (i : Position) → begins_arguments (at.kind i) ≡ false
    → Never fault.Unexpected c class.arguments i i
never_arguments i none n words h j (es, x) =
    absurd (cc (none, kind_shown i h, first_word x))

pub never_arguments_line : {c : Context} (i : Position) → Sees kind.LeftParen i → (IsNear i → ⊥)
    → Never fault.Ambiguous c class.arguments i i
never_arguments_line i s far n words h j (es, x) =
    let near = arguments_near x (kind_shown i h ∙ s) in
    far (sym (line_shown i h) ∙ near)

pub never_arguments_level : {c : Context} (i : Position) → nests_suffix (at.kind i) ≡ true → IsFull c
    → Never fault.TooDeep c class.arguments i i
never_arguments_level i nests full n words h j (es, x) =
    absurd (omega (arith, full, arguments_room x (ap nests_suffix (kind_shown i h) ∙ nests)))
