-- Where a reader of an expression or of a list is stuck, none is spelled, whatever words stand behind the next one.
use Rattle.std.proofs.Common.{◌≡◌, ℕ, ◌≤◌, Bool, true, false, List, [], ◌∷◌, Option, Some, None, option_and_then, refl}
use Rattle.std.proofs.Common.{sym, ap, ◌∙◌, arith}
use Rattle.lua_lex.specs.declared.kinds.TokenKind.{TokenKind}
use Rattle.lua_lex.specs.declared.kinds.TokenKind.TheVariants as kind
use Rattle.lua_grammar.specs.declared.kinds.SyntaxKind.{SyntaxKind}
use Rattle.lua_grammar.specs.declared.kinds.SyntaxKind.TheVariants as fault
use Rattle.lua_grammar.specs.declared.context.Context.{Context}
use Rattle.lua_grammar.specs.declared.operators.Unary.{Unary}
use Rattle.lua_grammar.specs.declared.words.Word.{Word}
use Rattle.lua_grammar.specs.declared.expressions.Expr.{Expr}
use Rattle.lua_grammar.specs.declared.expressions.Expr.TheVariants as expr
use Rattle.lua_grammar.specs.declared.expressions.Field.{Field}
use Rattle.lua_grammar.specs.Operators.{binary_operator, unary_operator}
use Rattle.lua_grammar.specs.Words.{begins_suffix}
use Rattle.lua_grammar.specs.Positions as at
use Rattle.lua_grammar.specs.Positions.{Position, Takes, Passes, Sees, SeesNot}
use Rattle.lua_grammar.specs.Contexts.{Rules, Kept, every_rule}
use Rattle.lua_grammar.specs.Stops.{rank, up_to}
use Rattle.lua_grammar.specs.Things as thing
use Rattle.lua_grammar.specs.Grammar as by
use Rattle.lua_grammar.specs.Grammar.{Spelled}
use Rattle.lua_grammar.specs.Classes as class
use Rattle.lua_grammar.specs.Classes.{Class, Reads}
use Rattle.lua_grammar.specs.Stuck.{Stuck, IsFull, begins_simple, nests_simple, fresh}
use Rattle.lua_grammar.proofs.Continuations.{instead}
use Rattle.lua_grammar.proofs.Inversions.{moved, form, rest_at, simple_at, unkeyed_at}
use Rattle.lua_grammar.proofs.Instead.{kind_shown, sign_shown, shown_before}
use Rattle.lua_grammar.proofs.Progress.{also, eaten, takes, passes, goes}
use Rattle.lua_grammar.proofs.Again.{again}
use Rattle.lua_grammar.proofs.StuckGoes.{stuck_goes}
use Rattle.lua_grammar.proofs.NeverParts.{Never, next_instead, word_again}
use Rattle.lua_grammar.proofs.Rooms.{simple_first, constructor_room, unary_room, simple_room}

-- ---- expressions

pub never_expression : {f : SyntaxKind} {c : Context} {i z : Position} → Stuck f c (class.operand 1) (fresh i) z
    → Never f c (class.operand 1) (fresh i) z → Never f c class.expression i z
never_expression s never n words h j (e, x) = let (k, a, r) = form x in never n words h k (e, a)

pub never_unary_level : {c : Context} {order : ℕ} {by : Unary} (i : Position) → 7 ≤ order → at.sign i ≡ Some by
    → IsFull c
    → Never fault.TooDeep c (class.operand order) i i
never_unary_level i g s full n words h j (e, x) = absurd (omega (arith, full, unary_room x g (sign_shown i h ∙ s)))

pub never_simple : {c : Context} (i : Position) → begins_simple (at.kind i) ≡ false
    → Never fault.Unexpected c class.simple i i
never_simple i none n words h j (e, x) = absurd (cc (none, kind_shown i h, simple_first x))

pub never_simple_level : {c : Context} (i : Position) → nests_simple (at.kind i) ≡ true → IsFull c
    → Never fault.TooDeep c class.simple i i
never_simple_level i nests full n words h j (e, x) =
    absurd (omega (arith, full, simple_room x (ap nests_simple (kind_shown i h) ∙ nests)))

varargs_kept : {rules : Rules} {c : Context} {e : Expr} {i z : Position} → Spelled rules c (thing.simple e) i z
    → Sees kind.Dots i
    → Kept (rules fault.NoVararg) (c.varargs ≡ true)
varargs_kept x s = (simple_at s x).2

pub never_varargs : {c : Context} (i : Position) → Sees kind.Dots i → c.varargs ≡ false
    → Never fault.NoVararg c class.simple i i
never_varargs i s none n words h j (e, x) =
    let kept = varargs_kept x (kind_shown i h ∙ s) in
    absurd (cc (none, kept))

-- ---- lists of expressions, and table constructors

pub never_first_expression : {f : SyntaxKind} {c : Context} {i z : Position} → Stuck f c class.expression i z
    → Never f c class.expression i z
    → Never f c class.list i z
never_first_expression s never n words h j (es, x) = let (e, k, a, rest) = form x in never n words h k (e, a)

pub never_more_expressions : {f : SyntaxKind} {c : Context} {e : Expr} {i j k z : Position}
    → Spelled every_rule c (thing.expression e) i j
    → Takes kind.Comma j k → Stuck f c class.list k z → Never f c class.list k z → Never f c class.list i z
never_more_expressions {e = e} {j = j} {k} {z} first t s never n words h m (es, x) =
    let there = shown_before j z (also (eaten (takes t)) (stuck_goes s)).words h in
    let (e', j', a, (goes_on, ends)) = form x in
    let (seen, to) = word_again n words (again class.expression e first there (e', a)) t there in
    let (rest, is, b) = goes_on seen in
    never n words h m (rest, moved to b)

pub never_constructor_level : {c : Context} (i : Position) → IsFull c → Never fault.TooDeep c class.constructor i i
never_constructor_level i full n words h j (fields, x) = absurd (omega (arith, full, constructor_room x))

pub never_first_field : {f : SyntaxKind} {c : Context} {i z : Position} → SeesNot kind.RightBrace i
    → Stuck f c class.field i z
    → Never f c class.field i z → Never f c class.fields i z
never_first_field {i = i} {z} unseen s never n words h j (fields, x) =
    let same = kind_shown i (shown_before i z (stuck_goes s).words h) in
    let (e, k, a, rest) = (form x).1 (λ e. unseen (sym same ∙ e)) in
    never n words h k (e, a)

pub never_more_fields : {f : SyntaxKind} {c : Context} {e : Field} {i j k z : Position} → SeesNot kind.RightBrace i
    → Spelled every_rule c (thing.field e) i j → at.is_separator (at.kind j) ≡ true → Passes j k
    → Stuck f c class.fields k z
    → Never f c class.fields k z → Never f c class.fields i z
never_more_fields {f} {c} {e = e} {i} {j} {k} {z} unseen first sep p s never n words h m (fields, x) =
    let there = shown_before j z (also (passes p) (stuck_goes s)).words h in
    let same = kind_shown i (shown_before i j (goes first).words there) in
    let (e', j', a, rest) = (form x).1 (λ e. unseen (sym same ∙ e)) in
    let to = again class.field e first there (e', a) in
    let separates = ap at.is_separator (ap at.kind to ∙ kind_shown j there) ∙ sep in
    let (more, is, b) = rest_at (up_to (rank f)) c e' fields m {j = j'} {k = j'} refl separates rest in
    never n words h m (more, moved {t = thing.fields more} (next_instead n words j p.taken there (ap at.next to)) b)

-- behind the word the counts do not matter
behind_fresh : (i : Position) (words : List Word) → at.kind (at.behind (fresh i) words) ≡ at.kind (at.behind i words)
behind_fresh i [] = refl
behind_fresh i (word ∷ words) = refl

-- a name that stands before a `=` is an expression
lone_name : (rules : Rules) (c : Context) (i : Position) → Sees kind.Name i → Sees kind.Assign (at.next i)
    → (j : Position) × Spelled rules c (thing.expression (expr.Name (at.name i))) i j
lone_name rules c i s t =
    let behind : at.kind (at.next (fresh i)) ≡ Some kind.Assign = behind_fresh i i.words ∙ t in
    let none : (order : ℕ) → at.joint order (at.next (fresh i)) ≡ None =
    λ order. ap (λ (w : Option TokenKind). at.of_rank order (option_and_then binary_operator w)) behind in
    let head : Spelled rules c (thing.head (expr.Name (at.name i))) (fresh i) (at.next (fresh i)) =
    by.name (record { seen = s; name_is = refl; taken = refl }) in
    let simple : Spelled rules c (thing.simple (expr.Name (at.name i))) (fresh i) (at.next (fresh i)) =
    by.prefix (by.chain head (by.no_suffixes (ap begins_suffix behind))) in
    let unsigned : at.sign (fresh i) ≡ None = ap (λ (w : Option TokenKind). option_and_then unary_operator w) s in
    let power : Spelled rules c (thing.operand 7 (expr.Name (at.name i))) (fresh i) (at.next (fresh i)) =
    by.power unsigned simple (by.no_links (none 7)) in
    let times = by.operands {rank = 6} (omega arith) power (by.no_links (none 6)) in
    let plus = by.operands {rank = 5} (omega arith) times (by.no_links (none 5)) in
    let concat = by.operands {rank = 4} (omega arith) plus (by.no_links (none 4)) in
    let compare = by.operands {rank = 3} (omega arith) concat (by.no_links (none 3)) in
    let both = by.operands {rank = 2} (omega arith) compare (by.no_links (none 2)) in
    let either = by.operands {rank = 1} (omega arith) both (by.no_links (none 1)) in
    (_, by.expression (record { begun = refl }) either (record { resumed = refl }))

-- a name with `=` behind it
named_is : (v w : Option TokenKind) → at.is_named v w ≡ true → (v ≡ Some kind.Name) × (w ≡ Some kind.Assign)
named_is (Some kind.Name) (Some kind.Assign) e = (refl, refl)
named_is v w e = absurd (cc)

plain_by : (rules : Rules) {c : Context} {e : Field} {i j : Position} (named : Bool) → at.names_field i ≡ named
    → SeesNot kind.LeftBracket i
    → ((k : Position) → Reads rules c class.expression i k → ⊥) → Spelled rules c (thing.field e) i j → ⊥
plain_by rules {c} {i = i} true named unseen none x =
    let (name, assign) = named_is (at.kind i) (at.kind (at.next i)) named in
    let (k, a) = lone_name rules c i name assign in
    none k (_, a)
plain_by rules false named unseen none x = let (e, is, a) = unkeyed_at named unseen x in none _ (e, a)

pub never_plain : {f : SyntaxKind} {c : Context} {i z : Position} → SeesNot kind.LeftBracket i
    → Stuck f c class.expression i z
    → Never f c class.expression i z → Never f c class.field i z
never_plain {f} {i = i} {z} unseen s never n words h j (e, x) =
    let same = kind_shown i (shown_before i z (stuck_goes s).words h) in
    plain_by (up_to (rank f)) (at.names_field (instead n words i)) refl (λ e. unseen (sym same ∙ e)) (never n words h) x
