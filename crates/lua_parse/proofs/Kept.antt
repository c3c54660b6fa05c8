-- Names and parentheses with their suffixes: what their words tell, and what their suffixes leave of the count.
use Rattle.std.proofs.Common.{◌≡◌, ◌≢◌, ℕ, suc, ◌+◌, ◌<◌, ◌≤◌, Bool, true, false, if◌then◌else◌, List, [], ◌∷◌}
use Rattle.std.proofs.Common.{◌++◌, Option, Some, Result, Ok, Err, MatchResult, refl, sym, ap, ◌∙◌, subst, arith}
use Rattle.std.proofs.lemmas.List.{same_from_push}
use Rattle.lua_lex.specs.declared.kinds.TokenKind.{TokenKind}
use Rattle.lua_lex.specs.declared.kinds.TokenKind.TheVariants as kind
use Rattle.lua_grammar.specs.declared.kinds.SyntaxKind.{SyntaxKind}
use Rattle.lua_grammar.specs.declared.kinds.SyntaxKind.TheVariants as fault
use Rattle.lua_grammar.specs.declared.context.Context.{Context}
use Rattle.lua_grammar.specs.declared.expressions.Name.{Name}
use Rattle.lua_grammar.specs.declared.expressions.Expr.{Expr}
use Rattle.lua_grammar.specs.declared.expressions.Call.{Call}
use Rattle.lua_grammar.specs.declared.expressions.Suffix.{Suffix}
use Rattle.lua_grammar.specs.declared.expressions.Suffix.TheVariants as suffix_of
use Rattle.lua_grammar.specs.declared.expressions.Field.{Field}
use Rattle.lua_grammar.specs.Words.{begins_suffix}
use Rattle.lua_grammar.specs.Positions as at
use Rattle.lua_grammar.specs.Positions.{Position, CountsSuffix}
use Rattle.lua_grammar.specs.Contexts.{every_rule}
use Rattle.lua_grammar.specs.Things as thing
use Rattle.lua_grammar.specs.Grammar as rule
use Rattle.lua_grammar.specs.Grammar.{Spelled}
use Rattle.lua_grammar.specs.Classes as class
use Rattle.lua_grammar.specs.Classes.{Sought}
use Rattle.lua_grammar.specs.Productions.{begins_chain, begins_arguments}
use Rattle.lua_grammar.specs.Stuck as stuck
use Rattle.lua_grammar.specs.Stuck.{Stuck, HasCount, IsNearCall, begins_call, nests_suffix}
use Rattle.lua_grammar.proofs.Ends.{nothing_is_end}
use Rattle.lua_grammar.proofs.Kept.{suffix_kept}
use Rattle.lua_parse.specs.declared.stops.Halt.{Halt}
use Rattle.lua_parse.specs.declared.stops.Halt.TheVariants as halt
use Rattle.lua_parse.specs.Halts.{IsRefused}
use Rattle.lua_parse.specs.Sought.{spares}
use Rattle.lua_parse.specs.Nests.{IsSpared, IsCounted, HasSuffixRoom, spared_behind}
use Rattle.lua_parse.proofs.Leads.{Leads, none_yet, one_more}
use Rattle.lua_parse.proofs.Passed.{faulty}

-- ---- words

pub no_chain : (w : Option TokenKind) → w ≢ Some kind.LeftParen → w ≢ Some kind.Name → begins_chain w ≡ false
no_chain (Some kind.LeftParen) a b = absurd (a refl)
no_chain (Some kind.Name) a b = absurd (b refl)
no_chain w a b = refl

pub no_arguments : (w : Option TokenKind) → w ≢ Some kind.LeftParen → w ≢ Some kind.LeftBrace → w ≢ Some kind.Text
    → begins_arguments w ≡ false
no_arguments (Some kind.LeftParen) a b d = absurd (a refl)
no_arguments (Some kind.LeftBrace) a b d = absurd (b refl)
no_arguments (Some kind.Text) a b d = absurd (d refl)
no_arguments w a b d = refl

-- a suffix that begins with none of these words begins with arguments
pub plain_call : (w : Option TokenKind) → begins_suffix w ≡ true → w ≢ Some kind.Dot → w ≢ Some kind.LeftBracket
    → w ≢ Some kind.Colon
    → begins_arguments w ≡ true
plain_call (Some kind.Dot) h a b d = absurd (a refl)
plain_call (Some kind.LeftBracket) h a b d = absurd (b refl)
plain_call (Some kind.Colon) h a b d = absurd (d refl)
plain_call (Some kind.LeftParen) h a b d = refl
plain_call (Some kind.LeftBrace) h a b d = refl
plain_call (Some kind.Text) h a b d = refl
plain_call w h a b d = absurd (cc)

-- ---- the first word of a call

constructor_calls : {c : Context} {fields : List Field} {i j : Position}
    → Spelled every_rule c (thing.constructor fields) i j
    → begins_call (at.kind i) ≡ true
constructor_calls (rule.constructor t r x u) = ap begins_call t.seen

arguments_call : {c : Context} {es : List Expr} {i j : Position} → Spelled every_rule c (thing.arguments es) i j
    → begins_call (at.kind i) ≡ true
arguments_call (rule.no_arguments t n r u) = ap begins_call t.seen
arguments_call (rule.arguments t n r x u) = ap begins_call t.seen
arguments_call (rule.table_argument x) = constructor_calls x
arguments_call (rule.text_argument t) = ap begins_call t.seen

call_begins : {c : Context} {suffix : Suffix} {how : Call} {i j : Position}
    → Spelled every_rule c (thing.suffix suffix) i j
    → suffix ≡ suffix_of.Call how → begins_call (at.kind i) ≡ true
call_begins (rule.member t n) e = absurd (cc)
call_begins (rule.index t r x u) e = absurd (cc)
call_begins (rule.call x) e = arguments_call x
call_begins (rule.method t n x) e = ap begins_call t.seen

-- ---- what the first word of a suffix is refused for before the count

-- where nothing but the level can be
pub has_room : {A : Type 0} (c : Context) (i : Position) (result : Result A Halt) → IsNearCall i
    → nests_suffix (at.kind i) ≡ true
    → MatchResult result (λ x. c.level < 60) (λ r. (r ≡ halt.Syntax fault.TooDeep) × (60 ≤ c.level))
    → MatchResult result (λ x. HasSuffixRoom c i) (λ r. (sought : Sought) → IsRefused r c (class.suffixes sought) i i)
has_room c i (Ok x) near nests level = record { near = near; level = λ n. level }
has_room c i (Err r) near nests full = λ sought. faulty _ _ _ _ _ _ full.0 (stuck.suffix_level nests near full.1)

-- the words stay as they are where a suffix is counted
pub counted_room : {c : Context} {i : Position} → HasSuffixRoom c i
    → HasSuffixRoom c (record i { suffixes = suc i.suffixes })
counted_room room = record { near = room.near; level = room.level }

-- ---- the count of suffixes

spares_few : (sought : Sought) → spares sought ≤ 1
spares_few class.anything = omega arith
spares_few class.front = omega arith
spares_few class.target = omega arith

pub spared_few : (w : Option TokenKind) (sought : Sought) → spared_behind w sought ≤ 1
spared_few w sought = few (begins_call w)
  where
    few : (b : Bool) → (if b then spares sought else 0) ≤ 1
    few true = spares_few sought
    few false = omega arith

left_behind : (w : Option TokenKind) (sought : Sought) → begins_call w ≡ true → spared_behind w sought ≡ spares sought
left_behind w sought e = ap (λ (b : Bool). if b then spares sought else 0) e

pub short : (sought : Sought) (i : Position) → HasCount sought i → i.suffixes < 1000
short class.anything i h = h
short class.front i h = h
short class.target i h = h.0

pub has_count : (i : Position) (sought : Sought) → i.suffixes < 1000
    → i.suffixes + spared_behind (at.kind i) sought < 1000 → HasCount sought i
has_count i class.anything less fits = less
has_count i class.front less fits = less
has_count i class.target less fits = (less, λ call. omega (arith, left_behind (at.kind i) class.target call, fits))

pub lacks_count : (i : Position) (sought : Sought) → 1000 ≤ i.suffixes + spared_behind (at.kind i) sought
    → HasCount sought i → ⊥
lacks_count i sought long h = by_call (begins_call (at.kind i)) refl
  where
    called : (sought : Sought) → HasCount sought i → begins_call (at.kind i) ≡ true
        → i.suffixes + spares sought < 1000
    called class.anything h call = omega (arith, h)
    called class.front h call = omega (arith, h)
    called class.target h call = omega (arith, h.1 call)

    by_call : (b : Bool) → begins_call (at.kind i) ≡ b → ⊥
    by_call true call = omega (arith, long, left_behind (at.kind i) sought call, called sought h call)
    by_call false call =
        let none : spared_behind (at.kind i) sought ≡ 0 = ap (λ (b : Bool). if b then spares sought else 0) call in
        omega (arith, long, none, short sought i h)

-- behind a call a suffix is left, where one is spared
pub spared_one : {c : Context} {suffix : Suffix} (sought : Sought) (i j : Position) {k : Position} → CountsSuffix i j
    → i.suffixes + spared_behind (at.kind i) sought < 1000 → Spelled every_rule c (thing.suffix suffix) j k
    → IsSpared sought (suffix ∷ []) k
spared_one {c} {suffix} sought i j n fits x = λ one ends.
    let call : begins_call (at.kind j) ≡ true =
    call_begins x (same_from_push [] ends.0 suffix (suffix_of.Call ends.1) ends.2).1 in
    let call_here : begins_call (at.kind i) ≡ true = ap (λ (p : Position). begins_call (at.kind p)) (sym n.counted)
    ∙ call in
    let more : j.suffixes ≡ suc i.suffixes = ap (λ (p : Position). p.suffixes) n.counted in
    let spares_one : spares sought ≡ 1 = ap spares one in
    omega (arith, spares_one, left_behind (at.kind i) sought call_here, fits, suffix_kept x, more)

-- ---- suffixes that a loop reads

pub record SuffixesLead (c : Context) (sought : Sought) (done : List Suffix) (i j : Position) : Type 0 where
  pub leads : Leads Suffix thing.suffixes (class.suffixes sought) c done i j
  pub few : IsSpared sought done j

pub no_suffix_yet : {c : Context} {sought : Sought} {i : Position} → SuffixesLead c sought [] i i
no_suffix_yet = record { leads = none_yet; few = λ one ends. absurd (nothing_is_end ends.0 _ ends.2) }

spelled_behind : {c : Context} {suffix : Suffix} {f : SyntaxKind} (sought : Sought) (i j : Position) {k z : Position}
    → begins_suffix (at.kind i) ≡ true → HasCount sought i → CountsSuffix i j
    → Spelled every_rule c (thing.suffix suffix) j k
    → Stuck f c (class.suffixes sought) k z → Stuck f c (class.suffixes sought) i z
spelled_behind {c} {suffix} sought i j {k} begins room n x s =
    stuck.suffixes begins room (subst (λ (p : Position). Spelled every_rule c (thing.suffix suffix) p k) n.counted x) s

pub one_more_suffix : {c : Context} {sought : Sought} {done longer : List Suffix} {suffix : Suffix} {i j k : Position}
    → SuffixesLead c sought done i j
    → longer ≡ done ++ suffix ∷ [] → begins_suffix (at.kind j) ≡ true → IsCounted c sought suffix j k
    → SuffixesLead c sought longer i k
one_more_suffix {c} {sought} {done} {longer} {suffix} {i} {j} {k} l e begins s = record {
  leads = one_more l.leads e
      (λ rest end more. rule.more_suffixes (short sought j s.room) s.counts s.spelled more)
      (λ f z x. spelled_behind sought j s.counted begins s.room s.counts s.spelled x);
  few = λ one ends. s.few one (
    [],
    ends.1,
    ap (λ (x : Suffix). x ∷ []) (same_from_push done ends.0 suffix (suffix_of.Call ends.1) (sym e ∙ ends.2)).1,
  );
}
