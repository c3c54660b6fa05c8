-- Where the suffixes are too many, none are spelled, whatever words stand behind the next one.
use Rattle.std.proofs.Common.{◌≡◌, ◌⊎◌, inl, inr, ◌+◌, ◌<◌, ◌≤◌, Bool, true, List, [], ◌∷◌, refl, ap, ◌∙◌, subst, arith}
use Rattle.std.proofs.Math.Nat.{eq-or-lt_of_le}
use Rattle.lua_grammar.specs.declared.kinds.SyntaxKind.TheVariants as fault
use Rattle.lua_grammar.specs.declared.context.Context.{Context}
use Rattle.lua_grammar.specs.declared.expressions.Suffix.{Suffix}
use Rattle.lua_grammar.specs.Words.{begins_suffix}
use Rattle.lua_grammar.specs.Positions as at
use Rattle.lua_grammar.specs.Positions.{Position}
use Rattle.lua_grammar.specs.Stops.{up_to}
use Rattle.lua_grammar.specs.Things as thing
use Rattle.lua_grammar.specs.Grammar as by
use Rattle.lua_grammar.specs.Grammar.{Spelled}
use Rattle.lua_grammar.specs.Classes as class
use Rattle.lua_grammar.specs.Classes.{Sought, EndsInCall, AreSought}
use Rattle.lua_grammar.specs.Stuck.{HasCount, begins_call, counted}
use Rattle.lua_grammar.proofs.Continuations.{instead, EndIn}
use Rattle.lua_grammar.proofs.Inversions.{suffixes_at}
use Rattle.lua_grammar.proofs.Instead.{kind_shown}
use Rattle.lua_grammar.proofs.Kept.{suffix_kept, suffix_ends}
use Rattle.lua_grammar.proofs.NeverParts.{Never}

-- ---- the last call that the count allows

-- behind it nothing else is spelled
last_call : {c : Context} {suffix : Suffix} {rest all : List Suffix} {k z : Position} → 1000 ≤ k.suffixes
    → all ≡ suffix ∷ rest
    → EndsInCall (suffix ∷ []) → (EndsInCall all → ⊥) → Spelled (up_to 3) c (thing.suffixes rest) k z → ⊥
last_call most is (before, how, call) no_end (by.no_suffixes e) = no_end (before, how, is ∙ call)
last_call most is call no_end (by.more_suffixes h g x xs) = absurd (omega (arith, most, h))

call_short : {c : Context} {suffix : Suffix} {rest all : List Suffix} {i k z : Position}
    → (i.suffixes + 1 ≡ 1000) ⊎ (i.suffixes + 1 < 1000)
    → (EndsInCall all → ⊥) → all ≡ suffix ∷ rest → Spelled (up_to 3) c (thing.suffix suffix) (counted i) k
    → Spelled (up_to 3) c (thing.suffixes rest) k z → begins_call (at.kind i) ≡ true → i.suffixes + 1 < 1000
call_short (inr less) are is x xs calls = less
call_short {suffix = suffix} {i = i} {k} (inl most) are is x xs calls =
    let call = subst (λ (b : Bool). EndIn b (suffix ∷ [])) calls (suffix_ends x) in
    absurd (last_call (omega (arith, most, suffix_kept x)) is call are xs)

has_count : {c : Context} {suffix : Suffix} {rest all : List Suffix} {i k z : Position} (sought : Sought)
    → i.suffixes < 1000
    → AreSought sought all → all ≡ suffix ∷ rest → Spelled (up_to 3) c (thing.suffix suffix) (counted i) k
    → Spelled (up_to 3) c (thing.suffixes rest) k z → HasCount sought i
has_count class.anything short are is x xs = short
has_count class.front short are is x xs = short
has_count {i = i} class.target short are is x xs =
    (short, call_short {i = i} (eq-or-lt_of_le (omega (arith, short))) are is x xs)

count_at : (sought : Sought) (i i' : Position) → at.kind i' ≡ at.kind i → i'.suffixes ≡ i.suffixes → HasCount sought i'
    → HasCount sought i
count_at class.anything i i' w e h = omega (arith, e, h)
count_at class.front i i' w e h = omega (arith, e, h)
count_at class.target i i' w e (h, g) =
    (omega (arith, e, h), λ call. let less = g (ap begins_call w ∙ call) in omega (arith, e, less))

pub never_suffix_count : {c : Context} (sought : Sought) (i : Position) → begins_suffix (at.kind i) ≡ true
    → (HasCount sought i → ⊥)
    → Never fault.TooLong c (class.suffixes sought) i i
never_suffix_count sought i begins none n words h j ((all, are), x) =
    let (suffix, rest, k, is, short, a, b) = suffixes_at (ap begins_suffix (kind_shown i h) ∙ begins) x in
    none (count_at sought i (instead n words i) (kind_shown i h) refl
    (has_count {i = instead n words i} sought short are is a b))
