-- Positions with other words at their end, and what may follow a thing.
use Rattle.std.proofs.Common.{◌≡◌, ◌≢◌, ◌⊎◌, ℕ, suc, ◌-◌, ◌<◌, Bool, true, false, List, [], ◌∷◌, ◌++◌, length, take}
use Rattle.std.proofs.Common.{Option, Some, None, option_and_then}
use Rattle.lua_lex.specs.declared.kinds.TokenKind.{TokenKind}
use Rattle.lua_lex.specs.declared.kinds.TokenKind.TheVariants as kind
use Rattle.lua_grammar.specs.declared.kinds.SyntaxKind.{SyntaxKind}
use Rattle.lua_grammar.specs.declared.context.Context.{Context}
use Rattle.lua_grammar.specs.declared.words.Word.{Word}
use Rattle.lua_grammar.specs.declared.expressions.Expr.{Expr}
use Rattle.lua_grammar.specs.declared.expressions.Suffix.{Suffix}
use Rattle.lua_grammar.specs.declared.expressions.Suffix.TheVariants as suffix_of
use Rattle.lua_grammar.specs.declared.expressions.Key.{Key}
use Rattle.lua_grammar.specs.Operators.{binary_operator}
use Rattle.lua_grammar.specs.Words.{begins_suffix, ends_block}
use Rattle.lua_grammar.specs.Positions as at
use Rattle.lua_grammar.specs.Positions.{Position}
use Rattle.lua_grammar.specs.Contexts.{Rules, every_rule}
use Rattle.lua_grammar.specs.Stops.{rank, up_to}
use Rattle.lua_grammar.specs.Things as thing
use Rattle.lua_grammar.specs.Things.{Thing}
use Rattle.lua_grammar.specs.Grammar.{Spelled}
use Rattle.lua_grammar.specs.Classes as class
use Rattle.lua_grammar.specs.Classes.{Class, Tree, thing_of, Reads, EndsInCall, IsName}

-- the position with these words in place of its last n
abbrev pub instead : ℕ → List Word → Position → Position
instead n words i = record i { words = take (length i.words - n) i.words ++ words }

-- the kind of the first of these words
abbrev pub lead : List Word → Option TokenKind
lead words = at.kind_of (at.first_of words)

-- the word that comes next at `i`, or that none comes, stays
abbrev pub Shown : Position → ℕ → List Word → Type 0
Shown i n words = (n < length i.words) ⊎ ((n ≡ 0) × (words ≡ []))

abbrev pub EndsOperand : Option TokenKind → Type 0
EndsOperand w = (begins_suffix w ≡ false) × (option_and_then binary_operator w ≡ None)

abbrev pub EndsList : Option TokenKind → Type 0
EndsList w = EndsOperand w × (w ≢ Some kind.Comma)

-- a word of this kind, or the end of the text, may come behind the thing, and does not go on with it
abbrev pub Follows : Thing → Option TokenKind → Type 0
Follows (thing.expression x) w = EndsOperand w
Follows (thing.operand rank x) w = EndsOperand w
Follows (thing.links rank x) w = EndsOperand w
Follows (thing.simple x) w = EndsOperand w
Follows (thing.head x) w = Unit {0}
Follows (thing.chain x y) w = EndsOperand w
Follows (thing.own_chain x y) w = EndsOperand w
Follows (thing.suffixes x) w = EndsOperand w
Follows (thing.suffix x) w = Unit {0}
Follows (thing.arguments x) w = Unit {0}
Follows (thing.list x) w = EndsList w
Follows (thing.constructor x) w = Unit {0}
Follows (thing.fields x) w = w ≡ Some kind.RightBrace
Follows (thing.field x) w = w ≡ Some kind.RightBrace
Follows (thing.names x) w = w ≢ Some kind.Comma
Follows (thing.parameters x y) w = w ≡ Some kind.RightParen
Follows (thing.function_body line method x) w = Unit {0}
Follows (thing.block x) w = ends_block w ≡ true
Follows (thing.statement x) w = ends_block w ≡ true
Follows (thing.deed x) w = ends_block w ≡ true
Follows (thing.last x) w = ends_block w ≡ true
Follows (thing.last_deed x) w = ends_block w ≡ true
Follows (thing.loop_block x) w = Unit {0}
Follows (thing.branches x) w = w ≡ Some kind.End
Follows (thing.branch x) w = w ≡ Some kind.End
Follows (thing.otherwise x) w = w ≡ Some kind.End
Follows (thing.for_range x) w = Unit {0}
Follows (thing.step x) w = w ≡ Some kind.Do
Follows (thing.path x) w = (w ≢ Some kind.Dot) × (w ≢ Some kind.Colon)
Follows (thing.values x) w = ends_block w ≡ true
Follows (thing.targets x) w = EndsList w
Follows (thing.target x) w = EndsOperand w

-- behind whatever is of this class
abbrev pub MayFollow : Class → Option TokenKind → Type 0
MayFollow k w = (x : Tree k) → Follows (thing_of k x) w

-- which words are seen of a text that stops at z, and by which rules they are read: those before the stop by every
-- rule;
-- with the word at fault, by those whose kind of fault is looked for before the one at hand
pub data Mode (f : SyntaxKind) (z : Position) : Rules → ℕ → Type 0 where
  before : Mode f z every_rule (length z.words)
  with_word : {m n : ℕ} → rank f ≡ suc m → suc n ≡ length z.words → Mode f z (up_to m) n

-- the words of `i` but the last n can go on to something of this class, with whatever may follow it behind
abbrev pub GoesOn : Rules → Context → Class → ℕ → Position → Type 0
GoesOn rules c k n i = (t : List Word) → MayFollow k (lead t)
    → (more : List Word) × (j : Position) × Reads rules c k (instead n (more ++ t) i) j × (j.words ≡ t)

abbrev pub EndsInKey : List Suffix → Type 0
EndsInKey all = (suffixes : List Suffix) × (k : Key) × (all ≡ suffixes ++ suffix_of.Key k ∷ [])

-- whether suffixes end in a call, or in a key
abbrev pub EndIn : Bool → List Suffix → Type 0
EndIn true all = EndsInCall all
EndIn false all = EndsInKey all

-- a call, or what can be assigned to
abbrev pub EndsAs : Bool → Expr → List Suffix → Type 0
EndsAs true e all = EndsInCall all
EndsAs false e all = (IsName e × (all ≡ [])) ⊎ EndsInKey all

-- the same of the front of a statement: it is known whether it goes on to a call
abbrev pub SuffixesGoOn : Rules → Context → Bool → ℕ → Position → Type 0
SuffixesGoOn rules c call n i = (t : List Word) → EndsOperand (lead t) → (more : List Word) × (all : List Suffix)
    × (j : Position)
    × Spelled rules c (thing.suffixes all) (instead n (more ++ t) i) j × (j.words ≡ t) × EndIn call all

abbrev pub ChainGoesOn : Rules → Context → Bool → ℕ → Position → Type 0
ChainGoesOn rules c call n i = (t : List Word) → EndsOperand (lead t)
    → (more : List Word) × (e : Expr) × (all : List Suffix) × (j : Position)
    × Spelled rules c (thing.chain e all) (instead n (more ++ t) i) j × (j.words ≡ t) × EndsAs call e all

abbrev pub OwnChainGoesOn : Rules → Context → Bool → ℕ → Position → Type 0
OwnChainGoesOn rules c call n i = (t : List Word) → EndsOperand (lead t)
    → (more : List Word) × (e : Expr) × (all : List Suffix) × (j : Position)
    × Spelled rules c (thing.own_chain e all) (instead n (more ++ t) i) j × (j.words ≡ t) × EndsAs call e all

-- what is shown of a class by induction
abbrev pub Goal : Rules → Context → Class → ℕ → Position → Type 0
Goal rules c (class.suffixes class.anything) n i = GoesOn rules c (class.suffixes class.anything) n i
Goal rules c (class.suffixes class.front) n i = (call : Bool) × SuffixesGoOn rules c call n i
Goal rules c (class.suffixes class.target) n i = SuffixesGoOn rules c false n i
Goal rules c (class.chain class.anything) n i = GoesOn rules c (class.chain class.anything) n i
Goal rules c (class.chain class.front) n i = i.suffixes ≡ 0 → (call : Bool) × ChainGoesOn rules c call n i
Goal rules c (class.chain class.target) n i = i.suffixes ≡ 0 → ChainGoesOn rules c false n i
Goal rules c (class.own_chain class.anything) n i = GoesOn rules c (class.own_chain class.anything) n i
Goal rules c (class.own_chain class.front) n i = (call : Bool) × OwnChainGoesOn rules c call n i
Goal rules c (class.own_chain class.target) n i = OwnChainGoesOn rules c false n i
Goal rules c k n i = GoesOn rules c k n i
