-- The shortest words that spell a part.
use Rattle.std.proofs.Common.{◌≡◌, ◌≢◌, ℕ, zero, suc, ◌+◌, ◌-◌, ◌≤◌, Bool, true, false, List, [], ◌∷◌, ◌++◌, Some, None}
use Rattle.std.proofs.Common.{option_and_then, refl, sym, ap, ◌∙◌, subst, arith}
use Rattle.lua_lex.specs.declared.kinds.TokenKind.{TokenKind}
use Rattle.lua_lex.specs.declared.kinds.TokenKind.TheVariants as kind
use Rattle.lua_grammar.specs.declared.context.Context.{Context}
use Rattle.lua_grammar.specs.declared.words.Word.{Word}
use Rattle.lua_grammar.specs.declared.expressions.Expr.{Expr}
use Rattle.lua_grammar.specs.declared.expressions.Expr.TheVariants as expr
use Rattle.lua_grammar.specs.Operators.{binary_operator}
use Rattle.lua_grammar.specs.Words.{begins_suffix, ends_block}
use Rattle.lua_grammar.specs.Positions as at
use Rattle.lua_grammar.specs.Positions.{Position, Takes, TakesName, Sees, SeesNot}
use Rattle.lua_grammar.specs.Contexts.{Rules, HasRoom}
use Rattle.lua_grammar.specs.Things as thing
use Rattle.lua_grammar.specs.Grammar as by
use Rattle.lua_grammar.specs.Grammar.{Spelled}
use Rattle.lua_grammar.specs.Classes as class
use Rattle.lua_grammar.specs.Classes.{Class, Reads}
use Rattle.lua_grammar.specs.Productions as part
use Rattle.lua_grammar.specs.Productions.{Part}
use Rattle.lua_grammar.specs.Stuck.{fresh}
use Rattle.lua_grammar.specs.declared.expressions.Name.{Name}
use Rattle.lua_grammar.proofs.Continuations.{lead, EndsOperand, EndsList}
use Rattle.lua_grammar.proofs.Unique.{resumed}

-- ---- words

-- a word of this kind
abbrev pub word_of : TokenKind → Word
word_of k = record { kind = k; text = 0; line = 0; start = 0 }

-- the word `function` on this line
abbrev pub function_on : ℕ → Word
function_on line = record { kind = kind.Function; text = 0; line = line; start = 0 }

abbrev pub nil_words : List Word
nil_words = word_of kind.Nil ∷ []

abbrev pub name_words : List Word
name_words = word_of kind.Name ∷ []

-- ( ) end
abbrev pub body_words : List Word
body_words = word_of kind.LeftParen ∷ word_of kind.RightParen ∷ word_of kind.End ∷ []

-- do end
abbrev pub loop_words : List Word
loop_words = word_of kind.Do ∷ word_of kind.End ∷ []

-- nil then
abbrev pub branch_words : List Word
branch_words = word_of kind.Nil ∷ word_of kind.Then ∷ []

-- in nil do end
abbrev pub in_words : List Word
in_words = word_of kind.In ∷ nil_words ++ loop_words

-- Name in nil do end
abbrev pub range_words : List Word
range_words = word_of kind.Name ∷ in_words

-- the shortest words of a class, where it stands unread in a production
abbrev pub least_of : Class → List Word
least_of class.expression = nil_words
least_of (class.operand rank) = nil_words
least_of class.simple = nil_words
least_of class.list = nil_words
least_of class.head = name_words
least_of (class.chain sought) = name_words
least_of class.arguments = word_of kind.Text ∷ []
least_of class.names = name_words
least_of (class.function_body line method) = body_words
least_of class.loop_block = loop_words
least_of class.branch = branch_words
least_of class.for_range = range_words
least_of k = []

abbrev pub least : Part → List Word
least (part.word k) = word_of k ∷ []
least part.name = name_words
least (part.function_on line) = function_on line ∷ []
least (part.some c k) = least_of k
least p = []

-- ---- steps

pub front_kind : (i : Position) {w : Word} {t : List Word} → i.words ≡ w ∷ t → at.kind i ≡ Some w.kind
front_kind i e = ap (λ (ws : List Word). at.kind_of (at.first_of ws)) e

pub front_line : (i : Position) {w : Word} {t : List Word} → i.words ≡ w ∷ t → at.line i ≡ w.line
front_line i e = ap (λ (ws : List Word). (at.name_of (at.first_of ws)).line) e

pub next_words : (i : Position) {w : Word} {t : List Word} → i.words ≡ w ∷ t → (at.next i).words ≡ t
next_words i e = ap (λ (ws : List Word). (at.behind i ws).words) e

pub lead_is : (i : Position) {t : List Word} → i.words ≡ t → at.kind i ≡ lead t
lead_is i e = ap lead e

pub takes_front : (i : Position) {w : Word} {t : List Word} → i.words ≡ w ∷ t → Takes w.kind i (at.next i)
takes_front i e = record { seen = front_kind i e; taken = refl }

pub takes_front_name : (i : Position) {w : Word} {t : List Word} → i.words ≡ w ∷ t → w.kind ≡ kind.Name
    → TakesName (at.name i) i (at.next i)
takes_front_name i e is = record { seen = front_kind i e ∙ ap Some is; name_is = refl; taken = refl }

not_seen : (i : Position) {t : List Word} {k : TokenKind} → i.words ≡ t → lead t ≢ Some k → SeesNot k i
not_seen i e none = λ s. none (sym (lead_is i e) ∙ s)

-- ---- expressions

pub no_joint : (rank : ℕ) (i : Position) {t : List Word} → i.words ≡ t → EndsOperand (lead t) → at.joint rank i ≡ None
no_joint rank i e ends = ap (at.of_rank rank) (ap (option_and_then binary_operator) (lead_is i e) ∙ ends.1)

-- something simple without a suffix or an operator behind it is an operand of every rank, and an expression
pub lone_operand : {rules : Rules} {c : Context} {x : Expr} {i j : Position} {t : List Word} → at.sign i ≡ None
    → Spelled rules c (thing.simple x) i j → j.words ≡ t → EndsOperand (lead t) → (n : ℕ) {rank : ℕ} → rank + n ≡ 8
    → Spelled rules c (thing.operand rank x) i j
lone_operand {rules} {c} {x} {i} {j} s spelled e ends zero is =
    subst (λ (r : ℕ). Spelled rules c (thing.operand r x) i j) (omega (arith, is)) (by.exponent s spelled)
lone_operand {rules} {c} {x} {i} {j} s spelled e ends (suc zero) is =
    subst (λ (r : ℕ). Spelled rules c (thing.operand r x) i j) (omega (arith, is))
    (by.power s spelled (by.no_links (no_joint 7 j e ends)))
lone_operand {j = j} s spelled e ends (suc (suc n)) {rank} is =
    by.operands (omega (arith, is)) (lone_operand s spelled e ends (suc n) (omega (arith, is)))
    (by.no_links (no_joint rank j e ends))

pub lone_expression : {rules : Rules} {c : Context} {x : Expr} (i : Position) {j : Position} {t : List Word}
    → at.sign i ≡ None
    → Spelled rules c (thing.simple x) (fresh i) j → j.words ≡ t → EndsOperand (lead t)
    → Spelled rules c (thing.expression x) i (resumed i j)
lone_expression i s spelled e ends =
    by.expression (record { begun = refl }) (lone_operand s spelled e ends 7 refl) (record { resumed = refl })

-- ---- what these words spell

-- words of this class stand at `i`, and `t` behind them
abbrev pub ReadsTo : Rules → Context → Class → Position → List Word → Type 0
ReadsTo rules c k i t = (j : Position) × Reads rules c k i j × (j.words ≡ t)

nil_sign : (i : Position) → Sees kind.Nil i → at.sign i ≡ None
nil_sign i s = rw s refl

pub nil_operand : {rules : Rules} {c : Context} (i : Position) {t : List Word} (rank : ℕ) → rank ≤ 8
    → i.words ≡ nil_words ++ t → EndsOperand (lead t)
    → ReadsTo rules c (class.operand rank) i t
nil_operand i rank le e ends =
    let is : rank + (8 - rank) ≡ 8 = omega (arith, le) in
    let behind = next_words i e in (
      at.next i,
      (
        expr.Nil,
        lone_operand (nil_sign i (front_kind i e)) (by.nil_value (takes_front i e)) behind ends
            (8 - rank) is,
      ),
      behind,
    )

pub nil_expression : {rules : Rules} {c : Context} (i : Position) {t : List Word} → i.words ≡ nil_words ++ t
    → EndsOperand (lead t)
    → ReadsTo rules c class.expression i t
nil_expression i e ends =
    let j = at.next (fresh i) in
    let behind = next_words (fresh i) e in (
      resumed i j,
      (
        expr.Nil,
        lone_expression i (nil_sign i (front_kind i e)) (by.nil_value (takes_front (fresh i) e))
            behind ends,
      ),
      behind,
    )

pub nil_list : {rules : Rules} {c : Context} (i : Position) {t : List Word} → i.words ≡ nil_words ++ t
    → EndsList (lead t)
    → ReadsTo rules c class.list i t
nil_list i e ends =
    let (j, x, behind) = nil_expression i e ends.0 in
    (j, (_, by.last_expression x.1 (not_seen j behind ends.1)), behind)

pub no_suffixes : {rules : Rules} {c : Context} (i : Position) {t : List Word} → i.words ≡ t → EndsOperand (lead t)
    → Spelled rules c (thing.suffixes []) i i
no_suffixes i e ends = by.no_suffixes (ap begins_suffix (lead_is i e) ∙ ends.0)

pub name_chain : {rules : Rules} {c : Context} (i : Position) {t : List Word} → i.words ≡ name_words ++ t
    → EndsOperand (lead t)
    → (j : Position) × Spelled rules c (thing.chain (expr.Name (at.name i)) []) i j × (j.words ≡ t)
name_chain i e ends =
    let behind = next_words i e in
    (at.next i, by.chain (by.name (takes_front_name i e refl)) (no_suffixes (at.next i) behind ends), behind)

pub text_arguments : {rules : Rules} {c : Context} (i : Position) {t : List Word} → i.words ≡ word_of kind.Text ∷ t
    → ReadsTo rules c class.arguments i t
text_arguments i e = (
  at.next i,
  (
    _,
    by.text_argument
        (record { seen = front_kind i e; number_is = refl; taken = refl }),
  ),
  next_words i e,
)

pub one_name : {rules : Rules} {c : Context} (i : Position) {t : List Word} → i.words ≡ name_words ++ t
    → lead t ≢ Some kind.Comma
    → ReadsTo rules c class.names i t
one_name i e none =
    let behind = next_words i e in
    (at.next i, (_, by.one_name (takes_front_name i e refl) (not_seen (at.next i) behind none)), behind)

pub no_fields : {rules : Rules} {c : Context} (i : Position) {t : List Word} → i.words ≡ t
    → lead t ≡ Some kind.RightBrace
    → ReadsTo rules c class.fields i t
no_fields i e s = (i, ([], by.no_fields (lead_is i e ∙ s)), e)

pub no_parameters : {rules : Rules} {c : Context} (i : Position) {t : List Word} → i.words ≡ t
    → lead t ≡ Some kind.RightParen
    → ReadsTo rules c class.parameters i t
no_parameters i e s = (i, (([], false), by.no_parameters (lead_is i e ∙ s)), e)

pub empty_block : {rules : Rules} {c : Context} (i : Position) {t : List Word} → i.words ≡ t
    → ends_block (lead t) ≡ true
    → ReadsTo rules c class.block i t
empty_block i e ends = (i, ([], by.no_statements (ap ends_block (lead_is i e) ∙ ends)), e)

pub no_links : {rules : Rules} {c : Context} (i : Position) {t : List Word} (rank : ℕ) → i.words ≡ t
    → EndsOperand (lead t)
    → ReadsTo rules c (class.links rank) i t
no_links i rank e ends = (i, ([], by.no_links (no_joint rank i e ends)), e)

pub no_branches : {rules : Rules} {c : Context} (i : Position) {t : List Word} → i.words ≡ t → lead t ≢ Some kind.ElseIf
    → ReadsTo rules c class.branches i t
no_branches i e none = (i, ([], by.no_branches (not_seen i e none)), e)

pub no_else : {rules : Rules} {c : Context} (i : Position) {t : List Word} → i.words ≡ t → lead t ≢ Some kind.Else
    → ReadsTo rules c class.otherwise i t
no_else i e none = (i, ([], by.no_else (not_seen i e none)), e)

pub no_step : {rules : Rules} {c : Context} (i : Position) {t : List Word} → i.words ≡ t → lead t ≢ Some kind.Comma
    → ReadsTo rules c class.step i t
no_step i e none = (i, (None, by.no_step (not_seen i e none)), e)

pub no_path : {rules : Rules} {c : Context} (i : Position) {t : List Word} → i.words ≡ t → lead t ≢ Some kind.Dot
    → ReadsTo rules c class.path i t
no_path i e none = (i, ([], by.no_path (not_seen i e none)), e)

pub no_values : {rules : Rules} {c : Context} (i : Position) {t : List Word} → i.words ≡ t → lead t ≢ Some kind.Assign
    → ReadsTo rules c class.values i t
no_values i e none = (i, ([], by.no_values (not_seen i e none)), e)

-- parameters, and the end of a body without statements
pub body_from : {rules : Rules} {c : Context} {number : ℕ} {names : List Name} {varargs : Bool} {i j k l : Position}
    {t : List Word} (line : ℕ)
    (method : Bool) → at.BeginsBody number i j → Takes kind.LeftParen j k
    → Spelled rules c (thing.parameters names varargs) k l → HasRoom rules c
    → l.words ≡ word_of kind.RightParen ∷ word_of kind.End ∷ t → ReadsTo rules c (class.function_body line method) i t
body_from {number = number} {l = l} line method b u x room e =
    let e' = next_words l e in (
      _,
      (
        number,
        by.function_body b u x (takes_front l e) room (by.no_statements (ap ends_block (front_kind (at.next l) e')))
            (takes_front (at.next l) e') (record { ended = refl }),
      ),
      next_words (at.next l) e',
    )

pub least_function_body : {rules : Rules} {c : Context} (line : ℕ) (method : Bool) (i : Position) {t : List Word}
    → HasRoom rules c
    → i.words ≡ body_words ++ t → ReadsTo rules c (class.function_body line method) i t
least_function_body line method i room e =
    let b : Position = record i {
      bodies = i.bodies
          ++ record { line = 0; method = false; parameters = []; varargs = false; block = [] } ∷ [];
    } in
    let e' = next_words b e in
    body_from line method (record { number_is = refl; begun = refl }) (takes_front b e)
    (by.no_parameters (front_kind (at.next b) e')) room e'

pub least_loop : {rules : Rules} {c : Context} (i : Position) {t : List Word} → HasRoom rules c
    → i.words ≡ loop_words ++ t
    → ReadsTo rules c class.loop_block i t
least_loop i room e =
    let j = at.next i in
    let e1 = next_words i e in
    let empty = by.no_statements (ap ends_block (front_kind j e1)) in
    (at.next j, (_, by.loop_block (takes_front i e) room empty (takes_front j e1)), next_words j e1)

pub least_branch : {rules : Rules} {c : Context} (i : Position) {t : List Word} → HasRoom rules c
    → i.words ≡ branch_words ++ t
    → ends_block (lead t) ≡ true → ReadsTo rules c class.branch i t
least_branch i room e ends =
    let (j, x, e1) = nil_expression i e (refl, refl) in
    let (k, y, e2) = empty_block (at.next j) (next_words j e1) ends in
    (k, (_, by.branch x.1 (takes_front j e1) room y.1), e2)

pub in_is_no_comma : Some kind.In ≢ Some kind.Comma
in_is_no_comma s = cc

pub do_ends_list : EndsList (Some kind.Do)
do_ends_list = ((refl, refl), λ s. cc)

-- names, and the end of a `for .. in`
pub range_from : {rules : Rules} {c : Context} {names : List Name} {i j : Position} {t : List Word} → HasRoom rules c
    → Spelled rules c (thing.names names) i j → j.words ≡ in_words ++ t → ReadsTo rules c class.for_range i t
range_from {j = j} room names e =
    let (k, values, e1) = nil_list (at.next j) (next_words j e) do_ends_list in
    let (l, loop, e2) = least_loop k room e1 in
    (l, (_, by.generic_for names (takes_front j e) values.1 loop.1), e2)

pub least_range : {rules : Rules} {c : Context} (i : Position) {t : List Word} → HasRoom rules c
    → i.words ≡ range_words ++ t
    → ReadsTo rules c class.for_range i t
least_range i room e = let (j, names, e1) = one_name i e in_is_no_comma in range_from room names.1 e1
