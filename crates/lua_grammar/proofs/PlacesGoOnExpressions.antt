-- Words that stop inside an expression go on to it.
use Rattle.std.proofs.Common.{◌≡◌, ◌⊎◌, inl, inr, ℕ, suc, ◌<◌, ◌≤◌, true, false, List, [], ◌∷◌, ◌++◌, length, Option}
use Rattle.std.proofs.Common.{Some, None, option_and_then, is_some, IsSome, refl, ap, ◌∙◌, subst, arith}
use Rattle.std.proofs.Math.Nat.{eq-or-lt_of_le}
use Rattle.lua_lex.specs.declared.kinds.TokenKind.{TokenKind}
use Rattle.lua_lex.specs.declared.kinds.TokenKind.TheVariants as kind
use Rattle.lua_grammar.specs.declared.kinds.SyntaxKind.TheVariants as fault
use Rattle.lua_grammar.specs.declared.context.Context.{Context}
use Rattle.lua_grammar.specs.declared.operators.Unary.{Unary}
use Rattle.lua_grammar.specs.declared.words.Word.{Word}
use Rattle.lua_grammar.specs.declared.expressions.Expr.{Expr}
use Rattle.lua_grammar.specs.declared.expressions.Expr.TheVariants as expr
use Rattle.lua_grammar.specs.Operators.{unary_operator}
use Rattle.lua_grammar.specs.Positions as at
use Rattle.lua_grammar.specs.Positions.{Position, Passes, Sees}
use Rattle.lua_grammar.specs.Contexts as context
use Rattle.lua_grammar.specs.Contexts.{Rules, HasRoom}
use Rattle.lua_grammar.specs.Things as thing
use Rattle.lua_grammar.specs.Grammar as by
use Rattle.lua_grammar.specs.Grammar.{Spelled}
use Rattle.lua_grammar.specs.Classes as class
use Rattle.lua_grammar.specs.Stuck.{begins_simple, nests_simple, fresh}
use Rattle.lua_grammar.proofs.Continuations.{instead, Shown, Mode, before, with_word, GoesOn}
use Rattle.lua_grammar.proofs.Modes.{free, nothing_seen}
use Rattle.lua_grammar.proofs.Instead.{kind_shown, sign_shown, behind_word}
use Rattle.lua_grammar.proofs.Least.{word_of, nil_words, nil_operand, body_words, no_suffixes, least_function_body}
use Rattle.lua_grammar.proofs.PlacesGoOn.{table_at, parenthesis_at}
use Rattle.lua_grammar.proofs.Unique.{resumed}

pub expression_goes_on : {rules : Rules} {c : Context} (n : ℕ) (i : Position)
    → GoesOn rules c (class.operand 1) n (fresh i)
    → GoesOn rules c class.expression n i
expression_goes_on n i g t follow =
    let (more, j, x, end) = g t (λ e. follow e) in
    (more, resumed i j, (x.0, by.expression (record { begun = refl }) x.1 (record { resumed = refl })), end)

-- an operator, and nil
operator_goes_on : {rules : Rules} {c : Context} {sign : Unary} (n : ℕ) (i : Position) (rank : ℕ)
    → (7 ≡ rank) ⊎ (8 ≡ rank)
    → at.sign i ≡ Some sign → suc n ≡ length i.words → HasRoom rules c → GoesOn rules c (class.operand rank) n i
operator_goes_on {rules} {c} {sign} n i rank is s e room t follow =
    let p = instead n (nil_words ++ t) i in
    let shown : Shown i n (nil_words ++ t) = inl (omega (arith, e)) in
    let seen : at.sign p ≡ Some sign = sign_shown i shown ∙ s in
    let some : IsSome (at.kind p) = ap is_some (kind_shown i shown) ∙ signed (at.kind i) s in
    let (j, x, end) = nil_operand {rules = rules} {c = context.inner c} (at.next p) 7 (omega arith)
    (behind_word n (nil_words ++ t) i e) (follow expr.Nil) in
    let passes : Passes p (at.next p) = record { some = some; taken = refl } in (
      nil_words,
      j,
      (
        expr.Unary sign x.0,
        of_rank is (by.unary seen passes room x.1)
            (by.unary_exponent seen passes room x.1),
      ),
      end,
    ) where
      signed : (w : Option TokenKind) → option_and_then unary_operator w ≡ Some sign → is_some w ≡ true
      signed None e = cc
      signed (Some k) e = refl

      of_rank : {x : Expr} {i j : Position} {rank : ℕ} → (7 ≡ rank) ⊎ (8 ≡ rank)
          → Spelled rules c (thing.operand 7 x) i j
          → Spelled rules c (thing.operand 8 x) i j → Spelled rules c (thing.operand rank x) i j
      of_rank {x} {i} {j} (inl e) y z = subst (λ (r : ℕ). Spelled rules c (thing.operand r x) i j) e y
      of_rank {x} {i} {j} (inr e) y z = subst (λ (r : ℕ). Spelled rules c (thing.operand r x) i j) e z

pub unary_level_goes_on : {c : Context} {rank : ℕ} {sign : Unary} (i : Position) → 7 ≤ rank → rank ≤ 8
    → at.sign i ≡ Some sign
    → {rules : Rules} {n : ℕ} → Mode fault.TooDeep i rules n → n < length i.words
    → GoesOn rules c (class.operand rank) n i
unary_level_goes_on i low high s before less = absurd (omega (arith, less))
unary_level_goes_on {c} {rank} i low high s {rules} {n} (with_word r e) less =
    operator_goes_on n i rank (seven_or_eight (eq-or-lt_of_le low)) s e (free fault.TooDeep r _) where
      seven_or_eight : (7 ≡ rank) ⊎ (7 < rank) → (7 ≡ rank) ⊎ (8 ≡ rank)
      seven_or_eight (inl e) = inl e
      seven_or_eight (inr less) = inr (omega (arith, less, high))

pub simple_goes_on : {rules : Rules} {c : Context} {n : ℕ} (i : Position) → begins_simple (at.kind i) ≡ false
    → Mode fault.Unexpected i rules n → n < length i.words → GoesOn rules c class.simple n i
simple_goes_on i e m less = absurd (nothing_seen m i (omega arith) less)

-- function ( ) end
function_goes_on : {rules : Rules} {c : Context} (n : ℕ) (i : Position) → Sees kind.Function i → suc n ≡ length i.words
    → HasRoom rules c
    → GoesOn rules c class.simple n i
function_goes_on n i s e room t follow =
    let p = instead n (body_words ++ t) i in
    let seen : Sees kind.Function p = kind_shown i (inl (omega (arith, e))) ∙ s in
    let (j, x, end) = least_function_body (at.line p) false (at.next p) room (behind_word n (body_words ++ t) i e) in
    (body_words, j, (expr.Function x.0, by.function refl (record { seen = seen; taken = refl }) x.1), end)

abbrev table_words : List Word
table_words = word_of kind.RightBrace ∷ []

-- { }
constructor_goes_on : {rules : Rules} {c : Context} (n : ℕ) (i : Position) → Sees kind.LeftBrace i
    → suc n ≡ length i.words → HasRoom rules c
    → GoesOn rules c class.constructor n i
constructor_goes_on n i s e room t follow =
    let p = instead n (table_words ++ t) i in
    let seen : Sees kind.LeftBrace p = kind_shown i (inl (omega (arith, e))) ∙ s in
    let (j, x, end) = table_at p room seen (behind_word n (table_words ++ t) i e) in
    (table_words, j, x, end)

abbrev parenthesis_words : List Word
parenthesis_words = nil_words ++ word_of kind.RightParen ∷ []

-- ( nil )
parenthesis_goes_on : {rules : Rules} {c : Context} (n : ℕ) (i : Position) → Sees kind.LeftParen i
    → suc n ≡ length i.words → HasRoom rules c
    → GoesOn rules c class.simple n i
parenthesis_goes_on n i s e room t follow =
    let p = instead n (parenthesis_words ++ t) i in
    let seen : Sees kind.LeftParen p = kind_shown i (inl (omega (arith, e))) ∙ s in
    let (j, x, end) = parenthesis_at p room seen (behind_word n (parenthesis_words ++ t) i e) in
    (parenthesis_words, j, (x.0, by.prefix (by.chain x.1 (no_suffixes j end (follow expr.Nil)))), end)

table_goes_on : {rules : Rules} {c : Context} (n : ℕ) (i : Position) → GoesOn rules c class.constructor n i
    → GoesOn rules c class.simple n i
table_goes_on n i g t follow =
    let (more, j, x, end) = g t (λ x. tt) in
    (more, j, (expr.Table x.0, by.table x.1), end)

nested_goes_on : {rules : Rules} {c : Context} (n : ℕ) (i : Position) (w : Option TokenKind) → at.kind i ≡ w
    → nests_simple w ≡ true
    → suc n ≡ length i.words → HasRoom rules c → GoesOn rules c class.simple n i
nested_goes_on n i (Some kind.Function) s h e room = function_goes_on n i s e room
nested_goes_on n i (Some kind.LeftBrace) s h e room = table_goes_on n i (constructor_goes_on n i s e room)
nested_goes_on n i (Some kind.LeftParen) s h e room = parenthesis_goes_on n i s e room
nested_goes_on n i w s h e room = absurd (cc)

pub simple_level_goes_on : {c : Context} (i : Position) → nests_simple (at.kind i) ≡ true
    → {rules : Rules} {n : ℕ} → Mode fault.TooDeep i rules n → n < length i.words → GoesOn rules c class.simple n i
simple_level_goes_on i h before less = absurd (omega (arith, less))
simple_level_goes_on i h {n = n} (with_word r e) less = nested_goes_on n i (at.kind i) refl h e (free fault.TooDeep r _)

pub constructor_level_goes_on : {c : Context} (i : Position) → Sees kind.LeftBrace i
    → {rules : Rules} {n : ℕ} → Mode fault.TooDeep i rules n → n < length i.words → GoesOn rules c class.constructor n i
constructor_level_goes_on i s before less = absurd (omega (arith, less))
constructor_level_goes_on i s {n = n} (with_word r e) less = constructor_goes_on n i s e (free fault.TooDeep r _)

pub varargs_goes_on : {c : Context} (i : Position) → Sees kind.Dots i
    → {rules : Rules} {n : ℕ} → Mode fault.NoVararg i rules n → n < length i.words → GoesOn rules c class.simple n i
varargs_goes_on i s before less = absurd (omega (arith, less))
varargs_goes_on i s {n = n} (with_word r e) less = λ t follow.
    let seen : Sees kind.Dots (instead n t i) = kind_shown i (inl less) ∙ s in (
      [],
      _,
      (expr.Varargs, by.varargs (record { seen = seen; taken = refl }) (free fault.NoVararg r _)),
      behind_word n t i e,
    )
