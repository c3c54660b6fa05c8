-- What is spelled goes forward through the words, and takes no body away.
use Rattle.std.proofs.Common.{◌≡◌, ◌⊎◌, inl, inr, ℕ, suc, ◌+◌, ◌<◌, ◌≤◌, List, [], ◌∷◌, ◌++◌, length, Option, Some}
use Rattle.std.proofs.Common.{IsSome, refl, sym, ap, ◌∙◌, subst, arith, length-append, length-set}
use Rattle.std.proofs.lemmas.List.{append_assoc}
use Rattle.lua_lex.specs.declared.kinds.TokenKind.{TokenKind}
use Rattle.lua_lex.specs.declared.kinds.TokenKind.TheVariants as mark
use Rattle.lua_grammar.specs.declared.context.Context.{Context}
use Rattle.lua_grammar.specs.declared.words.Word.{Word}
use Rattle.lua_grammar.specs.declared.expressions.Name.{Name}
use Rattle.lua_grammar.specs.declared.expressions.Suffix.{Suffix}
use Rattle.lua_grammar.specs.declared.statements.Stat.{Stat}
use Rattle.lua_grammar.specs.declared.statements.Body.{Body}
use Rattle.lua_grammar.specs.Positions as at
use Rattle.lua_grammar.specs.Positions.{Position}
use Rattle.lua_grammar.specs.Contexts.{Rules}
use Rattle.lua_grammar.specs.Things as thing
use Rattle.lua_grammar.specs.Things.{Thing}
use Rattle.lua_grammar.specs.Grammar.{Spelled}
use Rattle.lua_grammar.specs.Grammar as rule

-- the words of `i` are some words and then those of `j`
pub record Goes (i j : Position) : Type 0 where
  pub front : List Word
  pub split : i.words ≡ front ++ j.words
  pub words : length j.words ≤ length i.words
  pub bodies : length i.bodies ≤ length j.bodies

-- and takes a word at least
pub record Eats (i j : Position) : Type 0 where
  pub front : List Word
  pub split : i.words ≡ front ++ j.words
  pub words : length j.words < length i.words
  pub bodies : length i.bodies ≤ length j.bodies

-- ---- steps one behind the other

joined : {u v : List Word} (a b w : List Word) → u ≡ a ++ v → v ≡ b ++ w → u ≡ a ++ b ++ w
joined a b w e f = e ∙ ap (λ l. a ++ l) f ∙ sym (append_assoc a b w)

stays_so : {i j : Position} → i.words ≡ j.words → i.bodies ≡ j.bodies → Goes i j
stays_so {i} {j} e f = record {
  front = [];
  split = e;
  words = omega (arith, ap length e);
  bodies = omega (arith, ap length f);
}

pub stays : {i : Position} → Goes i i
stays {i} = record { front = []; split = refl; words = omega arith; bodies = omega arith }

pub also : {i j k : Position} → Goes i j → Goes j k → Goes i k
also {i} {j} {k} a b = record {
  front = a.front ++ b.front;
  split = joined a.front b.front k.words a.split b.split;
  words = omega arith;
  bodies = omega arith;
}

pub eaten : {i j : Position} → Eats i j → Goes i j
eaten {i} {j} a = record { front = a.front; split = a.split; words = omega arith; bodies = omega arith }

pub eats_also : {i j k : Position} → Eats i j → Goes j k → Eats i k
eats_also {i} {j} {k} a b =
    record {
      front = a.front ++ b.front;
      split = joined a.front b.front k.words a.split b.split;
      words = omega arith;
      bodies = omega arith;
    }

pub also_eats : {i j k : Position} → Goes i j → Eats j k → Eats i k
also_eats {i} {j} {k} a b =
    record {
      front = a.front ++ b.front;
      split = joined a.front b.front k.words a.split b.split;
      words = omega arith;
      bodies = omega arith;
    }

-- ---- steps

behind_shorter : (i : Position) (words : List Word) (k : TokenKind) → at.kind_of (at.first_of words) ≡ Some k
    → length (at.behind i words).words + 1 ≡ length words
behind_shorter i [] k e = absurd (cc)
behind_shorter i (word ∷ words) k e = omega arith

behind_no_longer : (i : Position) (words : List Word) → i.words ≡ words → length (at.behind i words).words
    ≤ length i.words
behind_no_longer i [] e = omega arith
behind_no_longer i (word ∷ words) e = omega (arith, ap length e)

behind_bodies : (i : Position) (words : List Word) → (at.behind i words).bodies ≡ i.bodies
behind_bodies i [] = refl
behind_bodies i (word ∷ words) = refl

-- the next word, where there is one
abbrev passed : List Word → List Word
passed [] = []
passed (word ∷ words) = word ∷ []

behind_split : (i : Position) (words : List Word) → i.words ≡ words → words ≡ passed words ++ (at.behind i words).words
behind_split i [] e = sym e
behind_split i (word ∷ words) e = refl

pub goes_next : (i : Position) → Goes i (at.next i)
goes_next i = record {
  front = passed i.words;
  split = behind_split i i.words refl;
  words = behind_no_longer i i.words refl;
  bodies = omega (arith, ap length (behind_bodies i i.words));
}

pub eats_next : (i : Position) (k : TokenKind) → at.kind i ≡ Some k → Eats i (at.next i)
eats_next i k e = record {
  front = passed i.words;
  split = behind_split i i.words refl;
  words = omega (arith, behind_shorter i i.words k e);
  bodies = omega (arith, ap length (behind_bodies i i.words));
}

behind_some : (i : Position) (words : List Word) → IsSome (at.kind_of (at.first_of words))
    → length (at.behind i words).words + 1 ≡ length words
behind_some i [] e = absurd (cc)
behind_some i (word ∷ words) e = omega arith

pub eats_some : (i : Position) → IsSome (at.kind i) → Eats i (at.next i)
eats_some i e = record {
  front = passed i.words;
  split = behind_split i i.words refl;
  words = omega (arith, behind_some i i.words e);
  bodies = omega (arith, ap length (behind_bodies i i.words));
}

pub eats_to : {i j k : Position} → j ≡ k → Eats i k → Eats i j
eats_to {i} {j} {k} e eats = let P : Position → Type 0 = λ p. Eats i p in subst P (sym e) eats

goes_to : {i j k : Position} → j ≡ k → Goes i k → Goes i j
goes_to {i} {j} {k} e goes = let P : Position → Type 0 = λ p. Goes i p in subst P (sym e) goes

pub takes : {k : TokenKind} {i j : Position} → at.Takes k i j → Eats i j
takes {k} {i} {j} t = eats_to t.taken (eats_next i k t.seen)

pub takes_name : {n : Name} {i j : Position} → at.TakesName n i j → Eats i j
takes_name {n} {i} {j} t = eats_to t.taken (eats_next i mark.Name t.seen)

pub takes_text : {number : ℕ} {i j : Position} → at.TakesText number i j → Eats i j
takes_text {number} {i} {j} t = eats_to t.taken (eats_next i mark.Text t.seen)

pub passes : {i j : Position} → at.Passes i j → Goes i j
passes {i} {j} p = goes_to p.taken (goes_next i)

pub passes_operator : {i j : Position} → at.PassesOperator i j → Goes i j
passes_operator {i} {j} p =
    let counted : Position = record i { operators = suc i.operators } in
    let next : Goes counted (at.next counted) = goes_next counted in
    goes_to p.taken (record { front = next.front; split = next.split; words = next.words; bodies = next.bodies })

pub counts : {i j : Position} → at.CountsSuffix i j → Goes i j
counts {i} {j} c = goes_to c.counted (stays_so refl refl)

pub begins : {i j : Position} → at.BeginsExpression i j → Goes i j
begins {i} {j} b = goes_to b.begun (stays_so refl refl)

pub resumes : {i j k : Position} → at.ResumesExpression i j k → Goes j k
resumes {i} {j} {k} r = goes_to r.resumed (stays_so refl refl)

pub begins_body : {number : ℕ} {i j : Position} → at.BeginsBody number i j → Goes i j
begins_body {number} {i} {j} b = goes_to b.begun
    (record { front = []; split = refl; words = omega arith; bodies = simp length-append (omega arith) })

pub has_place : {number : ℕ} {i j : Position} → at.BeginsBody number i j → number < length j.bodies
has_place {number} {i} {j} b = rw (b.number_is, b.begun) (simp length-append (omega arith))

pub ends_body : {number : ℕ} {body : Body} {i j : Position} → at.EndsBody number body i j → Goes i j
ends_body {number} {body} {i} {j} b = goes_to b.ended
    (record { front = []; split = refl; words = omega arith; bodies = omega (arith, length-set i.bodies number body) })

semicolon_goes : (k : Option TokenKind) (i : Position) → Goes i (at.behind_semicolon k i)
semicolon_goes (Some mark.Semicolon) i = goes_next i
semicolon_goes _ i = stays

pub semicolon : {i j : Position} → at.PassesSemicolon i j → Goes i j
semicolon {i} {j} p = goes_to p.taken (semicolon_goes (at.kind i) i)

-- ---- productions

pub goes : {rules : Rules} {c : Context} {t : Thing} {i j : Position} → Spelled rules c t i j → Goes i j
goes (rule.expression b e r) = also (begins b) (also (goes e) (resumes r))
goes (rule.operands s e ls) = also (goes e) (goes ls)
goes (rule.unary s p r e) = also (passes p) (goes e)
goes (rule.power s e ls) = also (goes e) (goes ls)
goes (rule.unary_exponent s p r e) = also (passes p) (goes e)
goes (rule.exponent s e) = goes e
goes (rule.no_links n) = stays
goes (rule.more_links s h p e ls) = also (passes_operator p) (also (goes e) (goes ls))
goes (rule.nil_value t) = eaten (takes t)
goes (rule.false_value t) = eaten (takes t)
goes (rule.true_value t) = eaten (takes t)
goes (rule.number t) = eaten (takes t)
goes (rule.text t) = eaten (takes_text t)
goes (rule.varargs t k) = eaten (takes t)
goes (rule.function l t b) = also (eaten (takes t)) (goes b)
goes (rule.table x) = goes x
goes (rule.prefix x) = goes x
goes (rule.chain h s) = also (goes h) (goes s)
goes (rule.name n) = eaten (takes_name n)
goes (rule.parenthesis t r e u) = also (eaten (takes t)) (also (goes e) (eaten (takes u)))
goes (rule.no_suffixes n) = stays
goes (rule.more_suffixes h n s ss) = also (counts n) (also (goes s) (goes ss))
goes (rule.member t n) = also (eaten (takes t)) (eaten (takes_name n))
goes (rule.index t r e u) = also (eaten (takes t)) (also (goes e) (eaten (takes u)))
goes (rule.call a) = goes a
goes (rule.method t n a) = also (eaten (takes t)) (also (eaten (takes_name n)) (goes a))
goes (rule.no_arguments t n r u) = also (eaten (takes t)) (eaten (takes u))
goes (rule.arguments t n r es u) = also (eaten (takes t)) (also (goes es) (eaten (takes u)))
goes (rule.table_argument x) = goes x
goes (rule.text_argument t) = eaten (takes_text t)
goes (rule.last_expression e s) = goes e
goes (rule.more_expressions e t es) = also (goes e) (also (eaten (takes t)) (goes es))
goes (rule.constructor t r fs u) = also (eaten (takes t)) (also (goes fs) (eaten (takes u)))
goes (rule.no_fields s) = stays
goes (rule.last_field n f s) = goes f
goes (rule.more_fields n f s p fs) = also (goes f) (also (passes p) (goes fs))
goes (rule.keyed t k u v e) = also (eaten (takes t))
    (also (goes k) (also (eaten (takes u)) (also (eaten (takes v)) (goes e))))
goes (rule.named n t e) = also (eaten (takes_name n)) (also (eaten (takes t)) (goes e))
goes (rule.plain n e) = goes e
goes (rule.function_body b t ps u r block e end) =
    also (begins_body b) (also (eaten (takes t))
    (also (goes ps) (also (eaten (takes u)) (also (goes block) (also (eaten (takes e)) (ends_body end))))))
goes (rule.no_parameters s) = stays
goes (rule.only_varargs t) = eaten (takes t)
goes (rule.last_parameter n s) = eaten (takes_name n)
goes (rule.more_parameters n t s ps) = also (eaten (takes_name n)) (also (eaten (takes t)) (goes ps))
goes (rule.no_statements e) = stays
goes (rule.last_statement l e) = goes l
goes (rule.more_statements s ss) = also (goes s) (goes ss)
goes (rule.statement l d s) = also (goes d) (semicolon s)
goes (rule.last l d s) = also (goes d) (semicolon s)
goes (rule.break_statement t k) = eaten (takes t)
goes (rule.return_nothing t e) = eaten (takes t)
goes (rule.return_values t n es r) = also (eaten (takes t)) (goes es)
goes (rule.do_block t r b u) = also (eaten (takes t)) (also (goes b) (eaten (takes u)))
goes (rule.while_loop t e b) = also (eaten (takes t)) (also (goes e) (goes b))
goes (rule.repeat_loop t r b u e) = also (eaten (takes t)) (also (goes b) (also (eaten (takes u)) (goes e)))
goes (rule.if_statement t b bs o u) = also (eaten (takes t))
    (also (goes b) (also (goes bs) (also (goes o) (eaten (takes u)))))
goes (rule.no_branches s) = stays
goes (rule.more_branches t b bs) = also (eaten (takes t)) (also (goes b) (goes bs))
goes (rule.branch e t r b) = also (goes e) (also (eaten (takes t)) (goes b))
goes (rule.no_else s) = stays
goes (rule.else_block t r b) = also (eaten (takes t)) (goes b)
goes (rule.for_loop t d) = also (eaten (takes t)) (goes d)
goes (rule.numeric_for n t b u e s block) =
    also (eaten (takes_name n)) (also (eaten (takes t))
    (also (goes b) (also (eaten (takes u)) (also (goes e) (also (goes s) (goes block))))))
goes (rule.no_step s) = stays
goes (rule.step t e) = also (eaten (takes t)) (goes e)
goes (rule.generic_for ns t es b) = also (goes ns) (also (eaten (takes t)) (also (goes es) (goes b)))
goes (rule.loop_block t r b u) = also (eaten (takes t)) (also (goes b) (eaten (takes u)))
goes (rule.function_statement l t n p s b) =
    also (eaten (takes t)) (also (eaten (takes_name n)) (also (goes p) (goes b)))
goes (rule.method_statement l t n p u m b) =
    also (eaten (takes t)) (also (eaten (takes_name n))
    (also (goes p) (also (eaten (takes u)) (also (eaten (takes_name m)) (goes b)))))
goes (rule.no_path s) = stays
goes (rule.more_path t n p) = also (eaten (takes t)) (also (eaten (takes_name n)) (goes p))
goes (rule.local_function t l u n b) = also (eaten (takes t))
    (also (eaten (takes u)) (also (eaten (takes_name n)) (goes b)))
goes (rule.local t ns vs) = also (eaten (takes t)) (also (goes ns) (goes vs))
goes (rule.one_name n s) = eaten (takes_name n)
goes (rule.more_names n t ns) = also (eaten (takes_name n)) (also (eaten (takes t)) (goes ns))
goes (rule.no_values s) = stays
goes (rule.values t es) = also (eaten (takes t)) (goes es)
goes (rule.assign ts t es) = also (goes ts) (also (eaten (takes t)) (goes es))
goes (rule.one_target t s) = goes t
goes (rule.more_targets t u ts) = also (goes t) (also (eaten (takes u)) (goes ts))
goes (rule.own_chain b c r) = also (begins b) (also (goes c) (resumes r))
goes (rule.name_target c) = goes c
goes (rule.index_target ss c e) = goes c
goes (rule.call_statement ss c e) = goes c

-- ---- what takes a word at least

-- a thing that may be empty takes a word, or it is
abbrev pub Moves : Thing → Position → Position → Type 0
Moves (thing.links rank x) i j = Eats i j ⊎ (i ≡ j)
Moves (thing.suffixes x) i j = Eats i j ⊎ (i ≡ j)
Moves (thing.fields x) i j = Eats i j ⊎ (i ≡ j)
Moves (thing.parameters x y) i j = Eats i j ⊎ (i ≡ j)
Moves (thing.block x) i j = Eats i j ⊎ (i ≡ j)
Moves (thing.branches x) i j = Eats i j ⊎ (i ≡ j)
Moves (thing.otherwise x) i j = Eats i j ⊎ (i ≡ j)
Moves (thing.step x) i j = Eats i j ⊎ (i ≡ j)
Moves (thing.path x) i j = Eats i j ⊎ (i ≡ j)
Moves (thing.values x) i j = Eats i j ⊎ (i ≡ j)
Moves t i j = Eats i j

pub passes_one : {i j : Position} → at.Passes i j → Eats i j
passes_one {i} {j} p = eats_to p.taken (eats_some i p.some)

pub passes_one_operator : {i j : Position} → at.PassesOperator i j → Eats i j
passes_one_operator {i} {j} p =
    let next = eats_some (record i { operators = suc i.operators }) p.some in
    eats_to p.taken (record { front = next.front; split = next.split; words = next.words; bodies = next.bodies })

pub moves : {rules : Rules} {c : Context} {t : Thing} {i j : Position} → Spelled rules c t i j → Moves t i j
moves (rule.expression b e r) = also_eats (begins b) (eats_also (moves e) (resumes r))
moves (rule.operands s e ls) = eats_also (moves e) (goes ls)
moves (rule.unary s p r e) = also_eats (passes p) (moves e)
moves (rule.power s e ls) = eats_also (moves e) (goes ls)
moves (rule.unary_exponent s p r e) = also_eats (passes p) (moves e)
moves (rule.exponent s e) = moves e
moves (rule.no_links n) = inr refl
moves (rule.more_links s h p e ls) = inl (eats_also (passes_one_operator p) (also (goes e) (goes ls)))
moves (rule.nil_value t) = takes t
moves (rule.false_value t) = takes t
moves (rule.true_value t) = takes t
moves (rule.number t) = takes t
moves (rule.text t) = takes_text t
moves (rule.varargs t k) = takes t
moves (rule.function l t b) = eats_also (takes t) (goes b)
moves (rule.table x) = moves x
moves (rule.prefix x) = moves x
moves (rule.chain h s) = eats_also (moves h) (goes s)
moves (rule.name n) = takes_name n
moves (rule.parenthesis t r e u) = eats_also (takes t) (also (goes e) (eaten (takes u)))
moves (rule.no_suffixes n) = inr refl
moves (rule.more_suffixes h n s ss) = inl (also_eats (counts n) (eats_also (moves s) (goes ss)))
moves (rule.member t n) = eats_also (takes t) (eaten (takes_name n))
moves (rule.index t r e u) = eats_also (takes t) (also (goes e) (eaten (takes u)))
moves (rule.call a) = moves a
moves (rule.method t n a) = eats_also (takes t) (also (eaten (takes_name n)) (goes a))
moves (rule.no_arguments t n r u) = eats_also (takes t) (eaten (takes u))
moves (rule.arguments t n r es u) = eats_also (takes t) (also (goes es) (eaten (takes u)))
moves (rule.table_argument x) = moves x
moves (rule.text_argument t) = takes_text t
moves (rule.last_expression e s) = moves e
moves (rule.more_expressions e t es) = eats_also (moves e) (also (eaten (takes t)) (goes es))
moves (rule.constructor t r fs u) = eats_also (takes t) (also (goes fs) (eaten (takes u)))
moves (rule.no_fields s) = inr refl
moves (rule.last_field n f s) = inl (moves f)
moves (rule.more_fields n f s p fs) = inl (eats_also (moves f) (also (passes p) (goes fs)))
moves (rule.keyed t k u v e) = eats_also (takes t)
    (also (goes k) (also (eaten (takes u)) (also (eaten (takes v)) (goes e))))
moves (rule.named n t e) = eats_also (takes_name n) (also (eaten (takes t)) (goes e))
moves (rule.plain n e) = moves e
moves (rule.function_body b t ps u r block e end) =
    also_eats (begins_body b) (eats_also (takes t)
    (also (goes ps) (also (eaten (takes u)) (also (goes block) (also (eaten (takes e)) (ends_body end))))))
moves (rule.no_parameters s) = inr refl
moves (rule.only_varargs t) = inl (takes t)
moves (rule.last_parameter n s) = inl (takes_name n)
moves (rule.more_parameters n t s ps) = inl (eats_also (takes_name n) (also (eaten (takes t)) (goes ps)))
moves (rule.no_statements e) = inr refl
moves (rule.last_statement l e) = inl (moves l)
moves (rule.more_statements s ss) = inl (eats_also (moves s) (goes ss))
moves (rule.statement l d s) = eats_also (moves d) (semicolon s)
moves (rule.last l d s) = eats_also (moves d) (semicolon s)
moves (rule.break_statement t k) = takes t
moves (rule.return_nothing t e) = takes t
moves (rule.return_values t n es r) = eats_also (takes t) (goes es)
moves (rule.do_block t r b u) = eats_also (takes t) (also (goes b) (eaten (takes u)))
moves (rule.while_loop t e b) = eats_also (takes t) (also (goes e) (goes b))
moves (rule.repeat_loop t r b u e) = eats_also (takes t) (also (goes b) (also (eaten (takes u)) (goes e)))
moves (rule.if_statement t b bs o u) = eats_also (takes t)
    (also (goes b) (also (goes bs) (also (goes o) (eaten (takes u)))))
moves (rule.no_branches s) = inr refl
moves (rule.more_branches t b bs) = inl (eats_also (takes t) (also (goes b) (goes bs)))
moves (rule.branch e t r b) = eats_also (moves e) (also (eaten (takes t)) (goes b))
moves (rule.no_else s) = inr refl
moves (rule.else_block t r b) = inl (eats_also (takes t) (goes b))
moves (rule.for_loop t d) = eats_also (takes t) (goes d)
moves (rule.numeric_for n t b u e s block) =
    eats_also (takes_name n) (also (eaten (takes t))
    (also (goes b) (also (eaten (takes u)) (also (goes e) (also (goes s) (goes block))))))
moves (rule.no_step s) = inr refl
moves (rule.step t e) = inl (eats_also (takes t) (goes e))
moves (rule.generic_for ns t es b) = eats_also (moves ns) (also (eaten (takes t)) (also (goes es) (goes b)))
moves (rule.loop_block t r b u) = eats_also (takes t) (also (goes b) (eaten (takes u)))
moves (rule.function_statement l t n p s b) = eats_also (takes t) (also (eaten (takes_name n)) (also (goes p) (goes b)))
moves (rule.method_statement l t n p u m b) =
    eats_also (takes t) (also (eaten (takes_name n))
    (also (goes p) (also (eaten (takes u)) (also (eaten (takes_name m)) (goes b)))))
moves (rule.no_path s) = inr refl
moves (rule.more_path t n p) = inl (eats_also (takes t) (also (eaten (takes_name n)) (goes p)))
moves (rule.local_function t l u n b) = eats_also (takes t)
    (also (eaten (takes u)) (also (eaten (takes_name n)) (goes b)))
moves (rule.local t ns vs) = eats_also (takes t) (also (goes ns) (goes vs))
moves (rule.one_name n s) = takes_name n
moves (rule.more_names n t ns) = eats_also (takes_name n) (also (eaten (takes t)) (goes ns))
moves (rule.no_values s) = inr refl
moves (rule.values t es) = inl (eats_also (takes t) (goes es))
moves (rule.assign ts t es) = eats_also (moves ts) (also (eaten (takes t)) (goes es))
moves (rule.one_target t s) = moves t
moves (rule.more_targets t u ts) = eats_also (moves t) (also (eaten (takes u)) (goes ts))
moves (rule.own_chain b c r) = also_eats (begins b) (eats_also (moves c) (resumes r))
moves (rule.name_target c) = moves c
moves (rule.index_target ss c e) = moves c
moves (rule.call_statement ss c e) = moves c

-- ---- what no word is taken between

-- ---- some of that

pub eats_suffix : {rules : Rules} {c : Context} {suffix : Suffix} {i j : Position}
    → Spelled rules c (thing.suffix suffix) i j → Eats i j
eats_suffix x = moves x

pub eats_statement : {rules : Rules} {c : Context} {stat : Stat} {i j : Position}
    → Spelled rules c (thing.statement stat) i j → Eats i j
eats_statement x = moves x
