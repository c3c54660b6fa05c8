-- What is spelled is spelled with other words behind it, too, if these do not go on with it.
use Rattle.std.proofs.Common.{◌≡◌, ◌≢◌, ◌⊎◌, inl, inr, ℕ, ◌≤◌, true, false, List, [], length, Some, None}
use Rattle.std.proofs.Common.{option_and_then, refl, ap, subst₂, arith}
use Rattle.lua_lex.specs.declared.kinds.TokenKind.TheVariants as kind
use Rattle.lua_grammar.specs.declared.kinds.SyntaxKind.{SyntaxKind}
use Rattle.lua_grammar.specs.declared.kinds.SyntaxKind.TheVariants as fault
use Rattle.lua_grammar.specs.declared.context.Context.{Context}
use Rattle.lua_grammar.specs.declared.words.Word.{Word}
use Rattle.lua_grammar.specs.Operators.{binary_operator}
use Rattle.lua_grammar.specs.Words.{begins_suffix, ends_block, ends_return}
use Rattle.lua_grammar.specs.Positions as at
use Rattle.lua_grammar.specs.Positions.{Position}
use Rattle.lua_grammar.specs.Contexts.{Rules, every_rule}
use Rattle.lua_grammar.specs.Things.{Thing}
use Rattle.lua_grammar.specs.Grammar as by
use Rattle.lua_grammar.specs.Grammar.{Spelled}
use Rattle.lua_grammar.proofs.Progress.{goes, moves, takes, takes_name, passes_one, passes_one_operator, semicolon}
use Rattle.lua_grammar.proofs.Progress.{resumes, ends_body}
use Rattle.lua_grammar.proofs.Continuations.{instead, Shown, Follows}
use Rattle.lua_grammar.proofs.Instead.{instead_none, kind_shown, text_instead, passes_instead, operator_instead}
use Rattle.lua_grammar.proofs.Instead.{counts_instead, begins_instead, resumes_instead, body_instead, ends_instead}
use Rattle.lua_grammar.proofs.Behind.{ends_operands, ends_with_no, ends_lists, ends_returns, brace_ends, do_ends}
use Rattle.lua_grammar.proofs.Behind.{end_ends, other}
use Rattle.lua_grammar.proofs.Changes.{Change, Reaches, After, weak, goes_over, eats_over, seen, kept, back, turn}
use Rattle.lua_grammar.proofs.Changes.{holds, holds_at, line_at, sign_at, joint_at, near_at, took, named, resumed}
use Rattle.lua_grammar.proofs.Changes.{semicolon_moves, semicolon_changed, parameters_eat, unnamed}

carried : {from rules : Rules} (p : Change from rules) {c : Context} {t : Thing} {i j : Position} → Spelled from c t i j
    → Reaches p.count j
    → After p (Follows t) j → Spelled rules c t (instead p.count p.words i) (instead p.count p.words j)
carried p (by.expression b x r) h s =
    by.expression (begins_instead p.count p.words b) (carried p x (goes_over (resumes r) h) (resumed r s))
    (resumes_instead p.count p.words r)
carried p (by.operands le x y) h s = by.operands le (carried p x (goes_over (goes y) h) (back (moves y) h s))
    (carried p y h s)
carried p (by.unary g q r x) h s =
    let j = goes_over (goes x) h in
    by.unary (sign_at p _ (eats_over (passes_one q) j) g) (passes_instead p.count p.words q j.words)
    (kept p fault.TooDeep _ r) (carried p x h s)
carried p (by.power g x y) h s =
    let j = goes_over (goes y) h in
    by.power (sign_at p _ (eats_over (moves x) j) g) (carried p x j (back (moves y) h s)) (carried p y h s)
carried p (by.unary_exponent g q r x) h s =
    let j = goes_over (goes x) h in
    by.unary_exponent (sign_at p _ (eats_over (passes_one q) j) g) (passes_instead p.count p.words q j.words)
    (kept p fault.TooDeep _ r)
    (carried p x h s)
carried p (by.exponent g x) h s = by.exponent (sign_at p _ (eats_over (moves x) h) g) (carried p x h s)
carried p (by.no_links {rank = rank} e) h s =
    by.no_links (holds (λ w. at.of_rank rank (option_and_then binary_operator w) ≡ None)
    (λ w f. ap (at.of_rank rank) f.1) s e)
carried p (by.more_links e l q x y) h s =
    let k = goes_over (goes y) h in
    let j = goes_over (goes x) k in
    by.more_links (joint_at p _ _ (eats_over (passes_one_operator q) j) e) (kept p fault.TooLong _ l)
    (operator_instead p.count p.words q j.words)
    (carried p x k (back (moves y) h s)) (carried p y h s)
carried p (by.nil_value t) h s = by.nil_value (took p t h)
carried p (by.false_value t) h s = by.false_value (took p t h)
carried p (by.true_value t) h s = by.true_value (took p t h)
carried p (by.number t) h s = by.number (took p t h)
carried p (by.text t) h s = by.text (text_instead p.count p.words t h.words)
carried p (by.varargs t k) h s = by.varargs (took p t h) (kept p fault.NoVararg _ k)
carried p (by.function l t x) h s =
    let j = goes_over (goes x) h in
    by.function (line_at p (eats_over (takes t) j) l) (took p t j) (carried p x h (turn (λ w m. _) s))
carried p (by.table x) h s = by.table (carried p x h (turn (λ w m. _) s))
carried p (by.prefix x) h s = by.prefix (carried p x h s)
carried p (by.chain x y) h s = by.chain (carried p x (goes_over (goes y) h) (back (moves y) h (turn (λ w m. _) s)))
    (carried p y h s)
carried p (by.name n) h s = by.name (named p n h)
carried p (by.parenthesis t r x u) h s =
    let k = eats_over (takes u) h in
    by.parenthesis (took p t (goes_over (goes x) (weak k))) (kept p fault.TooDeep _ r) (carried p x (weak k) (seen k))
    (took p u h)
carried p (by.no_suffixes e) h s = by.no_suffixes (holds (λ w. begins_suffix w ≡ false) (λ w f. f.0) s e)
carried p (by.more_suffixes l b x y) h s =
    by.more_suffixes (kept p fault.TooLong _ l) (counts_instead p.count p.words b)
    (carried p x (goes_over (goes y) h) (back (moves y) h (turn (λ w m. _) s))) (carried p y h s)
carried p (by.member t n) h s = by.member (took p t (weak (eats_over (takes_name n) h))) (named p n h)
carried p (by.index t r x u) h s =
    let k = eats_over (takes u) h in
    by.index (took p t (goes_over (goes x) (weak k))) (kept p fault.TooDeep _ r) (carried p x (weak k) (seen k))
    (took p u h)
carried p (by.call x) h s = by.call (carried p x h s)
carried p (by.method t n x) h s =
    let k = goes_over (goes x) h in
    by.method (took p t (weak (eats_over (takes_name n) k))) (named p n k) (carried p x h s)
carried p (by.no_arguments {i = i} t n r u) h s =
    let j = eats_over (takes u) h in
    by.no_arguments (took p t (weak j)) (near_at p i (eats_over (takes t) (weak j)) n) (kept p fault.TooDeep _ r)
    (took p u h)
carried p (by.arguments {i = i} t n r x u) h s =
    let k = eats_over (takes u) h in
    let j = goes_over (goes x) (weak k) in
    by.arguments (took p t j) (near_at p i (eats_over (takes t) j) n) (kept p fault.TooDeep _ r)
    (carried p x (weak k) (seen k)) (took p u h)
carried p (by.table_argument x) h s = by.table_argument (carried p x h s)
carried p (by.text_argument t) h s = by.text_argument (text_instead p.count p.words t h.words)
carried p (by.last_expression x n) h s =
    by.last_expression (carried p x h (turn (λ w f. f.0) s)) (holds (λ w. w ≢ Some kind.Comma) (λ w f. f.1) s n)
carried p (by.more_expressions x t y) h s =
    let k = goes_over (goes y) h in
    let j = eats_over (takes t) k in
    by.more_expressions (carried p x (weak j) (seen j)) (took p t k) (carried p y h s)
carried p (by.constructor t r x u) h s =
    let k = eats_over (takes u) h in
    by.constructor (took p t (goes_over (goes x) (weak k))) (kept p fault.TooDeep _ r) (carried p x (weak k) (seen k))
    (took p u h)
carried p (by.no_fields e) h s = by.no_fields (holds (λ w. w ≡ Some kind.RightBrace) (λ w f. f) s e)
carried p (by.last_field n x e) h s =
    by.last_field (holds_at p (λ w. w ≢ Some kind.RightBrace) (eats_over (moves x) h) n) (carried p x h s)
    (holds (λ w. at.is_separator w ≡ false) (λ w f. ap at.is_separator f) s e)
carried p (by.more_fields n x e q y) h s =
    let k = goes_over (goes y) h in
    let j = eats_over (passes_one q) k in
    by.more_fields (holds_at p (λ w. w ≢ Some kind.RightBrace) (eats_over (moves x) (weak j)) n)
    (carried p x (weak j) (seen j))
    (holds_at p (λ w. at.is_separator w ≡ true) j e) (passes_instead p.count p.words q k.words) (carried p y h s)
carried p (by.keyed t x u v y) h s =
    let n = goes_over (goes y) h in
    let m = eats_over (takes v) n in
    let l = eats_over (takes u) (weak m) in
    by.keyed (took p t (goes_over (goes x) (weak l))) (carried p x (weak l) (seen l)) (took p u (weak m)) (took p v n)
    (carried p y h (turn brace_ends s))
carried p (by.named n t x) h s =
    let k = goes_over (goes x) h in
    by.named (named p n (weak (eats_over (takes t) k))) (took p t k) (carried p x h (turn brace_ends s))
carried p (by.plain n x) h s = by.plain (unnamed p (moves x) h s n) (carried p x h (turn brace_ends s))
carried p (by.function_body b t x u r y v e) h s =
    let o = goes_over (ends_body e) h in
    let n = eats_over (takes v) o in
    let m = goes_over (goes y) (weak n) in
    let l = eats_over (takes u) m in
    by.function_body (body_instead p.count p.words b) (took p t (goes_over (goes x) (weak l)))
    (carried p x (weak l) (seen l)) (took p u m)
    (kept p fault.TooDeep _ r) (carried p y (weak n) (seen n)) (took p v o) (ends_instead p.count p.words e)
carried p (by.no_parameters e) h s = by.no_parameters (holds (λ w. w ≡ Some kind.RightParen) (λ w f. f) s e)
carried p (by.only_varargs t) h s = by.only_varargs (took p t h)
carried p (by.last_parameter n m) h s =
    by.last_parameter (named p n h) (holds (λ w. w ≢ Some kind.Comma) (other kind.RightParen kind.Comma (λ e. cc)) s m)
carried p (by.more_parameters n t m x) h s =
    let k = eats_over (parameters_eat x m) h in
    by.more_parameters (named p n (weak (eats_over (takes t) (weak k)))) (took p t (weak k))
    (holds_at p (λ w. w ≢ Some kind.RightParen) k m)
    (carried p x h s)
carried p (by.no_statements e) h s = by.no_statements (holds (λ w. ends_block w ≡ true) (λ w f. f) s e)
carried p (by.last_statement x e) h s = by.last_statement (carried p x h s)
    (holds (λ w. ends_block w ≡ true) (λ w f. f) s e)
carried p (by.more_statements x y) h s =
    by.more_statements (carried p x (goes_over (goes y) h) (back (moves y) h s)) (carried p y h s)
carried p (by.statement l x q) h s =
    let j = goes_over (semicolon q) h in
    by.statement (line_at p (eats_over (moves x) j) l) (carried p x j (back (semicolon_moves q) h s))
    (semicolon_changed p q h s)
carried p (by.last l x q) h s =
    let j = goes_over (semicolon q) h in
    by.last (line_at p (eats_over (moves x) j) l) (carried p x j (back (semicolon_moves q) h s))
    (semicolon_changed p q h s)
carried p (by.break_statement t k) h s = by.break_statement (took p t h) (kept p fault.NoLoop _ k)
carried p (by.return_nothing t e) h s = by.return_nothing (took p t h)
    (holds (λ w. ends_return w ≡ true) ends_returns s e)
carried p (by.return_values t e x r) h s =
    let j = eats_over (moves x) h in
    by.return_values (took p t (weak j)) (holds_at p (λ w. ends_return w ≡ false) j e)
    (carried p x h (turn ends_lists s)) r
carried p (by.do_block t r x u) h s =
    let k = eats_over (takes u) h in
    by.do_block (took p t (goes_over (goes x) (weak k))) (kept p fault.TooDeep _ r) (carried p x (weak k) (seen k))
    (took p u h)
carried p (by.while_loop t x y) h s =
    let k = eats_over (moves y) h in
    by.while_loop (took p t (goes_over (goes x) (weak k))) (carried p x (weak k) (seen k))
    (carried p y h (turn (λ w m. _) s))
carried p (by.repeat_loop t r x u y) h s =
    let l = goes_over (goes y) h in
    let k = eats_over (takes u) l in
    by.repeat_loop (took p t (goes_over (goes x) (weak k))) (kept p fault.TooDeep _ r) (carried p x (weak k) (seen k))
    (took p u l)
    (carried p y h (turn ends_operands s))
carried p (by.if_statement t x y z u) h s =
    let m = eats_over (takes u) h in
    let l = goes_over (goes z) (weak m) in
    let k = goes_over (goes y) l in
    by.if_statement (took p t (goes_over (goes x) k))
    (carried p x k (back (moves y) l (back (moves z) (weak m) (seen m))))
    (carried p y l (back (moves z) (weak m) (seen m))) (carried p z (weak m) (seen m)) (took p u h)
carried p (by.no_branches n) h s =
    by.no_branches (holds (λ w. w ≢ Some kind.ElseIf) (other kind.End kind.ElseIf (λ e. cc)) s n)
carried p (by.more_branches t x y) h s =
    let k = goes_over (goes y) h in
    by.more_branches (took p t (goes_over (goes x) k)) (carried p x k (back (moves y) h s)) (carried p y h s)
carried p (by.branch x t r y) h s =
    let k = goes_over (goes y) h in
    let j = eats_over (takes t) k in
    by.branch (carried p x (weak j) (seen j)) (took p t k) (kept p fault.TooDeep _ r) (carried p y h (turn end_ends s))
carried p (by.no_else n) h s = by.no_else (holds (λ w. w ≢ Some kind.Else) (other kind.End kind.Else (λ e. cc)) s n)
carried p (by.else_block t r x) h s =
    by.else_block (took p t (goes_over (goes x) h)) (kept p fault.TooDeep _ r) (carried p x h (turn end_ends s))
carried p (by.for_loop t x) h s = by.for_loop (took p t (goes_over (goes x) h)) (carried p x h (turn (λ w m. _) s))
carried p (by.numeric_for n t x u y z v) h s =
    let o = eats_over (moves v) h in
    let n' = goes_over (goes z) (weak o) in
    let m = goes_over (goes y) n' in
    let l = eats_over (takes u) m in
    let k = goes_over (goes x) (weak l) in
    by.numeric_for (named p n (weak (eats_over (takes t) k))) (took p t k) (carried p x (weak l) (seen l)) (took p u m)
    (carried p y n' (back (moves z) (weak o) (seen o))) (carried p z (weak o) (seen o)) (carried p v h s)
carried p (by.no_step n) h s = by.no_step (holds (λ w. w ≢ Some kind.Comma) (other kind.Do kind.Comma (λ e. cc)) s n)
carried p (by.step t x) h s = by.step (took p t (goes_over (goes x) h)) (carried p x h (turn do_ends s))
carried p (by.generic_for x t y z) h s =
    let l = eats_over (moves z) h in
    let k = goes_over (goes y) (weak l) in
    let j = eats_over (takes t) k in
    by.generic_for (carried p x (weak j) (seen j)) (took p t k) (carried p y (weak l) (seen l)) (carried p z h s)
carried p (by.loop_block t r x u) h s =
    let k = eats_over (takes u) h in
    by.loop_block (took p t (goes_over (goes x) (weak k))) (kept p fault.TooDeep _ r) (carried p x (weak k) (seen k))
    (took p u h)
carried p (by.function_statement l t n x m y) h s =
    let k' = eats_over (moves y) h in
    let k = goes_over (goes x) (weak k') in
    let j = weak (eats_over (takes_name n) k) in
    by.function_statement (line_at p (eats_over (takes t) j) l) (took p t j) (named p n k)
    (carried p x (weak k') (seen k'))
    (holds_at p (λ w. w ≢ Some kind.Colon) k' m) (carried p y h (turn (λ w m. _) s))
carried p (by.method_statement l t n x u o y) h s =
    let m = goes_over (goes y) h in
    let m' = weak (eats_over (takes_name o) m) in
    let k' = eats_over (takes u) m' in
    let k = goes_over (goes x) (weak k') in
    let j = weak (eats_over (takes_name n) k) in
    by.method_statement (line_at p (eats_over (takes t) j) l) (took p t j) (named p n k)
    (carried p x (weak k') (seen k')) (took p u m')
    (named p o m) (carried p y h (turn (λ w m. _) s))
carried p (by.no_path n) h s = by.no_path (holds (λ w. w ≢ Some kind.Dot) (λ w f. f.0) s n)
carried p (by.more_path t n x) h s =
    let k = goes_over (goes x) h in
    by.more_path (took p t (weak (eats_over (takes_name n) k))) (named p n k) (carried p x h s)
carried p (by.local_function t l u n x) h s =
    let k' = goes_over (goes x) h in
    let k = weak (eats_over (takes_name n) k') in
    let j = eats_over (takes u) k in
    by.local_function (took p t (weak j)) (line_at p j l) (took p u k) (named p n k')
    (carried p x h (turn (λ w m. _) s))
carried p (by.local t x y) h s =
    let k = goes_over (goes y) h in
    by.local (took p t (goes_over (goes x) k))
    (carried p x k (back (moves y) h (turn (ends_with_no kind.Comma refl) s))) (carried p y h s)
carried p (by.one_name n m) h s = by.one_name (named p n h) (holds (λ w. w ≢ Some kind.Comma) (λ w f. f) s m)
carried p (by.more_names n t x) h s =
    let k = goes_over (goes x) h in
    by.more_names (named p n (weak (eats_over (takes t) k))) (took p t k) (carried p x h s)
carried p (by.no_values n) h s = by.no_values (holds (λ w. w ≢ Some kind.Assign) (ends_with_no kind.Assign refl) s n)
carried p (by.values t x) h s = by.values (took p t (goes_over (goes x) h)) (carried p x h (turn ends_lists s))
carried p (by.assign x t y) h s =
    let k = goes_over (goes y) h in
    let j = eats_over (takes t) k in
    by.assign (carried p x (weak j) (seen j)) (took p t k) (carried p y h (turn ends_lists s))
carried p (by.one_target x n) h s =
    by.one_target (carried p x h (turn (λ w f. f.0) s)) (holds (λ w. w ≢ Some kind.Comma) (λ w f. f.1) s n)
carried p (by.more_targets x t y) h s =
    let k = goes_over (goes y) h in
    let j = eats_over (takes t) k in
    by.more_targets (carried p x (weak j) (seen j)) (took p t k) (carried p y h s)
carried p (by.own_chain b x r) h s =
    by.own_chain (begins_instead p.count p.words b) (carried p x (goes_over (resumes r) h) (resumed r s))
    (resumes_instead p.count p.words r)
carried p (by.name_target x) h s = by.name_target (carried p x h s)
carried p (by.index_target suffixes x e) h s = by.index_target suffixes (carried p x h s) e
carried p (by.call_statement suffixes x e) h s = by.call_statement suffixes (carried p x h (turn ends_operands s)) e

-- by these rules, if they are among those
pub carry_by : {from : Rules} {c : Context} {t : Thing} {i j : Position} → Spelled from c t i j → (rules : Rules)
    → ((f : SyntaxKind) → rules f ≡ true → from f ≡ true) → (n : ℕ) (words : List Word) → n ≤ length j.words
    → (at.kind (instead n words j) ≡ at.kind j) ⊎ Follows t (at.kind (instead n words j))
    → Spelled rules c t (instead n words i) (instead n words j)
carry_by {from} x rules fewer n words h s =
    let p : Change from rules = record { fewer = fewer; count = n; words = words } in
    carried p x (record { words = h }) (record { comes = s })

pub carry : {c : Context} {t : Thing} {i j : Position} → Spelled every_rule c t i j
    → (rules : Rules) (n : ℕ) (words : List Word)
    → n ≤ length j.words → (at.kind (instead n words j) ≡ at.kind j) ⊎ Follows t (at.kind (instead n words j))
    → Spelled rules c t (instead n words i) (instead n words j)
carry x rules n words h s = carry_by x rules (λ f e. refl) n words h s

pub shown_reaches : (j : Position) {n : ℕ} {words : List Word} → Shown j n words → n ≤ length j.words
shown_reaches j (inl less) = omega (arith, less)
shown_reaches j (inr (none, e)) = omega (arith, none)

pub carry_shown : {c : Context} {t : Thing} {i j : Position} → Spelled every_rule c t i j
    → (rules : Rules) {n : ℕ} {words : List Word}
    → Shown j n words → Spelled rules c t (instead n words i) (instead n words j)
carry_shown {j = j} x rules {n} {words} s = carry x rules n words (shown_reaches j s) (inl (kind_shown j s))

-- by fewer rules
pub relaxed : {from : Rules} {c : Context} {t : Thing} {i j : Position} → Spelled from c t i j → (rules : Rules)
    → ((f : SyntaxKind) → rules f ≡ true → from f ≡ true) → Spelled rules c t i j
relaxed {c = c} {t} {i} {j} x rules fewer =
    let there : Spelled rules c t (instead 0 [] i) (instead 0 [] j) =
    carry_by x rules fewer 0 [] (omega arith) (inl (kind_shown j (inr (refl, refl)))) in
    subst₂ (λ (a b : Position). Spelled rules c t a b) (instead_none i) (instead_none j) there
