-- Productions, completed by the shortest words.
use Rattle.std.proofs.Common.{◌≡◌, ℕ, ◌≤◌, true, false, List, [], ◌∷◌, ◌++◌, Option, Some, None, refl, sym, ap, ◌∙◌}
use Rattle.std.proofs.Common.{subst}
use Rattle.std.proofs.lemmas.List.{append_assoc}
use Rattle.lua_lex.specs.declared.kinds.TokenKind.{TokenKind}
use Rattle.lua_lex.specs.declared.kinds.TokenKind.TheVariants as kind
use Rattle.lua_grammar.specs.declared.context.Context.{Context}
use Rattle.lua_grammar.specs.declared.words.Word.{Word}
use Rattle.lua_grammar.specs.declared.expressions.Name.{Name}
use Rattle.lua_grammar.specs.declared.expressions.Expr.TheVariants as expr
use Rattle.lua_grammar.specs.declared.expressions.Field.TheVariants as field_of
use Rattle.lua_grammar.specs.declared.expressions.Suffix.TheVariants as suffix_of
use Rattle.lua_grammar.specs.declared.expressions.Call.TheVariants as call_of
use Rattle.lua_grammar.specs.declared.statements.Deed.TheVariants as deed_of
use Rattle.lua_grammar.specs.declared.statements.Target.TheVariants as target_of
use Rattle.lua_grammar.specs.Words.{ends_block}
use Rattle.lua_grammar.specs.Positions as at
use Rattle.lua_grammar.specs.Positions.{Position}
use Rattle.lua_grammar.specs.Contexts.{Rules}
use Rattle.lua_grammar.specs.Parts.{stat_of, branch_of}
use Rattle.lua_grammar.specs.Classes as class
use Rattle.lua_grammar.specs.Classes.{Class, Tree, thing_of, EndsInCall}
use Rattle.lua_grammar.specs.Productions as part
use Rattle.lua_grammar.specs.Productions.{Part, IsPart, AreParts, HasLevel}
use Rattle.lua_grammar.proofs.Ends.{nothing_is_end}
use Rattle.lua_grammar.proofs.Continuations.{lead, Follows, MayFollow}
use Rattle.lua_grammar.proofs.Behind.{ends_with_no, other}
use Rattle.lua_grammar.proofs.Least.{least, front_line, next_words, lead_is, takes_front, takes_front_name}
use Rattle.lua_grammar.proofs.Least.{nil_expression, nil_operand, nil_list, text_arguments, one_name, no_fields}
use Rattle.lua_grammar.proofs.Least.{empty_block, no_links, no_branches, no_else, no_step, no_path, no_values}
use Rattle.lua_grammar.proofs.Least.{least_function_body, least_loop, least_branch, least_range}
use Rattle.lua_grammar.proofs.Modes.{room}

-- ---- what may come behind a class

abbrev pub some_name : Name
some_name = record { text = 0; line = 0; start = 0 }

pub no_call_at_all : EndsInCall [] → ⊥
no_call_at_all (before, how, e) = nothing_is_end before (suffix_of.Call how) e

-- a tree of each class
abbrev pub a_tree : (k : Class) → Tree k
a_tree class.expression = expr.Nil
a_tree (class.operand rank) = expr.Nil
a_tree (class.links rank) = []
a_tree class.simple = expr.Nil
a_tree class.head = expr.Nil
a_tree (class.chain class.anything) = (expr.Nil, [], tt)
a_tree (class.chain class.front) = (expr.Name some_name, [], λ e. (some_name, refl))
a_tree (class.chain class.target) = (expr.Name some_name, [], (λ e. (some_name, refl), no_call_at_all))
a_tree (class.own_chain class.anything) = (expr.Nil, [], tt)
a_tree (class.own_chain class.front) = (expr.Name some_name, [], λ e. (some_name, refl))
a_tree (class.own_chain class.target) = (expr.Name some_name, [], (λ e. (some_name, refl), no_call_at_all))
a_tree (class.suffixes class.anything) = ([], tt)
a_tree (class.suffixes class.front) = ([], tt)
a_tree (class.suffixes class.target) = ([], no_call_at_all)
a_tree class.suffix = suffix_of.Call (call_of.Plain [])
a_tree class.arguments = []
a_tree class.list = []
a_tree class.constructor = []
a_tree class.fields = []
a_tree class.field = field_of.Plain expr.Nil
a_tree class.names = []
a_tree class.parameters = ([], false)
a_tree (class.function_body line method) = 0
a_tree class.block = []
a_tree class.statement = stat_of 0 (deed_of.Do [])
a_tree class.deed = deed_of.Do []
a_tree class.last = stat_of 0 deed_of.Break
a_tree class.last_deed = deed_of.Break
a_tree class.loop_block = []
a_tree class.branches = []
a_tree class.branch = branch_of expr.Nil []
a_tree class.otherwise = []
a_tree class.for_range = deed_of.Do []
a_tree class.step = None
a_tree class.path = []
a_tree class.values = []
a_tree class.targets = []
a_tree class.target = target_of.Name some_name

-- what may come behind something of a class is the same for all its trees
abbrev pub Allows : Class → Option TokenKind → Type 0
Allows k w = Follows (thing_of k (a_tree k)) w

pub allows : (k : Class) (w : Option TokenKind) → MayFollow k w → Allows k w
allows k w f = f (a_tree k)

pub allowed : (k : Class) (x : Tree k) (w : Option TokenKind) → Allows k w → Follows (thing_of k x) w
allowed class.expression x w f = f
allowed k x w f = f

-- ---- what may come behind a part

abbrev pub Behind : Part → Option TokenKind → Type 0
Behind (part.some c k) w = Allows k w
Behind part.semicolon w = ends_block w ≡ true
Behind part.block_end w = ends_block w ≡ true
Behind p w = Unit {0}

abbrev pub least_all : List Part → List Word
least_all [] = []
least_all (p ∷ ps) = least p ++ least_all ps

-- the first of these words, or of what comes behind them
abbrev pub FirstOf : List Word → (Option TokenKind → Type 0) → Option TokenKind → Type 0
FirstOf [] G w = G w
FirstOf (word ∷ words) G w = w ≡ Some word.kind

-- the first of the shortest words of these parts, or of what comes behind them
abbrev pub First : List Part → (Option TokenKind → Type 0) → Option TokenKind → Type 0
First [] F w = F w
First (p ∷ ps) F w = FirstOf (least p) (First ps F) w

-- the shortest words of the parts from any of them on may come behind the part before it
abbrev pub Fits : List Part → (Option TokenKind → Type 0) → Type 0
Fits [] F = Unit {0}
Fits (part.some c k ∷ ps) F = ((w : Option TokenKind) → First ps F w → Allows k w) × Fits ps F
Fits (part.semicolon ∷ ps) F = ((w : Option TokenKind) → First ps F w → ends_block w ≡ true) × Fits ps F
Fits (part.block_end ∷ ps) F = ((w : Option TokenKind) → First ps F w → ends_block w ≡ true) × Fits ps F
Fits (p ∷ ps) F = Fits ps F

pub fit : (p : Part) (ps : List Part) (F : Option TokenKind → Type 0) → Fits (p ∷ ps) F
    → ((w : Option TokenKind) → First ps F w → Behind p w) × Fits ps F
fit (part.some c k) ps F f = f
fit part.semicolon ps F f = f
fit part.block_end ps F f = f
fit p ps F f = (λ w x. tt, f)

first_of_is : (words : List Word) (G : Option TokenKind → Type 0) (rest : List Word) → G (lead rest)
    → FirstOf words G (lead (words ++ rest))
first_of_is [] G rest g = g
first_of_is (word ∷ words) G rest g = refl

pub first_is : (ps : List Part) (F : Option TokenKind → Type 0) (t : List Word) → F (lead t)
    → First ps F (lead (least_all ps ++ t))
first_is [] F t f = f
first_is (p ∷ ps) F t f =
    let first = first_of_is (least p) (First ps F) (least_all ps ++ t) (first_is ps F t f) in
    subst (λ (words : List Word). First (p ∷ ps) F (lead words)) (sym (append_assoc (least p) (least_all ps) t)) first

-- ---- the parts that can be completed

-- what is asked for the shortest words to spell the part
pub data Need : Type 0 where
  free : Need
  level : Context → Need
  within : ℕ → Need
  never : Need

abbrev pub need_of : Context → Class → Need
need_of c class.expression = free
need_of c (class.operand rank) = within rank
need_of c (class.links rank) = free
need_of c class.arguments = free
need_of c class.list = free
need_of c class.fields = free
need_of c class.names = free
need_of c (class.function_body line method) = level c
need_of c class.block = free
need_of c class.loop_block = level c
need_of c class.branches = free
need_of c class.branch = level c
need_of c class.otherwise = free
need_of c class.for_range = level c
need_of c class.step = free
need_of c class.path = free
need_of c class.values = free
need_of c k = never

abbrev pub need : Part → Need
need (part.some c k) = need_of c k
need part.any = never
need part.operator = never
need p = free

abbrev pub Given : Need → Type 0
Given free = Unit {0}
Given (level c) = HasLevel c
Given (within rank) = rank ≤ 8
Given never = ⊥

abbrev pub Met : Need → Type 0 → Type 0
Met free A = A
Met n A = Given n × A

-- what is asked for each of these parts
abbrev pub AllMet : List Part → Type 0
AllMet [] = Unit {0}
AllMet (p ∷ ps) = Met (need p) (AllMet ps)

pub met : (n : Need) {A : Type 0} → Met n A → Given n × A
met free a = (tt, a)
met (level c) a = a
met (within rank) a = a
met never a = a

-- ---- completion

stays_before : (w : Option TokenKind) (i : Position) → ends_block w ≡ true → i ≡ at.behind_semicolon w i
stays_before (Some kind.Semicolon) i e = cc
stays_before w i e = refl

-- the shortest words of a part spell it
pub completes : (rules : Rules) (p : Part) (i : Position) {t : List Word} → Given (need p) → i.words ≡ least p ++ t
    → Behind p (lead t)
    → (j : Position) × IsPart rules p i j × (j.words ≡ t)
completes rules (part.word k) i g e b = (at.next i, takes_front i e, next_words i e)
completes rules part.name i g e b = (at.next i, (at.name i, takes_front_name i e refl), next_words i e)
completes rules (part.function_on line) i g e b = (at.next i, (sym (front_line i e), takes_front i e), next_words i e)
completes rules part.semicolon i g e b =
    (i, record { taken = stays_before (at.kind i) i (ap ends_block (lead_is i e) ∙ b) }, e)
completes rules part.block_end i g e b = (i, (ap ends_block (lead_is i e) ∙ b, refl), e)
completes rules (part.some c class.expression) i g e b = nil_expression i e b
completes rules (part.some c (class.operand rank)) i g e b = nil_operand i rank g e b
completes rules (part.some c (class.links rank)) i g e b = no_links i rank e b
completes rules (part.some c class.arguments) i g e b = text_arguments i e
completes rules (part.some c class.list) i g e b = nil_list i e b
completes rules (part.some c class.fields) i g e b = no_fields i e b
completes rules (part.some c class.names) i g e b = one_name i e b
completes rules (part.some c (class.function_body line method)) i g e b =
    least_function_body line method i (room rules g) e
completes rules (part.some c class.block) i g e b = empty_block i e b
completes rules (part.some c class.loop_block) i g e b = least_loop i (room rules g) e
completes rules (part.some c class.branches) i g e b = no_branches i e (other kind.End kind.ElseIf (λ f. cc) _ b)
completes rules (part.some c class.branch) i g e b = least_branch i (room rules g) e (ap ends_block b)
completes rules (part.some c class.otherwise) i g e b = no_else i e (other kind.End kind.Else (λ f. cc) _ b)
completes rules (part.some c class.for_range) i g e b = least_range i (room rules g) e
completes rules (part.some c class.step) i g e b = no_step i e (other kind.Do kind.Comma (λ f. cc) _ b)
completes rules (part.some c class.path) i g e b = no_path i e b.0
completes rules (part.some c class.values) i g e b = no_values i e (ends_with_no kind.Assign refl _ b)
completes rules p i g e b = absurd g

pub completed : (rules : Rules) (ps : List Part) (F : Option TokenKind → Type 0) (i : Position) (t : List Word)
    → AllMet ps → Fits ps F
    → F (lead t) → i.words ≡ least_all ps ++ t → (j : Position) × AreParts rules ps i j × (j.words ≡ t)
completed rules [] F i t h f may e = (i, refl, e)
completed rules (p ∷ ps) F i t h f may e =
    let (given, h') = met (need p) h in
    let (fits, f') = fit p ps F f in
    let (j, x, e') = completes rules p i given (e ∙ append_assoc (least p) (least_all ps) t)
    (fits _ (first_is ps F t may)) in
    let (k, xs, e'') = completed rules ps F j t h' f' may e' in
    (k, (j, x, xs), e'')
