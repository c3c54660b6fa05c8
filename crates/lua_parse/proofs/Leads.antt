-- Lists that a loop reads: what they lack yet, put behind what was read, is spelled from where the loop began.
use Rattle.std.proofs.Common.{◌≡◌, ◌≢◌, ◌<◌, Bool, List, [], ◌∷◌, ◌++◌, Option, Some, sym, ap, ◌∙◌, subst, refl, true}
use Rattle.std.proofs.Common.{false, append-nil, append_assoc}
use Rattle.lua_lex.specs.declared.kinds.TokenKind.{TokenKind}
use Rattle.lua_lex.specs.declared.kinds.TokenKind.TheVariants as kind
use Rattle.lua_grammar.specs.declared.context.Context.{Context}
use Rattle.lua_grammar.specs.declared.expressions.Name.{Name}
use Rattle.lua_grammar.specs.declared.statements.Target.{Target}
use Rattle.lua_grammar.specs.declared.statements.Branch.{Branch}
use Rattle.lua_grammar.specs.Positions.{Position, Takes, TakesName, SeesNot}
use Rattle.lua_grammar.specs.Contexts.{every_rule}
use Rattle.lua_grammar.specs.Things as thing
use Rattle.lua_grammar.specs.Things.{Thing}
use Rattle.lua_grammar.specs.Grammar.{Spelled}
use Rattle.lua_grammar.specs.Grammar as rule
use Rattle.lua_grammar.specs.declared.kinds.SyntaxKind.{SyntaxKind}
use Rattle.lua_grammar.specs.declared.kinds.SyntaxKind.TheVariants as fault
use Rattle.lua_grammar.specs.Positions as at
use Rattle.lua_grammar.specs.Classes as class
use Rattle.lua_grammar.specs.Classes.{Class}
use Rattle.lua_grammar.specs.Productions as parts
use Rattle.lua_grammar.specs.Stuck as stuck
use Rattle.lua_grammar.specs.Stuck.{Stuck, begins_parameter}
use Rattle.lua_parse.specs.declared.stops.Halt.{Halt}
use Rattle.lua_parse.specs.declared.stops.Halt.TheVariants as halt
use Rattle.lua_parse.specs.Halts.{IsRefused}

-- where what they lack is stuck, the whole is
abbrev pub Backs : Context → Class → Position → Position → Type 0
Backs c t i j = (f : SyntaxKind) (z : Position) → Stuck f c t j z → Stuck f c t i z

pub record Leads (A : Type 0) (make : List A → Thing) (t : Class) (c : Context) (done : List A) (i j : Position) : Type
    0 where
  pub rest : (rest : List A) (end : Position) → Spelled every_rule c (make rest) j end
      → Spelled every_rule c (make (done ++ rest)) i end
  pub backs : Backs c t i j

-- since what follows was not read
pub led : {A : Type 0} {make : List A → Thing} {t : Class} {c : Context} {done : List A} {i j : Position} (r : Halt)
    (z : Position)
    → Leads A make t c done i j → IsRefused r c t j z → IsRefused r c t i z
led (halt.Syntax f) z l s = l.backs f z s
led halt.NoMemory z l s = tt

joined : {A : Type 0} (done longer : List A) (x : A) → longer ≡ done ++ x ∷ [] → (rest : List A)
    → done ++ (x ∷ rest) ≡ longer ++ rest
joined {A} done longer x e rest = sym (ap (λ (xs : List A). xs ++ rest) e ∙ append_assoc done (x ∷ []) rest)

pub none_yet : {A : Type 0} {make : List A → Thing} {t : Class} {c : Context} {i : Position} → Leads A make t c [] i i
none_yet = record { rest = λ rest end s. s; backs = λ f z s. s }

pub one_more : {A : Type 0} {make : List A → Thing} {t : Class} {c : Context} {done longer : List A} {x : A}
    {i j k : Position}
    → Leads A make t c done i j → longer ≡ done ++ x ∷ []
    → ((rest : List A) (end : Position) → Spelled every_rule c (make rest) k end
    → Spelled every_rule c (make (x ∷ rest)) j end)
    → Backs c t j k → Leads A make t c longer i k
one_more {A} {make} {t} {c} {done} {longer} {x} {i} {j} {k} l e step back = record {
  backs = λ f z s. l.backs f z (back f z s);
  rest = λ rest end s. let P : List A → Type 0 = λ xs. Spelled every_rule c (make xs) i end in
      subst P (joined done longer x e rest) (l.rest (x ∷ rest) end (step rest end s));
}

pub ended : {A : Type 0} {make : List A → Thing} {t : Class} {c : Context} {done : List A} {i j k : Position}
    → Leads A make t c done i j → Spelled every_rule c (make []) j k → Spelled every_rule c (make done) i k
ended {A} {make} {t} {c} {done} {i} {j} {k} l s = let P : List A → Type 0 = λ xs. Spelled every_rule c (make xs) i k in
    subst P (append-nil done) (l.rest [] k s)

pub ended_by : {A : Type 0} {make : List A → Thing} {t : Class} {c : Context} {done longer : List A} {x : A}
    {i j k : Position} → Leads A make t c done i j → longer ≡ done ++ x ∷ []
    → Spelled every_rule c (make (x ∷ [])) j k → Spelled every_rule c (make longer) i k
ended_by {A} {make} {t} {c} {done} {longer} {x} {i} {j} {k} l e s = let P : List A → Type 0 =
    λ xs. Spelled every_rule c (make xs) i k in subst P (sym e) (l.rest (x ∷ []) k s)

-- the same of parameters. Behind a comma no `)` comes
pub record ParametersLead (c : Context) (done : List Name) (i j : Position) : Type 0 where
  pub rest : (rest : List Name) (varargs : Bool) (end : Position) → SeesNot kind.RightParen j
      → Spelled every_rule c (thing.parameters rest varargs) j end
      → Spelled every_rule c (thing.parameters (done ++ rest) varargs) i end
  pub backs : SeesNot kind.RightParen j → Backs c class.parameters i j
  -- where no parameter comes behind a comma, or at the front
  pub lacking : SeesNot kind.Dots j → SeesNot kind.Name j → Stuck fault.Unexpected c class.parameters i j

no_start : (w : Option TokenKind) → w ≢ Some kind.RightParen → w ≢ Some kind.Dots → w ≢ Some kind.Name
    → begins_parameter w ≡ false
no_start (Some kind.RightParen) a b d = absurd (a refl)
no_start (Some kind.Dots) a b d = absurd (b refl)
no_start (Some kind.Name) a b d = absurd (d refl)
no_start w a b d = refl

pub no_parameter_yet : {c : Context} {i : Position} → SeesNot kind.RightParen i → ParametersLead c [] i i
no_parameter_yet {c} {i} other = record {
  rest = λ rest varargs end unseen s. s;
  backs = λ unseen f z s. s;
  lacking = λ a b. stuck.parameter (no_start (at.kind i) other a b);
}

named_not_closed : {n : Name} {i j : Position} → TakesName n i j → SeesNot kind.RightParen i
named_not_closed t = λ e. absurd (cc (t.seen, e))

dots_not_closed : {i j : Position} → Takes kind.Dots i j → SeesNot kind.RightParen i
dots_not_closed t = λ e. absurd (cc (t.seen, e))

lacking_behind : {c : Context} {n : Name} {j k l : Position} (w : Option TokenKind) → at.kind l ≡ w → TakesName n j k
    → Takes kind.Comma k l
    → w ≢ Some kind.Dots → w ≢ Some kind.Name → Stuck fault.Unexpected c class.parameters j l
lacking_behind (Some kind.RightParen) e t u a b = stuck.last_comma t u e
lacking_behind w e t u a b =
    stuck.more_parameters t u (λ s. absurd (cc (e, s)))
    (stuck.parameter (ap begins_parameter e ∙ no_start w (λ s. absurd (cc s)) a b))

pub one_more_parameter : {c : Context} {done longer : List Name} {n : Name} {i j k l : Position}
    → ParametersLead c done i j → longer ≡ done ++ n ∷ []
    → TakesName n j k → Takes kind.Comma k l → ParametersLead c longer i l
one_more_parameter {c} {done} {longer} {n} {i} {j} {k} {l} lead e t u = record {
  rest = λ rest varargs end no s. let P : List Name → Type 0 =
      λ xs. Spelled every_rule c (thing.parameters xs varargs) i end in
      subst P (joined done longer n e rest) (lead.rest (n ∷ rest) varargs end (named_not_closed t)
      (rule.more_parameters t u no s));
  backs = λ no f z s. lead.backs (named_not_closed t) f z (stuck.more_parameters t u no s);
  lacking = λ a b. lead.backs (named_not_closed t) fault.Unexpected l (lacking_behind (at.kind l) refl t u a b);
}

pub last_parameter : {c : Context} {done longer : List Name} {n : Name} {i j k : Position} → ParametersLead c done i j
    → longer ≡ done ++ n ∷ []
    → TakesName n j k → SeesNot kind.Comma k → Spelled every_rule c (thing.parameters longer false) i k
last_parameter {c} {done} {longer} {n} {i} {j} {k} lead e t u = let P : List Name → Type 0 =
    λ xs. Spelled every_rule c (thing.parameters xs false) i k in
    subst P (sym e) (lead.rest (n ∷ []) false k (named_not_closed t) (rule.last_parameter t u))

pub dots_behind : {c : Context} {done : List Name} {i j k : Position} → ParametersLead c done i j → Takes kind.Dots j k
    → Spelled every_rule c (thing.parameters done true) i k
dots_behind {c} {done} {i} {j} {k} lead t = let P : List Name → Type 0 =
    λ xs. Spelled every_rule c (thing.parameters xs true) i k in
    subst P (append-nil done) (lead.rest [] true k (dots_not_closed t) (rule.only_varargs t))

-- behind a target: the targets end there, or go on behind a comma
pub record TargetsLead (c : Context) (done : List Target) (i j : Position) : Type 0 where
  pub ends : SeesNot kind.Comma j → Spelled every_rule c (thing.targets done) i j
  pub goes_on : (k : Position) → Takes kind.Comma j k → Leads Target thing.targets class.targets c done i k
  pub backs : (k : Position) → Takes kind.Comma j k → (f : SyntaxKind) (z : Position) → Stuck f c class.targets k z
      → Stuck f c class.deed i z

pub first_target : {c : Context} {target : Target} {i j : Position} → Spelled every_rule c (thing.target target) i j
    → TargetsLead c (target ∷ []) i j
first_target {c} {target} {i} {j} s = record {
  ends = λ no. rule.one_target s no;
  goes_on = λ k t. record {
    rest = λ rest end more. rule.more_targets s t more;
    backs = λ f z x. stuck.more_targets s t x;
  };
  backs = λ k t f z x. stuck.more_of_targets s t x;
}

pub next_target : {c : Context} {done longer : List Target} {target : Target} {i j k l : Position}
    → TargetsLead c done i j → Takes kind.Comma j k
    → Spelled every_rule c (thing.target target) k l → longer ≡ done ++ target ∷ [] → TargetsLead c longer i l
next_target {c} {done} {longer} {target} {i} {j} {k} {l} lead t s e = record {
  ends = λ no. ended_by (lead.goes_on k t) e (rule.one_target s no);
  goes_on = λ m u. one_more (lead.goes_on k t) e (λ rest end more. rule.more_targets s u more)
      (λ f z x. stuck.more_targets s u x);
  backs = λ m u f z x. lead.backs k t f z (stuck.more_targets s u x);
}

-- branches behind a first one
pub record Behind (c : Context) (first : Branch) (all : List Branch) (i j : Position) : Type 0 where
  pub done : List Branch
  pub all_are : all ≡ first ∷ done
  pub leads : Leads Branch thing.branches class.branches c done i j

pub one_more_branch : {c : Context} {first branch : Branch} {all longer : List Branch} {i j k l : Position}
    → Behind c first all i j → longer ≡ all ++ branch ∷ []
    → Takes kind.ElseIf j k → Spelled every_rule c (thing.branch branch) k l → c.level < 60 → Behind c first longer i l
one_more_branch {c} {first} {branch} {all} {longer} {i} {j} {k} {l} b e t s level = record {
  done = b.done ++ branch ∷ [];
  all_are = e ∙ ap (λ (xs : List Branch). xs ++ branch ∷ []) b.all_are;
  leads = one_more b.leads refl (λ rest end more. rule.more_branches t s more)
      (λ f z x. stuck.inside (parts.branches t.seen level) (parts.more t (parts.more (branch, s) parts.nothing)) x);
}
