-- That what is spelled from a position on has one tree and one end.
use Rattle.std.proofs.Common.{◌≡◌, Bool, List, [], ◌∷◌, ◌++◌, sym, ap, ◌∙◌}
use Rattle.lua_grammar.specs.declared.context.Context.{Context}
use Rattle.lua_grammar.specs.declared.expressions.Name.{Name}
use Rattle.lua_grammar.specs.declared.expressions.Expr.{Expr}
use Rattle.lua_grammar.specs.declared.expressions.Suffix.{Suffix}
use Rattle.lua_grammar.specs.declared.expressions.Suffix.TheVariants as suffix_of
use Rattle.lua_grammar.specs.declared.expressions.Call.{Call}
use Rattle.lua_grammar.specs.Positions as at
use Rattle.lua_grammar.specs.Positions.{Position, TakesName}
use Rattle.lua_grammar.specs.Contexts.{Rules}
use Rattle.lua_grammar.specs.Things as thing
use Rattle.lua_grammar.specs.Things.{Thing}
use Rattle.lua_grammar.specs.Grammar.{Spelled}

-- no other answer and no other end
abbrev pub One : {A : Type 0} → (A → Position → Type 0) → A → Position → Type 0
One {A} P a j = (a' : A) (j' : Position) → P a' j' → (a ≡ a') × (j ≡ j')

-- no chain that is a call begins there
abbrev pub NoCall : Rules → Context → Position → Type 0
NoCall rules c i = (head : Expr) (all suffixes : List Suffix) (how : Call) (z : Position)
    → Spelled rules c (thing.own_chain head all) i z
    → all ≡ suffixes ++ suffix_of.Call how ∷ [] → ⊥

abbrev pub Unique : Rules → Context → Thing → Position → Position → Type 0
Unique rules c (thing.expression e) i j = One (λ a z. Spelled rules c (thing.expression a) i z) e j
Unique rules c (thing.operand rank e) i j = One (λ a z. Spelled rules c (thing.operand rank a) i z) e j
Unique rules c (thing.links rank links) i j = One (λ a z. Spelled rules c (thing.links rank a) i z) links j
Unique rules c (thing.simple e) i j = One (λ a z. Spelled rules c (thing.simple a) i z) e j
Unique rules c (thing.head e) i j = One (λ a z. Spelled rules c (thing.head a) i z) e j
Unique rules c (thing.chain head suffixes) i j = (head' : Expr) (suffixes' : List Suffix) (j' : Position)
    → Spelled rules c (thing.chain head' suffixes') i j' → (head ≡ head') × (suffixes ≡ suffixes') × (j ≡ j')
Unique rules c (thing.own_chain head suffixes) i j = (head' : Expr) (suffixes' : List Suffix) (j' : Position)
    → Spelled rules c (thing.own_chain head' suffixes') i j' → (head ≡ head') × (suffixes ≡ suffixes') × (j ≡ j')
Unique rules c (thing.suffixes suffixes) i j = One (λ a z. Spelled rules c (thing.suffixes a) i z) suffixes j
Unique rules c (thing.suffix suffix) i j = One (λ a z. Spelled rules c (thing.suffix a) i z) suffix j
Unique rules c (thing.arguments es) i j = One (λ a z. Spelled rules c (thing.arguments a) i z) es j
Unique rules c (thing.list es) i j = One (λ a z. Spelled rules c (thing.list a) i z) es j
Unique rules c (thing.constructor fields) i j = One (λ a z. Spelled rules c (thing.constructor a) i z) fields j
Unique rules c (thing.fields fields) i j = One (λ a z. Spelled rules c (thing.fields a) i z) fields j
Unique rules c (thing.field f) i j = One (λ a z. Spelled rules c (thing.field a) i z) f j
Unique rules c (thing.names names) i j = One (λ a z. Spelled rules c (thing.names a) i z) names j
Unique rules c (thing.parameters names varargs) i j = (names' : List Name) (varargs' : Bool) (j' : Position)
    → Spelled rules c (thing.parameters names' varargs') i j' → (names ≡ names') × (varargs ≡ varargs') × (j ≡ j')
Unique rules c (thing.function_body line method number) i j =
    One (λ a z. Spelled rules c (thing.function_body line method a) i z) number j
Unique rules c (thing.block block) i j = One (λ a z. Spelled rules c (thing.block a) i z) block j
Unique rules c (thing.statement stat) i j = One (λ a z. Spelled rules c (thing.statement a) i z) stat j
Unique rules c (thing.deed deed) i j = One (λ a z. Spelled rules c (thing.deed a) i z) deed j
Unique rules c (thing.last stat) i j = One (λ a z. Spelled rules c (thing.last a) i z) stat j
Unique rules c (thing.last_deed deed) i j = One (λ a z. Spelled rules c (thing.last_deed a) i z) deed j
Unique rules c (thing.loop_block block) i j = One (λ a z. Spelled rules c (thing.loop_block a) i z) block j
Unique rules c (thing.branches branches) i j = One (λ a z. Spelled rules c (thing.branches a) i z) branches j
Unique rules c (thing.branch branch) i j = One (λ a z. Spelled rules c (thing.branch a) i z) branch j
Unique rules c (thing.otherwise block) i j = One (λ a z. Spelled rules c (thing.otherwise a) i z) block j
Unique rules c (thing.for_range deed) i j = One (λ a z. Spelled rules c (thing.for_range a) i z) deed j
Unique rules c (thing.step step) i j = One (λ a z. Spelled rules c (thing.step a) i z) step j
Unique rules c (thing.path path) i j = One (λ a z. Spelled rules c (thing.path a) i z) path j
Unique rules c (thing.values es) i j = One (λ a z. Spelled rules c (thing.values a) i z) es j
Unique rules c (thing.targets targets) i j = One (λ a z. Spelled rules c (thing.targets a) i z) targets j
    × NoCall rules c i
Unique rules c (thing.target target) i j = One (λ a z. Spelled rules c (thing.target a) i z) target j × NoCall rules c i

-- behind the words of equal positions
pub onward : {i i' j j' : Position} → j ≡ at.next i → i ≡ i' → j' ≡ at.next i' → j ≡ j'
onward a to b = a ∙ ap at.next to ∙ sym b

-- `p` with the counts of the expression that `i` stands in
abbrev pub resumed : Position → Position → Position
resumed i p = record p { operators = i.operators; suffixes = i.suffixes }

pub same_name_taken : {n n' : Name} {i i' j j' : Position} → TakesName n i j → i ≡ i' → TakesName n' i' j'
    → (n ≡ n') × (j ≡ j')
same_name_taken t to t' = (t.name_is ∙ ap at.name to ∙ sym t'.name_is, onward t.taken to t'.taken)
