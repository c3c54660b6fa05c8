-- What is read again with other words behind it has the same end, and the same tree.
use Rattle.std.proofs.Common.{◌≡◌, ℕ, Bool, List, sym}
use Rattle.lua_grammar.specs.declared.context.Context.{Context}
use Rattle.lua_grammar.specs.declared.words.Word.{Word}
use Rattle.lua_grammar.specs.declared.expressions.Name.{Name}
use Rattle.lua_grammar.specs.declared.expressions.Expr.{Expr}
use Rattle.lua_grammar.specs.declared.expressions.Suffix.{Suffix}
use Rattle.lua_grammar.specs.Positions.{Position}
use Rattle.lua_grammar.specs.Contexts.{Rules, every_rule}
use Rattle.lua_grammar.specs.Things as thing
use Rattle.lua_grammar.specs.Things.{Thing}
use Rattle.lua_grammar.specs.Grammar.{Spelled}
use Rattle.lua_grammar.specs.Classes as class
use Rattle.lua_grammar.specs.Classes.{Class, Tree, thing_of, Reads}
use Rattle.lua_grammar.proofs.Unique.{Unique}
use Rattle.lua_grammar.proofs.Once.{once}
use Rattle.lua_grammar.proofs.Continuations.{instead, Shown}
use Rattle.lua_grammar.proofs.Carry.{carry_shown}

pub again : {c : Context} (k : Class) {rules : Rules} (x : Tree k) {i j j' : Position} {n : ℕ} {words : List Word}
    → Spelled every_rule c (thing_of k x) i j → Shown j n words → Reads rules c k (instead n words i) j'
    → j' ≡ instead n words j
again class.expression {rules} x y s (x', z) = sym ((once (carry_shown y rules s) _ _ z).1)
again (class.operand rank) {rules} x y s (x', z) = sym ((once (carry_shown y rules s) _ _ z).1)
again (class.links rank) {rules} x y s (x', z) = sym ((once (carry_shown y rules s) _ _ z).1)
again class.simple {rules} x y s (x', z) = sym ((once (carry_shown y rules s) _ _ z).1)
again class.head {rules} x y s (x', z) = sym ((once (carry_shown y rules s) _ _ z).1)
again (class.chain sought) {rules} x y s (x', z) = sym ((once (carry_shown y rules s) _ _ _ z).2)
again (class.own_chain sought) {rules} x y s (x', z) = sym ((once (carry_shown y rules s) _ _ _ z).2)
again (class.suffixes sought) {rules} x y s (x', z) = sym ((once (carry_shown y rules s) _ _ z).1)
again class.suffix {rules} x y s (x', z) = sym ((once (carry_shown y rules s) _ _ z).1)
again class.arguments {rules} x y s (x', z) = sym ((once (carry_shown y rules s) _ _ z).1)
again class.list {rules} x y s (x', z) = sym ((once (carry_shown y rules s) _ _ z).1)
again class.constructor {rules} x y s (x', z) = sym ((once (carry_shown y rules s) _ _ z).1)
again class.fields {rules} x y s (x', z) = sym ((once (carry_shown y rules s) _ _ z).1)
again class.field {rules} x y s (x', z) = sym ((once (carry_shown y rules s) _ _ z).1)
again class.names {rules} x y s (x', z) = sym ((once (carry_shown y rules s) _ _ z).1)
again class.parameters {rules} x y s (x', z) = sym ((once (carry_shown y rules s) _ _ _ z).2)
again (class.function_body line method) {rules} x y s (x', z) = sym ((once (carry_shown y rules s) _ _ z).1)
again class.block {rules} x y s (x', z) = sym ((once (carry_shown y rules s) _ _ z).1)
again class.statement {rules} x y s (x', z) = sym ((once (carry_shown y rules s) _ _ z).1)
again class.deed {rules} x y s (x', z) = sym ((once (carry_shown y rules s) _ _ z).1)
again class.last {rules} x y s (x', z) = sym ((once (carry_shown y rules s) _ _ z).1)
again class.last_deed {rules} x y s (x', z) = sym ((once (carry_shown y rules s) _ _ z).1)
again class.loop_block {rules} x y s (x', z) = sym ((once (carry_shown y rules s) _ _ z).1)
again class.branches {rules} x y s (x', z) = sym ((once (carry_shown y rules s) _ _ z).1)
again class.branch {rules} x y s (x', z) = sym ((once (carry_shown y rules s) _ _ z).1)
again class.otherwise {rules} x y s (x', z) = sym ((once (carry_shown y rules s) _ _ z).1)
again class.for_range {rules} x y s (x', z) = sym ((once (carry_shown y rules s) _ _ z).1)
again class.step {rules} x y s (x', z) = sym ((once (carry_shown y rules s) _ _ z).1)
again class.path {rules} x y s (x', z) = sym ((once (carry_shown y rules s) _ _ z).1)
again class.values {rules} x y s (x', z) = sym ((once (carry_shown y rules s) _ _ z).1)
again class.targets {rules} x y s (x', z) = sym ((once (carry_shown y rules s)).0 _ _ z).1
again class.target {rules} x y s (x', z) = sym ((once (carry_shown y rules s)).0 _ _ z).1

-- and the same tree
pub again_unique : {c : Context} {t : Thing} {i j : Position} → Spelled every_rule c t i j
    → (rules : Rules) {n : ℕ} {words : List Word}
    → Shown j n words → Unique rules c t (instead n words i) (instead n words j)
again_unique x rules s = once (carry_shown x rules s)

pub again_parameters : {c : Context} {rules : Rules} {names names' : List Name} {varargs varargs' : Bool}
    {i j j' : Position}
    {n : ℕ} {words : List Word} → Spelled every_rule c (thing.parameters names varargs) i j → Shown j n words
    → Spelled rules c (thing.parameters names' varargs') (instead n words i) j'
    → (varargs ≡ varargs') × (j' ≡ instead n words j)
again_parameters {rules = rules} x s y =
    let (same, more, end) = again_unique x rules s _ _ _ y in
    (more, sym end)

pub again_own_chain : {c : Context} {rules : Rules} {head head' : Expr} {all all' : List Suffix} {i j j' : Position}
    {n : ℕ} {words : List Word}
    → Spelled every_rule c (thing.own_chain head all) i j → Shown j n words
    → Spelled rules c (thing.own_chain head' all') (instead n words i) j'
    → (head ≡ head') × (all ≡ all') × (j' ≡ instead n words j)
again_own_chain {rules = rules} x s y =
    let (same, more, end) = again_unique x rules s _ _ _ y in
    (same, more, sym end)
