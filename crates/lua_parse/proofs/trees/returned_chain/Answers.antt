use Rattle.std.proofs.Common.{◌≡◌, [], ◌∷◌, ◌++◌, sym, ◌∙◌}
use Rattle.lua_parse.proofs.Parted.{no_call, a_call, key_last, none_last}
use Rattle.lua_grammar.specs.declared.expressions.Expr.TheVariants as expr
use Rattle.lua_grammar.specs.declared.expressions.Suffix.TheVariants as suffix_of
use Rattle.lua_parse.proofs.trees.returned_chain.Goals as goal

pub returns-in_ok-function-in-Some-Call : goal.returns-in_ok-function-in-Some-Call
returns-in_ok-function-in-Some-Call c =
    a_call c.args.head c.args.suffixes c.pop.new.self c.in-Some-Call.how c.in_ok-function-in-Some-Call.function
    (rw c.in-Some-Call.field-0-is at c.in-Some-Call.ensures)
    (rw c.into_inner.ensures at c.in_ok-function-in-Some-Call.ensures)

pub returns-in_ok-only-in-Some-Key : goal.returns-in_ok-only-in-Some-Key
returns-in_ok-only-in-Some-Key c =
    let parts : c.args.suffixes ≡ c.pop.new.self ++ suffix_of.Key c.in-Some-Key.key ∷ [] =
    rw c.in-Some-Key.field-0-is at c.in-Some-Key.ensures in
    let whole : c.push.new.self ≡ c.args.suffixes = c.in_ok-push-in-Some-Key.ensures.ok ∙ sym parts in
    no_call (expr.Suffixed c.args.head c.args.suffixes) c.in_ok-only-in-Some-Key.field-0
    (rw whole at c.in_ok-only-in-Some-Key.ensures)
    (key_last c.args.head c.args.suffixes c.pop.new.self c.in-Some-Key.key parts)

pub returns-in_ok-only-in-None : goal.returns-in_ok-only-in-None
returns-in_ok-only-in-None c =
    let none : c.args.suffixes ≡ [] = c.in-None.ensures.0 in
    let whole : c.pop.new.self ≡ c.args.suffixes = c.in-None.ensures.1 ∙ sym none in
    no_call (expr.Suffixed c.args.head c.args.suffixes) c.in_ok-only-in-None.field-0
    (rw whole at c.in_ok-only-in-None.ensures) (none_last c.args.head c.args.suffixes none)
