use Rattle.std.proofs.Common.{refl, arith}
use Rattle.lua_parse.proofs.NumberLemmas.{none_numbered, one_numbered, all_numbered, few_numbered, next_in}
use Rattle.lua_parse.proofs.interner.Texts.words.Goals as goal

pub more-init : goal.more-init
more-init c = rw (c.new-words.ensures.items, c.requires.empty)
    (none_numbered c.args.text.now c.args.tokens.now c.requires.tokens)

pub number_in-requires-clause-few : goal.number_in-requires-clause-few
number_in-requires-clause-few c = omega (arith, few_numbered c.more.invariant c.requires.tokens, c.requires.len)

pub number_in-requires-clause-within : goal.number_in-requires-clause-within
number_in-requires-clause-within c = next_in c.more.invariant c.in-Some.ensures.cases.0

pub more-preserved : goal.more-preserved
more-preserved c = one_numbered _ c.more.invariant c.in-Some.ensures.cases.0 c.in_ok-push.ensures.items refl refl refl
    c.in_ok-number.ensures

pub returns : goal.returns
returns c = all_numbered c.more.invariant c.in_default.ensures.cases
