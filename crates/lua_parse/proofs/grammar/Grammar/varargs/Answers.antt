use Rattle.lua_grammar.specs.Grammar as rule
use Rattle.lua_grammar.specs.Stuck as stuck
use Rattle.lua_parse.proofs.grammar.Grammar.varargs.Goals as goal

pub returns : goal.returns
returns g c = rule.varargs (record { seen = c.requires; taken = c.pass.ensures }) (cc)

pub returns-then-not-self : goal.returns-then-not-self
returns-then-not-self g c = stuck.varargs c.requires (cc)
