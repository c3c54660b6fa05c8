use Rattle.lua_grammar.specs.Grammar as rule
use Rattle.lua_grammar.specs.Stuck as stuck
use Rattle.lua_parse.proofs.grammar.Grammar.break_statement.Goals as goal

pub returns : goal.returns
returns g c = rule.break_statement c.in_ok-take.ensures (cc)

pub returns-then-not-self : goal.returns-then-not-self
returns-then-not-self g c = stuck.break_statement c.requires.seen (cc)
