use Rattle.std.proofs.Common.{ap}
use Rattle.lua_grammar.specs.Grammar as rule
use Rattle.lua_grammar.specs.declared.expressions.Name.{Name}
use Rattle.lua_parse.proofs.grammar.Grammar.text_argument.Goals as goal

pub returns : goal.returns
returns g c = rw c.in_ok-only.ensures (rule.text_argument
    (record { seen = c.requires; number_is = ap (λ (n : Name). n.text) c.name-number.ensures; taken = c.pass.ensures }))
