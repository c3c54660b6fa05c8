use Rattle.std.proofs.Common.{◌≡◌, List, sym, ap, true}
use Rattle.lua_parse.proofs.Parted.{suffixed-some}
use Rattle.lua_grammar.specs.Parts as part
use Rattle.lua_grammar.specs.declared.expressions.Suffix.{Suffix}
use Rattle.lua_parse.proofs.trees.suffixed.Goals as goal

pub returns-then-is_empty : goal.returns-then-is_empty
returns-then-is_empty c = sym (ap (λ (ss : List Suffix). part.suffixed c.args.head ss) (c.is_empty.ensures.0 (cc)))

pub returns : goal.returns
returns c = rw c.in_ok-new.ensures (sym (suffixed-some c.args.head c.args.suffixes
    (λ e. let is : c.is_empty.result ≡ true = c.is_empty.ensures.1 e in absurd (cc))))
