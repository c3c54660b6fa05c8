use Rattle.std.proofs.Common.{◌≡◌, List, sym, ap, true}
use Rattle.lua_parse.proofs.Parted.{row-some}
use Rattle.lua_grammar.specs.Parts as part
use Rattle.lua_grammar.specs.declared.expressions.Link.{Link}
use Rattle.lua_parse.proofs.trees.row.Goals as goal

pub returns-then-is_empty : goal.returns-then-is_empty
returns-then-is_empty c = sym (ap (λ (ls : List Link). part.row c.args.first ls) (c.is_empty.ensures.0 (cc)))

pub returns : goal.returns
returns c = rw c.in_ok-new.ensures (sym (row-some c.args.first c.args.links
    (λ e. let is : c.is_empty.result ≡ true = c.is_empty.ensures.1 e in absurd (cc))))
