use Rattle.std.proofs.Common.{◌∙◌}
use Rattle.lua_parse.proofs.Parted.{many_no_call}
use Rattle.lua_parse.proofs.trees.returned.Goals as goal

pub returns-then-len-ne1 : goal.returns-then-len-ne1
returns-then-len-ne1 c = many_no_call c.args.values (λ e. c.if-len-ne1.true (c.len.ensures ∙ e))
