use Rattle.std.proofs.Common.{◌-◌}
use Rattle.lua_parse.proofs.grammar.+read.Given as goal

abbrev pub decreases-read : goal.decreases-read
decreases-read l = 60 - l.context.level
