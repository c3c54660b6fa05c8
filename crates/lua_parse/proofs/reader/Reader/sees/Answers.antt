use Rattle.lua_parse.proofs.KindLemmas.{sees_is, is_sees}
use Rattle.lua_parse.proofs.reader.Reader.sees.Goals as goal

pub returns : goal.returns
returns c = rw (c.eq.ensures, c.peek.ensures) (sees_is _ c.args.kind c.requires, is_sees _ c.args.kind c.requires)
