use Rattle.lua_lex.specs.Lines.{is_break}
use Rattle.lua_lex.proofs.Prefixes.{first_byte}
use Rattle.lua_lex.proofs.items.line_len.Goals as goal

pub returns-clause-value : goal.returns-clause-value
returns-clause-value c = first_byte is_break c.args.text.now c.memchr2.result c.unwrap_or.result c.memchr2.ensures
    c.unwrap_or.ensures
