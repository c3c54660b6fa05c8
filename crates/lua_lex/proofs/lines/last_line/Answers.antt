use Rattle.std.proofs.Common.{refl, arith}
use Rattle.lua_lex.proofs.LineLemmas.{pass-breaks, pass-le}
use Rattle.lua_lex.proofs.lines.last_line.Goals as goal

pub overflow_add-result : goal.overflow_add-result
overflow_add-result c = rw (c.pass.ensures, c.new.ensures)
    (omega (arith, pass-le (record { breaks = 0; pending = 0 }) c.args.text.now))

pub returns : goal.returns
returns c = rw (c.pass.ensures, c.new.ensures, pass-breaks) refl
