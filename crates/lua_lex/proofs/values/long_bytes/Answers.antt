use Rattle.std.proofs.Common.{sym, arith}
use Rattle.lua_lex.proofs.ValueLemmas.{long_parts}
use Rattle.lua_lex.proofs.values.long_bytes.Goals as goal

pub overflow_sub-bracket : goal.overflow_sub-bracket
overflow_sub-bracket c =
    omega (
      arith,
      long_parts c.args.bracket.now c.in-Some-level.level c.in-Some.len (sym c.in-Some-level.ensures.value)
          (sym c.in-Some.ensures.value),
      c.if-len-bracket.false,
    )
