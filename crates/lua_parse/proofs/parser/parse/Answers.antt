use Rattle.std.proofs.Common.{arith}
use Rattle.lua_parse.proofs.NumberLemmas.{words_fit}
use Rattle.lua_parse.proofs.Faults.{fault_at}
use Rattle.lua_parse.proofs.parser.parse.Goals as goal

pub new-reader-requires : goal.new-reader-requires
new-reader-requires c =
    let are = rw c.as_slice.ensures at c.in_ok-words.ensures in
    let few = words_fit are c.in_ok-tokens.ensures.found in
    rw c.as_slice-2.ensures.value (omega (arith, few, c.requires))

pub returns-in-Err-Syntax : goal.returns-in-Err-Syntax
returns-in-Err-Syntax c =
    let are = rw c.as_slice.ensures at c.in_ok-words.ensures in
    let from = rw (c.new-reader.ensures, c.as_slice-2.ensures.value) at c.in-Err-Syntax.ensures in
    let halts = rw c.in-Err-Syntax.field-0-is at from in
    rw c.in-Err-Syntax.field-0-is (fault_at _ _ _ _ _ _ _ c.in_ok-tokens.ensures.found are halts c.stop_line.ensures)
