use Rattle.std.proofs.Common.{◌≡◌, ◌-◌, ◌∙◌, true, [], sym, get_or, arith}
use Rattle.std.specs.Str.{bytes_eq}
use Rattle.std.proofs.lemmas.List.{get_or_read}
use Rattle.lua_scope.proofs.Finding.{last_place-before}
use Rattle.lua_scope.proofs.function.Function.number_of.Goals as goal

pub returns-then-eq : goal.returns-then-eq
returns-then-eq c =
    let name = c.args.name.now in
    let locals = c.args.self.now.locals.items in
    let at = c.loop-at.at - 1 in
    let here : bytes_eq (get_or locals at []) name ≡ true =
    rw (← get_or_read locals at c.index.result.now (omega arith) c.index.ensures [], ← c.as_slice.ensures.value)
    (sym c.eq.ensures ∙ c.if-eq.true) in
    sym (last_place-before name locals c.loop-at.at (omega arith) (omega arith) c.loop-at.invariant here)
