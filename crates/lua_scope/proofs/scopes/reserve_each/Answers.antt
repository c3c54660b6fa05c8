use Rattle.std.proofs.Common.{◌∙◌, arith}
use Rattle.std.proofs.Math.Seq.{map-set_same}
use Rattle.std.proofs.lemmas.List.Elements.{AllWithin-more_set}
use Rattle.lua_scope.specs.Functions.{scope_of, HasRoom}
use Rattle.lua_scope.proofs.scopes.reserve_each.Goals as goal

pub returns-in_err-reserve-clause-kept : goal.returns-in_err-reserve-clause-kept
returns-in_err-reserve-clause-kept c =
    map-set_same scope_of c.loop-function.functions c.loop-function.function-index c.reserve.new.self
    c.function-item.result c.reserve.ensures.kept
    ∙ c.loop-function.invariant.0

pub loop-function-preserved : goal.loop-function-preserved
loop-function-preserved c = (
  map-set_same scope_of c.loop-function.functions c.loop-function.function-index c.reserve.new.self
      c.function-item.result c.reserve.ensures.kept
      ∙ c.loop-function.invariant.0,
  AllWithin-more_set c.loop-function.functions c.loop-function.function-index c.reserve.new.self (omega arith) HasRoom
      c.loop-function.invariant.1 c.in_ok-reserve.ensures.ok,
)
