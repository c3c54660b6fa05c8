use Rattle.lua_scope.proofs.Found.{captures-found}
use Rattle.lua_scope.proofs.laws.captured_locals_are_found.Goals as goal

pub returns : goal.returns
returns c = captures-found
