use Rattle.lua_scope.specs.Scoping.{is_same}
use Rattle.lua_scope.specs.declared.place.Declaration.{Declaration}
use Rattle.lua_scope.proofs.Lists.{unwrap_or-position}
use Rattle.lua_scope.proofs.function.Function.captured_place.Goals as goal

pub returns : goal.returns
returns c =
    rw (c.unwrap_or.ensures, c.captured_at.ensures, c.len.ensures, c.args.self.now.captured.ok.0)
    (unwrap_or-position (λ (known : Declaration). is_same known c.args.declaration) c.args.self.now.captured.items)
