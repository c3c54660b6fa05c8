use Rattle.lua_parse.proofs.Parted.{no_call}
use Rattle.lua_parse.proofs.trees.returned_value.Goals as goal

pub returns-in-Suffixed : goal.returns-in-Suffixed
returns-in-Suffixed c = rw c.in-Suffixed.is c.returned_chain.ensures

pub returns-in_ok-only-in_default : goal.returns-in_ok-only-in_default
returns-in_ok-only-in_default c = no_call c.args.value c.in_ok-only-in_default.field-0 c.in_ok-only-in_default.ensures
    (λ head suffixes how e. absurd (c.in_default.not-Suffixed head _ e))
