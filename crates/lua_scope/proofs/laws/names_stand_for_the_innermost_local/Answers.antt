use Rattle.lua_scope.proofs.Declared.{place-declared, place-declared_other}
use Rattle.lua_scope.proofs.Behind.{declaration-enclosed, locals-enclosed}
use Rattle.lua_scope.proofs.Kept.{declaration-after}
use Rattle.lua_scope.proofs.Numbers.{place-again}
use Rattle.lua_scope.proofs.Innermost.{declaration-IsInnermost, declaration-None}
use Rattle.lua_scope.proofs.laws.names_stand_for_the_innermost_local.Goals as goal

pub returns-clause-innermost : goal.returns-clause-innermost
returns-clause-innermost c = declaration-IsInnermost

pub returns-clause-undeclared : goal.returns-clause-undeclared
returns-clause-undeclared c = declaration-None

pub returns-clause-seen : goal.returns-clause-seen
returns-clause-seen c = place-declared

pub returns-clause-others : goal.returns-clause-others
returns-clause-others c = place-declared_other

pub returns-clause-behind : goal.returns-clause-behind
returns-clause-behind c = declaration-enclosed

pub returns-clause-forgotten : goal.returns-clause-forgotten
returns-clause-forgotten c = locals-enclosed

pub returns-clause-again : goal.returns-clause-again
returns-clause-again c = place-again

pub returns-clause-kept : goal.returns-clause-kept
returns-clause-kept c = declaration-after
