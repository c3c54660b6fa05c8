-- A function that ends.
use Rattle.std.proofs.Common.{◌≡◌, List, [], ◌∷◌, ◌++◌, None, ap, ◌∙◌}
use Rattle.lua_scope.specs.Scoping.{FunctionScope, Nesting, front, last, function_left, block_left, left}
use Rattle.lua_scope.proofs.Lists.{front-push, last-push}

pub left-function : (s : Nesting) (fs : List FunctionScope) (around : FunctionScope) → last s.running.begins ≡ None
    → s.enclosing ≡ fs ++ around ∷ [] → left s ≡ record { enclosing = fs; running = around }
left-function s fs around none e =
    ap (block_left s) none
    ∙ ap (λ (xs : List FunctionScope). function_left s (last xs)) e
    ∙ ap (function_left s) (last-push fs around)
    ∙ ap (λ (xs : List FunctionScope). record { enclosing = front xs; running = around }) e
    ∙ ap (λ (xs : List FunctionScope). record { enclosing = xs; running = around }) (front-push fs around)
