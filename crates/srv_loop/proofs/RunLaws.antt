-- Runs of the machine, one turn more.
use Rattle.std.proofs.Common.{◌≡◌, List, [], ◌∷◌, ◌++◌, ap, ◌∙◌}
use Rattle.std.proofs.lemmas.Grind.{flat_map-append}
use Rattle.std.proofs.lemmas.List.Sums.{fold-append}
use Rattle.rs_outside.specs.declared.turn.Turn.{Turn}
use Rattle.fx_log.specs.Groups.{group_text}
use Rattle.cl_core.specs.Machine.{State, step, with_turn, run_from, silent}
use Rattle.srv_loop.specs.Runs.{logged_in}

pub run-push : (server : State) (turns : List Turn) (turn : Turn)
    → run_from server (turns ++ turn ∷ []) ≡ with_turn (run_from server turns) turn
run-push server turns turn = fold-append with_turn (silent server) turns (turn ∷ [])

pub logged-push : (server : State) (turns : List Turn) (turn : Turn)
    → logged_in (run_from server (turns ++ turn ∷ [])) ≡ logged_in (run_from server turns)
    ++ logged_in (step (run_from server turns).state turn)
logged-push server turns turn =
    ap logged_in (run-push server turns turn)
    ∙ flat_map-append group_text (run_from server turns).groups (step (run_from server turns).state turn).groups
