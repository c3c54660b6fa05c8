-- The machine's runs are what happened tells.
use Rattle.std.proofs.Common.{◌≡◌, max, List, [], ◌∷◌, ◌++◌, map, fold, append-nil, append_assoc, refl, sym, ap, ◌∙◌}
use Rattle.std.proofs.lemmas.List.Sums.{fold-append}
use Rattle.rs_outside.specs.declared.turn.Turn.{Turn}
use Rattle.rs_outside.specs.declared.turn.OutRow.TheVariants.{Shut}
use Rattle.ks_space.specs.Purge.{gone}
use Rattle.cmd_args.specs.declared.turn.Mode.TheVariants.{Client}
use Rattle.cmd_exec.specs.Exec.{exec}
use Rattle.cl_core.specs.Machine.{Clients, Run, world_of, silent, beginning, sending, reply_row, with_clients}
use Rattle.cl_core.specs.Machine.{group_of, removal, with_command, begun_at, with_turn, run_from}
use Rattle.cl_core.specs.History.{Event, Began, Asked, Told, Ended, events, events_from, happened, rows_in, groups_in}
use Rattle.cl_core.specs.History.{IsHistory}
use Rattle.cl_core.proofs.EventLaws.{with_event, fold_with_clients, with_turn_is, clients_then, events_then}

world_is : (all : List Event) (run : Run)
    → world_of (fold with_event run all).state ≡ fold happened (world_of run.state) all
world_is [] run = refl
world_is (Began clock word ∷ all) run = world_is all (begun_at clock word run)
world_is (Asked client words ∷ all) run = world_is all (with_command client run words)
world_is (Told client answer ∷ all) run = world_is all (sending (reply_row client answer) run)
world_is (Ended client ∷ all) run = world_is all (sending (Shut client) run)

rows_are : (all : List Event) (run : Run)
    → (fold with_event run all).rows ≡ run.rows ++ rows_in (world_of run.state) all
rows_are [] run = sym (append-nil run.rows)
rows_are (Began clock word ∷ all) run = rows_are all (begun_at clock word run)
rows_are (Asked client words ∷ all) run =
    let next = with_command client run words in
    rows_are all next ∙ append_assoc run.rows (reply_row client (exec (world_of run.state) Client words).reply ∷ [])
    (rows_in (world_of next.state) all)
rows_are (Told client answer ∷ all) run =
    rows_are all (sending (reply_row client answer) run)
    ∙ append_assoc run.rows (reply_row client answer ∷ []) (rows_in (world_of run.state) all)
rows_are (Ended client ∷ all) run = rows_are all (sending (Shut client) run)
    ∙ append_assoc run.rows (Shut client ∷ []) (rows_in (world_of run.state) all)

groups_are : (all : List Event) (run : Run)
    → (fold with_event run all).groups ≡ run.groups ++ groups_in (world_of run.state) all
groups_are [] run = sym (append-nil run.groups)
groups_are (Began clock word ∷ all) run =
    let next = begun_at clock word run in
    groups_are all next ∙ append_assoc run.groups (map removal (gone run.state.store (max run.state.time clock)))
    (groups_in (world_of next.state) all)
groups_are (Asked client words ∷ all) run =
    let next = with_command client run words in
    groups_are all next ∙ append_assoc run.groups (group_of (exec (world_of run.state) Client words).records)
    (groups_in (world_of next.state) all)
groups_are (Told client answer ∷ all) run = groups_are all (sending (reply_row client answer) run)
groups_are (Ended client ∷ all) run = groups_are all (sending (Shut client) run)

-- a run is what happens in its turns
abbrev Tells : Run → List Turn → Run → Type 0
Tells run turns after = (clients : Clients)
    × (after ≡ with_clients clients (fold with_event run (events_from run.state.clients turns)))

turns_tell : (turns : List Turn) (run : Run) → Tells run turns (fold with_turn run turns)
turns_tell [] run = (run.state.clients, refl)
turns_tell (turn ∷ turns) run =
    let clients = clients_then run.state.clients turn in
    let front = events_then run.state.clients turn in
    let all = fold with_event run front in
    let rest = turns_tell turns (with_clients clients all) in (
      rest.0,
      ap (λ r. fold with_turn r turns) (with_turn_is run turn) ∙ rest.1
          ∙ ap (with_clients rest.0) (fold_with_clients clients (events_from clients turns) all
          ∙ ap (with_clients clients) (sym (fold-append with_event run front (events_from clients turns)))),
    )

pub history_is : (turns : List Turn) → IsHistory (run_from beginning turns) turns
history_is turns =
    let all = events turns in
    let start = silent beginning in
    let tells = turns_tell turns start in
    record {
      world = ap (λ (r : Run). world_of r.state) tells.1 ∙ world_is all start;
      rows = ap (λ (r : Run). r.rows) tells.1 ∙ rows_are all start;
      groups = ap (λ (r : Run). r.groups) tells.1 ∙ groups_are all start;
    }
