-- A run goes on by what happens.
use Rattle.std.proofs.Common.{◌≡◌, ℕ, nat_lt, true, false, List, [], ◌∷◌, ◌++◌, Option, Some, None, map, fold, cond}
use Rattle.std.proofs.Common.{refl, sym, ap, ◌∙◌}
use Rattle.std.specs.FinMap as finite
use Rattle.std.proofs.lemmas.List.Sums.{fold-append}
use Rattle.resp_read.specs.Reading.{Reading, Unfinished, Broken, reading}
use Rattle.rs_outside.specs.declared.turn.Turn.{Turn}
use Rattle.rs_outside.specs.declared.turn.What.{What}
use Rattle.rs_outside.specs.declared.turn.What.TheVariants.{Opened, Piece, Closed, Idle}
use Rattle.rs_outside.specs.declared.turn.OutRow.TheVariants.{Shut}
use Rattle.cmd_rows.specs.Outcomes.{ok}
use Rattle.cl_core.specs.Machine.{Clients, Run, sending, reply_row, with_clients, holding, with_command, before_quit}
use Rattle.cl_core.specs.Machine.{quits, quitting, protocol_error, settling, commands_of, taking, piece_of}
use Rattle.cl_core.specs.Machine.{too_many_clients, opening, turn_by, begun_at, turn_on, with_turn}
use Rattle.cl_core.specs.History.{Event, Began, Asked, Told, Ended, ending, read_events, keeping, clients_read}
use Rattle.cl_core.specs.History.{piece_events, clients_piece, events_by, clients_by}
use Rattle.cl_core.proofs.RunLaws.{clients_stay, turn_adds}

abbrev pub with_event : Run → Event → Run
with_event run (Began clock word) = begun_at clock word run
with_event run (Asked client words) = with_command client run words
with_event run (Told client answer) = sending (reply_row client answer) run
with_event run (Ended client) = sending (Shut client) run

pub fold_with_clients : (clients : Clients) (events : List Event) (run : Run)
    → fold with_event (with_clients clients run) events ≡ with_clients clients (fold with_event run events)
fold_with_clients clients [] run = refl
fold_with_clients clients (Began clock word ∷ events) run = fold_with_clients clients events (begun_at clock word run)
fold_with_clients clients (Asked client words ∷ events) run =
    fold_with_clients clients events (with_command client run words)
fold_with_clients clients (Told client answer ∷ events) run =
    fold_with_clients clients events (sending (reply_row client answer) run)
fold_with_clients clients (Ended client ∷ events) run = fold_with_clients clients events (sending (Shut client) run)

fold_asked : (client : ℕ) (commands : List (List (List ℕ))) (run : Run)
    → fold with_event run (map (Asked client) commands) ≡ fold (with_command client) run commands
fold_asked client [] run = refl
fold_asked client (words ∷ commands) run = fold_asked client commands (with_command client run words)

then_more : (client : ℕ) (commands : List (List (List ℕ))) (more : List Event) (run : Run)
    → fold with_event run (map (Asked client) commands ++ more)
    ≡ fold with_event (fold (with_command client) run commands) more
then_more client commands more run = fold-append with_event run (map (Asked client) commands) more
    ∙ ap (λ r. fold with_event r more) (fold_asked client commands run)

module _ (client : ℕ) (run : Run) where
  quit_is : (commands : List (List (List ℕ)))
      → quitting client (fold (with_command client) run commands)
      ≡ with_clients (finite.remove run.state.clients client)
      (fold with_event run (map (Asked client) commands ++ Told client ok ∷ Ended client ∷ []))
  quit_is commands =
      ap (λ clients. with_clients (finite.remove clients client)
      (sending (Shut client) (sending (reply_row client ok) (fold (with_command client) run commands))))
      (clients_stay client commands run)
      ∙ ap (with_clients (finite.remove run.state.clients client))
      (sym (then_more client commands (Told client ok ∷ Ended client ∷ []) run))

  settled_is : (read : Reading) (commands : List (List (List ℕ)))
      → settling client read (fold (with_command client) run commands)
      ≡ with_clients (keeping client read run.state.clients)
      (fold with_event run (map (Asked client) commands ++ ending client read))
  settled_is (Unfinished forms left) commands =
      ap (λ clients. with_clients (finite.insert clients client left) (fold (with_command client) run commands))
      (clients_stay client commands run)
      ∙ ap (with_clients (finite.insert run.state.clients client left)) (sym (then_more client commands [] run))
  settled_is (Broken forms place kind) commands =
      ap (λ clients. with_clients (finite.remove clients client)
      (sending (Shut client) (sending (reply_row client (protocol_error kind))
      (fold (with_command client) run commands)))) (clients_stay client commands run)
      ∙ ap (with_clients (finite.remove run.state.clients client))
      (sym (then_more client commands (ending client (Broken forms place kind)) run))

  taken_is : (read : Reading) → taking client read run
      ≡ with_clients (clients_read client read run.state.clients) (fold with_event run (read_events client read))
  taken_is read =
      elim (quits (commands_of read)) as
      (λ b. cond b (quitting client (fold (with_command client) run (before_quit (commands_of read))))
      (settling client read (fold (with_command client) run (commands_of read)))
      ≡ with_clients (cond b (finite.remove run.state.clients client) (keeping client read run.state.clients))
      (fold with_event run (cond b (map (Asked client) (before_quit (commands_of read))
      ++ Told client ok ∷ Ended client ∷ []) (map (Asked client) (commands_of read) ++ ending client read)))) [
        | true ↦ quit_is (before_quit (commands_of read))
        | false ↦ settled_is read (commands_of read)
      ]

  piece_is : (bytes : List ℕ) (left : Option (List ℕ))
      → piece_of client bytes left run
      ≡ with_clients (clients_piece client bytes left run.state.clients)
      (fold with_event run (piece_events client bytes left))
  piece_is bytes None = refl
  piece_is bytes (Some left) = taken_is (reading (left ++ bytes))

  opening_is : opening client run
      ≡ with_clients (clients_by Opened client run.state.clients)
      (fold with_event run (events_by Opened client run.state.clients))
  opening_is =
      let refused = Told client too_many_clients ∷ Ended client ∷ [] in
      elim (finite.contains_key run.state.clients client) as
      (λ h. cond h run (cond (nat_lt (finite.len run.state.clients) 1000) (holding client [] run)
      (fold with_event run refused))
      ≡ with_clients (cond h run.state.clients
      (cond (nat_lt (finite.len run.state.clients) 1000)
      (finite.insert run.state.clients client []) run.state.clients))
      (fold with_event run (cond h [] (cond (nat_lt (finite.len run.state.clients) 1000) [] refused)))) [
        | true ↦ refl
        | false ↦ elim (nat_lt (finite.len run.state.clients) 1000) as
            (λ b. cond b (holding client [] run) (fold with_event run refused)
            ≡ with_clients (cond b (finite.insert run.state.clients client []) run.state.clients)
            (fold with_event run (cond b [] refused))) [ true ↦ refl | false ↦ refl ]
      ]

  turn_by_is : (what : What) → turn_by what client run
      ≡ with_clients (clients_by what client run.state.clients)
      (fold with_event run (events_by what client run.state.clients))
  turn_by_is Opened = opening_is
  turn_by_is (Piece bytes) = piece_is bytes (finite.get run.state.clients client)
  turn_by_is Closed = refl
  turn_by_is Idle = refl

abbrev pub clients_then : Clients → Turn → Clients
clients_then clients turn = clients_by turn.what turn.client clients

abbrev pub events_then : Clients → Turn → List Event
events_then clients turn = Began turn.clock turn.word ∷ events_by turn.what turn.client clients

-- a turn: what happens in it, with the clients that it leaves
pub turn_is : (run : Run) (turn : Turn)
    → turn_on run turn ≡ with_clients (clients_then run.state.clients turn)
    (fold with_event run (events_then run.state.clients turn))
turn_is run turn = turn_by_is turn.client (begun_at turn.clock turn.word run) turn.what

pub with_turn_is : (run : Run) (turn : Turn)
    → with_turn run turn ≡ with_clients (clients_then run.state.clients turn)
    (fold with_event run (events_then run.state.clients turn))
with_turn_is run turn = sym (turn_adds run turn) ∙ turn_is run turn
