-- What stays so from turn to turn.
use Rattle.std.proofs.Common.{◌≡◌, ℕ, max, ◌+◌, ◌-◌, ◌≤◌, ◌<◌, nat_lt, arith, Bool, true, false, List, [], ◌∷◌, ◌++◌}
use Rattle.std.proofs.Common.{Option, Some, None, cond, fold, refl, sym, ap, subst, ◌∙◌, is_some}
use borrow.Author.Tests.{ltb-true}
use Rattle.std.specs.Ordering.{nat_cmp, eq_by_cmp}
use Rattle.std.specs.Cmp.{nat_cmp_total}
use Rattle.std.specs.FinMap as finite
use Rattle.resp_read.specs.Frames.{Form}
use Rattle.resp_read.specs.Reading.{Reading, Unfinished, Broken, reading}
use Rattle.rs_outside.specs.declared.turn.Turn.{Turn}
use Rattle.rs_outside.specs.declared.turn.What.{What}
use Rattle.rs_outside.specs.declared.turn.What.TheVariants.{Opened, Piece, Closed, Idle}
use Rattle.rs_outside.specs.declared.turn.OutRow.TheVariants.{Shut}
use Rattle.cmd_args.specs.declared.turn.Mode.{Mode}
use Rattle.cmd_args.specs.declared.turn.Mode.TheVariants.{Client}
use Rattle.cmd_exec.specs.Worlds.{World, empty_world, IsWorld, begun, moved_by}
use Rattle.cmd_exec.specs.Exec.{exec}
use Rattle.cl_core.specs.Machine.{Clients, State, Run, world_of, beginning, silent, sending, reply_row, with_command}
use Rattle.cl_core.specs.Machine.{begun_at, quits, commands_of, step, with_turn}
use Rattle.cl_core.specs.History.{Event, Began, Asked, Told, Ended, keeping, clients_piece, events_by, clients_by}
use Rattle.cl_core.specs.Valid.{AreValid, IsValid}
use Rattle.cl_core.proofs.EventLaws.{with_event, turn_is, with_turn_is, events_then}

less : (n most : ℕ) (b : Bool) (m : ℕ) → m ≡ cond b (n - 1) n → n ≤ most → m ≤ most
less n most true m e le = omega arith
less n most false m e le = omega arith

gone : (clients : Clients) → AreValid clients → (b : Bool) (other : ℕ) (left : List ℕ)
    → cond b None (finite.get clients other) ≡ Some left → reading left ≡ Unfinished [] left
gone clients valid true other left found = absurd (cc)
gone clients valid false other left found = valid.unfinished other left found

kept : (clients : Clients) → AreValid clients → (b : Bool) (other : ℕ) (put left : List ℕ)
    → reading put ≡ Unfinished [] put → cond b (Some put) (finite.get clients other) ≡ Some left
    → reading left ≡ Unfinished [] left
kept clients valid true other put left is found = let same : put ≡ left = cc in
    subst (λ bytes. reading bytes ≡ Unfinished [] bytes) same is
kept clients valid false other put left is found = valid.unfinished other left found

inserted_valid : (clients : Clients) (client : ℕ) (put : List ℕ) → AreValid clients
    → cond (finite.contains_key clients client) (finite.len clients) (finite.len clients + 1) ≤ 1000
    → reading put ≡ Unfinished [] put → AreValid (finite.insert clients client put)
inserted_valid clients client put valid few is = record {
  few = subst (λ n. n ≤ 1000) (sym (finite.len-insert nat_cmp_total clients client put)) few;
  unfinished = λ other left found.
      kept clients valid (eq_by_cmp nat_cmp other client) other put left is
      (sym (finite.get-insert nat_cmp_total clients client put other) ∙ found);
}

above : (n most : ℕ) → n < most → n + 1 ≤ most
above n most lt = omega arith

none_found : (client : ℕ) (left : List ℕ) → finite.get beginning.clients client ≡ Some left → ⊥
none_found client left found = let none : finite.get beginning.clients client ≡ None = finite.get-empty nat_cmp client
    in cc

-- the world is kept by what happens
pub events_keep : ((world : World) (clock word : ℕ) → IsWorld world → IsWorld (begun world clock word))
    → ((world : World) (mode : Mode) (words : List (List ℕ)) → IsWorld world
    → IsWorld (moved_by world (exec world mode words)))
    → (events : List Event) (run : Run) → IsWorld (world_of run.state)
    → IsWorld (world_of (fold with_event run events).state)
events_keep begins moves [] run world = world
events_keep begins moves (Began clock word ∷ events) run world =
    events_keep begins moves events (begun_at clock word run) (begins (world_of run.state) clock word world)
events_keep begins moves (Asked client words ∷ events) run world =
    events_keep begins moves events (with_command client run words) (moves (world_of run.state) Client words world)
events_keep begins moves (Told client answer ∷ events) run world =
    events_keep begins moves events (sending (reply_row client answer) run) world
events_keep begins moves (Ended client ∷ events) run world =
    events_keep begins moves events (sending (Shut client) run) world

module _ (left_waits : (text : List ℕ) (forms : List Form) (left : List ℕ) → reading text ≡ Unfinished forms left
    → reading left ≡ Unfinished [] left) where
  removed_valid : (clients : Clients) (client : ℕ) → AreValid clients → AreValid (finite.remove clients client)
  removed_valid clients client valid = record {
    few = less (finite.len clients) 1000 (finite.contains_key clients client)
        (finite.len (finite.remove clients client)) (finite.len-remove nat_cmp_total clients client) valid.few;
    unfinished = λ other left found.
        gone clients valid (eq_by_cmp nat_cmp other client) other left
        (sym (finite.get-remove nat_cmp_total clients client other) ∙ found);
  }

  read_valid : (clients : Clients) (client : ℕ) (text : List ℕ) (read : Reading) → AreValid clients
      → finite.contains_key clients client ≡ true → reading text ≡ read → AreValid (keeping client read clients)
  read_valid clients client text (Unfinished forms left) valid here is =
      inserted_valid clients client left valid
      (subst (λ b. cond b (finite.len clients) (finite.len clients + 1) ≤ 1000) (sym here) valid.few)
      (left_waits text forms left is)
  read_valid clients client text (Broken forms place kind) valid here is = removed_valid clients client valid

  piece_valid : (clients : Clients) (client : ℕ) (bytes : List ℕ) (found : Option (List ℕ)) → AreValid clients
      → finite.get clients client ≡ found → AreValid (clients_piece client bytes found clients)
  piece_valid clients client bytes None valid is = valid
  piece_valid clients client bytes (Some left) valid is =
      elim (quits (commands_of (reading (left ++ bytes)))) as
      (λ b. AreValid (cond b (finite.remove clients client) (keeping client (reading (left ++ bytes)) clients))) [
        | true ↦ removed_valid clients client valid
        | false ↦ read_valid clients client (left ++ bytes) (reading (left ++ bytes)) valid (ap is_some is) refl
      ]

  module _ (nothing : reading [] ≡ Unfinished [] []) where
    opened_valid : (clients : Clients) (client : ℕ) (held below : Bool) → AreValid clients
        → finite.contains_key clients client ≡ held → nat_lt (finite.len clients) 1000 ≡ below
        → AreValid (cond held clients (cond below (finite.insert clients client []) clients))
    opened_valid clients client true below valid here room = valid
    opened_valid clients client false true valid here room =
        inserted_valid clients client [] valid
        (subst (λ b. cond b (finite.len clients) (finite.len clients + 1) ≤ 1000) (sym here)
        (above (finite.len clients) 1000 (ltb-true (finite.len clients) 1000 room))) nothing
    opened_valid clients client false false valid here room = valid

    turn_by_valid : (what : What) (clients : Clients) (client : ℕ) → AreValid clients
        → AreValid (clients_by what client clients)
    turn_by_valid Opened clients client valid = opened_valid clients client _ _ valid refl refl
    turn_by_valid (Piece bytes) clients client valid = piece_valid clients client bytes _ valid refl
    turn_by_valid Closed clients client valid = removed_valid clients client valid
    turn_by_valid Idle clients client valid = valid

    module _ (begins : (world : World) (clock word : ℕ) → IsWorld world → IsWorld (begun world clock word))
        (moves : (world : World) (mode : Mode) (words : List (List ℕ)) → IsWorld world
        → IsWorld (moved_by world (exec world mode words))) where
      pub step_valid : (state : State) (turn : Turn) → IsValid state → IsValid (step state turn).state
      step_valid state turn valid =
          let is = sym (turn_is (silent state) turn) in
          let world = subst (λ (run : Run). IsWorld (world_of run.state)) is
          (events_keep begins moves (events_then state.clients turn) (silent state) (valid.store, valid.timely)) in
          record {
            clients = subst (λ (run : Run). AreValid run.state.clients) is
                (turn_by_valid turn.what state.clients turn.client valid.clients);
            store = world.0;
            timely = world.1;
          }

time_grows : (events : List Event) (run : Run) → run.state.time ≤ (fold with_event run events).state.time
time_grows [] run = omega arith
time_grows (Began clock word ∷ events) run = let later = time_grows events (begun_at clock word run) in omega arith
time_grows (Asked client words ∷ events) run = time_grows events (with_command client run words)
time_grows (Told client answer ∷ events) run = time_grows events (sending (reply_row client answer) run)
time_grows (Ended client ∷ events) run = time_grows events (sending (Shut client) run)

-- the time behind a turn is not below the last time, nor below the turn's clock
pub turn_rises : (run : Run) (turn : Turn) → max run.state.time turn.clock ≤ (with_turn run turn).state.time
turn_rises run turn =
    subst (λ (after : Run). max run.state.time turn.clock ≤ after.state.time) (sym (with_turn_is run turn))
    (time_grows (events_by turn.what turn.client run.state.clients) (begun_at turn.clock turn.word run))

pub time_rises : (state : State) (turn : Turn) → state.time ≤ (step state turn).state.time
time_rises state turn = let rises = turn_rises (silent state) turn in omega arith

pub beginning_valid : IsWorld empty_world → IsValid beginning
beginning_valid world = record {
  clients = record {
    few = subst (λ n. n ≤ 1000) (sym (finite.len-empty nat_cmp (List ℕ))) (omega arith);
    unfinished = λ client left found. absurd (none_found client left found);
  };
  store = world.0;
  timely = world.1;
}
