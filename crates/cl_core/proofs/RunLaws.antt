-- How runs go on.
use Rattle.std.proofs.Common.{◌≡◌, ℕ, nat_lt, Bool, true, false, List, [], ◌∷◌, ◌++◌, ◌≤◌, arith, Option, Some, None}
use Rattle.std.proofs.Common.{map, fold, cond, append-nil, refl, sym, ap, ◌∙◌, append_assoc}
use borrow.Author.Tests.{le-ltb}
use Rattle.std.specs.Cmp.{nat_cmp_total}
use Rattle.std.specs.FinMap as finite
use Rattle.std.specs.FinMap.{nat_cmp-IsAntisymmetric}
use Rattle.resp_read.specs.Reading.{Reading, Unfinished, Broken, reading}
use Rattle.resp_reply.specs.declared.reply.Reply.{Reply}
use Rattle.rs_outside.specs.declared.turn.Turn.{Turn}
use Rattle.rs_outside.specs.declared.turn.What.{What}
use Rattle.rs_outside.specs.declared.turn.What.TheVariants.{Opened, Piece, Closed, Idle}
use Rattle.rs_outside.specs.declared.turn.OutRow.{OutRow}
use Rattle.rs_outside.specs.declared.turn.OutRow.TheVariants.{Shut}
use Rattle.fx_log.specs.declared.group.Group.{Group}
use Rattle.cmd_rows.specs.Outcomes.{ok}
use Rattle.cl_core.proofs.MapLaws.{insert-remove, remove_absent}
use Rattle.resp_read.specs.declared.command.Command.{Command}
use Rattle.resp_read.specs.declared.stops.BadFrame.{BadFrame}
use Rattle.cl_core.specs.declared.client.Fed.TheVariants as fed
use Rattle.cl_core.specs.Reads.{IsFed}
use Rattle.cl_core.specs.Machine.{Clients, State, Run, silent, sending, reply_row, with_clients, holding}
use Rattle.cl_core.specs.Machine.{with_command, is_quit, before_quit, quits, shutting, quitting, protocol_error}
use Rattle.cl_core.specs.Machine.{settling, commands_of, taking, piece_of, too_many_clients, opening, turn_by}
use Rattle.cl_core.specs.Machine.{begun_at, turn_on, step, run_then}
use Rattle.cl_core.specs.Taken.{dismissed, put_back, told_of}

abbrev Words : Type 0
Words = List (List ℕ)

-- commands leave the clients as they are
pub fold_clients : (client : ℕ) (clients : Clients) (commands : List Words) (run : Run)
    → fold (with_command client) (with_clients clients run) commands
    ≡ with_clients clients (fold (with_command client) run commands)
fold_clients client clients [] run = refl
fold_clients client clients (words ∷ commands) run =
    fold_clients client clients commands (with_command client run words)

pub clients_stay : (client : ℕ) (commands : List Words) (run : Run)
    → (fold (with_command client) run commands).state.clients ≡ run.state.clients
clients_stay client [] run = refl
clients_stay client (words ∷ commands) run = clients_stay client commands (with_command client run words)

pub no_quit : (commands : List Words) → quits commands ≡ false → before_quit commands ≡ commands
no_quit [] none = refl
no_quit (words ∷ commands) none =
    elim (is_quit words) as (λ b. cond b true (quits commands) ≡ false
    → cond b [] (words ∷ before_quit commands) ≡ words ∷ commands) [
      | true ↦ λ h. absurd (cc)
      | false ↦ λ h. ap (λ rest. words ∷ rest) (no_quit commands h)
    ] none

module _ (client : ℕ) (commands : List Words) (run : Run) where
  abbrev without : Clients
  without = finite.remove run.state.clients client

  out_dismissed : (answer : Reply) (taken : List Words)
      → dismissed client answer (fold (with_command client) (with_clients without run) taken)
      ≡ shutting client (sending (reply_row client answer) (fold (with_command client) run taken))
  out_dismissed answer taken =
      let all = fold (with_command client) run taken in
      ap (dismissed client answer) (fold_clients client without taken run
      ∙ ap (λ clients. with_clients (finite.remove clients client) all) (sym (clients_stay client taken run)))

  out_held : (rest : List ℕ) → quits commands ≡ false
      → holding client rest (fold (with_command client) (with_clients without run) (before_quit commands))
      ≡ holding client rest (fold (with_command client) run commands)
  out_held rest none =
      let all = fold (with_command client) run commands in
      ap (λ taken. holding client rest (fold (with_command client) (with_clients without run) taken))
      (no_quit commands none)
      ∙ ap (holding client rest) (fold_clients client without commands run)
      ∙ ap (λ clients. with_clients clients all)
      (insert-remove nat_cmp_total nat_cmp-IsAntisymmetric run.state.clients client rest
      ∙ ap (λ clients. finite.insert clients client rest) (sym (clients_stay client commands run)))

  out_told : (answer : Reply) → quits commands ≡ false
      → dismissed client answer (fold (with_command client) (with_clients without run) (before_quit commands))
      ≡ shutting client (sending (reply_row client answer) (fold (with_command client) run commands))
  out_told answer none =
      ap (λ taken. dismissed client answer (fold (with_command client) (with_clients without run) taken))
      (no_quit commands none) ∙ out_dismissed answer commands

  put_back_by : (rest : List ℕ) (b : Bool) → quits commands ≡ b
      → cond b (dismissed client ok (fold (with_command client) (with_clients without run) (before_quit commands)))
      (holding client rest (fold (with_command client) (with_clients without run) (before_quit commands)))
      ≡ cond b (quitting client (fold (with_command client) run (before_quit commands)))
      (holding client rest (fold (with_command client) run commands))
  put_back_by rest true e = out_dismissed ok (before_quit commands)
  put_back_by rest false e = out_held rest e

  told_by : (answer : Reply) (b : Bool) → quits commands ≡ b
      → cond b (dismissed client ok (fold (with_command client) (with_clients without run) (before_quit commands)))
      (dismissed client answer (fold (with_command client) (with_clients without run) (before_quit commands)))
      ≡ cond b (quitting client (fold (with_command client) run (before_quit commands)))
      (shutting client (sending (reply_row client answer) (fold (with_command client) run commands)))
  told_by answer true e = out_dismissed ok (before_quit commands)
  told_by answer false e = out_told answer e

fed_open_by : (client : ℕ) (reader : List ℕ) (commands : List Command) (run : Run) (read : Reading)
    → IsFed (fed.Open reader commands) read
    → put_back client reader (map (λ c. c.words) commands) (with_clients (finite.remove run.state.clients client) run)
    ≡ taking client read run
fed_open_by client reader commands run (Unfinished forms rest) is =
    ap (λ all. put_back client reader all (with_clients (finite.remove run.state.clients client) run)) is.0
    ∙ ap (λ left. put_back client left (commands_of (Unfinished forms rest))
    (with_clients (finite.remove run.state.clients client) run)) is.1
    ∙ put_back_by client (commands_of (Unfinished forms rest)) run rest _ refl
fed_open_by client reader commands run (Broken forms place kind) is = absurd is

fed_broken_by : (client : ℕ) (due : BadFrame) (commands : List Command) (run : Run) (read : Reading)
    → IsFed (fed.Broken commands due) read
    → told_of client due (map (λ c. c.words) commands) (with_clients (finite.remove run.state.clients client) run)
    ≡ taking client read run
fed_broken_by client due commands run (Unfinished forms rest) is = absurd is
fed_broken_by client due commands run (Broken forms place kind) is =
    ap (λ all. told_of client due all (with_clients (finite.remove run.state.clients client) run)) is.0
    ∙ ap (λ k. told_of client k (commands_of (Broken forms place kind))
    (with_clients (finite.remove run.state.clients client) run)) is.1
    ∙ told_by client (commands_of (Broken forms place kind)) run (protocol_error kind) _ refl

-- what a piece does, by what it made of the client
pub piece_of_open : (client : ℕ) (bytes left reader : List ℕ) (commands : List Command) (run : Run)
    → Some left ≡ finite.get run.state.clients client
    → IsFed (fed.Open reader commands) (reading (left ++ bytes))
    → put_back client reader (map (λ c. c.words) commands) (with_clients (finite.remove run.state.clients client) run)
    ≡ piece_of client bytes (finite.get run.state.clients client) run
piece_of_open client bytes left reader commands run is fed_is =
    fed_open_by client reader commands run (reading (left ++ bytes)) fed_is
    ∙ ap (λ found. piece_of client bytes found run) is

pub piece_of_bad : (client : ℕ) (bytes left : List ℕ) (due : BadFrame) (commands : List Command) (run : Run)
    → Some left ≡ finite.get run.state.clients client
    → IsFed (fed.Broken commands due) (reading (left ++ bytes))
    → told_of client due (map (λ c. c.words) commands) (with_clients (finite.remove run.state.clients client) run)
    ≡ piece_of client bytes (finite.get run.state.clients client) run
piece_of_bad client bytes left due commands run is fed_is =
    fed_broken_by client due commands run (reading (left ++ bytes)) fed_is
    ∙ ap (λ found. piece_of client bytes found run) is

pub piece_of_none : (client : ℕ) (bytes : List ℕ) (run : Run) → None ≡ finite.get run.state.clients client
    → with_clients (finite.remove run.state.clients client) run
    ≡ piece_of client bytes (finite.get run.state.clients client) run
piece_of_none client bytes run none =
    ap (λ clients. with_clients clients run)
    (remove_absent nat_cmp_total nat_cmp-IsAntisymmetric run.state.clients client (sym none))
    ∙ ap (λ found. piece_of client bytes found run) none

-- the same at the parts of a server
module _ (client : ℕ) (inside now : State) (clients : Clients) (rows : List OutRow) (groups : List Group)
    (is : inside ≡ now) where
  pub none_at : (bytes : List ℕ) → clients ≡ finite.remove inside.clients client
      → None ≡ finite.get inside.clients client
      → ◌≡◌ {A = Run} (record { state = record inside { clients = clients }; rows = rows; groups = groups })
      (piece_of client bytes (finite.get now.clients client) (record { state = now; rows = rows; groups = groups }))
  none_at bytes left none =
      ap (λ m. record { state = record inside { clients = m }; rows = rows; groups = groups }) left
      ∙ piece_of_none client bytes (record { state = inside; rows = rows; groups = groups }) none
      ∙ ap (λ s. piece_of client bytes (finite.get s.clients client)
      (record { state = s; rows = rows; groups = groups })) is

  pub open_at : (bytes left reader : List ℕ) (commands : List Command) (after : Run)
      → clients ≡ finite.remove inside.clients client → Some left ≡ finite.get inside.clients client
      → IsFed (fed.Open reader commands) (reading (left ++ bytes))
      → after ≡ put_back client reader (map (λ c. c.words) commands)
      (record { state = record inside { clients = clients }; rows = rows; groups = groups })
      → after ≡ piece_of client bytes (finite.get now.clients client)
      (record { state = now; rows = rows; groups = groups })
  open_at bytes left reader commands after out found fed_is after_is =
      after_is ∙ ap (λ m. put_back client reader (map (λ c. c.words) commands)
      (record { state = record inside { clients = m }; rows = rows; groups = groups })) out
      ∙ piece_of_open client bytes left reader commands
      (record { state = inside; rows = rows; groups = groups }) found fed_is
      ∙ ap (λ s. piece_of client bytes (finite.get s.clients client)
      (record { state = s; rows = rows; groups = groups })) is

  pub bad_at : (bytes left : List ℕ) (due : BadFrame) (commands : List Command) (after : Run)
      → clients ≡ finite.remove inside.clients client → Some left ≡ finite.get inside.clients client
      → IsFed (fed.Broken commands due) (reading (left ++ bytes))
      → after ≡ told_of client due (map (λ c. c.words) commands)
      (record { state = record inside { clients = clients }; rows = rows; groups = groups })
      → after ≡ piece_of client bytes (finite.get now.clients client)
      (record { state = now; rows = rows; groups = groups })
  bad_at bytes left due commands after out found fed_is after_is =
      after_is ∙ ap (λ m. told_of client due (map (λ c. c.words) commands)
      (record { state = record inside { clients = m }; rows = rows; groups = groups })) out
      ∙ piece_of_bad client bytes left due commands
      (record { state = inside; rows = rows; groups = groups }) found fed_is
      ∙ ap (λ s. piece_of client bytes (finite.get s.clients client)
      (record { state = s; rows = rows; groups = groups })) is

pub open_full : (client : ℕ) (state : State) (held : Bool) (count : ℕ) (rows : List OutRow) (groups : List Group)
    → held ≡ finite.contains_key state.clients client → held ≡ false
    → count ≡ finite.len state.clients → 1000 ≤ count
    → opening client (record { state = state; rows = rows; groups = groups })
    ≡ record {
      state = state;
      rows = (rows ++ reply_row client too_many_clients ∷ []) ++ Shut client ∷ [];
      groups = groups;
    }
open_full client state held count rows groups held_is none count_is full =
    let run : Run = record { state = state; rows = rows; groups = groups } in
    let refused = sending (Shut client) (sending (reply_row client too_many_clients) run) in
    let most : nat_lt (finite.len state.clients) 1000 ≡ false = le-ltb (finite.len state.clients) 1000 (omega arith) in
    ap (λ b. cond b run (cond (nat_lt (finite.len state.clients) 1000) (holding client [] run) refused)) (sym held_is
    ∙ none) ∙ ap (λ b. cond b (holding client [] run) refused) most

-- what a change of a run adds does not depend on what stood before
abbrev Adds : (Run → Run) → Type 0
Adds f = (run : Run) → f run ≡ run_then run (f (silent run.state))

behind_two : (run more last : Run) → run_then (run_then run more) last ≡ run_then run (run_then more last)
behind_two run more last = λ i.
    record {
      state = last.state;
      rows = append_assoc run.rows more.rows last.rows i;
      groups = append_assoc run.groups more.groups last.groups i;
    }

adds_both : (f g : Run → Run) → Adds f → Adds g → Adds (λ run. g (f run))
adds_both f g adds_f adds_g run =
    let first = f (silent run.state) in
    adds_g (f run) ∙ ap (λ r. run_then r (g (silent r.state))) (adds_f run)
    ∙ behind_two run first (g (silent first.state)) ∙ ap (run_then run) (sym (adds_g first))

-- a run that adds rows alone, or nothing
no_groups : (state : State) (rows : List OutRow) (groups : List Group)
    → ◌≡◌ {A = Run} (record { state = state; rows = rows; groups = groups })
    (record { state = state; rows = rows; groups = groups ++ [] })
no_groups state rows groups = λ i. record { state = state; rows = rows; groups = sym (append-nil groups) i }

silently : (state : State) (run : Run)
    → ◌≡◌ {A = Run} (record { state = state; rows = run.rows; groups = run.groups }) (run_then run (silent state))
silently state run = λ i. record {
  state = state;
  rows = sym (append-nil run.rows) i;
  groups = sym (append-nil run.groups) i;
}

adds_row : (row : OutRow) → Adds (sending row)
adds_row row run = no_groups run.state (run.rows ++ row ∷ []) run.groups

adds_nothing : Adds (λ run. run)
adds_nothing run = silently run.state run

adds_command : (client : ℕ) (words : Words) → Adds (λ run. with_command client run words)
adds_command client words run = refl

adds_commands : (client : ℕ) (commands : List Words) → Adds (λ run. fold (with_command client) run commands)
adds_commands client [] run = adds_nothing run
adds_commands client (words ∷ commands) run =
    adds_both (λ r. with_command client r words) (λ r. fold (with_command client) r commands)
    (adds_command client words) (adds_commands client commands) run

adds_shutting : (client : ℕ) → Adds (shutting client)
adds_shutting client run = adds_row (Shut client) (with_clients (finite.remove run.state.clients client) run)

adds_quitting : (client : ℕ) → Adds (quitting client)
adds_quitting client = adds_both (sending (reply_row client ok)) (shutting client) (adds_row _) (adds_shutting client)

adds_settling : (client : ℕ) (read : Reading) → Adds (settling client read)
adds_settling client (Unfinished forms rest) run =
    silently (with_clients (finite.insert run.state.clients client rest) run).state run
adds_settling client (Broken forms place kind) run =
    adds_both (sending (reply_row client (protocol_error kind))) (shutting client) (adds_row _)
    (adds_shutting client) run

adds_taking : (client : ℕ) (read : Reading) → Adds (taking client read)
adds_taking client read run =
    elim (quits (commands_of read)) as
    (λ b. cond b (quitting client (fold (with_command client) run (before_quit (commands_of read))))
    (settling client read (fold (with_command client) run (commands_of read)))
    ≡ run_then run (cond b (quitting client
    (fold (with_command client) (silent run.state) (before_quit (commands_of read))))
    (settling client read (fold (with_command client) (silent run.state) (commands_of read))))) [
      | true ↦ adds_both (λ r. fold (with_command client) r (before_quit (commands_of read))) (quitting client)
          (adds_commands client (before_quit (commands_of read))) (adds_quitting client) run
      | false ↦ adds_both (λ r. fold (with_command client) r (commands_of read)) (settling client read)
          (adds_commands client (commands_of read)) (adds_settling client read) run
    ]

adds_piece : (client : ℕ) (bytes : List ℕ) (left : Option (List ℕ)) → Adds (piece_of client bytes left)
adds_piece client bytes None run = adds_nothing run
adds_piece client bytes (Some left) run = adds_taking client (reading (left ++ bytes)) run

adds_refusal : (client : ℕ) → Adds (λ run. sending (Shut client) (sending (reply_row client too_many_clients) run))
adds_refusal client = adds_both (sending (reply_row client too_many_clients)) (sending (Shut client)) (adds_row _)
    (adds_row _)

adds_opening : (client : ℕ) → Adds (opening client)
adds_opening client run =
    elim (finite.contains_key run.state.clients client) as
    (λ b. cond b run (cond (nat_lt (finite.len run.state.clients) 1000) (holding client [] run)
    (sending (Shut client) (sending (reply_row client too_many_clients) run)))
    ≡ run_then run (cond b (silent run.state)
    (cond (nat_lt (finite.len run.state.clients) 1000) (holding client [] (silent run.state))
    (sending (Shut client) (sending (reply_row client too_many_clients) (silent run.state)))))) [
      | true ↦ adds_nothing run
      | false ↦ elim (nat_lt (finite.len run.state.clients) 1000) as
          (λ b. cond b (holding client [] run) (sending (Shut client) (sending (reply_row client too_many_clients) run))
          ≡ run_then run (cond b (holding client [] (silent run.state))
          (sending (Shut client) (sending (reply_row client too_many_clients) (silent run.state))))) [
            | true ↦ silently (holding client [] run).state run
            | false ↦ adds_refusal client run
          ]
    ]

adds_turn : (what : What) (client : ℕ) → Adds (turn_by what client)
adds_turn Opened client run = adds_opening client run
adds_turn (Piece bytes) client run = adds_piece client bytes (finite.get run.state.clients client) run
adds_turn Closed client run = silently (with_clients (finite.remove run.state.clients client) run).state run
adds_turn Idle client run = adds_nothing run

adds_begun : (clock word : ℕ) → Adds (begun_at clock word)
adds_begun clock word run = λ i.
    record {
      state = (begun_at clock word run).state;
      rows = sym (append-nil run.rows) i;
      groups = (begun_at clock word run).groups;
    }

pub turn_adds : (run : Run) (turn : Turn) → turn_on run turn ≡ run_then run (step run.state turn)
turn_adds run turn = adds_both (begun_at turn.clock turn.word) (turn_by turn.what turn.client)
    (adds_begun turn.clock turn.word) (adds_turn turn.what turn.client) run

-- what is done behind the beginning of a turn is done in the turn
pub turned : (turn : Turn) (what : What) (before run after : Run) → run ≡ begun_at turn.clock turn.word before
    → turn.what ≡ what → after ≡ turn_by what turn.client run → after ≡ turn_on before turn
turned turn what before run after begins is does = does ∙ (λ i. turn_by (sym is i) turn.client (begins i))
