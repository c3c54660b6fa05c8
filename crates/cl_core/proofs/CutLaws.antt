-- Bytes in one piece or in two.
use Rattle.std.proofs.Common.{◌≡◌, ℕ, ◌<◌, ◌≤◌, Bool, true, false, List, [], ◌∷◌, ◌++◌, Option, Some, None, map, fold}
use Rattle.std.proofs.Common.{cond, append-nil, append_assoc, refl, sym, ap, subst, ◌∙◌}
use Rattle.std.specs.Prelude.{◌↔◌, Contains}
use Rattle.std.specs.Option.{IsSomeAnd}
use Rattle.std.specs.Cmp.{nat_cmp_total, tied_itself}
use Rattle.std.specs.Ordering.{is_eq}
use Rattle.std.specs.FinMap as finite
use Rattle.std.specs.FinMap.{nat_cmp-IsAntisymmetric}
use Rattle.std.proofs.lemmas.List.{map-append}
use Rattle.std.proofs.lemmas.List.Sums.{fold-append}
use Rattle.resp_read.specs.Frames.{Form, Given, EmptyArray, NegativeArray, commands_in}
use Rattle.resp_read.specs.Reading.{Reading, Unfinished, Broken, reading, going_on, behind_forms}
use Rattle.rs_outside.specs.declared.turn.Turn.{Turn}
use Rattle.rs_outside.specs.declared.turn.What.TheVariants.{Piece}
use Rattle.cmd_rows.specs.Outcomes.{ok}
use Rattle.ks_space.specs.Store.{Store, deadline_at}
use Rattle.ks_space.specs.Purge.{gone, IsTimely}
use Rattle.cl_core.specs.Machine.{Clients, Run, is_quit, before_quit, quits, commands_of, begun_at, with_clients}
use Rattle.cl_core.specs.Machine.{with_turn}
use Rattle.cl_core.specs.History.{Event, Asked, Told, Ended, ending, read_events, keeping, clients_read, piece_events}
use Rattle.cl_core.specs.History.{clients_piece}
use Rattle.cl_core.proofs.MapLaws.{insert-insert, remove-insert}
use Rattle.cl_core.proofs.BeginLaws.{begun_again}
use Rattle.cl_core.proofs.EventLaws.{with_event, fold_with_clients, with_turn_is}

abbrev Words : Type 0
Words = List (List ℕ)

commands_in-append : (forms more : List Form) → commands_in (forms ++ more) ≡ commands_in forms ++ commands_in more
commands_in-append [] more = refl
commands_in-append (Given words ∷ forms) more = ap (λ rest. words ∷ rest) (commands_in-append forms more)
commands_in-append (EmptyArray ∷ forms) more = commands_in-append forms more
commands_in-append (NegativeArray n ∷ forms) more = commands_in-append forms more

commands_behind : (forms : List Form) (left : List ℕ) (read : Reading)
    → commands_of (behind_forms forms read) ≡ commands_of (Unfinished forms left) ++ commands_of read
commands_behind forms left (Unfinished more rest) = commands_in-append forms more
commands_behind forms left (Broken more place kind) = commands_in-append forms more

quits_first : (commands more : List Words) → quits commands ≡ true → (quits (commands ++ more) ≡ true)
    × (before_quit (commands ++ more) ≡ before_quit commands)
quits_first [] more is = absurd (cc)
quits_first (words ∷ commands) more is =
    elim (is_quit words) as (λ b. cond b true (quits commands) ≡ true
    → (cond b true (quits (commands ++ more)) ≡ true)
    × (cond b [] (words ∷ before_quit (commands ++ more)) ≡ cond b [] (words ∷ before_quit commands))) [
      | true ↦ λ h. (refl, refl)
      | false ↦ λ h. let rest = quits_first commands more h in (rest.0, ap (λ r. words ∷ r) rest.1)
    ] is

quits_later : (commands more : List Words) → quits commands ≡ false → (quits (commands ++ more) ≡ quits more)
    × (before_quit (commands ++ more) ≡ commands ++ before_quit more)
quits_later [] more is = (refl, refl)
quits_later (words ∷ commands) more is =
    elim (is_quit words) as (λ b. cond b true (quits commands) ≡ false
    → (cond b true (quits (commands ++ more)) ≡ quits more)
    × (cond b [] (words ∷ before_quit (commands ++ more)) ≡ words ∷ (commands ++ before_quit more))) [
      | true ↦ λ h. absurd (cc)
      | false ↦ λ h. let rest = quits_later commands more h in (rest.0, ap (λ r. words ∷ r) rest.1)
    ] is

ending_behind : (client : ℕ) (forms : List Form) (read : Reading)
    → ending client (behind_forms forms read) ≡ ending client read
ending_behind client forms (Unfinished more rest) = refl
ending_behind client forms (Broken more place kind) = refl

keeping_behind : (client : ℕ) (forms : List Form) (left : List ℕ) (clients : Clients) (read : Reading)
    → keeping client (behind_forms forms read) clients ≡ keeping client read (finite.insert clients client left)
keeping_behind client forms left clients (Unfinished more rest) =
    sym (insert-insert nat_cmp_total nat_cmp-IsAntisymmetric clients client left rest)
keeping_behind client forms left clients (Broken more place kind) =
    sym (remove-insert nat_cmp_total nat_cmp-IsAntisymmetric clients client left)

gone_then : (clients : Clients) (client : ℕ) → finite.get (finite.remove clients client) client ≡ None
gone_then clients client = finite.get-remove nat_cmp_total clients client client
    ∙ ap (λ r. cond (is_eq r) None (finite.get clients client)) (tied_itself nat_cmp_total client)

here_then : (clients : Clients) (client : ℕ) (left : List ℕ)
    → finite.get (finite.insert clients client left) client ≡ Some left
here_then clients client left = finite.get-insert nat_cmp_total clients client left client
    ∙ ap (λ r. cond (is_eq r) (Some left) (finite.get clients client)) (tied_itself nat_cmp_total client)

-- what happens in a piece, and the clients behind it
record Does (client : ℕ) (clients : Clients) (events : List Event) (after : Clients) (bytes : List ℕ)
    (all : List Event) (last : Clients) : Type 0 where
  happens : all ≡ events ++ piece_events client bytes (finite.get after client)
  leaves : last ≡ clients_piece client bytes (finite.get after client) after

module _ (client : ℕ) (clients : Clients) (bytes : List ℕ) where
  -- behind a shut client nothing more happens
  does_no_more : (events : List Event)
      → Does client clients events (finite.remove clients client) bytes events (finite.remove clients client)
  does_no_more events = record {
    happens = sym (append-nil events)
        ∙ ap (λ found. events ++ piece_events client bytes found) (sym (gone_then clients client));
    leaves = ap (λ found. clients_piece client bytes found (finite.remove clients client))
        (sym (gone_then clients client));
  }

  module _ (forms : List Form) (left : List ℕ) where
    abbrev first_commands : List Words
    first_commands = commands_of (Unfinished forms left)

    module _ (read : Reading) (commands : List Words) (is : commands ≡ first_commands ++ commands_of read) where
      events_quit : quits first_commands ≡ true
          → cond (quits commands) (map (Asked client) (before_quit commands) ++ Told client ok ∷ Ended client ∷ [])
          (map (Asked client) commands ++ ending client (behind_forms forms read))
          ≡ map (Asked client) (before_quit first_commands) ++ Told client ok ∷ Ended client ∷ []
      events_quit quit =
          let both = quits_first first_commands (commands_of read) quit in
          ap (λ b. cond b (map (Asked client) (before_quit commands) ++ Told client ok ∷ Ended client ∷ [])
          (map (Asked client) commands ++ ending client (behind_forms forms read))) (ap quits is ∙ both.0)
          ∙ ap (λ taken. map (Asked client) taken ++ Told client ok ∷ Ended client ∷ []) (ap before_quit is ∙ both.1)

      clients_quit : quits first_commands ≡ true
          → cond (quits commands) (finite.remove clients client) (keeping client (behind_forms forms read) clients)
          ≡ finite.remove clients client
      clients_quit quit = ap (λ b. cond b (finite.remove clients client)
          (keeping client (behind_forms forms read) clients)) (ap quits is
          ∙ (quits_first first_commands (commands_of read) quit).0)

      later : (more : List Words) (last : List Event)
          → map (Asked client) (first_commands ++ more) ++ last ≡ (map (Asked client) first_commands ++ [])
          ++ (map (Asked client) more ++ last)
      later more last =
          ap (λ events. events ++ last) (map-append (Asked client) first_commands more)
          ∙ append_assoc (map (Asked client) first_commands) (map (Asked client) more) last
          ∙ ap (λ events. events ++ (map (Asked client) more ++ last))
          (sym (append-nil (map (Asked client) first_commands)))

      both_ways : (b : Bool) (x y z w front : List Event) → x ≡ front ++ z → y ≡ front ++ w
          → cond b x y ≡ front ++ cond b z w
      both_ways true x y z w front p q = p
      both_ways false x y z w front p q = q

      events_later : quits first_commands ≡ false
          → cond (quits commands) (map (Asked client) (before_quit commands) ++ Told client ok ∷ Ended client ∷ [])
          (map (Asked client) commands ++ ending client (behind_forms forms read))
          ≡ (map (Asked client) first_commands ++ []) ++ read_events client read
      events_later none =
          let both = quits_later first_commands (commands_of read) none in
          ap (λ b. cond b (map (Asked client) (before_quit commands) ++ Told client ok ∷ Ended client ∷ [])
          (map (Asked client) commands ++ ending client (behind_forms forms read))) (ap quits is ∙ both.0)
          ∙ both_ways (quits (commands_of read)) _ _ _ _ (map (Asked client) first_commands ++ [])
          (ap (λ taken. map (Asked client) taken ++ Told client ok ∷ Ended client ∷ []) (ap before_quit is ∙ both.1)
          ∙ later (before_quit (commands_of read)) (Told client ok ∷ Ended client ∷ []))
          (ap (λ taken. map (Asked client) taken ++ ending client (behind_forms forms read)) is
          ∙ ap (λ last. map (Asked client) (first_commands ++ commands_of read) ++ last)
          (ending_behind client forms read)
          ∙ later (commands_of read) (ending client read))

      clients_later : quits first_commands ≡ false
          → cond (quits commands) (finite.remove clients client) (keeping client (behind_forms forms read) clients)
          ≡ clients_read client read (finite.insert clients client left)
      clients_later none =
          ap (λ b. cond b (finite.remove clients client) (keeping client (behind_forms forms read) clients))
          (ap quits is ∙ (quits_later first_commands (commands_of read) none).0)
          ∙ (λ i. cond (quits (commands_of read))
          (sym (remove-insert nat_cmp_total nat_cmp-IsAntisymmetric clients client left) i)
          (keeping_behind client forms left clients read i))

    does_later : (b : Bool) → quits first_commands ≡ b
        → Does client clients (cond b (map (Asked client) (before_quit first_commands)
        ++ Told client ok ∷ Ended client ∷ []) (map (Asked client) first_commands ++ []))
        (cond b (finite.remove clients client) (finite.insert clients client left)) bytes
        (read_events client (behind_forms forms (reading (left ++ bytes))))
        (clients_read client (behind_forms forms (reading (left ++ bytes))) clients)
    does_later true quit =
        let read = reading (left ++ bytes) in
        let no_more = does_no_more (map (Asked client) (before_quit first_commands)
        ++ Told client ok ∷ Ended client ∷ []) in
        record {
          happens = events_quit read (commands_of (behind_forms forms read)) (commands_behind forms left read) quit
              ∙ no_more.happens;
          leaves = clients_quit read (commands_of (behind_forms forms read)) (commands_behind forms left read) quit
              ∙ no_more.leaves;
        }
    does_later false none =
        let read = reading (left ++ bytes) in
        record {
          happens = events_later read (commands_of (behind_forms forms read)) (commands_behind forms left read) none
              ∙ ap (λ found. (map (Asked client) first_commands ++ []) ++ piece_events client bytes found)
              (sym (here_then clients client left));
          leaves = clients_later read (commands_of (behind_forms forms read)) (commands_behind forms left read) none
              ∙ ap (λ found. clients_piece client bytes found (finite.insert clients client left))
              (sym (here_then clients client left));
        }

  does_behind : (read : Reading) → Does client clients (read_events client read)
      (clients_read client read clients) bytes (read_events client (going_on read bytes))
      (clients_read client (going_on read bytes) clients)
  does_behind (Unfinished forms left) = does_later forms left (quits (commands_of (Unfinished forms left))) refl
  does_behind (Broken forms place kind) =
      elim (quits (commands_of (Broken forms place kind))) as
      (λ b. Does client clients (read_events client (Broken forms place kind))
      (cond b (finite.remove clients client) (finite.remove clients client)) bytes
      (read_events client (Broken forms place kind))
      (cond b (finite.remove clients client) (finite.remove clients client))) [
        | true ↦ does_no_more (read_events client (Broken forms place kind))
        | false ↦ does_no_more (read_events client (Broken forms place kind))
      ]

module _ (goes_on : (text more : List ℕ) → reading (text ++ more) ≡ going_on (reading text) more)
    (listed : (store : Store) (time : ℕ) (key : List ℕ)
    → Contains (gone store time) key ↔ IsSomeAnd (deadline_at store key) (λ at. at < time)) where
  does_cut : (client : ℕ) (clients : Clients) (a b : List ℕ) (found : Option (List ℕ))
      → finite.get clients client ≡ found
      → Does client clients (piece_events client a found) (clients_piece client a found clients) b
      (piece_events client (a ++ b) found) (clients_piece client (a ++ b) found clients)
  does_cut client clients a b None is = record {
    happens = ap (λ found. piece_events client b found) (sym is);
    leaves = ap (λ found. clients_piece client b found clients) (sym is);
  }
  does_cut client clients a b (Some left) is =
      subst (λ read. Does client clients (read_events client (reading (left ++ a)))
      (clients_read client (reading (left ++ a)) clients) b (read_events client read)
      (clients_read client read clients))
      (sym (ap reading (sym (append_assoc left a b)) ∙ goes_on (left ++ a) b))
      (does_behind client clients b (reading (left ++ a)))

  pub cut_is : (run : Run) (clock word client : ℕ) (a b : List ℕ) → (first : Run)
      → first ≡ with_turn run (record { clock = clock; word = word; client = client; what = Piece a })
      → IsTimely first.state.store first.state.time → clock ≤ first.state.time
      → with_turn run (record { clock = clock; word = word; client = client; what = Piece (a ++ b) })
      ≡ with_turn first (record { clock = clock; word = first.state.draws; client = client; what = Piece b })
  cut_is run clock word client a b first is timely early =
      let clients = run.state.clients in
      let found = finite.get clients client in
      let does = does_cut client clients a b found refl in
      let after = clients_piece client a found clients in
      let events = piece_events client a found in
      let last = piece_events client b (finite.get after client) in
      let turn_b : Turn = record { clock = clock; word = first.state.draws; client = client; what = Piece b } in
      let mid = fold with_event (begun_at clock word run) events in
      with_turn_is run (record { clock = clock; word = word; client = client; what = Piece (a ++ b) })
      ∙ (λ i. with_clients (does.leaves i) (fold with_event (begun_at clock word run) (does.happens i)))
      ∙ ap (with_clients (clients_piece client b (finite.get after client) after))
      (fold-append with_event (begun_at clock word run) events last)
      ∙ ap (with_clients (clients_piece client b (finite.get after client) after))
      (sym (fold_with_clients after last mid))
      ∙ ap (λ (r : Run). with_clients (clients_piece client b (finite.get r.state.clients client) r.state.clients)
      (fold with_event r (piece_events client b (finite.get r.state.clients client))))
      (sym (is ∙ with_turn_is run (record { clock = clock; word = word; client = client; what = Piece a })))
      ∙ ap (λ r. with_clients (clients_piece client b (finite.get first.state.clients client) first.state.clients)
      (fold with_event r (piece_events client b (finite.get first.state.clients client))))
      (sym (begun_again listed first clock timely early))
      ∙ sym (with_turn_is first turn_b)
