-- What is logged leads to the store, and can be read back.
use Rattle.std.proofs.Common.{◌≡◌, ℕ, max, ◌<◌, arith, List, [], ◌∷◌, ◌++◌, map, fold, append-nil, refl, sym, ap}
use Rattle.std.proofs.Common.{subst, ◌∙◌}
use Rattle.std.specs.Prelude.{◌↔◌, Contains}
use Rattle.std.specs.List.{AllByRecursion}
use Rattle.std.specs.Option.{IsSomeAnd}
use Rattle.std.proofs.lemmas.Grind.{flat_map-append}
use Rattle.std.proofs.lemmas.List.Sums.{fold-append}
use Rattle.rs_base.proofs.Lists.{each-append}
use Rattle.ks_space.specs.Store.{Store, IsKey, deadline_at}
use Rattle.ks_space.specs.Purge.{gone}
use Rattle.fx_record.specs.declared.record.Record.{Record}
use Rattle.fx_record.specs.declared.record.Record.TheVariants.{Del}
use Rattle.fx_record.specs.Records.{apply}
use Rattle.fx_record.specs.RecordWords.{IsRecord}
use Rattle.fx_log.specs.declared.group.Group.{Group}
use Rattle.fx_log.specs.Groups.{IsGroup}
use Rattle.fx_log.specs.Dump.{records_in}
use Rattle.rs_outside.specs.declared.turn.Turn.{Turn}
use Rattle.rs_outside.specs.declared.turn.OutRow.TheVariants.{Shut}
use Rattle.cmd_args.specs.declared.turn.Mode.{Mode}
use Rattle.cmd_args.specs.declared.turn.Mode.TheVariants.{Client}
use Rattle.cmd_rows.specs.Bounds.{AreTimelyWithin}
use Rattle.cmd_exec.specs.Worlds.{World, IsWorld, begun, moved_by}
use Rattle.cmd_exec.specs.Exec.{exec}
use Rattle.cl_core.specs.Machine.{Run, State, world_of, silent, sending, reply_row, group_of, removal, with_command}
use Rattle.cl_core.specs.Machine.{begun_at, with_turn, run_from}
use Rattle.cl_core.specs.Valid.{IsValid}
use Rattle.cl_core.specs.History.{Event, Began, Asked, Told, Ended}
use Rattle.cl_core.proofs.BeginLaws.{purged_leads, gone_within}
use Rattle.cl_core.proofs.EventLaws.{with_event, with_turn_is, events_then}
use Rattle.cl_core.proofs.ValidLaws.{events_keep}

group_has : (records : List Record) → records_in (group_of records) ≡ records
group_has [] = refl
group_has (one ∷ []) = refl
group_has (one ∷ other ∷ records) = append-nil (one ∷ other ∷ records)

removals_have : (keys : List (List ℕ)) → records_in (map removal keys) ≡ map Del keys
removals_have [] = refl
removals_have (key ∷ keys) = ap (λ records. Del key ∷ records) (removals_have keys)

-- the groups of a run lead to its store
abbrev Leads : Store → Run → Type 0
Leads base run = run.state.store ≡ fold apply base (records_in run.groups)

more_leads : (base : Store) (run : Run) (records : List Record) (groups : List Group) → records_in groups ≡ records
    → Leads base run
    → fold apply run.state.store records ≡ fold apply base (records_in (run.groups ++ groups))
more_leads base run records groups has leads =
    ap (λ s. fold apply s records) leads ∙ sym (fold-append apply base (records_in run.groups) records)
    ∙ ap (fold apply base) (ap (λ r. records_in run.groups ++ r) (sym has)
    ∙ sym (flat_map-append (λ (group : Group). group.records) run.groups groups))

begun_leads : (base : Store) (run : Run) (clock word : ℕ) → Leads base run → Leads base (begun_at clock word run)
begun_leads base run clock word leads =
    let time = max run.state.time clock in
    purged_leads run.state.store time
    ∙ more_leads base run (map Del (gone run.state.store time)) (map removal (gone run.state.store time))
    (removals_have (gone run.state.store time)) leads

command_leads : (base : Store) (run : Run) (client : ℕ) (words : List (List ℕ)) → Leads base run
    → Leads base (with_command client run words)
command_leads base run client words leads =
    let records = (exec (world_of run.state) Client words).records in
    more_leads base run records (group_of records) (group_has records) leads

events_lead : (base : Store) (events : List Event) (run : Run) → Leads base run
    → Leads base (fold with_event run events)
events_lead base [] run leads = leads
events_lead base (Began clock word ∷ events) run leads =
    events_lead base events (begun_at clock word run) (begun_leads base run clock word leads)
events_lead base (Asked client words ∷ events) run leads =
    events_lead base events (with_command client run words) (command_leads base run client words leads)
events_lead base (Told client answer ∷ events) run leads =
    events_lead base events (sending (reply_row client answer) run) leads
events_lead base (Ended client ∷ events) run leads = events_lead base events (sending (Shut client) run) leads

turns_lead : (base : Store) (turns : List Turn) (run : Run) → Leads base run → Leads base (fold with_turn run turns)
turns_lead base [] run leads = leads
turns_lead base (turn ∷ turns) run leads =
    turns_lead base turns (with_turn run turn)
    (subst (Leads base) (sym (with_turn_is run turn))
    (events_lead base (events_then run.state.clients turn) run leads))

pub log_leads : (state : State) (turns : List Turn)
    → (run_from state turns).state.store ≡ fold apply state.store (records_in (run_from state turns).groups)
log_leads state turns = turns_lead state.store turns (silent state) refl

records_fit : (time : ℕ) (records : List Record) → AreTimelyWithin time records → AllByRecursion IsRecord records
records_fit time [] h = tt
records_fit time (one ∷ records) h = (h.0.0, records_fit time records h.1)

group_is : (records : List Record) → AllByRecursion IsRecord records → AllByRecursion IsGroup (group_of records)
group_is [] h = tt
group_is (one ∷ []) h = (record { some = omega arith; one = λ _. refl; each = h }, tt)
group_is (one ∷ other ∷ records) h = (record { some = omega arith; one = λ e. absurd (cc); each = h }, tt)

removals_are : (keys : List (List ℕ)) → AllByRecursion IsKey keys → AllByRecursion IsGroup (map removal keys)
removals_are [] h = tt
removals_are (key ∷ keys) h = (record { some = omega arith; one = λ _. refl; each = (h.0, tt) }, removals_are keys h.1)

module _ (listed : (store : Store) (time : ℕ) (key : List ℕ)
    → Contains (gone store time) key ↔ IsSomeAnd (deadline_at store key) (λ at. at < time))
    (begins : (world : World) (clock word : ℕ) → IsWorld world → IsWorld (begun world clock word))
    (moves : (world : World) (mode : Mode) (words : List (List ℕ)) → IsWorld world
    → IsWorld (moved_by world (exec world mode words)))
    (records_within : (world : World) (mode : Mode) (words : List (List ℕ)) → IsWorld world
    → AreTimelyWithin world.time (exec world mode words).records) where
  events_make : (events : List Event) (run : Run) → IsWorld (world_of run.state) → AllByRecursion IsGroup run.groups
      → AllByRecursion IsGroup (fold with_event run events).groups
  events_make [] run world made = made
  events_make (Began clock word ∷ events) run world made =
      let time = max run.state.time clock in
      events_make events (begun_at clock word run) (begins (world_of run.state) clock word world)
      (each-append IsGroup run.groups _ made
      (removals_are (gone run.state.store time) (gone_within listed run.state.store time world.0)))
  events_make (Asked client words ∷ events) run world made =
      let records = (exec (world_of run.state) Client words).records in
      events_make events (with_command client run words) (moves (world_of run.state) Client words world)
      (each-append IsGroup run.groups _ made
      (group_is records (records_fit run.state.time records
      (records_within (world_of run.state) Client words world))))
  events_make (Told client answer ∷ events) run world made =
      events_make events (sending (reply_row client answer) run) world made
  events_make (Ended client ∷ events) run world made = events_make events (sending (Shut client) run) world made

  turns_make : (turns : List Turn) (run : Run) → IsWorld (world_of run.state) → AllByRecursion IsGroup run.groups
      → AllByRecursion IsGroup (fold with_turn run turns).groups
  turns_make [] run world made = made
  turns_make (turn ∷ turns) run world made =
      let events = events_then run.state.clients turn in
      let is = sym (with_turn_is run turn) in
      turns_make turns (with_turn run turn)
      (subst (λ (r : Run). IsWorld (world_of r.state)) is (events_keep begins moves events run world))
      (subst (λ (r : Run). AllByRecursion IsGroup r.groups) is (events_make events run world made))

  pub groups_made : (state : State) (turns : List Turn) → IsValid state
      → AllByRecursion IsGroup (run_from state turns).groups
  groups_made state turns valid = turns_make turns (silent state) (valid.store, valid.timely) tt
