-- A desk behind a command.
use Rattle.std.proofs.Common.{◌≡◌, ℕ, List, ◌++◌, refl, sym, ap, ◌∙◌}
use Rattle.resp_reply.specs.declared.reply.Reply.{Reply}
use Rattle.ks_space.specs.Store.{Store}
use Rattle.fx_record.specs.declared.record.Record.{Record}
use Rattle.fx_record.specs.Records.{applied}
use Rattle.fx_record.specs.Settled.{settled}
use Rattle.fx_record.proofs.SettledLaws.{settled-same}
use Rattle.cmd_args.specs.declared.turn.Mode.{Mode}
use Rattle.cmd_args.specs.Draws.{state_after}
use Rattle.cmd_rows.specs.Given.{Did}
use Rattle.cmd_rows.specs.Worlds.{World}
use Rattle.cmd_exec.specs.Worlds.{DeskState, moved_by, worked}
use Rattle.cmd_exec.specs.Exec.{given, exec}

pub exec-reply : (world : World) (mode : Mode) (words : List (List ℕ))
    → (exec world mode words).reply ≡ (given world mode words).reply
unfolding exec
exec-reply world mode words = refl

exec-draws : (world : World) (mode : Mode) (words : List (List ℕ))
    → (exec world mode words).draws ≡ (given world mode words).draws
unfolding exec
exec-draws world mode words = refl

exec-records : (world : World) (mode : Mode) (words : List (List ℕ))
    → (exec world mode words).records ≡ settled world.store (given world mode words).records
unfolding exec
exec-records world mode words = refl

-- what carrying a command out leaves is the world that `exec` says
pub did_moved : (world : World) (mode : Mode) (words : List (List ℕ)) (reply : Reply) (after : Store)
    (old new : List Record) (draws : ℕ) → Did world (given world mode words) reply after old new draws
    → ◌≡◌ {A = World} (record { store = after; time = world.time; draws = draws })
    (moved_by world (exec world mode words))
did_moved world mode words reply after old new draws did =
    let store_is : after ≡ applied world.store (exec world mode words).records =
    did.store_is ∙ sym (settled-same world.store (given world mode words).records)
    ∙ ap (applied world.store) (sym (exec-records world mode words)) in
    let draws_are : draws ≡ state_after world.draws (exec world mode words).draws = did.draws_are
    ∙ ap (state_after world.draws) (sym (exec-draws world mode words)) in
    λ i. record { store = store_is i; time = world.time; draws = draws_are i }

pub did_worked : (desk : DeskState) (words : List (List ℕ)) (reply : Reply) (after : Store) (new : List Record)
    (draws : ℕ) → Did desk.world (given desk.world desk.mode words) reply after desk.effects new draws
    → ◌≡◌ {A = DeskState} (record {
      world = record { store = after; time = desk.world.time; draws = draws };
      mode = desk.mode;
      effects = new;
    }) (worked desk (exec desk.world desk.mode words))
did_worked desk words reply after new draws did =
    let moved = did_moved desk.world desk.mode words reply after desk.effects new draws did in
    let effects_are : new ≡ desk.effects ++ (exec desk.world desk.mode words).records = did.records_are
    ∙ ap (λ rs. desk.effects ++ rs) (sym (exec-records desk.world desk.mode words)) in
    λ i. record { world = moved i; mode = desk.mode; effects = effects_are i }
