-- What commands find, and what they leave.
use Rattle.std.specs.Prelude.{◌≡◌, ℕ, max, List, [], ◌++◌, refl}
use Rattle.std.specs.Coded.{Coded, code_by, coded×, coded_list}
use Rattle.std.specs.FinMap as finite
use Rattle.cmd_args.specs.contracts.turn.Mode as mode
use Rattle.fx_record.specs.contracts.record.Record as effect
use Rattle.ks_space.specs.Store.{IsStore}
use Rattle.ks_space.specs.Purge.{purged, IsTimely}
use Rattle.fx_record.specs.declared.record.Record.{Record}
use Rattle.fx_record.specs.Records.{applied}
use Rattle.cmd_args.specs.declared.turn.Mode.{Mode}
use Rattle.cmd_args.specs.Draws.{state_after}
use Rattle.cmd_rows.specs.Outcomes.{Outcome}
pub use Rattle.cmd_rows.specs.Worlds.{World, world_code}

-- no keys, and time 0
abbrev pub empty_world : World
empty_world = record { store = finite.empty; time = 0; draws = 0 }

-- within the limits of a store, and no deadline is past
abbrev pub IsWorld : World → Type 0
IsWorld world = IsStore world.store × IsTimely world.store world.time

-- a turn begins: its time is the greater of the last time and the clock, the keys whose deadline is past leave, and
-- draws
-- begin at the turn's word
abbrev pub begun : World → ℕ → ℕ → World
begun world clock word = record {
  store = purged world.store (max world.time clock);
  time = max world.time clock;
  draws = word;
}

-- the world behind an outcome: its records are carried out, and its draws taken
abbrev pub moved_by : World → Outcome → World
moved_by world outcome = record {
  store = applied world.store outcome.records;
  time = world.time;
  draws = state_after world.draws outcome.draws;
}

-- a desk at which commands are carried out one by one: the world, who calls them, and the records of those carried out
pub record DeskState : Type 0 where
  pub world : World
  pub mode : Mode
  pub effects : List Record

-- a command more is carried out
abbrev pub worked : DeskState → Outcome → DeskState
worked desk outcome = record desk { world = moved_by desk.world outcome; effects = desk.effects ++ outcome.records }

-- nothing waits to be logged
abbrev pub IsIdle : DeskState → Type 0
IsIdle desk = desk.effects ≡ []

abbrev pub desk_code : Coded DeskState
desk_code =
    code_by (World × (Mode × List Record))
    (coded× world_code (coded× mode.the_row.coded (coded_list effect.the_row.coded)))
    (λ d. (d.world, (d.mode, d.effects))) (λ p. record { world = p.0; mode = p.1.0; effects = p.1.1 }) (λ _. refl)
