-- What a row gives, and what carries it out.
use Rattle.std.specs.Prelude.{◌≡◌, ◌↔◌, ℕ, List, [], ◌∷◌, ◌++◌, Result, Ok, Err, IsTrue}
use Rattle.std.specs.List.{AllByRecursion}
use Rattle.resp_reply.specs.declared.reply.Reply.{Reply}
use Rattle.ks_space.specs.Store.{Store}
use Rattle.fx_record.specs.declared.record.Record.{Record}
use Rattle.fx_record.specs.Records.{applied}
use Rattle.fx_record.specs.RecordWords.{IsRecord}
use Rattle.fx_record.specs.Settled.{settled}
use Rattle.cmd_args.specs.Draws.{state_after}
use Rattle.cmd_rows.specs.declared.stop.Stop.{Stop}
use Rattle.cmd_rows.specs.declared.stop.Stop.TheVariants.{Refused, NoMemory}
use Rattle.cmd_rows.specs.declared.given.Given.{Given}
use Rattle.cmd_rows.specs.declared.given.Changes.{Changes}
use Rattle.cmd_rows.specs.declared.given.Changes.TheVariants.{Nothing, One, Many}
use Rattle.cmd_rows.specs.Outcomes.{Outcome, refused}
use Rattle.cmd_rows.specs.Worlds.{World}

abbrev pub records_of : Changes → List Record
records_of Nothing = []
records_of (One effect) = effect ∷ []
records_of (Many effects back) = effects

abbrev pub outcome_of : Given → Outcome
outcome_of given = record { reply = given.reply; records = records_of given.changes; draws = given.draws }

-- of many records it is told whether they lead back to the same store
abbrev pub IsTold : Store → Changes → Type 0
IsTold store (Many effects back) = IsTrue back ↔ (applied store effects ≡ store)
IsTold store _ = Unit {0}

-- on this store the row gave its outcome
pub record Gives (store : Store) (row : Outcome) (given : Given) : Type 0 where
  pub row_is : row ≡ outcome_of given
  pub told : IsTold store given.changes

-- a call gave the row's outcome, or refused as the row does. Nothing is said of want of memory.
abbrev pub Follows : Store → Outcome → Result Given Stop → Type 0
Follows store row (Ok given) = Gives store row given
Follows store row (Err (Refused why)) = row ≡ refused why
Follows store row (Err NoMemory) = Unit {0}

-- what was given can be carried out: its records are within the limits of a store, and it is told of them what is to be
abbrev pub CanSettle : Store → Result Given Stop → Type 0
CanSettle store (Ok given) = AllByRecursion IsRecord (records_of given.changes) × IsTold store given.changes
CanSettle store (Err why) = Unit {0}

-- the reply is the outcome's, the store is the one to which its records lead, those that are kept of them were added, and
-- its draws were taken
pub record Did (world : World) (outcome : Outcome) (reply : Reply) (after : Store) (old new : List Record)
    (draws : ℕ) : Type 0 where
  pub reply_is : reply ≡ outcome.reply
  pub store_is : after ≡ applied world.store outcome.records
  pub records_are : new ≡ old ++ settled world.store outcome.records
  pub draws_are : draws ≡ state_after world.draws outcome.draws
