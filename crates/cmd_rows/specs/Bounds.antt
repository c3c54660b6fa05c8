-- Records that keep a store within its limits and give no deadline that is past.
use Rattle.std.specs.Prelude.{ℕ, List}
use Rattle.std.specs.List.{AllByRecursion}
use Rattle.fx_record.specs.declared.record.Record.{Record}
use Rattle.fx_record.specs.RecordWords.{IsRecord}
use Rattle.fx_record.specs.Timely.{IsTimelyRecord}

abbrev pub IsTimelyWithin : ℕ → Record → Type 0
IsTimelyWithin time effect = IsRecord effect × IsTimelyRecord time effect

abbrev pub AreTimelyWithin : ℕ → List Record → Type 0
AreTimelyWithin time records = AllByRecursion (IsTimelyWithin time) records
